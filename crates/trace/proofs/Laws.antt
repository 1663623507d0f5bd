-- The form of a trace, test by test as the code asks it.
use mathlib.Core.Path.{◌≡◌, refl, sym, ap, ◌∙◌}
use mathlib.Core.Bool.{Bool, true, false, not, ◌&&◌, beq}
use mathlib.Core.List.{List, [], ◌∷◌}
use Prim.Native.Nat.{ℕ, zero, suc, ◌+◌, ◌-◌, ◌*◌, ◌/◌, ◌≤◌, ◌<◌}
use native.Mathlib.Omega.{arith}
use native.Mathlib.Numerals.{add-one}
use native.Mathlib.Decide.{dec_le}
use lib.Dec.{leb, ltb, eqb}
use lib.ListN.{length, take, drop, set, length-set}
use lib.Seq.{take-suc-set}
use mir.Syntax.{w64}
use mir.Val.{Fits}
use borrow.Author.Rules.{Fits-under}
use borrow.Author.Tests.{eqb-true, ltb-true, leb-true, leb-false, lt-ltb, le-ltb, le-leb, lt-leb, eq-eqb, ne_eqb, not-true, not-false}
use Rattle.lists.specs.Lists.{every, all_below, table}
use Rattle.lists.proofs.Laws.{Held, held_next, held_stop, held_end, by_cases, every_at, true_false}
use Rattle.codec.specs.Codec.{le, part}
use Rattle.std.proofs.Common.{Result, Ok, Err, ◌⊎◌, inl, inr}
use Rattle.std.specs.Result.{result_unwrap_or}
use denote.Enum.Bare.{sameb}
use Rattle.trace.specs.declared.Kind.{Kind}
use Rattle.trace.specs.declared.Kind.TheVariants.{Format, Append, Commit, Collect, Step, Cut, Recover, Buffer, Flush}
use Rattle.trace.specs.declared.UnknownCode.{UnknownCode}
use Rattle.trace.specs.contracts.Kind.{the_type}
use Rattle.trace.specs.Kinds.{code_of, Decodes, kind_as, kind_at}
use Rattle.trace.specs.Trace.{call_count, code_at, number_at, has_group, without_number, number_ok, pattern_size, data_size, data_below, data_start}
use Rattle.trace.specs.Trace.{formats_once, recovers_next, call_ok, has_lists, well_formed, numbers_at, recorded_as, recorded_at}
use Rattle.trace.specs.Read.{Listed, HasCall}

-- the last of some tests
whole : (b : Bool) → b ≡ b && true
whole true = refl
whole false = refl

-- a test that is to be as another
beq_true : (b : Bool) → beq b true ≡ b
beq_true true = refl
beq_true false = refl

beq_false : (b : Bool) → beq b false ≡ not b
beq_false true = refl
beq_false false = refl

-- ---- the lists

module _ (t : List ℕ) where
  pub lists_none : (65536 < length t) ⊎ ((length t ≤ 65536) × (length t < 8)) → false ≡ has_lists t
  unfolding has_lists every
  lists_none (inl h) = rw (lt-leb (length t) 65536 h)
  lists_none (inr h) = rw (le-leb (length t) 65536 h.0, lt-leb 8 (length t) h.1)

  module _ (c : ℕ) (a : length t ≤ 65536) (b : 8 ≤ length t) (e : c ≡ le (part 0 8 t)) where
    pub lists_some : 0 < c → leb c ((length t - 8) / 16) ≡ has_lists t
    unfolding has_lists every call_count
    lists_some h =
        let x : ltb 0 (le (part 0 8 t)) ≡ true = rw e at (lt-ltb 0 c h) in
        rw (e, le-leb (length t) 65536 a, le-leb 8 (length t) b, x)
        (by_cases (leb (le (part 0 8 t)) ((length t - 8) / 16))
        (λ q. let k = leb-true (le (part 0 8 t)) ((length t - 8) / 16) q in rw (q, le-leb (8 + 16 * le (part 0 8 t)) (length t) (omega arith)))
        (λ q. let k = leb-false (le (part 0 8 t)) ((length t - 8) / 16) q in rw (q, lt-leb (8 + 16 * le (part 0 8 t)) (length t) (omega arith))))

    pub lists_empty : c ≤ 0 → ltb 0 c ≡ has_lists t
    unfolding has_lists every call_count
    lists_empty h =
        let z : le (part 0 8 t) ≡ 0 = omega arith in
        rw (e, z, le-leb (length t) 65536 a, le-leb 8 (length t) b)

  pub lists_are : has_lists t ≡ true → Listed t
  unfolding has_lists
  lists_are h = record {
    long = leb-true (length t) 65536 (every_at 0 _ h);
    room = leb-true (8 + 16 * call_count t) (length t) (every_at 2 _ h);
    some = ltb-true 0 (call_count t) (every_at 3 _ h);
  }

  -- as the code's test shows them
  pub lists_there : (r : Bool) → r ≡ has_lists t → not r ≡ false → Listed t
  lists_there r e h = lists_are (sym e ∙ not-false r h)

  pub count_is : (c : ℕ) → c ≡ le (part 0 8 t) → c ≡ call_count t
  unfolding call_count
  count_is c e = e

  pub code_is : (i c : ℕ) → c ≡ le (part (8 + 8 * i) 8 t) → c ≡ code_at t i
  unfolding code_at
  code_is i c e = e

  pub number_is : (i n c : ℕ) → n ≡ call_count t → c ≡ le (part (8 + 8 * n + 8 * i) 8 t) → c ≡ number_at t i
  unfolding number_at
  number_is i n c e q = rw e at q

-- ---- kinds and their codes

-- what holds of each kind with its code, and of a flush with any code that is none of the first eight, holds of each code
kinds : (P : ℕ → Kind → Type 0) → P 1 Format → P 2 Append → P 3 Commit → P 4 Collect → P 5 Step → P 6 Cut → P 7 Recover → P 8 Buffer
    → ((c : ℕ) → (c ≡ 1 → ⊥) → (c ≡ 2 → ⊥) → (c ≡ 3 → ⊥) → (c ≡ 4 → ⊥) → (c ≡ 5 → ⊥) → (c ≡ 6 → ⊥) → (c ≡ 7 → ⊥) → (c ≡ 8 → ⊥) → P c Flush)
    → (c : ℕ) → P c (kind_as c)
unfolding kind_as
kinds P p1 p2 p3 p4 p5 p6 p7 p8 p9 c =
    by_cases (eqb c 1) (λ q. rw (eqb-true c 1 q) p1) (λ q1. rw q1
    (by_cases (eqb c 2) (λ q. rw (eqb-true c 2 q) p2) (λ q2. rw q2
    (by_cases (eqb c 3) (λ q. rw (eqb-true c 3 q) p3) (λ q3. rw q3
    (by_cases (eqb c 4) (λ q. rw (eqb-true c 4 q) p4) (λ q4. rw q4
    (by_cases (eqb c 5) (λ q. rw (eqb-true c 5 q) p5) (λ q5. rw q5
    (by_cases (eqb c 6) (λ q. rw (eqb-true c 6 q) p6) (λ q6. rw q6
    (by_cases (eqb c 7) (λ q. rw (eqb-true c 7 q) p7) (λ q7. rw q7
    (by_cases (eqb c 8) (λ q. rw (eqb-true c 8 q) p8) (λ q8. rw q8
    (p9 c (other c 1 q1) (other c 2 q2) (other c 3 q3) (other c 4 q4) (other c 5 q5) (other c 6 q6) (other c 7 q7) (other c 8 q8)))))))))))))))))
  where
    other : (a b : ℕ) → eqb a b ≡ false → a ≡ b → ⊥
    other a b q e = true_false (eq-eqb a b e) q

same_format : (c : ℕ) → sameb the_type (kind_as c) Format ≡ eqb c 1
same_format = kinds (λ c k. sameb the_type k Format ≡ eqb c 1) refl refl refl refl refl refl refl refl (λ c h1 h2 h3 h4 h5 h6 h7 h8. sym (ne_eqb c 1 h1))

same_cut : (c : ℕ) → sameb the_type (kind_as c) Cut ≡ eqb c 6
same_cut = kinds (λ c k. sameb the_type k Cut ≡ eqb c 6) refl refl refl refl refl refl refl refl (λ c h1 h2 h3 h4 h5 h6 h7 h8. sym (ne_eqb c 6 h6))

same_recover : (c : ℕ) → sameb the_type (kind_as c) Recover ≡ eqb c 7
same_recover = kinds (λ c k. sameb the_type k Recover ≡ eqb c 7) refl refl refl refl refl refl refl refl (λ c h1 h2 h3 h4 h5 h6 h7 h8. sym (ne_eqb c 7 h7))

-- the bytes of a call are as many by its code as by its kind
kind_size : (n c : ℕ) → data_size (code_of (kind_as c)) n ≡ data_size c n
unfolding data_size has_group
kind_size n =
    kinds (λ c k. data_size (code_of k) n ≡ data_size c n) refl refl refl refl refl refl refl refl
    (λ c h1 h2 h3 h4 h5 h6 h7 h8. rw (ne_eqb c 2 h2, ne_eqb c 8 h8, ne_eqb c 6 h6))

-- and it is recorded alike
kind_recorded : (n k : ℕ) (t : List ℕ) (c : ℕ) → recorded_as (code_of (kind_as c)) n k t ≡ recorded_as c n k t
unfolding recorded_as
kind_recorded n k t =
    kinds (λ c x. recorded_as (code_of x) n k t ≡ recorded_as c n k t) refl refl refl refl refl refl refl refl
    (λ c h1 h2 h3 h4 h5 h6 h7 h8. rw (ne_eqb c 1 h1, ne_eqb c 2 h2, ne_eqb c 3 h3, ne_eqb c 4 h4, ne_eqb c 5 h5, ne_eqb c 6 h6, ne_eqb c 7 h7, ne_eqb c 8 h8))

kind_group : (c : ℕ) → has_group (code_of (kind_as c)) ≡ has_group c
unfolding has_group
kind_group = kinds (λ c x. has_group (code_of x) ≡ has_group c) refl refl refl refl refl refl refl refl (λ c h1 h2 h3 h4 h5 h6 h7 h8. rw (ne_eqb c 2 h2, ne_eqb c 8 h8))

-- the kind that a code stands for
kind_back : (k : Kind) → kind_as (code_of k) ≡ k
unfolding kind_as
kind_back Format = refl
kind_back Append = refl
kind_back Commit = refl
kind_back Collect = refl
kind_back Step = refl
kind_back Cut = refl
kind_back Recover = refl
kind_back Buffer = refl
kind_back Flush = refl

kind_none : (c : ℕ) → (c ≡ 0) ⊎ (9 < c) → kind_as c ≡ Flush
unfolding kind_as
kind_none c (inl z) = rw z
kind_none c (inr h) =
    rw (
      ne_eqb c 1 (λ e. absurd (omega arith)),
      ne_eqb c 2 (λ e. absurd (omega arith)),
      ne_eqb c 3 (λ e. absurd (omega arith)),
      ne_eqb c 4 (λ e. absurd (omega arith)),
      ne_eqb c 5 (λ e. absurd (omega arith)),
      ne_eqb c 6 (λ e. absurd (omega arith)),
      ne_eqb c 7 (λ e. absurd (omega arith)),
      ne_eqb c 8 (λ e. absurd (omega arith)),
    )

-- a kind, or a flush where the code is that of no kind
decoded : (c : ℕ) (r : Result Kind UnknownCode) → Decodes c r → result_unwrap_or r Flush ≡ kind_as c
decoded c (Ok k) e = rw (sym e) (sym (kind_back k))
decoded c (Err x) e = sym (kind_none c e.1)

-- beside a code that is that of no kind there stands no group
pub group_unknown : (c : ℕ) (r : Result Kind UnknownCode) (x : UnknownCode) → Decodes c r → r ≡ Err x → false ≡ has_group c
unfolding has_group
group_unknown c r x d e =
    let h : (x.0 ≡ c) × ((c ≡ 0) ⊎ (9 < c)) = rw e at d in
    sym (ap (λ (k : Kind). has_group (code_of k)) (kind_none c h.1)) ∙ kind_group c

module _ (t : List ℕ) (i : ℕ) where
  -- a call by its kind
  pub recorded_kind : (n at : ℕ) → n ≡ number_at t i → at ≡ data_start t i → recorded_at t i ≡ recorded_as (code_of (kind_at t i)) n at t
  unfolding recorded_at kind_at
  recorded_kind n at e q = rw (e, q) (sym (kind_recorded (number_at t i) (data_start t i) t (code_at t i)))

  pub group_kind : has_group (code_at t i) ≡ has_group (code_of (kind_at t i))
  unfolding kind_at
  group_kind = sym (kind_group (code_at t i))

  pub cut_code : kind_at t i ≡ Cut → code_at t i ≡ 6
  unfolding kind_at
  cut_code e = eqb-true (code_at t i) 6 (sym (same_cut (code_at t i)) ∙ ap (λ (k : Kind). sameb the_type k Cut) e)

  pub kind_is : (r : Result Kind UnknownCode) (k : Kind) → Decodes (code_at t i) r → k ≡ result_unwrap_or r Flush → k ≡ kind_at t i
  unfolding kind_at
  kind_is r k d e = e ∙ decoded (code_at t i) r d

  -- the code of a call that is read
  pub code_known : (r : Result Kind UnknownCode) (k : Kind) → Decodes (code_at t i) r → r ≡ Ok k → code_of k ≡ code_at t i
  code_known r k d e = rw e at d

  -- a call whose code is unknown
  pub call_unknown : (r : Result Kind UnknownCode) (x : UnknownCode) → Decodes (code_at t i) r → r ≡ Err x → false ≡ call_ok t i
  unfolding call_ok every number_ok has_group without_number
  call_unknown r x d e =
      let h : (x.0 ≡ code_at t i) × ((code_at t i ≡ 0) ⊎ (9 < code_at t i)) = rw e at d in
      go (code_at t i) h.1
    where
      go : (c : ℕ) → (c ≡ 0) ⊎ (9 < c) → false ≡ every (number_ok c (number_at t i) ∷ formats_once t i ∷ recovers_next t i ∷ [])
      go c (inl z) = rw z
      go c (inr h) =
          rw (
            ne_eqb c 1 (λ e. absurd (omega arith)),
            ne_eqb c 2 (λ e. absurd (omega arith)),
            ne_eqb c 3 (λ e. absurd (omega arith)),
            ne_eqb c 4 (λ e. absurd (omega arith)),
            ne_eqb c 5 (λ e. absurd (omega arith)),
            ne_eqb c 6 (λ e. absurd (omega arith)),
            ne_eqb c 7 (λ e. absurd (omega arith)),
            ne_eqb c 8 (λ e. absurd (omega arith)),
            ne_eqb c 9 (λ e. absurd (omega arith)),
          )

-- ---- one call

module _ (t : List ℕ) (i : ℕ) (k : Kind) (e : k ≡ kind_at t i) where
  pub once_is : (x : Bool) → x ≡ sameb the_type k Format → beq x (eqb i 0) ≡ formats_once t i
  unfolding formats_once kind_at
  once_is x u =
      let y : x ≡ eqb (code_at t i) 1 = u ∙ ap (λ (j : Kind). sameb the_type j Format) e ∙ same_format (code_at t i) in
      rw y (by_cases (eqb i 0) (λ q. rw q (beq_true _)) (λ q. rw q (beq_false _)))

  cut_is : sameb the_type k Cut ≡ eqb (code_at t i) 6
  unfolding kind_at
  cut_is = ap (λ (j : Kind). sameb the_type j Cut) e ∙ same_cut (code_at t i)

  module _ (x : Bool) (u : x ≡ not (sameb the_type k Cut)) where
    pub next_any : x ≡ true → true ≡ recovers_next t i
    unfolding recovers_next
    next_any z = let f : eqb (code_at t i) 6 ≡ false = sym cut_is ∙ not-true (sameb the_type k Cut) (sym u ∙ z) in rw f

    module _ (z : x ≡ false) (n : ℕ) (v : n ≡ call_count t) where
      is_cut : eqb (code_at t i) 6 ≡ true
      is_cut = sym cut_is ∙ not-false (sameb the_type k Cut) (sym u ∙ z)

      pub next_last : n ≤ i + 1 → ltb (i + 1) n ≡ recovers_next t i
      unfolding recovers_next
      next_last h = let l : ltb (suc i) n ≡ false = le-ltb (suc i) n (omega arith) in rw (is_cut, ← v, add-one i, l)

      pub next_recovery : (j : Kind) (y : Bool) → i + 1 < n → j ≡ kind_at t (i + 1) → y ≡ sameb the_type j Recover → y ≡ recovers_next t i
      unfolding recovers_next kind_at
      next_recovery j y h q w =
          let l : ltb (suc i) n ≡ true = lt-ltb (suc i) n (omega arith) in
          let a : y ≡ eqb (code_at t (suc i)) 7 = rw (add-one i) at (w ∙ ap (λ (x : Kind). sameb the_type x Recover) q ∙ same_recover (code_at t (i + 1))) in
          rw (is_cut, ← v, l) a

module _ (t : List ℕ) (i c n : ℕ) (e : c ≡ code_at t i) (q : n ≡ number_at t i) (r : Bool) (u : r ≡ number_ok c n) where
  pub call_number : not r ≡ true → false ≡ call_ok t i
  unfolding call_ok every
  call_number h = rw (← e, ← q, ← u, not-true r h)

  module _ (h : not r ≡ false) (s : Bool) (v : s ≡ formats_once t i) where
    pub call_first : s ≡ false → s ≡ call_ok t i
    unfolding call_ok every
    call_first g = rw (← e, ← q, ← u, not-false r h, ← v, g)

    pub call_next : (x : Bool) → s ≡ true → x ≡ recovers_next t i → x ≡ call_ok t i
    unfolding call_ok every
    call_next x g y = rw (← e, ← q, ← u, not-false r h, ← v, g, ← y) (whole x)

-- the loop over the calls
module _ (t : List ℕ) (n : ℕ) (e : n ≡ call_count t) where
  pub calls_end : (i : ℕ) → n ≤ i → Held (call_count t) i (call_ok t) → true ≡ all_below (call_count t) (call_ok t)
  calls_end i h s = held_end (call_count t) i (call_ok t) (omega arith) s

  module _ (i : ℕ) (r : Bool) (h : i < n) (u : r ≡ call_ok t i) where
    pub calls_stop : not r ≡ true → false ≡ all_below (call_count t) (call_ok t)
    calls_stop z = held_stop (call_count t) i (call_ok t) (omega arith) (sym u ∙ not-true r z)

    pub calls_next : not r ≡ false → Held (call_count t) i (call_ok t) → Held (call_count t) (i + 1) (call_ok t)
    calls_next z s = held_next (call_count t) i (call_ok t) (omega arith) (sym u ∙ not-false r z) s

-- ---- bytes of calls

module _ (n : ℕ) where
  pub pattern_page : n < 256 → 256 ≡ pattern_size n
  unfolding pattern_size
  pattern_page h = rw (lt-ltb n 256 h)

  pub pattern_block : 256 ≤ n → 4096 ≡ pattern_size n
  unfolding pattern_size
  pattern_block h = rw (le-ltb n 256 h)

-- the bytes of n entries, beside a test of n itself
pub fit_group : (n room : ℕ) → leb n (room / 10) ≡ leb (10 * n) room
fit_group n room =
    by_cases (leb n (room / 10))
    (λ q. let k = leb-true n (room / 10) q in q ∙ sym (le-leb (10 * n) room (omega arith)))
    (λ q. let k = leb-false n (room / 10) q in q ∙ sym (lt-leb (10 * n) room (omega arith)))

-- what is asked of kind and number is asked of a call
module _ (t : List ℕ) (i n : ℕ) (k : Kind) (e : k ≡ kind_at t i) (q : n ≡ number_at t i) where
  pub size_same : data_size (code_of k) n ≡ data_size (code_at t i) (number_at t i)
  unfolding kind_at
  size_same = rw (e, q) (kind_size (number_at t i) (code_at t i))

  pub size_here : HasCall t i → data_size (code_of k) n ≤ 65536
  size_here r = rw size_same (omega (arith, r.bytes, r.lists.long))

  pub size_is : (x : ℕ) → x ≡ data_size (code_of k) n → x ≡ data_size (code_at t i) (number_at t i)
  size_is x u = u ∙ size_same

  pub fit_here : (at : ℕ) (r : Bool) → r ≡ leb (data_size (code_of k) n) (length t - at) → r ≡ leb (data_size (code_at t i) (number_at t i)) (length t - at)
  fit_here at r u = u ∙ ap (λ (x : ℕ). leb x (length t - at)) size_same

pub pattern_is : (t : List ℕ) (k n p : ℕ) → p ≡ pattern_size n → take (k + p - k) (drop k t) ≡ part k (pattern_size n) t
pattern_is t k n p e = let z : k + p - k ≡ pattern_size n = omega arith in rw z

-- ---- where the bytes of a call start

module _ (t : List ℕ) where
  pub start_first : data_start t 0 ≡ 8 + 16 * call_count t
  unfolding data_start data_below
  start_first = omega arith

  -- those of the next start where those of a call end
  pub start_next : (i : ℕ) → data_start t (i + 1) ≡ data_start t i + data_size (code_at t i) (number_at t i)
  unfolding data_start data_below
  start_next i = rw (add-one i) (omega arith)

  pub start_rises : (i n : ℕ) → i ≤ n → data_start t i ≤ data_start t n
  start_rises i zero h = let e : i ≡ 0 = omega arith in rw e (omega arith)
  start_rises i (suc n) h = go (dec_le i n) (λ k. start_rises i n k)
    where
      go : Dec (i ≤ n) → (i ≤ n → data_start t i ≤ data_start t n) → data_start t i ≤ data_start t (suc n)
      go (yes k) r = let p = r k in let q : data_start t (suc n) ≡ data_start t n + data_size (code_at t n) (number_at t n) = rw (add-one n) at (start_next n) in omega arith
      go (no k) r = let e : i ≡ suc n = omega arith in rw e (omega arith)

-- ---- the loop that adds up the bytes of the calls

pub record Summed (t : List ℕ) (i at : ℕ) : Type 0 where
  pub far : i ≤ call_count t
  pub so : at ≡ data_start t i
  pub room : at ≤ length t

module _ (t : List ℕ) (n : ℕ) (e : n ≡ call_count t) where
  pub sum_start : Listed t → Summed t 0 (8 + 16 * n)
  sum_start l = record { far = omega arith; so = rw e (sym (start_first t)); room = omega (arith, l.room) }

  pub sum_end : (i at : ℕ) → n ≤ i → Summed t i at → eqb (length t) at ≡ eqb (length t) (data_start t (call_count t))
  sum_end i at h s = let k : i ≡ call_count t = omega (arith, s.far) in ap (λ (x : ℕ). eqb (length t) x) (s.so ∙ ap (data_start t) k)

  module _ (i at : ℕ) (h : i < n) (r : Bool) (u : r ≡ leb (data_size (code_at t i) (number_at t i)) (length t - at)) (s : Summed t i at) where
    pub sum_stop : not r ≡ true → false ≡ eqb (length t) (data_start t (call_count t))
    sum_stop z =
        let a = leb-false (data_size (code_at t i) (number_at t i)) (length t - at) (sym u ∙ not-true r z) in
        let b = start_rises t (i + 1) (call_count t) (omega arith) in
        let d = start_next t i in
        sym (ne_eqb (length t) (data_start t (call_count t)) (λ g. absurd (omega (arith, s.so, s.room))))

    module _ (z : not r ≡ false) where
      fitting : data_size (code_at t i) (number_at t i) ≤ length t - at
      fitting = leb-true (data_size (code_at t i) (number_at t i)) (length t - at) (sym u ∙ not-false r z)

      pub sum_here : Listed t → HasCall t i
      sum_here l = record { lists = l; call = omega arith; bytes = omega (arith, fitting, s.so, s.room) }

      pub sum_small : (x : ℕ) → Listed t → x ≡ data_size (code_at t i) (number_at t i) → Fits w64 (at + x)
      sum_small x l y = Fits-under w64 (at + x) 65537 (omega (arith, fitting, l.long, s.room)) tt

      pub sum_next : (x : ℕ) → x ≡ data_size (code_at t i) (number_at t i) → Summed t (i + 1) (at + x)
      sum_next x y =
          let d = start_next t i in
          record { far = omega arith; so = omega (arith, s.so); room = omega (arith, fitting, s.room) }

-- ---- the whole form

module _ (t : List ℕ) (r : Bool) (e : r ≡ has_lists t) where
  pub formed_lists : not r ≡ true → false ≡ well_formed t
  unfolding well_formed every
  formed_lists h = rw (← e, not-true r h)

  module _ (h : not r ≡ false) (s : Bool) (u : s ≡ all_below (call_count t) (call_ok t)) where
    pub formed_calls : s ≡ false → s ≡ well_formed t
    unfolding well_formed every
    formed_calls g = rw (← e, not-false r h, ← u, g)

    pub formed_end : (x : Bool) → s ≡ true → x ≡ eqb (length t) (data_start t (call_count t)) → x ≡ well_formed t
    unfolding well_formed every
    formed_end x g y = rw (← e, not-false r h, ← u, g, ← y) (whole x)

-- ---- the loops that read the numbers of a group

pub record NumbersRead (w n k : ℕ) (t xs : List ℕ) (i : ℕ) : Type 0 where
  pub top : i ≤ n
  pub few : n ≤ 97
  pub size : length xs ≡ 97
  pub so : take i xs ≡ numbers_at w i k t

module _ (w n k : ℕ) (t xs : List ℕ) where
  pub numbers_start : n ≤ 97 → length xs ≡ 97 → NumbersRead w n k t xs 0
  unfolding numbers_at table
  numbers_start h l = record { top = omega arith; few = h; size = l; so = refl }

  pub numbers_next : (i x : ℕ) → i < n → x ≡ le (part (k + w * i) w t) → NumbersRead w n k t xs i → NumbersRead w n k t (set xs i x) (i + 1)
  unfolding numbers_at table
  numbers_next i x h e r = record {
    top = omega arith;
    few = r.few;
    size = length-set xs i x ∙ r.size;
    so = rw (add-one i, take-suc-set xs i x (omega (arith, r.few, r.size)), r.so, e);
  }

  pub numbers_end : (i : ℕ) → n ≤ i → NumbersRead w n k t xs i → take n xs ≡ numbers_at w n k t
  numbers_end i h r = let e : i ≡ n = omega (arith, r.top) in rw e at r.so
