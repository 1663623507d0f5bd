-- What the form of a trace gives: its lists and the bytes of each call are there, the first call alone is a format, a recovery follows a cut; keys,
-- words and patterns have their sizes.
use mathlib.Core.Path.{◌≡◌, refl, sym, ap, ◌∙◌}
use mathlib.Core.Bool.{Bool, true, false, ◌&&◌}
use mathlib.Core.List.{List, [], ◌∷◌, ◌++◌}
use Prim.Native.Nat.{ℕ, zero, suc, ◌+◌, ◌*◌, ◌^◌, ◌≤◌, ◌<◌, min}
use native.Mathlib.Nat.{pow-succ'}
use native.Mathlib.Numerals.{add-one}
use native.Mathlib.Omega.{arith}
use native.Mathlib.Decide.{dec_lt, dec_le}
use lib.Dec.{leb, ltb, eqb}
use lib.ListN.{length, get_or, take, length-take, length-append, drop}
use lib.Seq.{take_all, take-append-le}
use borrow.Author.Tests.{ltb-true, leb-true, eqb-true, eq-eqb, ne_eqb, not-true}
use Rattle.lists.specs.Lists.{Below, Bytes, table}
use Rattle.lists.proofs.Laws.{and_l, and_r, every_at, below_at, below_tail, length_table, get_table, past_table}
use Rattle.codec.specs.Codec.{le, part}
use Rattle.codec.proofs.Put.{bytes_part}
use Rattle.trace.specs.Trace.{call_count, code_at, number_at, has_group, number_ok, pattern_size, data_size, data_start, formats_once, recovers_next, call_ok, well_formed}
use Rattle.trace.specs.Trace.{Recorded, numbers_at, recorded_as, recorded_at}
use Rattle.trace.specs.Read.{Listed, HasCall}
use Rattle.trace.proofs.Laws.{lists_are, start_next, start_rises}

-- ---- the lists, and each call

module _ (t : List ℕ) (w : well_formed t ≡ true) where
  pub formed_lists : Listed t
  unfolding well_formed
  formed_lists = lists_are t (every_at 0 _ w)

  pub formed_ok : (i : ℕ) → i < call_count t → call_ok t i ≡ true
  unfolding well_formed
  formed_ok i h = below_at (call_count t) (call_ok t) (every_at 1 _ w) i h

  -- the bytes of the calls end the trace
  pub formed_end : length t ≡ data_start t (call_count t)
  unfolding well_formed
  formed_end = eqb-true (length t) (data_start t (call_count t)) (every_at 2 _ w)

  pub formed_call : (i : ℕ) → i < call_count t → HasCall t i
  formed_call i h =
      let a = start_next t i in
      let b = start_rises t (i + 1) (call_count t) (omega arith) in
      record { lists = formed_lists; call = h; bytes = omega (arith, formed_end) }

  pub formed_number : (i : ℕ) → i < call_count t → number_ok (code_at t i) (number_at t i) ≡ true
  unfolding call_ok
  formed_number i h = every_at 0 _ (formed_ok i h)

  -- ---- which calls they are

  pub first_code : code_at t 0 ≡ 1
  unfolding call_ok formats_once
  first_code = eqb-true (code_at t 0) 1 (every_at 1 _ (formed_ok 0 formed_lists.some))

  first_number : (leb 4 (number_at t 0) && leb (number_at t 0) 16) ≡ true
  unfolding number_ok
  first_number = rw first_code at (formed_number 0 formed_lists.some)

  pub blocks_low : 4 ≤ number_at t 0
  blocks_low = leb-true 4 (number_at t 0) (and_l _ _ first_number)

  pub blocks_high : number_at t 0 ≤ 16
  blocks_high = leb-true (number_at t 0) 16 (and_r (leb 4 (number_at t 0)) _ first_number)

  pub first_call : recorded_at t 0 ≡ Recorded.format (number_at t 0)
  unfolding recorded_at recorded_as
  first_call = rw first_code refl

  pub later_code : (i : ℕ) → 0 < i → i < call_count t → eqb (code_at t i) 1 ≡ false
  unfolding call_ok formats_once
  later_code i l h = not-true (eqb (code_at t i) 1) (rw (ne_eqb i 0 (λ z. absurd (omega arith))) at (every_at 1 _ (formed_ok i h)))

  -- after a cut
  module _ (i : ℕ) (h : i < call_count t) (z : code_at t i ≡ 6) where
    recovery_there : (ltb (suc i) (call_count t) && eqb (code_at t (suc i)) 7) ≡ true
    unfolding call_ok recovers_next
    recovery_there = rw (eq-eqb (code_at t i) 6 z) at (every_at 2 _ (formed_ok i h))

    pub cut_not_last_lem : i + 1 < call_count t
    cut_not_last_lem = let k = ltb-true (suc i) (call_count t) (and_l _ _ recovery_there) in omega arith

    pub recovery_next : code_at t (i + 1) ≡ 7
    recovery_next = rw (add-one i) (eqb-true (code_at t (suc i)) 7 (and_r (ltb (suc i) (call_count t)) _ recovery_there))

    pub recovery_call : recorded_at t (i + 1) ≡ Recorded.recover
    unfolding recorded_at recorded_as
    recovery_call = rw recovery_next refl

-- ---- numbers of w bytes each

le_below : (w : ℕ) (xs : List ℕ) → Bytes xs → length xs ≤ w → le xs < 256 ^ w
unfolding le
le_below zero [] b h = omega arith
le_below zero (x ∷ xs) b h = absurd (omega arith)
le_below (suc w) [] b h = let p = pow-succ' 256 w in omega (arith, le_below w [] b (omega arith))
le_below (suc w) (x ∷ xs) b h =
    let p = pow-succ' 256 w in
    let q : x < 256 = b.each 0 in
    omega (arith, le_below w xs (below_tail b) (omega arith))

module _ (w n k : ℕ) (t : List ℕ) where
  pub length_numbers : length (numbers_at w n k t) ≡ n
  unfolding numbers_at
  length_numbers = length_table (λ j. le (part (k + w * j) w t)) 0 n

  pub numbers_below : Bytes t → 0 < 256 ^ w → Below (256 ^ w) (numbers_at w n k t)
  unfolding numbers_at
  numbers_below b p = record { each = λ i. go i (dec_lt i n) }
    where
      go : (i : ℕ) → Dec (i < n) → get_or (table n (λ j. le (part (k + w * j) w t))) i 0 < 256 ^ w
      go i (yes h) =
          rw (get_table (λ j. le (part (k + w * j) w t)) 0 n i h)
          (le_below w (part (k + w * i) w t) (bytes_part (k + w * i) w t b) (omega (arith, length-take w (drop (k + w * i) t))))
      go i (no h) = rw (past_table (λ j. le (part (k + w * j) w t)) 0 n i (omega arith)) p

-- the first m of a table
pub take_table : {A : Type 0} (d : A) (m n : ℕ) (f : ℕ → A) → take m (table n f) ≡ table (min n m) f
unfolding table
take_table d zero zero f = refl
take_table d (suc m) zero f = let e : min 0 (suc m) ≡ 0 = omega arith in rw e
take_table d m (suc n) f = go (dec_le (suc n) m) (take_table d m n f)
  where
    go : Dec (suc n ≤ m) → take m (table n f) ≡ table (min n m) f → take m (table (suc n) f) ≡ table (min (suc n) m) f
    go (yes h) r =
        let e : min (suc n) m ≡ suc n = omega arith in
        rw e (take_all m (table n f ++ (f n ∷ [])) (omega (arith, length-append (table n f) (f n ∷ []), length_table f d n)))
    go (no h) r =
        let e : min (suc n) m ≡ min n m = omega arith in
        rw e (take-append-le m (table n f) (f n ∷ []) (omega (arith, length_table f d n)) ∙ r)

-- the first 97 numbers of a group, as the code reads them
pub numbers_taken : (w n k : ℕ) (t xs : List ℕ) (m : ℕ) → m ≡ min n 97 → take m xs ≡ numbers_at w m k t → take m xs ≡ take 97 (numbers_at w n k t)
unfolding numbers_at
numbers_taken w n k t xs m e h = h ∙ ap (λ (j : ℕ). table j (λ i. le (part (k + w * i) w t))) e ∙ sym (take_table 0 97 n (λ i. le (part (k + w * i) w t)))

-- ---- the bytes of a call with a group, and of a cut

module _ (t : List ℕ) (i c n at : ℕ) (e : c ≡ code_at t i) (q : n ≡ number_at t i) (a : at ≡ data_start t i) (r : HasCall t i) where
  bytes_there : at + data_size c n ≤ length t
  bytes_there = rw (a, e, q) r.bytes

  module _ (g : Bool) (u : g ≡ has_group c) (z : g ≡ true) where
    group_there : at + 10 * n ≤ length t
    unfolding data_size
    group_there = let k : has_group c ≡ true = sym u ∙ z in rw k at bytes_there

    pub keys_there : (m : ℕ) → m ≡ min n 97 → at + 2 * m ≤ length t
    keys_there m x = let p = group_there in omega arith

    pub words_there : (m : ℕ) → m ≡ min n 97 → at + 2 * n + 8 * m ≤ length t
    words_there m x = let p = group_there in omega arith

    -- where the words start fits a number
    pub words_start : at + 2 * n < 65537
    words_start = let p = group_there in omega (arith, r.lists.long)

  pub pattern_there : c ≡ 6 → at + pattern_size n ≤ length t
  unfolding data_size has_group
  pattern_there z = rw z at bytes_there

-- what is recorded of a call, by its code and number and the place of its bytes
pub recorded_as_lem : (t : List ℕ) (i c n at : ℕ) → c ≡ code_at t i → n ≡ number_at t i → at ≡ data_start t i → recorded_at t i ≡ recorded_as c n at t
unfolding recorded_at
recorded_as_lem t i c n at e q a = rw (e, q, a)
