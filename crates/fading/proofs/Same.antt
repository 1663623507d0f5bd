-- A medium that recovery accepts, whose whole pages all stand in a sound one, with the same greatest serial: recovery gives the same of both.
use mathlib.Core.Path.{◌≡◌, refl, sym, ap, ◌∙◌}
use mathlib.Core.Bool.{true, false}
use Rattle.std.proofs.Common.{Option, None, Some}
use mathlib.Core.List.{List, [], ◌∷◌, ◌++◌}
use Prim.Native.Nat.{ℕ, suc, ◌+◌, ◌-◌, ◌/◌, ◌%◌, ◌≤◌, ◌<◌}
use native.Mathlib.Omega.{arith}
use native.Mathlib.Decide.{dec_lt}
use lib.ListN.{length, take, drop, length-drop, take-append-drop}
use lib.Seq.{length-take-le}
use Rattle.lists.specs.declared.Cell.{Cell}
use Rattle.lists.specs.Lists.{every, is_some, value_or}
use Rattle.lists.specs.Needs.{Answer, refused, gives}
use Rattle.lists.specs.Cells.{cell, Entry, Place, Setting}
use Rattle.lists.proofs.Laws.{and_l, and_r, true_false, every_at, tests, checked_cases, checked_pass, all_head, all_tail, all_keep, opposite}
use Rattle.page.specs.Pages.{View, clean, spoilt, whole}
use Rattle.flash.specs.Medium.{seen}
use Rattle.blocks.specs.Blocks.{size_ok}
use Rattle.nodes.specs.Nodes.{node_in, word_for, word_at, sound}
use Rattle.state.specs.State.{Held}
use Rattle.recovery.specs.Recovery.{Placed, serial_of, wholes, all_lawful, distinct, sort, last_of, no_page, base_of, reaches, from, consecutive}
use Rattle.recovery.specs.Recovery.{Group, log_of, Recovery, recovery_with, base, chain, groups, replayed, recovered_state, recover_needs, recover}
use Rattle.recovery.proofs.Pages.{base_append}
use Rattle.valve_log.specs.Reached.{Words}
use Rattle.valve_log.proofs.Order.{all_sort, upto, sort_split, from_sort, last_append, consecutive_right, consecutive_last}
use Rattle.valve_log.proofs.Sound.{Sound, greatest, outcome, accepts}
use Rattle.fading.proofs.Standing.{AllStand, standing_sort, standing_from, standing_drop, Within, to_within, standing_within, run_same, next_serial, next_is, base_right}

-- ---- what an accepted recovery has met

pub record Accepted (v : List View) : Type 0 where
  pub lawfuls : all_lawful (wholes 0 v) ≡ true
  pub based : base_of (sort (wholes 0 v)) ≡ Some (base v)
  pub rises : consecutive (base v) (chain v) ≡ true
  pub sounds : sound v (value_or [] (replayed v)) ≡ true

pub accepted : (n : ℕ) (v : List View) → every (tests (recover_needs n v)) ≡ true → Accepted v
unfolding tests
accepted n v e =
    record {
      lawfuls = every_at 1 _ e;
      based = unfold base in has (base_of (sort (wholes 0 v))) (every_at 3 _ e);
      rises = and_l (consecutive (base v) (chain v)) (is_some (groups v)) (every_at 4 _ e);
      sounds = and_r (is_some (replayed v)) (sound v (value_or [] (replayed v))) (every_at 5 _ e);
    }
  where
    has : (o : Option ℕ) → is_some o ≡ true → o ≡ Some (value_or 0 o)
    has None h = true_false h (unfold is_some in refl)
    has (Some b) h = unfold value_or in refl

pub recovers : (n : ℕ) (v : List View) → every (tests (recover_needs n v)) ≡ true → recover n v ≡ gives (recovery_with (log_of (value_or [] (groups v))) (recovered_state v))
unfolding recover
recovers n v e = checked_pass (recover_needs n v) (gives (recovery_with (log_of (value_or [] (groups v))) (recovered_state v))) e

-- recovery refuses, or all it asks is met
pub recover_cases : {P : Type 0} (n : ℕ) (v : List View) → ((k : ℕ) → recover n v ≡ refused k → P) → (every (tests (recover_needs n v)) ≡ true → P) → P
unfolding recover
recover_cases {P} n v f g =
    checked_cases (λ (x : Answer Recovery). recover n v ≡ x → P) (recover_needs n v) (gives (recovery_with (log_of (value_or [] (groups v))) (recovered_state v))) f (λ e k. g e) refl

-- the state that it gives
pub state_found_lem : (n : ℕ) (v : List View) (log : List (List Entry)) (s : Held) → every (tests (recover_needs n v)) ≡ true → recover n v ≡ gives (recovery_with log s) → recovered_state v ≡ s
state_found_lem n v log s e r =
    let q : gives (recovery_with (log_of (value_or [] (groups v))) (recovered_state v)) ≡ gives (recovery_with log s) = sym (recovers n v e) ∙ r in
    let p : recovery_with (log_of (value_or [] (groups v))) (recovered_state v) ≡ recovery_with log s = cc in
    ap (λ (x : Recovery). x.state) p

-- what recovery asks is met where it accepts
pub met_where_accepted : (n : ℕ) (v : List View) (log : List (List Entry)) (s : Held) → recover n v ≡ gives (recovery_with log s) → every (tests (recover_needs n v)) ≡ true
met_where_accepted n v log s r =
    recover_cases n v (λ k e. let q : refused k ≡ gives (recovery_with log s) = sym e ∙ r in let z : ◌≡◌ {A = ℕ} 0 1 = cc in absurd (omega arith)) (λ e. e)

serial_is : (v : List View) → (recovered_state v).head.serial ≡ next_serial v
unfolding recovered_state
serial_is v = sym (next_is v)

-- its next serial
pub serial_found : (n : ℕ) (v : List View) (log : List (List Entry)) (s : Held) → recover n v ≡ gives (recovery_with log s) → s.head.serial ≡ next_serial v
serial_found n v log s r = ap (λ (h : Held). h.head.serial) (sym (state_found_lem n v log s (met_where_accepted n v log s r) r)) ∙ serial_is v

index_is : (v : List View) → value_or [] (replayed v) ≡ (recovered_state v).index
unfolding recovered_state
index_is v = refl

-- and its base's first serial
base_of_lem : (v : List View) → (recovered_state v).head.base ≡ base v
unfolding recovered_state
base_of_lem v = refl

pub base_found : (n : ℕ) (v : List View) (log : List (List Entry)) (s : Held) → recover n v ≡ gives (recovery_with log s) → s.head.base ≡ base v
base_found n v log s r = ap (λ (h : Held). h.head.base) (sym (state_found_lem n v log s (met_where_accepted n v log s r) r)) ∙ base_of_lem v

-- its index is sound
pub index_sound : (n : ℕ) (v : List View) (log : List (List Entry)) (s : Held) → every (tests (recover_needs n v)) ≡ true → recover n v ≡ gives (recovery_with log s) → sound v s.index ≡ true
index_sound n v log s e r = rw (index_is v ∙ ap (λ (h : Held). h.index) (state_found_lem n v log s e r)) at (accepted n v e).sounds

-- ---- the words at addresses

-- a node found among fewer pages is found among all
pub word_within : (u v : List View) → Within u v → (x : Place) → is_some (word_at u x) ≡ true → word_at v x ≡ word_at u x
unfolding Within word_at
word_within u v w x f = go (seen u (x.val / 24)) refl
  where
    absent : {P : Type 0} (y : View) → seen u (x.val / 24) ≡ y → is_some (word_for x.key (node_in y (x.val % 24))) ≡ false → P
    absent y e n = true_false f (rw e n)

    go : (y : View) → seen u (x.val / 24) ≡ y → word_for x.key (node_in (seen v (x.val / 24)) (x.val % 24)) ≡ word_for x.key (node_in (seen u (x.val / 24)) (x.val % 24))
    go clean e = absent clean e (unfold node_in word_for is_some in refl)
    go spoilt e = absent spoilt e (unfold node_in word_for is_some in refl)
    go (whole y) e = rw (w (x.val / 24) y e, e)

pub words_within : (u v : List View) (l : List Place) (s : List Setting) → Within u v → sound u l ≡ true → Words v l s → Words u l s
unfolding sound
words_within u v l s w f Words.end = Words.end
words_within u v l s w f (Words.more {k = k} {a = a} {index = index} {settings = settings} e r) =
    Words.more {k = k} {a = a} (sym (word_within u v w (cell k a) (all_head (λ (y : Cell). is_some (word_at u y)) (cell k a) index f)) ∙ e)
    (words_within u v index settings w (all_tail (λ (y : Cell). is_some (word_at u y)) (cell k a) index f) r)

-- ---- two chains that end with the same serial

pub some_page : (l : List Placed) (b : ℕ) → base_of l ≡ Some b → 1 ≤ length l
unfolding base_of
some_page [] b e = let z : ◌≡◌ {A = ℕ} 0 1 = cc in absurd (omega arith)
some_page (x ∷ l) b e = omega arith

-- the one that begins earlier has the other at its end, so that the base, which is the last, is the same
same_base : (v : List View) (a c : ℕ) (l m : List Placed) → distinct (wholes 0 v) ≡ true
    → a ≤ c → a + length l ≡ c + length m → consecutive a l ≡ true → consecutive c m ≡ true → AllStand v l → AllStand v m
    → base_of l ≡ Some a → base_of m ≡ Some c → a ≡ c
same_base v a c l m d h n p q f g x y =
    let many = some_page m c y in
    let z : a + (c - a) ≡ c = omega arith in
    let r : consecutive (a + length (take (c - a) l)) (drop (c - a) l) ≡ true = consecutive_right a (take (c - a) l) (drop (c - a) l) (rw (take-append-drop (c - a) l) p) in
    let t : length (take (c - a) l) ≡ c - a = length-take-le (c - a) l (omega arith) in
    let k : a + length (take (c - a) l) ≡ c = omega arith in
    let e : drop (c - a) l ≡ m = run_same v c (drop (c - a) l) m d (rw k at r) q (omega (arith, length-drop (c - a) l)) (standing_drop (c - a) l f) g in
    let i : l ≡ take (c - a) l ++ m = sym (take-append-drop (c - a) l) ∙ ap (λ (o : List Placed). take (c - a) l ++ o) e in
    let j : Some a ≡ Some c = sym x ∙ ap base_of i ∙ base_append (take (c - a) l) m c y in
    cc

last_any : (d d' : Placed) (l : List Placed) → 1 ≤ length l → last_of d l ≡ last_of d' l
unfolding last_of
last_any d d' [] h = absurd (omega arith)
last_any d d' (x ∷ l) h = refl

-- the last page stands in any part that ends the list
last_of_lem : (b : ℕ) (l ch : List Placed) → sort (from b l) ≡ ch → last_of no_page (sort l) ≡ last_of (last_of no_page (sort (upto b l))) ch
last_of_lem b l ch e = ap (last_of no_page) (sort_split b l ∙ ap (λ (m : List Placed). sort (upto b l) ++ m) e) ∙ last_append no_page (sort (upto b l)) ch

module _ {v : List View} {log : List (List Entry)} {settings : List Setting} {b : ℕ} {ch : List Placed} {gs : List Group} {idx : List Place} (S : Sound v log settings b ch gs idx)
    (u : List View) (A : Accepted u) (w : Within u v) (top : next_serial u ≡ next_serial v) where
  chained : sort (from (base u) (wholes 0 u)) ≡ chain u
  chained = unfold chain in sym (from_sort (base u) (wholes 0 u))

  based : base_of (chain u) ≡ Some (base u)
  based =
      base_right (base u) (sort (upto (base u) (wholes 0 u))) (chain u)
      (all_sort (opposite (reaches (base u))) (upto (base u) (wholes 0 u)) (unfold upto in all_keep (opposite (reaches (base u))) (wholes 0 u)))
      (rw (sort_split (base u) (wholes 0 u) ∙ ap (λ (l : List Placed). sort (upto (base u) (wholes 0 u)) ++ l) chained) at A.based)

  sizes : base u + length (chain u) ≡ b + length ch
  sizes =
      sym (consecutive_last (base u) (last_of no_page (sort (upto (base u) (wholes 0 u)))) (chain u) (some_page (chain u) (base u) based) A.rises)
      ∙ sym (ap (λ (x : Placed). suc (serial_of x)) (last_of_lem (base u) (wholes 0 u) (chain u) chained))
      ∙ sym (next_is u) ∙ top ∙ next_is v ∙ greatest S

  theirs : AllStand v (chain u)
  theirs = rw chained at (standing_sort (from (base u) (wholes 0 u)) (standing_from (base u) (wholes 0 u) (standing_within u v w)))

  ours : AllStand v ch
  ours = rw S.chained at (standing_sort (from b (wholes 0 v)) (standing_from b (wholes 0 v) (standing_within v v (to_within v v (λ q y e. e)))))

  base_same : base u ≡ b
  base_same = go (dec_lt (base u) b)
    where
      go : Dec (base u < b) → base u ≡ b
      go (yes h) = same_base v (base u) b (chain u) ch S.distincts (omega arith) sizes A.rises S.rises theirs ours based S.based
      go (no h) = sym (same_base v b (base u) ch (chain u) S.distincts (omega arith) (sym sizes) S.rises A.rises ours theirs S.based based)

  chain_same : chain u ≡ ch
  chain_same = let n = sizes in let e = base_same in run_same v b (chain u) ch S.distincts (rw e at A.rises) S.rises (omega arith) theirs ours

  groups_same : groups u ≡ Some gs
  unfolding groups
  groups_same = rw chain_same S.walks

  replayed_same : replayed u ≡ Some idx
  unfolding replayed value_or
  replayed_same = rw groups_same S.replays

  last_same : last_of no_page (sort (wholes 0 u)) ≡ last_of no_page (sort (wholes 0 v))
  last_same =
      last_of_lem (base u) (wholes 0 u) ch (chained ∙ chain_same)
      ∙ last_any (last_of no_page (sort (upto (base u) (wholes 0 u)))) (last_of no_page (sort (upto b (wholes 0 v)))) ch S.some_page
      ∙ sym (last_of_lem b (wholes 0 v) ch S.chained)

  state_same : length u ≡ length v → recovered_state u ≡ outcome S
  unfolding recovered_state outcome value_or
  state_same l = rw (l, last_same, greatest S, base_same, replayed_same)

  -- recovery gives the same of both
  pub recover_same : (n : ℕ) → size_ok n ≡ true → length u ≡ length v → every (tests (recover_needs n u)) ≡ true → recover n u ≡ recover n v
  recover_same n size l e =
      recovers n u e
      ∙ rw (groups_same, state_same l) (unfold value_or in ap (λ (o : List (List Entry)). gives (recovery_with o (outcome S))) S.logs)
      ∙ sym (accepts S n size)
