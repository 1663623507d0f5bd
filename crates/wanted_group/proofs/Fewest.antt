-- The group has an entry for each valve that differs, and no list with fewer entries leads to the wanted settings.
use mathlib.Core.Path.{◌≡◌, refl, sym, ap, ◌∙◌}
use mathlib.Core.Bool.{Bool, true, false, not}
use Rattle.std.proofs.Common.{Option, None, Some}
use mathlib.Core.List.{List, [], ◌∷◌}
use Prim.Native.Nat.{ℕ, suc, ◌+◌, ◌≤◌, ◌<◌}
use native.Mathlib.Omega.{arith}
use native.Mathlib.Nat.{zero-add}
use lib.ListN.{length, length-append}
use lib.Dec.{eqb}
use borrow.Author.Tests.{eq-eqb, ltb-true}
use Rattle.lists.specs.declared.Cell.{Cell}
use Rattle.lists.specs.Lists.{all, is_some, one_if, count_below}
use Rattle.lists.proofs.Laws.{by_cases, all_head, all_tail}
use Rattle.index.specs.Index.{lookup, rising_from, rising, assign, assign_all}
use Rattle.index.proofs.Rising.{rising_tail, assign_rising}
use Rattle.wanted_group.specs.Group.{is_valve, same, removals_for, settings_for, group_for, differing}
use Rattle.index.proofs.Lookup.{valve, lookup_none, lookup_here, lookup_other, assign_else}
use Rattle.wanted_group.proofs.Leads.{is_wanted, stands, removals_kept, removals_gone, settings_same, settings_new, rest_none, gone, gone_none, gone_some, changed}
use Rattle.wanted_group.proofs.Counting.{count_change, count_more, count_sum, count_none}

valve_low : (x : Cell) → is_valve x ≡ true → x.key < 32768
unfolding is_valve
valve_low x h = ltb-true x.key 32768 h

one_not : (t b : Bool) → t ≡ b → one_if (not t) ≡ one_if (not b)
one_not t b e = ap (λ (x : Bool). one_if (not x)) e

one_false : one_if (not true) ≡ 0
unfolding one_if
one_false = refl

one_true : one_if (not false) ≡ 1
unfolding one_if
one_true = refl

module _ (w : List Cell) where
  abbrev is_gone : List Cell → ℕ → Bool
  is_gone s k = gone (lookup k s) (lookup k w)

  length_removals : (s : List Cell) (n : ℕ) → rising_from n s ≡ true → all is_valve s ≡ true → length (removals_for s w) ≡ count_below 32768 (is_gone s)
  unfolding removals_for
  length_removals [] n r a = sym (count_none 32768 (is_gone []) (λ k. ap (λ (t : Option ℕ). gone t (lookup k w)) (lookup_none k) ∙ gone_none (lookup k w)))
  length_removals (x ∷ xs) n r a =
      let tail = rising_tail n x xs r in
      let small = valve_low x (all_head is_valve x xs a) in
      let ih = length_removals xs (suc x.key) tail (all_tail is_valve x xs a) in
      let more = count_more 32768 (is_gone (x ∷ xs)) (is_gone xs) x.key (not (is_wanted w x)) small
      (λ k h. ap (λ (t : Option ℕ). gone t (lookup k w)) (lookup_other k x xs tail h))
      (ap (λ (t : Option ℕ). gone t (lookup x.key w)) (rest_none x.key x xs tail refl) ∙ gone_none (lookup x.key w))
      (ap (λ (t : Option ℕ). gone t (lookup x.key w)) (lookup_here x.key x xs refl) ∙ gone_some x.val (lookup x.key w)) in
      by_cases (is_wanted w x)
      (λ b. let z = ap length (removals_kept x xs w b) in let u = one_not (is_wanted w x) true b in let v = one_false in omega (arith, z, u, v, more, ih))
      (λ b. let z = ap length (removals_gone x xs w b) in let u = one_not (is_wanted w x) false b in let v = one_true in omega (arith, z, u, v, more, ih))

module _ (s : List Cell) where
  abbrev is_new : List Cell → ℕ → Bool
  is_new w k = changed (lookup k w) (lookup k s)

  length_settings : (w : List Cell) (n : ℕ) → rising_from n w ≡ true → all is_valve w ≡ true → length (settings_for s w) ≡ count_below 32768 (is_new w)
  unfolding settings_for
  length_settings [] n r a = sym (count_none 32768 (is_new []) (λ k. ap (λ (t : Option ℕ). changed t (lookup k s)) (lookup_none k)))
  length_settings (y ∷ ys) n r a =
      let tail = rising_tail n y ys r in
      let small = valve_low y (all_head is_valve y ys a) in
      let ih = length_settings ys (suc y.key) tail (all_tail is_valve y ys a) in
      let more = count_more 32768 (is_new (y ∷ ys)) (is_new ys) y.key (not (stands s y)) small
      (λ k h. ap (λ (t : Option ℕ). changed t (lookup k s)) (lookup_other k y ys tail h))
      (ap (λ (t : Option ℕ). changed t (lookup y.key s)) (rest_none y.key y ys tail refl))
      (ap (λ (t : Option ℕ). changed t (lookup y.key s)) (lookup_here y.key y ys refl)) in
      by_cases (stands s y)
      (λ b. let z = ap length (settings_same s y ys b) in let u = one_not (stands s y) true b in let v = one_false in omega (arith, z, u, v, more, ih))
      (λ b. let z = ap length (settings_new s y ys b) in let u = one_not (stands s y) false b in let v = one_true in omega (arith, z, u, v, more, ih))

-- a valve that differs is gone or changed, not both
differ_parts : (a b : Option ℕ) → one_if (not (same a b)) ≡ one_if (gone a b) + one_if (changed b a)
unfolding same one_if is_some
differ_parts None None = refl
differ_parts None (Some y) = refl
differ_parts (Some x) None = refl
differ_parts (Some x) (Some y) = sym (zero-add (one_if (not (eqb x y))))

same_same : (a : Option ℕ) → not (same a a) ≡ false
unfolding same
same_same None = refl
same_same (Some x) = rw (eq-eqb x x refl)

abbrev differs : List Cell → List Cell → ℕ → Bool
differs s w k = not (same (lookup k s) (lookup k w))

-- "'none' exactly if more than 96 valves differ": the group's length is the number of valves that differ
pub group_length : (s w : List Cell) → rising s ≡ true → rising w ≡ true → all is_valve s ≡ true → all is_valve w ≡ true → length (group_for s w) ≡ differing s w
unfolding group_for rising differing
group_length s w r q a b =
    let z = length-append (removals_for s w) (settings_for s w) in
    let u = count_sum 32768 (differs s w) (is_gone w s) (is_new s w) (λ k. differ_parts (lookup k s) (lookup k w)) in
    let x = length_removals w s 0 r a in
    let y = length_settings s w 0 q b in
    omega (arith, z, u, x, y)

-- an entry changes at most one valve
differing_step : (s w : List Cell) (e : Cell) → rising s ≡ true → differing s w ≤ differing (assign s e) w + 1
unfolding differing
differing_step s w e r =
    count_change 32768 (differs s w) (differs (assign s e) w) (valve e) (λ k h. ap (λ (t : Option ℕ). not (same t (lookup k w))) (sym (assign_else s e k r h)))

differing_all : (s w es : List Cell) → rising s ≡ true → differing s w ≤ length es + differing (assign_all s es) w
unfolding assign_all
differing_all s w [] r = omega arith
differing_all s w (e ∷ es) r = let z = differing_step s w e r in let u = differing_all (assign s e) w es (assign_rising s e r) in omega (arith, z, u)

differing_none : (w : List Cell) → differing w w ≡ 0
unfolding differing
differing_none w = count_none 32768 (differs w w) (λ k. same_same (lookup k w))

-- "the fewest entries": every list that leads there has an entry for each valve that differs
pub leads_length : (s w es : List Cell) → rising s ≡ true → assign_all s es ≡ w → differing s w ≤ length es
leads_length s w es r h = let u = differing_all s w es r in let v = ap (λ (t : List Cell). differing t w) h ∙ differing_none w in omega (arith, u, v)
