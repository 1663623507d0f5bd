-- Condition 12 accepts the group.
use mathlib.Core.Path.{◌≡◌, refl, sym, ap, ◌∙◌}
use mathlib.Core.Bool.{true, cond}
use Rattle.std.proofs.Common.{Option, None, Some}
use mathlib.Core.List.{List, [], ◌∷◌}
use Prim.Native.Nat.{ℕ, suc, ◌+◌, ◌-◌, ◌≤◌}
use native.Mathlib.Omega.{arith}
use lib.ListN.{length}
use borrow.Author.Tests.{le-leb, le-ltb}
use Rattle.lists.specs.declared.Cell.{Cell}
use Rattle.lists.specs.Lists.{all, is_some}
use Rattle.lists.proofs.Laws.{by_cases, and_both, all_head, all_tail, by_eq}
use Rattle.index.specs.Index.{lookup, rising_from, rising, assign, assign_all, within}
use Rattle.index.proofs.Rising.{rising_tail, assign_rising}
use Rattle.wanted_group.specs.Group.{is_valve, removals_for, settings_for, group_for}
use Rattle.index.proofs.Entries.{remove_few, all_rising, within_append}
use Rattle.index.proofs.Lookup.{valve, lookup_other, assign_else, Part, here_true, part_length}
use Rattle.wanted_group.proofs.Leads.{gone, told_removals, lookup_all, removal, setting_valve, is_wanted, stands, removals_kept, removals_gone, settings_same, settings_new}

-- ---- 12: removals only shorten, and while settings are made every valve set is a wanted one

within_none : (l : List Cell) → within l [] ≡ true
unfolding within
within_none l = refl

within_cons : (l : List Cell) (e : Cell) (es : List Cell) → length (assign l e) ≤ 192 → within (assign l e) es ≡ true → within l (e ∷ es) ≡ true
unfolding within
within_cons l e es h p = and_both (le-leb _ _ h) p

removal_shorter : (l : List Cell) (x : Cell) → length (assign l (removal x)) ≤ length l
unfolding assign
removal_shorter l x =
    let h : 32768 ≤ x.key + 32768 = omega arith in rw (le-ltb (x.key + 32768) 32768 h) (remove_few (x.key + 32768 - 32768) l)

within_removals : (s w l : List Cell) → length l ≤ 192 → within l (removals_for s w) ≡ true
unfolding removals_for
within_removals [] w l h = within_none l
within_removals (x ∷ xs) w l h =
    by_cases (is_wanted w x)
    (λ b. ap (within l) (removals_kept x xs w b) ∙ within_removals xs w l h)
    (λ b.
    let z = removal_shorter l x in
    let u : length (assign l (removal x)) ≤ 192 = omega (arith, z, h) in
    ap (within l) (removals_gone x xs w b) ∙ within_cons l (removal x) (removals_for xs w) u (within_removals xs w (assign l (removal x)) u))

within_settings : (s w ys l : List Cell) (n : ℕ) → length w ≤ 192 → rising w ≡ true → rising l ≡ true → rising_from n ys ≡ true
    → all is_valve ys ≡ true → Part ys w → Part l w → within l (settings_for s ys) ≡ true
unfolding settings_for rising
within_settings s w [] l n few q r t a in-y in-l = within_none l
within_settings s w (y ∷ ys) l n few q r t a in-y in-l =
    let tail = rising_tail n y ys t in
    let later : Part ys w = λ k e. in-y k (by_eq k y.key (λ c. here_true k y ys c) (λ c. ap is_some (lookup_other k y ys tail c) ∙ e)) in
    by_cases (stands s y)
    (λ b. ap (within l) (settings_same s y ys b) ∙ within_settings s w ys l (suc y.key) few q r tail (all_tail is_valve y ys a) later in-l)
    (λ b.
    let named : valve y ≡ y.key = setting_valve y (all_head is_valve y ys a) in
    let inside : Part (assign l y) w
    = λ k e. by_eq k (valve y) (λ c. in-y k (here_true k y ys (c ∙ named))) (λ c. in-l k (ap is_some (sym (assign_else l y k r c)) ∙ e)) in
    let up = assign_rising l y r in
    let u : length (assign l y) ≤ 192 = let z = part_length w (assign l y) 0 0 up q inside in omega (arith, z, few) in
    let rest = within_settings s w ys (assign l y) (suc y.key) few q up tail (all_tail is_valve y ys a) later inside in
    ap (within l) (settings_new s y ys b) ∙ within_cons l y (settings_for s ys) u rest)

left_part : (a b : Option ℕ) → is_some (cond (gone a b) None a) ≡ true → is_some b ≡ true
unfolding is_some
left_part None None h = h
left_part None (Some y) h = refl
left_part (Some x) None h = h
left_part (Some x) (Some y) h = refl

-- "At most 192 valves are set, counted after each entry in order."
pub group_within : (s w : List Cell) → rising s ≡ true → rising w ≡ true → all is_valve w ≡ true → length s ≤ 192 → length w ≤ 192
    → within s (group_for s w) ≡ true
unfolding group_for rising
group_within s w r q a few few₂ =
    let left : Part (assign_all s (removals_for s w)) w
    = λ k e. left_part (lookup k s) (lookup k w) (ap is_some (sym (lookup_all s (removals_for s w) k r ∙ told_removals s w k 0 (lookup k s) r)) ∙ e) in
    within_append s (removals_for s w) (settings_for s w)
    ∙ and_both (within_removals s w s few)
    (within_settings s w w (assign_all s (removals_for s w)) 0 few₂ q (all_rising s (removals_for s w) r) q a (λ k e. e) left)
