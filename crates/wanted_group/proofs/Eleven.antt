-- Condition 11 of the group: it accepts all but a setting of valve 0, which the group has where valve 0 is wanted and does not stand so.
use mathlib.Core.Path.{◌≡◌, refl, sym, ap, ◌∙◌}
use mathlib.Core.Bool.{Bool, true, false, cond, not}
use Rattle.std.proofs.Common.{Option, None, Some}
use mathlib.Core.List.{List, [], ◌∷◌, ◌++◌}
use Prim.Native.Nat.{ℕ, zero, suc, ◌+◌, ◌≤◌, ◌<◌}
use native.Mathlib.Omega.{arith}
use lib.Dec.{leb, ltb, eqb}
use borrow.Author.Tests.{le-leb, lt-leb, le-ltb, eq-eqb, ne_eqb, not-true}
use Rattle.lists.specs.declared.Cell.{Cell}
use Rattle.lists.specs.Lists.{all}
use Rattle.lists.proofs.Laws.{by_cases, true_false, all_head, all_tail, all_cons, by_eq}
use Rattle.index.specs.Index.{lookup, rising_from, rising, assign_all, entry_allowed, entries_allowed}
use Rattle.index.proofs.Rising.{rising_head, rising_tail, rising_cons}
use Rattle.wanted_group.specs.Group.{is_valve, same, removals_for, settings_for, group_for}
use Rattle.index.proofs.Lookup.{valve, word, lookup_none, lookup_here, lookup_before}
use Rattle.wanted_group.proofs.Leads.{told, lookup_all, removal, is_wanted, stands, removals_kept, removals_gone, settings_same, settings_new}

-- ---- entries one by one

removal_ok : (x : Cell) → entry_allowed (removal x) ≡ true
unfolding entry_allowed
removal_ok x = let h : 32768 ≤ x.key + 32768 = omega arith in rw (le-ltb (x.key + 32768) 32768 h, eq-eqb 0 0 refl)

-- an entry that sets a valve is allowed exactly where the valve is not 0
pub setting_ok : (y : Cell) → is_valve y ≡ true → entry_allowed y ≡ leb 1 y.key
unfolding entry_allowed is_valve
setting_ok y h = rw h

pub ok_none : entries_allowed [] ≡ true
unfolding entries_allowed all
ok_none = refl

ok_cons : (e : Cell) (es : List Cell) → entry_allowed e ≡ true → entries_allowed es ≡ true → entries_allowed (e ∷ es) ≡ true
unfolding entries_allowed
ok_cons e es p q = all_cons entry_allowed e es p q

not_cons : (e : Cell) (es : List Cell) → entry_allowed e ≡ false → entries_allowed (e ∷ es) ≡ false
unfolding entries_allowed all
not_cons e es p = rw p

-- before a list that is allowed, another counts alone
ok_before : (es fs : List Cell) → entries_allowed es ≡ true → entries_allowed (es ++ fs) ≡ entries_allowed fs
unfolding entries_allowed all
ok_before [] fs p = refl
ok_before (e ∷ es) fs p = rw (all_head entry_allowed e es p) (ok_before es fs (all_tail entry_allowed e es p))

-- ---- the two parts of the group

ok_removals : (s w : List Cell) → entries_allowed (removals_for s w) ≡ true
unfolding removals_for
ok_removals [] w = ok_none
ok_removals (x ∷ xs) w =
    by_cases (is_wanted w x)
    (λ b. ap entries_allowed (removals_kept x xs w b) ∙ ok_removals xs w)
    (λ b. ap entries_allowed (removals_gone x xs w b) ∙ ok_cons (removal x) (removals_for xs w) (removal_ok x) (ok_removals xs w))

-- of wanted valves that rise from 1 on
ok_settings : (s w : List Cell) (n : ℕ) → 1 ≤ n → rising_from n w ≡ true → all is_valve w ≡ true → entries_allowed (settings_for s w) ≡ true
unfolding settings_for
ok_settings s [] n h r a = ok_none
ok_settings s (y ∷ ys) n h r a =
    let low = rising_head n y ys r in
    let rest = ok_settings s ys (suc y.key) (omega arith) (rising_tail n y ys r) (all_tail is_valve y ys a) in
    let one : 1 ≤ y.key = omega (arith, h, low) in
    by_cases (stands s y)
    (λ b. ap entries_allowed (settings_same s y ys b) ∙ rest)
    (λ b.
    ap entries_allowed (settings_new s y ys b)
    ∙ ok_cons y (settings_for s ys) (setting_ok y (all_head is_valve y ys a) ∙ le-leb 1 y.key one) rest)

-- valve 0 is not wanted, or stands so
abbrev zero_stands : Option ℕ → Option ℕ → Bool
zero_stands o None = true
zero_stands o (Some x) = same o (Some x)

positive : (k : ℕ) → (0 ≡ k → ⊥) → 0 < k
positive zero h = absurd (h refl)
positive (suc k) h = omega arith

settings_allowed : (s w : List Cell) → rising w ≡ true → all is_valve w ≡ true → entries_allowed (settings_for s w) ≡ zero_stands (lookup 0 s) (lookup 0 w)
unfolding settings_for rising
settings_allowed s [] r a = ok_none ∙ sym (ap (zero_stands (lookup 0 s)) (lookup_none 0))
settings_allowed s (y ∷ ys) r a =
    let tail = rising_tail 0 y ys r in
    let rest = ok_settings s ys (suc y.key) (omega arith) tail (all_tail is_valve y ys a) in
    let set = setting_ok y (all_head is_valve y ys a) in
    by_eq 0 y.key
    (λ h.
    let here : (b : Bool) → stands s y ≡ b → b ≡ zero_stands (lookup 0 s) (lookup 0 (y ∷ ys))
    = λ b e. sym e
    ∙ ap (λ (k : ℕ). same (lookup k s) (Some y.val)) (sym h)
    ∙ sym (ap (zero_stands (lookup 0 s)) (lookup_here 0 y ys h)) in
    let none_below : y.key < 1 = omega (arith, h) in
    by_cases (stands s y)
    (λ b. ap entries_allowed (settings_same s y ys b) ∙ rest ∙ here true b)
    (λ b. ap entries_allowed (settings_new s y ys b) ∙ not_cons y (settings_for s ys) (set ∙ lt-leb 1 y.key none_below) ∙ here false b))
    (λ h.
    let past = positive y.key h in
    ok_settings s (y ∷ ys) y.key past (rising_cons y.key y ys (omega arith) tail) a ∙ sym (ap (zero_stands (lookup 0 s)) (lookup_before 0 y ys past)))

-- condition 11 asks only of the settings: a removal is allowed
pub group_settings : (s w : List Cell) → entries_allowed (group_for s w) ≡ entries_allowed (settings_for s w)
unfolding group_for
group_settings s w = ok_before (removals_for s w) (settings_for s w) (ok_removals s w)

-- "what Paper 2's wanted list would need": an entry that sets valve 0, exactly where valve 0 is wanted and does not stand so
group_allowed : (s w : List Cell) → rising w ≡ true → all is_valve w ≡ true → entries_allowed (group_for s w) ≡ zero_stands (lookup 0 s) (lookup 0 w)
group_allowed s w r a = group_settings s w ∙ settings_allowed s w r a

-- ---- and then every list that leads there sets valve 0

-- no entry sets valve 0
abbrev pub spares_zero : List Cell → Bool
spares_zero es = all (λ e. not (eqb e.key 0)) es

stands_itself : (o : Option ℕ) → zero_stands o o ≡ true
unfolding same
stands_itself None = refl
stands_itself (Some x) = eq-eqb x x refl

-- an entry for valve 0 that does not set it removes it
removes_zero : (e : Cell) → not (eqb e.key 0) ≡ true → 0 ≡ valve e → word e ≡ None
unfolding valve word
removes_zero e h = by_cases (ltb e.key 32768) (λ b. rw b (λ z. true_false (eq-eqb e.key 0 (sym z)) (not-true (eqb e.key 0) h))) (λ b. rw b (λ z. refl))

-- such entries leave valve 0 as it was, or without a word
zero_spared : (es : List Cell) (o was : Option ℕ) → spares_zero es ≡ true → zero_stands was o ≡ true → zero_stands was (told 0 es o) ≡ true
unfolding all
zero_spared [] o was h k = k
zero_spared (e ∷ es) o was h k =
    zero_spared es (cond (eqb 0 (valve e)) (word e) o) was (all_tail (λ e. not (eqb e.key 0)) e es h)
    (by_eq 0 (valve e)
    (λ z. ap (λ (t : Bool). zero_stands was (cond t (word e) o)) (eq-eqb 0 (valve e) z) ∙ ap (zero_stands was) (removes_zero e (all_head (λ e. not (eqb e.key 0)) e es h) z))
    (λ z. ap (λ (t : Bool). zero_stands was (cond t (word e) o)) (ne_eqb 0 (valve e) z) ∙ k))

pub zero_needed : (s w es : List Cell) → rising s ≡ true → rising w ≡ true → all is_valve w ≡ true → assign_all s es ≡ w → entries_allowed (group_for s w) ≡ false
    → spares_zero es ≡ false
zero_needed s w es r q a h e =
    by_cases (spares_zero es)
    (λ b.
    true_false
    (group_allowed s w q a
    ∙ ap (λ (t : List Cell). zero_stands (lookup 0 s) (lookup 0 t)) (sym h)
    ∙ ap (zero_stands (lookup 0 s)) (lookup_all s es 0 r)
    ∙ zero_spared es (lookup 0 s) (lookup 0 s) b (stands_itself (lookup 0 s)))
    e)
    (λ b. b)
