-- The group is removals, ascending, then settings, ascending.
use mathlib.Core.Path.{◌≡◌, refl, ap, ◌∙◌}
use mathlib.Core.Bool.{Bool, true}
use mathlib.Core.List.{List, [], ◌∷◌}
use Prim.Native.Nat.{ℕ, suc, ◌+◌, ◌≤◌}
use native.Mathlib.Omega.{arith}
use borrow.Author.Tests.{le-leb}
use Rattle.lists.specs.declared.Cell.{Cell}
use Rattle.lists.specs.Lists.{all}
use Rattle.lists.proofs.Laws.{by_cases, all_head, all_tail, all_cons}
use Rattle.index.specs.Index.{rising_from, rising}
use Rattle.index.proofs.Rising.{rising_head, rising_tail, rising_cons}
use Rattle.wanted_group.specs.Group.{is_valve, removals_for, settings_for, group_for}
use Rattle.wanted_group.proofs.Leads.{is_wanted, stands, removal, removals_kept, removals_gone, settings_same, settings_new}
use Rattle.wanted.specs.Serves.{removes, InOrder}

all_none : (f : Cell → Bool) → all f [] ≡ true
unfolding all
all_none f = refl

rising_none : (n : ℕ) → rising_from n [] ≡ true
unfolding rising_from
rising_none n = refl

removal_removes : (x : Cell) → removes (removal x) ≡ true
unfolding removes
removal_removes x = le-leb 32768 (x.key + 32768) (omega arith)

-- the valves that go are some of those that are set, in their order
removals_remove : (s w : List Cell) → all removes (removals_for s w) ≡ true
unfolding removals_for
removals_remove [] w = all_none removes
removals_remove (x ∷ xs) w =
    by_cases (is_wanted w x)
    (λ b. ap (all removes) (removals_kept x xs w b) ∙ removals_remove xs w)
    (λ b. ap (all removes) (removals_gone x xs w b) ∙ all_cons removes (removal x) (removals_for xs w) (removal_removes x) (removals_remove xs w))

removals_rise : (s w : List Cell) (n m : ℕ) → m ≤ n + 32768 → rising_from n s ≡ true → rising_from m (removals_for s w) ≡ true
unfolding removals_for
removals_rise [] w n m h r = rising_none m
removals_rise (x ∷ xs) w n m h r =
    let low = rising_head n x xs r in
    let rest : (k : ℕ) → k ≤ suc x.key + 32768 → rising_from k (removals_for xs w) ≡ true
    = λ k l. removals_rise xs w (suc x.key) k l (rising_tail n x xs r) in
    by_cases (is_wanted w x)
    (λ b. ap (rising_from m) (removals_kept x xs w b) ∙ rest m (omega (arith, h, low)))
    (λ b.
    ap (rising_from m) (removals_gone x xs w b)
    ∙ rising_cons m (removal x) (removals_for xs w) (omega (arith, h, low)) (rest (suc (x.key + 32768)) (omega arith)))

-- the settings made are some of those wanted, in their order
settings_set : (s w : List Cell) → all is_valve w ≡ true → all is_valve (settings_for s w) ≡ true
unfolding settings_for
settings_set s [] a = all_none is_valve
settings_set s (y ∷ ys) a =
    let rest = settings_set s ys (all_tail is_valve y ys a) in
    by_cases (stands s y)
    (λ b. ap (all is_valve) (settings_same s y ys b) ∙ rest)
    (λ b. ap (all is_valve) (settings_new s y ys b) ∙ all_cons is_valve y (settings_for s ys) (all_head is_valve y ys a) rest)

settings_rise : (s w : List Cell) (n m : ℕ) → m ≤ n → rising_from n w ≡ true → rising_from m (settings_for s w) ≡ true
unfolding settings_for
settings_rise s [] n m h r = rising_none m
settings_rise s (y ∷ ys) n m h r =
    let low = rising_head n y ys r in
    let rest : (k : ℕ) → k ≤ suc y.key → rising_from k (settings_for s ys) ≡ true = λ k l. settings_rise s ys (suc y.key) k l (rising_tail n y ys r) in
    by_cases (stands s y)
    (λ b. ap (rising_from m) (settings_same s y ys b) ∙ rest m (omega (arith, h, low)))
    (λ b. ap (rising_from m) (settings_new s y ys b) ∙ rising_cons m y (settings_for s ys) (omega (arith, h, low)) (rest (suc y.key) (omega arith)))

-- "Removals come first, ascending, then settings, ascending."
pub group_ordered : (s w : List Cell) → rising s ≡ true → rising w ≡ true → all is_valve w ≡ true → InOrder (group_for s w)
unfolding rising group_for
group_ordered s w r q a =
    record {
      removals = removals_for s w;
      settings = settings_for s w;
      parts = refl;
      all_remove = removals_remove s w;
      all_set = settings_set s w a;
      removals_ascend = removals_rise s w 0 0 (omega arith) r;
      settings_ascend = settings_rise s w 0 0 (omega arith) q;
    }
