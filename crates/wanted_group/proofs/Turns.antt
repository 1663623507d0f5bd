-- The loops of the code: the entries put out so far, and those still to come.
use mathlib.Core.Path.{◌≡◌, refl, sym, ap, ◌∙◌}
use mathlib.Core.Bool.{true}
use Rattle.std.proofs.Common.{Some}
use mathlib.Core.List.{List, [], ◌∷◌, ◌++◌, append-nil}
use Prim.Native.Nat.{ℕ, suc, ◌+◌, ◌≤◌, ◌<◌}
use native.Mathlib.Omega.{arith}
use lib.ListN.{length, get_or, drop, set, replicate, length-set, length-append}
use lib.Seq.{append_snoc, drop-cons}
use borrow.Author.Tests.{ltb-true, le-leb, lt-leb, eq-eqb, ne_eqb}
use Rattle.lists.specs.declared.Cell.{Cell}
use Rattle.lists.specs.declared.Cells.{Cells}
use Rattle.lists.specs.Lists.{all}
use Rattle.lists.specs.Cells.{cell, pairs, listed}
use Rattle.lists.proofs.Laws.{pairs_none, pairs_cons, pairs_past, length_pairs, all_head, all_drop}
use Rattle.index.specs.Search.{Kept}
use Rattle.index.proofs.Pairs.{pairs_snoc}
use Rattle.wanted_group.specs.declared.Compared.{Compared}
use Rattle.wanted_group.specs.Group.{is_valve}
use Rattle.wanted_group.specs.Compare.{unnamed}
use Rattle.wanted_group.specs.Limited.{LimitedGroup, too_many, limited, limited_by}

-- ---- two arrays with the first n entries of a list; after i turns, the rest is still to come

pub record Filling (all rest : List Cell) (n i : ℕ) (ks vs : List ℕ) : Type 0 where
  pub few : n ≤ i
  pub long : length ks ≡ 192
  pub long₂ : length vs ≡ 192
  pub so : pairs n ks vs ++ rest ≡ all

fill_start : (x : List Cell) → Filling x x 0 0 (replicate 192 0) (replicate 192 0)
fill_start x =
    record { few = omega arith; long = refl; long₂ = refl; so = ap (λ (t : List Cell). t ++ x) (pairs_none 0 (replicate 192 0) (replicate 192 0) refl) }

module _ (all rest rest' : List Cell) (n i : ℕ) (ks vs : List ℕ) where
  fill_skip : rest ≡ rest' → Filling all rest n i ks vs → Filling all rest' n (i + 1) ks vs
  fill_skip e g =
      record { few = let z = g.few in omega (arith, z); long = g.long; long₂ = g.long₂; so = ap (λ (t : List Cell). pairs n ks vs ++ t) (sym e) ∙ g.so }

  fill_push : (k v : ℕ) → i < 192 → rest ≡ cell k v ∷ rest' → Filling all rest n i ks vs → Filling all rest' (n + 1) (i + 1) (set ks n k) (set vs n v)
  fill_push k v h e g =
      let z = g.few in
      let l₁ : n < length ks = let q = g.long in omega (arith, z, h, q) in
      let l₂ : n < length vs = let q = g.long₂ in omega (arith, z, h, q) in
      record {
        few = omega (arith, z);
        long = length-set ks n k ∙ g.long;
        long₂ = length-set vs n v ∙ g.long₂;
        so =
            ap (λ (t : List Cell). t ++ rest') (pairs_snoc n ks vs k v l₁ l₂)
            ∙ append_snoc (pairs n ks vs) (cell k v) rest'
            ∙ ap (λ (t : List Cell). pairs n ks vs ++ t) (sym e)
            ∙ g.so;
      }

fill_end : (all rest : List Cell) (n i : ℕ) (ks vs : List ℕ) → rest ≡ [] → n ≤ 192 → Filling all rest n i ks vs → Kept n (pairs n ks vs) all
fill_end all rest n i ks vs e h g =
    record { few = h; so = sym (append-nil (pairs n ks vs)) ∙ ap (λ (t : List Cell). pairs n ks vs ++ t) (sym e) ∙ g.so }

-- place i of the cells in two lists
abbrev place : List ℕ → List ℕ → ℕ → Cell
place xs ys i = cell (get_or xs i 0) (get_or ys i 0)

-- ---- removals

-- those of the places from i on
abbrev to_remove : ℕ → List ℕ → List ℕ → List ℕ → ℕ → List Cell
to_remove c xs ys fs i = unnamed (drop i fs) (drop i (pairs c xs ys))

pub record Removing (c : ℕ) (xs ys fs : List ℕ) (n i : ℕ) (ks vs : List ℕ) : Type 0 where
  pub far : i ≤ c
  pub few : c ≤ 192
  pub valves : all is_valve (pairs c xs ys) ≡ true
  pub flags : length fs ≡ 193
  pub fill : Filling (unnamed fs (pairs c xs ys)) (to_remove c xs ys fs i) n i ks vs

pub removing_start : (c : ℕ) (xs ys fs : List ℕ) → c ≤ 192 → all is_valve (pairs c xs ys) ≡ true → length fs ≡ 193
    → Removing c xs ys fs 0 0 (replicate 192 0) (replicate 192 0)
removing_start c xs ys fs few v l = record { far = omega arith; few = few; valves = v; flags = l; fill = fill_start (unnamed fs (pairs c xs ys)) }

module _ (c : ℕ) (xs ys fs : List ℕ) (n i : ℕ) (ks vs : List ℕ) (h : i < c) (g : Removing c xs ys fs n i ks vs) where
  removing_cons : to_remove c xs ys fs i ≡ unnamed (get_or fs i 0 ∷ drop (i + 1) fs) (place xs ys i ∷ drop (i + 1) (pairs c xs ys))
  removing_cons =
      let one : suc i ≡ i + 1 = omega arith in
      let l = g.flags in
      let few = g.few in
      ap (unnamed (drop i fs)) (pairs_cons c xs ys i h)
      ∙ ap (λ (t : List ℕ). unnamed t (place xs ys i ∷ drop (i + 1) (pairs c xs ys))) (drop-cons fs i 0 (omega (arith, l, h, few)))
      ∙ ap (λ (j : ℕ). unnamed (get_or fs i 0 ∷ drop j fs) (place xs ys i ∷ drop (i + 1) (pairs c xs ys))) one

  removing_kept : (get_or fs i 0 ≡ 0 → ⊥) → to_remove c xs ys fs i ≡ to_remove c xs ys fs (i + 1)
  unfolding unnamed
  removing_kept t = removing_cons ∙ rw (ne_eqb (get_or fs i 0) 0 t)

  removing_gone : get_or fs i 0 ≡ 0 → to_remove c xs ys fs i ≡ cell (get_or xs i 0 + 32768) 0 ∷ to_remove c xs ys fs (i + 1)
  unfolding unnamed
  removing_gone t = removing_cons ∙ rw (eq-eqb (get_or fs i 0) 0 t)

  pub removing_skip : (get_or fs i 0 ≡ 0 → ⊥) → Removing c xs ys fs n (i + 1) ks vs
  removing_skip t =
      record {
        far = omega (arith, h);
        few = g.few;
        valves = g.valves;
        flags = g.flags;
        fill = fill_skip (unnamed fs (pairs c xs ys)) (to_remove c xs ys fs i) (to_remove c xs ys fs (i + 1)) n i ks vs (removing_kept t) g.fill;
      }

  pub removing_push : get_or fs i 0 ≡ 0 → Removing c xs ys fs (n + 1) (i + 1) (set ks n (get_or xs i 0 + 32768)) (set vs n 0)
  removing_push t =
      let few = g.few in
      record {
        far = omega (arith, h);
        few = g.few;
        valves = g.valves;
        flags = g.flags;
        fill =
            fill_push (unnamed fs (pairs c xs ys)) (to_remove c xs ys fs i) (to_remove c xs ys fs (i + 1)) n i ks vs (get_or xs i 0 + 32768) 0
            (omega (arith, h, few)) (removing_gone t) g.fill;
      }

no_removals : (fs : List ℕ) → unnamed fs [] ≡ []
unfolding unnamed
no_removals fs = refl

pub removing_end : (c : ℕ) (xs ys fs : List ℕ) (n i : ℕ) (ks vs : List ℕ) → c ≤ i → Removing c xs ys fs n i ks vs
    → Kept n (pairs n ks vs) (unnamed fs (pairs c xs ys))
removing_end c xs ys fs n i ks vs h g =
    let over = ap (unnamed (drop i fs)) (pairs_past c xs ys i h) ∙ no_removals (drop i fs) in
    let z = g.fill.few in
    let y = g.far in
    let few = g.few in
    fill_end (unnamed fs (pairs c xs ys)) (to_remove c xs ys fs i) n i ks vs over (omega (arith, z, y, few)) g.fill

-- a valve that is set is below 32768, so that the key that removes it has 16 bits
key_low : (c : ℕ) (xs ys : List ℕ) (i : ℕ) → i < c → all is_valve (pairs c xs ys) ≡ true → get_or xs i 0 < 32768
unfolding is_valve
key_low c xs ys i h a =
    ltb-true (get_or xs i 0) 32768
    (all_head is_valve (place xs ys i) (drop (i + 1) (pairs c xs ys))
    (ap (all is_valve) (sym (pairs_cons c xs ys i h)) ∙ all_drop is_valve i (pairs c xs ys) a))

pub removing_low : (c : ℕ) (xs ys fs : List ℕ) (n i : ℕ) (ks vs : List ℕ) → i < c → Removing c xs ys fs n i ks vs → get_or xs i 0 < 32768
removing_low c xs ys fs n i ks vs h g = key_low c xs ys i h g.valves

-- ---- the settings after the removals

abbrev pub cells_of : ℕ → List ℕ → List ℕ → Cells
cells_of n ks vs = record { count = n; keys = ks; vals = vs }

abbrev sets_in : Compared → List Cell
sets_in b = pairs b.count b.keys b.vals

pub record Appending (a : Cells) (b : Compared) (n i : ℕ) (ks vs : List ℕ) : Type 0 where
  pub top : n ≡ a.count + i
  pub far : i ≤ b.count
  pub long : length ks ≡ 192
  pub long₂ : length vs ≡ 192
  pub so : pairs n ks vs ++ drop i (sets_in b) ≡ listed a ++ sets_in b

pub append_start : (a : Cells) (b : Compared) → length a.keys ≡ 192 → length a.vals ≡ 192 → Appending a b a.count 0 a.keys a.vals
append_start a b l m = record { top = omega arith; far = omega arith; long = l; long₂ = m; so = refl }

pub append_next : (a : Cells) (b : Compared) (n i : ℕ) (ks vs : List ℕ) → i < b.count → a.count + b.count ≤ 96 → Appending a b n i ks vs
    → Appending a b (n + 1) (i + 1) (set ks n (get_or b.keys i 0)) (set vs n (get_or b.vals i 0))
append_next a b n i ks vs h few g =
    let z = g.top in
    let l₁ : n < length ks = let q = g.long in omega (arith, z, h, few, q) in
    let l₂ : n < length vs = let q = g.long₂ in omega (arith, z, h, few, q) in
    let k = get_or b.keys i 0 in
    let v = get_or b.vals i 0 in
    record {
      top = omega (arith, z);
      far = omega (arith, h);
      long = length-set ks n k ∙ g.long;
      long₂ = length-set vs n v ∙ g.long₂;
      so =
          ap (λ (t : List Cell). t ++ drop (i + 1) (sets_in b)) (pairs_snoc n ks vs k v l₁ l₂)
          ∙ append_snoc (pairs n ks vs) (cell k v) (drop (i + 1) (sets_in b))
          ∙ ap (λ (t : List Cell). pairs n ks vs ++ t) (sym (pairs_cons b.count b.keys b.vals i h))
          ∙ g.so;
    }

length_both : (a : Cells) (b : Compared) → length (listed a ++ sets_in b) ≡ a.count + b.count
length_both a b =
    let z = length-append (listed a) (sets_in b) in
    let x = length_pairs a.count a.keys a.vals in
    let y = length_pairs b.count b.keys b.vals in
    omega (arith, z, x, y)

pub append_over : (a : Cells) (b : Compared) → 96 < a.count + b.count → Kept 0 too_many (limited (listed a ++ sets_in b))
unfolding limited
append_over a b h =
    let y = length_both a b in
    let big : 96 < length (listed a ++ sets_in b) = omega (arith, y, h) in
    record { few = omega arith; so = rw (lt-leb _ _ big) }

pub append_end : (a : Cells) (b : Compared) (n i : ℕ) (ks vs : List ℕ) → b.count ≤ i → a.count + b.count ≤ 96 → Appending a b n i ks vs
    → Kept n (limited_by (Some (cells_of n ks vs))) (limited (listed a ++ sets_in b))
unfolding limited
append_end a b n i ks vs h few g =
    let past = ap (λ (t : List Cell). pairs n ks vs ++ t) (sym (pairs_past b.count b.keys b.vals i h)) in
    let e : pairs n ks vs ≡ listed a ++ sets_in b = sym (append-nil (pairs n ks vs)) ∙ past ∙ g.so in
    let z = length_both a b in
    let small : length (listed a ++ sets_in b) ≤ 96 = omega (arith, z, few) in
    let y = g.top in
    let x = g.far in
    record { few = omega (arith, y, x, few); so = ap (λ (t : List Cell). record { found = true; entries = t }) e ∙ rw (le-leb _ _ small) }
