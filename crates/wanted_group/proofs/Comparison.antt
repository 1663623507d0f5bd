-- One wanted record compared with the present settings, and the group, in the shapes that the code's proofs ask.
use mathlib.Core.Path.{◌≡◌, refl, sym, ap, ◌∙◌}
use mathlib.Core.Bool.{Bool, true, false, ◌&&◌}
use Rattle.std.proofs.Common.{Some}
use mathlib.Core.List.{List, [], ◌∷◌, ◌++◌}
use Prim.Native.Nat.{ℕ, zero, suc, ◌+◌, ◌-◌, ◌≤◌, ◌<◌}
use native.Mathlib.Omega.{arith}
use native.Mathlib.Decide.{dec_lt}
use lib.ListN.{length, get_or, set, replicate}
use lib.Dec.{ltb, leb, eqb}
use borrow.Author.Tests.{lt-ltb, le-ltb, le-leb, lt-leb, eq-eqb, ne_eqb, ltb-true, ltb-false, eqb-true}
use Rattle.lists.specs.declared.Cell.{Cell}
use Rattle.lists.specs.declared.Cells.{Cells}
use Rattle.lists.specs.Cells.{cell, Setting, pairs, listed}
use Rattle.lists.proofs.Laws.{by_cases, by_eq, true_false, and_l, and_r, length_pairs, get_pairs, pairs_none}
use Rattle.arrays.specs.Arrays.{Ranked}
use Rattle.index.specs.Index.{lookup, rising_from, rising}
use Rattle.index.specs.Lent.{held_at, Lent}
use Rattle.index.specs.Search.{Kept}
use Rattle.index.proofs.Rising.{rising_tail}
use Rattle.index.proofs.Lookup.{lookup_none, lookup_here, lookup_other}
use Rattle.index.proofs.Pairs.{pairs_snoc, lent_ascends}
use Rattle.wanted_group.specs.declared.Compared.{Compared}
use Rattle.wanted_group.specs.Group.{same}
use Rattle.wanted_group.specs.Limited.{LimitedGroup, too_many, limited, limited_by}
use Rattle.wanted_group.specs.Compare.{SoFar, not_compared, place_of, naming, with_setting, compared_with, unnamed, group_of, so_far, Comparing, ComesTo, PlaceIn}

-- past the end no number stands
pub held_out : (k i n : ℕ) (ks : List ℕ) → n ≤ i → ltb i n ≡ held_at k i n ks
unfolding held_at
held_out k i n ks h = rw (le-ltb i n h)

-- ---- nothing compared yet

pub none_compared : ComesTo not_compared (record { named = replicate 193 0; next = 0; allowed = true; more = false; count = 0; keys = replicate 96 0; vals = replicate 96 0 })
unfolding not_compared
none_compared =
    record {
      few = omega arith;
      so = ap (λ (l : List Cell). record { named = replicate 193 0; allowed = true; more = false; sets = l }) (pairs_none 0 (replicate 96 0) (replicate 96 0) refl);
    }

-- ---- the place of a valve

module _ (k at n : ℕ) (ks : List ℕ) (b : Bool) (f : b ≡ held_at k at n ks) where
  held_in : b ≡ true → at < n
  unfolding held_at
  held_in e = ltb-true at n (and_l (ltb at n) (eqb (get_or ks at 0) k) (sym f ∙ e))

  held_key : b ≡ true → get_or ks at 0 ≡ k
  unfolding held_at
  held_key e = eqb-true (get_or ks at 0) k (and_r (ltb at n) (eqb (get_or ks at 0) k) (sym f ∙ e))

  not_held : b ≡ false → at < n → get_or ks at 0 ≡ k → ⊥
  unfolding held_at
  not_held e h z = let y : held_at k at n ks ≡ true = rw (lt-ltb at n h, eq-eqb (get_or ks at 0) k z) in true_false y (sym f ∙ e)

module _ (n : ℕ) (ks vs : List ℕ) (k at : ℕ) (t : Lent n ks vs) (b : Bool) (f : b ≡ held_at k at n ks) where
  -- where it is found there
  pub place_here : b ≡ true → PlaceIn k n ks at
  place_here e =
      let h = held_in k at n ks b f e in
      let z = held_key k at n ks b f e in
      record { low = omega (arith, h); there = λ q. z; first = λ i q y. let up = (lent_ascends n ks vs t).each i at q h in omega (arith, up, y, z) }

  -- where it is not found where it would stand
  pub place_none : b ≡ false → Ranked k ks n at → PlaceIn k n ks n
  place_none e w = record { low = omega arith; there = λ q. absurd (omega (arith, q)); first = by_place }
    where
      below : (i : ℕ) → i < at → get_or ks i 0 < k
      below i h = go (dec_lt (i + 1) at)
        where
          last : get_or ks (at - 1) 0 < k
          last = w.below (at - 1) (omega (arith, h))

          go : Dec (i + 1 < at) → get_or ks i 0 < k
          go (yes q) =
              let low = w.low in
              let z = (lent_ascends n ks vs t).each i (at - 1) (omega (arith, q)) (omega (arith, low, h)) in
              omega (arith, z, last)
          go (no q) =
              let z : at - 1 ≡ i = omega (arith, q, h) in
              rw z at last

      over : (a b : ℕ) → a ≤ b → (b ≡ a → ⊥) → a < b
      over a b h n = by_cases (ltb a b) (λ e. ltb-true a b e) (λ e. let z = ltb-false a b e in absurd (n (omega (arith, h, z))))

      by_place : (i : ℕ) → i < n → get_or ks i 0 ≡ k → ⊥
      by_place i q y =
          by_eq i at (λ z. not_held k at n ks b f e (omega (arith, z, q)) (ap (λ (j : ℕ). get_or ks j 0) (sym z) ∙ y))
          (λ z. by_cases (ltb i at) (λ d. let low = below i (ltb-true i at d) in omega (arith, low, y))
          (λ d.
          let h = over at i (ltb-false i at d) z in
          let up = (lent_ascends n ks vs t).each at i h q in
          let low = w.above at (omega arith) (omega (arith, h, q)) in
          omega (arith, up, low, y)))

place_by : (k r : ℕ) (l : List Cell) → r ≤ length l → (r < length l → (get_or l r (cell 0 0)).key ≡ k) → ((i : ℕ) → i < r → (get_or l i (cell 0 0)).key ≡ k → ⊥) → r ≡ place_of k l
unfolding place_of
place_by k zero [] h a b = refl
place_by k (suc r) [] h a b = absurd (omega (arith, h))
place_by k zero (x ∷ l) h a b = rw (eq-eqb x.key k (a (omega arith)))
place_by k (suc r) (x ∷ l) h a b =
    rw (ne_eqb x.key k (b 0 (omega arith))) (ap suc (place_by k r l (omega (arith, h)) (λ p. a (omega (arith, p))) (λ i p. b (suc i) (omega (arith, p)))))

below_suc : (a b : ℕ) → ltb (suc a) (suc b) ≡ ltb a b
below_suc a b =
    by_cases (ltb a b)
    (λ e. let h = ltb-true a b e in let z : suc a < suc b = omega (arith, h) in lt-ltb (suc a) (suc b) z ∙ sym e)
    (λ e. let h = ltb-false a b e in let z : suc b ≤ suc a = omega (arith, h) in le-ltb (suc a) (suc b) z ∙ sym e)

-- what stands under a valve is what stands at its place
lookup_place : (k w n : ℕ) (l : List Cell) → rising_from n l ≡ true
    → (ltb (place_of k l) (length l) && eqb (get_or l (place_of k l) (cell 0 0)).val w) ≡ same (lookup k l) (Some w)
unfolding place_of same
lookup_place k w n [] r = rw (lookup_none k)
lookup_place k w n (x ∷ l) r =
    let on = rising_tail n x l r in
    by_eq x.key k
    (λ e. let z : 0 < length (x ∷ l) = omega arith in rw (eq-eqb x.key k e, lookup_here k x l (sym e), lt-ltb 0 (length (x ∷ l)) z))
    (λ e. rw (ne_eqb x.key k e, lookup_other k x l on (λ z. e (sym z))) (ap (λ (b : Bool). b && eqb (get_or l (place_of k l) (cell 0 0)).val w) (below_suc (place_of k l) (length l)) ∙ lookup_place k w (suc x.key) l on))

module _ (n : ℕ) (ks vs : List ℕ) (k at : ℕ) (p : PlaceIn k n ks at) where
  key_at_lem : (i : ℕ) → i < n → (get_or (pairs n ks vs) i (cell 0 0)).key ≡ get_or ks i 0
  key_at_lem i h = ap (λ (x : Cell). x.key) (get_pairs n ks vs i h)

  place_is : at ≡ place_of k (pairs n ks vs)
  place_is =
      let z = length_pairs n ks vs in
      let low = p.low in
      place_by k at (pairs n ks vs) (omega (arith, low, z)) (λ h. let q : at < n = omega (arith, h, z) in key_at_lem at q ∙ p.there q)
      (λ i h e. p.first i h (sym (key_at_lem i (omega (arith, h, low))) ∙ e))

  stands_is : (w : ℕ) → Lent n ks vs → held_at w at n vs ≡ same (lookup k (pairs n ks vs)) (Some w)
  unfolding held_at rising
  stands_is w t =
      by_cases (ltb at n)
      (λ b.
      let h = ltb-true at n b in
      ap (λ (x : Cell). ltb at n && eqb x.val w) (sym (get_pairs n ks vs at h))
      ∙ ap (λ (m : ℕ). ltb at m && eqb (get_or (pairs n ks vs) at (cell 0 0)).val w) (sym (length_pairs n ks vs)) ∙ on)
      (λ b. rw b (sym (ap (λ (m : ℕ). ltb at m && eqb (get_or (pairs n ks vs) at (cell 0 0)).val w) (length_pairs n ks vs) ∙ rw b) ∙ on))
    where
      on : (ltb at (length (pairs n ks vs)) && eqb (get_or (pairs n ks vs) at (cell 0 0)).val w) ≡ same (lookup k (pairs n ks vs)) (Some w)
      on = ap (λ (j : ℕ). ltb j (length (pairs n ks vs)) && eqb (get_or (pairs n ks vs) j (cell 0 0)).val w) place_is
          ∙ lookup_place k w 0 (pairs n ks vs) t.rise

-- ---- one setting more

pub zero_refused : (b : Bool) (v : ℕ) → v ≡ 0 → false ≡ (b && leb 1 v)
zero_refused b v e = let h : v < 1 = omega (arith, e) in rw (lt-leb 1 v h) (and_false b)
  where
    and_false : (b : Bool) → false ≡ (b && false)
    and_false true = refl
    and_false false = refl

pub others_allowed : (b : Bool) (v : ℕ) → (v ≡ 0 → ⊥) → b ≡ (b && leb 1 v)
others_allowed b v f = rw (le-leb 1 v (positive v f)) (and_true b)
  where
    and_true : (b : Bool) → b ≡ (b && true)
    and_true true = refl
    and_true false = refl

    positive : (v : ℕ) → (v ≡ 0 → ⊥) → 1 ≤ v
    positive zero f = absurd (f refl)
    positive (suc v) f = omega arith

module _ (t : SoFar) (y : Cell) (b : Bool) (e : b ≡ (t.allowed && leb 1 y.key)) where
  setting_past : 96 ≤ length t.sets → record { named = t.named; allowed = b; more = true; sets = t.sets } ≡ with_setting t y
  unfolding with_setting
  setting_past h = rw (le-ltb (length t.sets) 96 h, e)

  setting_more : length t.sets < 96 → record { named = t.named; allowed = b; more = t.more; sets = t.sets ++ (y ∷ []) } ≡ with_setting t y
  unfolding with_setting
  setting_more h = rw (lt-ltb (length t.sets) 96 h, e)

-- ---- one record

module _ (p : Cells) (c : Compared) (valve word at next : ℕ) (t : Lent p.count p.keys p.vals) (w : PlaceIn valve p.count p.keys at)
    (b : Bool) (f : b ≡ held_at word at p.count p.vals) where
  -- the settings so far
  abbrev sets : List Cell
  sets = pairs c.count c.keys c.vals

  -- what was found so far, with its valve named
  abbrev named : SoFar
  named = record { named = set c.named at 1; allowed = c.allowed; more = c.more; sets = sets }

  named_is : named ≡ naming (listed p) valve (so_far c)
  unfolding naming
  named_is = ap (λ (j : ℕ). record { named = set c.named j 1; allowed = c.allowed; more = c.more; sets = sets }) (place_is p.count p.keys p.vals valve at w)

  told : (d : Bool) → b ≡ d → same (lookup valve (listed p)) (Some word) ≡ d
  told d z = sym (stands_is p.count p.keys p.vals valve at w word t) ∙ sym f ∙ z

  pub compare_same : b ≡ true → Comparing c
      → ComesTo (compared_with (listed p) (so_far c) (cell valve word))
      (record { named = set c.named at 1; next = next; allowed = c.allowed; more = c.more; count = c.count; keys = c.keys; vals = c.vals })
  unfolding compared_with
  compare_same z g = record { few = g.few; so = rw (told true z) named_is }

  module _ (z : b ≡ false) (d : Bool) (e : d ≡ (c.allowed && leb 1 valve)) where
    one_more : with_setting named (cell valve word) ≡ compared_with (listed p) (so_far c) (cell valve word)
    unfolding compared_with
    one_more = rw (told false z) (ap (λ (x : SoFar). with_setting x (cell valve word)) named_is)

    pub compare_past : 96 ≤ c.count → Comparing c
        → ComesTo (compared_with (listed p) (so_far c) (cell valve word))
        (record { named = set c.named at 1; next = next; allowed = d; more = true; count = c.count; keys = c.keys; vals = c.vals })
    compare_past h g =
        let l = length_pairs c.count c.keys c.vals in
        record { few = g.few; so = setting_past named (cell valve word) d e (omega (arith, l, h)) ∙ one_more }

    pub compare_more : c.count < 96 → length c.keys ≡ 96 → length c.vals ≡ 96
        → ComesTo (compared_with (listed p) (so_far c) (cell valve word))
        (record {
          named = set c.named at 1;
          next = next;
          allowed = d;
          more = c.more;
          count = c.count + 1;
          keys = set c.keys c.count valve;
          vals = set c.vals c.count word;
        })
    compare_more h l m =
        let y = length_pairs c.count c.keys c.vals in
        let x = pairs_snoc c.count c.keys c.vals valve word (omega (arith, h, l)) (omega (arith, h, m)) in
        record {
          few = omega (arith, h);
          so = ap (λ (r : List Cell). record { named = set c.named at 1; allowed = d; more = c.more; sets = r }) x
              ∙ setting_more named (cell valve word) d e (omega (arith, y, h)) ∙ one_more;
        }

-- ---- the group

module _ (s : List Setting) (t : SoFar) where
  pub group_more : t.more ≡ true → Kept 0 too_many (group_of s t)
  unfolding group_of
  group_more e = record { few = omega arith; so = rw e }

  pub group_whole : (k : ℕ) (r : LimitedGroup) → t.more ≡ false → (a : List Cell) (n : ℕ) → Kept n a (unnamed t.named s) → Kept k r (limited (a ++ t.sets)) → Kept k r (group_of s t)
  unfolding group_of
  group_whole k r e a n h g = record { few = g.few; so = rw e (g.so ∙ ap (λ (l : List Cell). limited (l ++ t.sets)) h.so) }
