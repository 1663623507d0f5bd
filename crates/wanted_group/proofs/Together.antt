-- The wanted records compared with the present settings one after the other come to the group: what no record has named is removed, what
-- does not stand so is set.
use mathlib.Core.Path.{◌≡◌, refl, sym, ap, ◌∙◌}
use mathlib.Core.Bool.{Bool, true, false, cond, ◌&&◌}
use mathlib.Core.List.{List, [], ◌∷◌, ◌++◌, append-nil}
use Prim.Native.Nat.{ℕ, zero, suc, ◌+◌, ◌≤◌, ◌<◌}
use native.Mathlib.Omega.{arith}
use lib.ListN.{length, set, replicate, length-append, length-set}
use lib.Seq.{append_snoc}
use lib.Dec.{leb, ltb, eqb}
use borrow.Author.Tests.{lt-ltb, le-ltb, lt-leb, eq-eqb, ne_eqb, ltb-true, ltb-false}
use Rattle.lists.specs.declared.Cell.{Cell}
use Rattle.lists.specs.Lists.{is_some, all}
use Rattle.lists.specs.Cells.{Setting}
use Rattle.lists.proofs.Laws.{by_cases, by_eq, all_head, all_tail}
use Rattle.index.specs.Index.{lookup, rising_from, rising, entry_allowed, entries_allowed}
use Rattle.index.proofs.Rising.{rising_head, rising_tail}
use Rattle.index.proofs.Lookup.{lookup_here, lookup_past, lookup_none, lookup_other}
use Rattle.wanted_group.specs.Group.{is_valve, removals_for, settings_for, group_for}
use Rattle.wanted_group.specs.Limited.{limited}
use Rattle.wanted_group.specs.Compare.{SoFar, not_compared, place_of, naming, with_setting, compared_with, compared_all, unnamed, group_of}
use Rattle.wanted_group.proofs.Leads.{removal, stands, settings_same, settings_new}
use Rattle.wanted_group.proofs.Eleven.{setting_ok, ok_none, group_settings}

-- ---- removals

-- the removals of the settings whose flag is 0 and that are not among w either
unfoldable unnamed_but : List ℕ → List Setting → List Setting → List Cell
unnamed_but fs [] w = []
unnamed_but [] (x ∷ xs) w = []
unnamed_but (f ∷ fs) (x ∷ xs) w = cond (eqb f 0) (cond (is_some (lookup x.key w)) (unnamed_but fs xs w) (removal x ∷ unnamed_but fs xs w)) (unnamed_but fs xs w)

either_same : {A : Type 0} (b : Bool) (x : A) → x ≡ cond b x x
either_same true x = refl
either_same false x = refl

-- a wanted valve below those of a list does not matter to it
left_above : (y : Cell) (ys s : List Cell) (fs : List ℕ) (n : ℕ) → y.key < n → rising_from n s ≡ true → unnamed_but fs s ys ≡ unnamed_but fs s (y ∷ ys)
unfolding unnamed_but
left_above y ys [] fs n h r = refl
left_above y ys (x ∷ xs) [] n h r = refl
left_above y ys (x ∷ xs) (f ∷ fs) n h r =
    let a = rising_head n x xs r in
    let p = lookup_past x.key y ys (omega (arith, a, h)) in
    let q = left_above y ys xs fs (suc x.key) (omega (arith, a, h)) (rising_tail n x xs r) in
    rw (p, q)

-- a record that has named a valve, and one that still comes
one_named : (y : Cell) (ys s : List Cell) (fs : List ℕ) (n : ℕ) → rising_from n s ≡ true → rising_from (suc y.key) ys ≡ true → length s ≤ length fs
    → unnamed_but (set fs (place_of y.key s) 1) s ys ≡ unnamed_but fs s (y ∷ ys)
unfolding unnamed_but place_of is_some
one_named y ys [] fs n r q h = refl
one_named y ys (x ∷ xs) [] n r q h = absurd (omega (arith, h))
one_named y ys (x ∷ xs) (f ∷ fs) n r q h =
    let on = rising_tail n x xs r in
    by_eq x.key y.key
    (λ e. rw (eq-eqb x.key y.key e, lookup_here x.key y ys e)
    (left_above y ys xs fs (suc x.key) (omega (arith, e)) on ∙ either_same (eqb f 0) (unnamed_but fs xs (y ∷ ys))))
    (λ e.
    let p = lookup_other x.key y ys q e in
    let on-rest = one_named y ys xs fs (suc x.key) on q (omega (arith, h)) in
    rw (ne_eqb x.key y.key e, p, on-rest))

none_left : (fs : List ℕ) (s : List Cell) → unnamed fs s ≡ unnamed_but fs s []
unfolding unnamed unnamed_but is_some
none_left fs [] = refl
none_left [] (x ∷ xs) = refl
none_left (f ∷ fs) (x ∷ xs) = rw (lookup_none x.key, none_left fs xs)

-- none named yet
all_left : (s w : List Cell) (m : ℕ) → length s ≤ m → unnamed_but (replicate m 0) s w ≡ removals_for s w
unfolding unnamed_but removals_for
all_left [] w m h = refl
all_left (x ∷ xs) w zero h = absurd (omega (arith, h))
all_left (x ∷ xs) w (suc m) h = rw (all_left xs w m (omega (arith, h)))

named_with : (s : List Cell) (t : SoFar) (y : Cell) → (compared_with s t y).named ≡ set t.named (place_of y.key s) 1
unfolding compared_with with_setting naming
named_with s t y =
    by_cases (stands s y) (λ b. rw b) (λ b. rw b (by_cases (ltb (length t.sets) 96) (λ d. rw d) (λ d. rw d)))

removals_are : (s : List Cell) (t : SoFar) (w : List Cell) (n : ℕ) → rising s ≡ true → rising_from n w ≡ true → length s ≤ length t.named
    → unnamed (compared_all s t w).named s ≡ unnamed_but t.named s w
unfolding compared_all rising
removals_are s t [] n r q h = none_left t.named s
removals_are s t (y ∷ ys) n r q h =
    let e = named_with s t y in
    let l = ap length e ∙ length-set t.named (place_of y.key s) 1 in
    let on = rising_tail n y ys q in
    removals_are s (compared_with s t y) ys (suc y.key) r on (omega (arith, h, l))
    ∙ ap (λ (fs : List ℕ). unnamed_but fs s ys) e ∙ one_named y ys s t.named 0 r on h

-- ---- settings

-- what is known of the settings so far, of which l is the list
record Sets (l : List Cell) (t : SoFar) : Type 0 where
  more : t.more ≡ ltb 96 (length l)
  whole : length l ≤ 96 → t.sets ≡ l
  full : 96 ≤ length l → length t.sets ≡ 96
  allowed : t.allowed ≡ entries_allowed l

allowed_snoc : (l : List Cell) (y : Cell) → is_valve y ≡ true → (entries_allowed l && leb 1 y.key) ≡ entries_allowed (l ++ (y ∷ []))
unfolding entries_allowed all
allowed_snoc [] y v = let e = setting_ok y v in rw e (and_true (leb 1 y.key))
  where
    and_true : (b : Bool) → b ≡ (b && true)
    and_true true = refl
    and_true false = refl
allowed_snoc (x ∷ l) y v = by_cases (entry_allowed x) (λ b. rw b (allowed_snoc l y v)) (λ b. rw b)

one_more : (l : List Cell) (t : SoFar) (y : Cell) → is_valve y ≡ true → Sets l t → Sets (l ++ (y ∷ [])) (with_setting t y)
unfolding with_setting
one_more l t y v g =
    let z = length-append l (y ∷ []) in
    let ok = ap (λ (b : Bool). b && leb 1 y.key) g.allowed ∙ allowed_snoc l y v in
    by_cases (ltb (length l) 96)
    (λ b.
    let h = ltb-true (length l) 96 b in
    let e = g.whole (omega (arith, h)) in
    let f : length t.sets < 96 = let d = ap length e in omega (arith, d, h) in
    rw (lt-ltb (length t.sets) 96 f)
    (record {
      more = let low : length l ≤ 96 = omega (arith, h) in let up : length (l ++ (y ∷ [])) ≤ 96 = omega (arith, z, h) in
          g.more ∙ le-ltb 96 (length l) low ∙ sym (le-ltb 96 (length (l ++ (y ∷ []))) up);
      whole = λ k. ap (λ (x : List Cell). x ++ (y ∷ [])) e;
      full = λ k. let d = ap length e in let q = length-append t.sets (y ∷ []) in omega (arith, d, q, z, k, h);
      allowed = ok;
    }))
    (λ b.
    let h = ltb-false (length l) 96 b in
    let e = g.full h in
    let f : 96 ≤ length t.sets = omega (arith, e) in
    rw (le-ltb (length t.sets) 96 f)
    (record {
      more = let up : 96 < length (l ++ (y ∷ [])) = omega (arith, z, h) in sym (lt-ltb 96 (length (l ++ (y ∷ []))) up);
      whole = λ k. absurd (omega (arith, z, h, k));
      full = λ k. e;
      allowed = ok;
    }))

named_only : (s l : List Cell) (k : ℕ) (t : SoFar) → Sets l t → Sets l (naming s k t)
unfolding naming
named_only s l k t g = record { more = g.more; whole = g.whole; full = g.full; allowed = g.allowed }

sets_are : (s l : List Cell) (t : SoFar) (w : List Cell) → all is_valve w ≡ true → Sets l t → Sets (l ++ settings_for s w) (compared_all s t w)
unfolding compared_all
sets_are s l t [] v g = let e : l ≡ l ++ settings_for s [] = sym (append-nil l) ∙ (unfold settings_for in refl) in rw e at g
sets_are s l t (y ∷ ys) v g =
    let on = all_tail is_valve y ys v in
    by_cases (stands s y)
    (λ b.
    let e : compared_with s t y ≡ naming s y.key t = (unfold compared_with in rw b) in
    rw (e, settings_same s y ys b) (sets_are s l (naming s y.key t) ys on (named_only s l y.key t g)))
    (λ b.
    let e : compared_with s t y ≡ with_setting (naming s y.key t) y = (unfold compared_with in rw b) in
    rw (e, settings_new s y ys b, ← append_snoc l y (settings_for s ys))
    (sets_are s (l ++ (y ∷ [])) (with_setting (naming s y.key t) y) ys on
    (one_more l (naming s y.key t) y (all_head is_valve y ys v) (named_only s l y.key t g))))

-- ---- the group, and whether condition 11 takes it, all of it

module _ (s w : List Setting) (r : rising s ≡ true) (q : rising w ≡ true) (v : all is_valve w ≡ true) (h : length s ≤ 192) where
  abbrev t : SoFar
  t = compared_all s not_compared w

  found : Sets (settings_for s w) t
  unfolding not_compared
  found = sets_are s [] not_compared w v (record { more = refl; whole = λ k. refl; full = λ k. absurd (omega (arith, k)); allowed = sym ok_none })

  gone : unnamed t.named s ≡ removals_for s w
  unfolding not_compared rising
  gone = removals_are s not_compared w 0 r q (omega (arith, h)) ∙ all_left s w 193 (omega (arith, h))

  pub compared_allowed : t.allowed ≡ entries_allowed (group_for s w)
  compared_allowed = found.allowed ∙ sym (group_settings s w)

  pub compared_group : group_of s t ≡ limited (group_for s w)
  unfolding group_of group_for limited
  compared_group =
      by_cases (ltb 96 (length (settings_for s w)))
      (λ b.
      let z = length-append (removals_for s w) (settings_for s w) in
      let k = ltb-true 96 (length (settings_for s w)) b in
      let big : 96 < length (removals_for s w ++ settings_for s w) = omega (arith, z, k) in
      rw (found.more, b, lt-leb _ _ big))
      (λ b.
      let k = ltb-false 96 (length (settings_for s w)) b in
      rw (found.more, b, gone, found.whole k))
