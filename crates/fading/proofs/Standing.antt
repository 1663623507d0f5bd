-- Pages that stand in a medium, in serial order: runs of them are one if their serials are, and the greatest serial bounds them all.
use mathlib.Core.Path.{◌≡◌, refl, sym, ap, ap₂, ◌∙◌}
use mathlib.Core.Logic.{inl, inr}
use mathlib.Core.Bool.{Bool, true, false, cond}
use Rattle.std.proofs.Common.{Option, None, Some}
use mathlib.Core.List.{List, [], ◌∷◌, ◌++◌}
use Prim.Native.Nat.{ℕ, zero, suc, ◌+◌, ◌≤◌, ◌<◌}
use native.Mathlib.Omega.{arith}
use lib.ListN.{length, drop}
use lib.Dec.{leb, ltb, eqb}
use borrow.Author.Tests.{ltb-true, leb-true, leb-false, eqb-true, eqb-false, not-true, lt-ltb}
use Rattle.lists.specs.Lists.{all, keep, is_some}
use Rattle.lists.proofs.Laws.{by_cases, and_l, and_r, all_head, all_tail, all_cons, all_keep, opposite, true_false}
use Rattle.page.specs.Pages.{Page, View, clean, spoilt, whole, is_whole}
use Rattle.page.specs.Rules.{lawful}
use Rattle.flash.specs.Medium.{seen}
use Rattle.blocks.specs.Blocks.{reaches_base}
use Rattle.recovery.specs.Recovery.{Placed, placed, serial_of, wholes, all_lawful, other_serial, distinct, insert, sort, last_of, no_page, starts_group, base_of, reaches, from, consecutive}
use Rattle.valve_log.proofs.Order.{below, all_sort, upto, sort_split, last_append, thin_distinct}
use Rattle.valve_log.proofs.Views.{Lost, thin_of}

-- ---- the whole pages of a medium, page by page

pub not_whole : {P : Type 0} {x : Page} (u : View) → is_whole u ≡ false → u ≡ whole x → P
unfolding is_whole
not_whole clean p q = let z : ◌≡◌ {A = ℕ} 0 1 = cc in absurd (omega arith)
not_whole spoilt p q = let z : ◌≡◌ {A = ℕ} 0 1 = cc in absurd (omega arith)
not_whole (whole y) p q = true_false refl p

shift : (n q : ℕ) → suc n + q ≡ n + suc q
shift n q = omega arith

zero_left : (q : ℕ) → 0 + q ≡ q
zero_left q = omega arith

zero_right : (n : ℕ) → n ≡ n + 0
zero_right n = omega arith

-- a test that holds of each holds of all
all_from : (f : Placed → Bool) (n : ℕ) (v : List View) → ((q : ℕ) (y : Page) → seen v q ≡ whole y → f (placed (n + q) y) ≡ true) → all f (wholes n v) ≡ true
unfolding wholes seen
all_from f n [] h = unfold all in refl
all_from f n (clean ∷ v) h = all_from f (suc n) v (λ q y e. rw (shift n q) (h (suc q) y e))
all_from f n (spoilt ∷ v) h = all_from f (suc n) v (λ q y e. rw (shift n q) (h (suc q) y e))
all_from f n (whole pg ∷ v) h =
    all_cons f (placed n pg) (wholes (suc n) v) (rw (zero_right n) (h 0 pg refl)) (all_from f (suc n) v (λ q y e. rw (shift n q) (h (suc q) y e)))

pub all_pages : (f : Placed → Bool) (v : List View) → ((q : ℕ) (y : Page) → seen v q ≡ whole y → f (placed q y) ≡ true) → all f (wholes 0 v) ≡ true
all_pages f v h = all_from f 0 v (λ q y e. rw (zero_left q) (h q y e))

-- and the other way round
at_from : (f : Placed → Bool) (n q : ℕ) (v : List View) (y : Page) → all f (wholes n v) ≡ true → seen v q ≡ whole y → f (placed (n + q) y) ≡ true
unfolding wholes seen
at_from f n q [] y a e = not_whole spoilt (unfold is_whole in refl) e
at_from f n zero (clean ∷ v) y a e = not_whole clean (unfold is_whole in refl) e
at_from f n zero (spoilt ∷ v) y a e = not_whole spoilt (unfold is_whole in refl) e
at_from f n zero (whole pg ∷ v) y a e = let p : pg ≡ y = cc in rw (← zero_right n, ← p) (all_head f (placed n pg) (wholes (suc n) v) a)
at_from f n (suc q) (clean ∷ v) y a e = rw (← shift n q) (at_from f (suc n) q v y a e)
at_from f n (suc q) (spoilt ∷ v) y a e = rw (← shift n q) (at_from f (suc n) q v y a e)
at_from f n (suc q) (whole pg ∷ v) y a e = rw (← shift n q) (at_from f (suc n) q v y (all_tail f (placed n pg) (wholes (suc n) v) a) e)

pub at_page : (f : Placed → Bool) (q : ℕ) (v : List View) (y : Page) → all f (wholes 0 v) ≡ true → seen v q ≡ whole y → f (placed q y) ≡ true
at_page f q v y a e = rw (zero_left q) at (at_from f 0 q v y a e)

-- ---- two pages of one serial are one page

distinct_tail : (n : ℕ) (u : View) (v : List View) → distinct (wholes n (u ∷ v)) ≡ true → distinct (wholes (suc n) v) ≡ true
unfolding wholes distinct
distinct_tail n clean v d = d
distinct_tail n spoilt v d = d
distinct_tail n (whole pg) v d = and_r (all (other_serial pg.serial) (wholes (suc n) v)) (distinct (wholes (suc n) v)) d

distinct_head : (n : ℕ) (u : View) (v : List View) (x : Page) → u ≡ whole x → distinct (wholes n (u ∷ v)) ≡ true → all (other_serial x.serial) (wholes (suc n) v) ≡ true
unfolding wholes distinct
distinct_head n clean v x e d = not_whole clean (unfold is_whole in refl) e
distinct_head n spoilt v x e d = not_whole spoilt (unfold is_whole in refl) e
distinct_head n (whole pg) v x e d = let p : pg ≡ x = cc in rw (← p) (and_l (all (other_serial pg.serial) (wholes (suc n) v)) (distinct (wholes (suc n) v)) d)

other_not : (s : ℕ) (x : Placed) → other_serial s x ≡ true → serial_of x ≡ s → ⊥
unfolding other_serial
other_not s x o e = eqb-false (serial_of x) s (not-true (eqb (serial_of x) s) o) e

two : {P : Type 0} (n q : ℕ) (u : View) (v : List View) (x y : Page) → distinct (wholes n (u ∷ v)) ≡ true → u ≡ whole x → seen v q ≡ whole y → y.serial ≡ x.serial → P
two n q u v x y d a b s =
    let o : other_serial x.serial (placed (suc n + q) y) ≡ true = at_from (other_serial x.serial) (suc n) q v y (distinct_head n u v x a d) b in
    absurd (other_not x.serial (placed (suc n + q) y) o s)

distinct_at : (n p q : ℕ) (v : List View) (x y : Page) → distinct (wholes n v) ≡ true → seen v p ≡ whole x → seen v q ≡ whole y → x.serial ≡ y.serial → p ≡ q
unfolding seen
distinct_at n p q [] x y d a b s = not_whole spoilt (unfold is_whole in refl) a
distinct_at n zero zero (u ∷ v) x y d a b s = refl
distinct_at n zero (suc q) (u ∷ v) x y d a b s = two n q u v x y d a (unfold seen in b) (sym s)
distinct_at n (suc p) zero (u ∷ v) x y d a b s = two n p u v y x d b (unfold seen in a) s
distinct_at n (suc p) (suc q) (u ∷ v) x y d a b s = ap suc (distinct_at (suc n) p q v x y (distinct_tail n u v d) a b s)

same_page : (v : List View) (x y : Placed) → distinct (wholes 0 v) ≡ true → seen v x.at ≡ whole x.page → seen v y.at ≡ whole y.page → serial_of x ≡ serial_of y → x ≡ y
same_page v x y d a b s =
    let e : x.at ≡ y.at = distinct_at 0 x.at y.at v x.page y.page d a b s in
    let f : whole x.page ≡ whole y.page = sym a ∙ ap (seen v) e ∙ b in
    let g : x.page ≡ y.page = cc in
    ap₂ placed e g

-- ---- lists of pages that stand in a medium

pub data AllStand (v : List View) : List Placed → Type 0 where
  nil : AllStand v []
  cons : {x : Placed} {l : List Placed} → seen v x.at ≡ whole x.page → AllStand v l → AllStand v (x ∷ l)

standing_insert : {v : List View} (x : Placed) (l : List Placed) → seen v x.at ≡ whole x.page → AllStand v l → AllStand v (insert x l)
unfolding insert
standing_insert x [] p nil = cons p nil
standing_insert x (y ∷ l) p (cons q s) = by_cases (ltb (serial_of x) (serial_of y)) (λ e. rw e (cons p (cons q s))) (λ e. rw e (cons q (standing_insert x l p s)))

pub standing_sort : {v : List View} (l : List Placed) → AllStand v l → AllStand v (sort l)
unfolding sort
standing_sort [] nil = nil
standing_sort (x ∷ l) (cons p s) = standing_insert x (sort l) p (standing_sort l s)

pub standing_from : {v : List View} (b : ℕ) (l : List Placed) → AllStand v l → AllStand v (from b l)
unfolding from keep
standing_from b [] nil = nil
standing_from b (x ∷ l) (cons p s) = by_cases (reaches b x) (λ e. rw e (cons p (standing_from b l s))) (λ e. rw e (standing_from b l s))

pub standing_drop : {v : List View} (n : ℕ) (l : List Placed) → AllStand v l → AllStand v (drop n l)
standing_drop zero l s = s
standing_drop (suc n) [] nil = nil
standing_drop (suc n) (x ∷ l) (cons p s) = standing_drop n l s

-- the whole pages of u, where each of them stands in v too
unfoldable pub Within : List View → List View → Type 0
Within u v = (q : ℕ) (y : Page) → seen u q ≡ whole y → seen v q ≡ whole y

pub to_within : (u v : List View) → ((q : ℕ) (y : Page) → seen u q ≡ whole y → seen v q ≡ whole y) → Within u v
unfolding Within
to_within u v f = f

pub at_within : (u v : List View) → Within u v → (q : ℕ) (y : Page) → seen u q ≡ whole y → seen v q ≡ whole y
unfolding Within
at_within u v w = w

standing_wholes : (v : List View) (n : ℕ) (u : List View) → ((q : ℕ) (y : Page) → seen u q ≡ whole y → seen v (n + q) ≡ whole y) → AllStand v (wholes n u)
unfolding wholes seen
standing_wholes v n [] h = nil
standing_wholes v n (clean ∷ u) h = standing_wholes v (suc n) u (λ q y e. rw (shift n q) (h (suc q) y e))
standing_wholes v n (spoilt ∷ u) h = standing_wholes v (suc n) u (λ q y e. rw (shift n q) (h (suc q) y e))
standing_wholes v n (whole pg ∷ u) h = cons {x = placed n pg} (rw (zero_right n) (h 0 pg refl)) (standing_wholes v (suc n) u (λ q y e. rw (shift n q) (h (suc q) y e)))

pub standing_within : (u v : List View) → Within u v → AllStand v (wholes 0 u)
unfolding Within
standing_within u v w = standing_wholes v 0 u (λ q y e. rw (zero_left q) (w q y e))

-- page by page: the same, or one below the serial b that is gone
pub lost_of : (b : ℕ) (x y : View) → ((pg : Page) → y ≡ whole pg → x ≡ whole pg) → ((pg : Page) → x ≡ whole pg → b ≤ pg.serial → y ≡ whole pg) → Lost b x y
unfolding Lost reaches_base is_whole
lost_of b x (whole pg) f g = inl (sym (f pg refl))
lost_of b clean clean f g = inl refl
lost_of b spoilt clean f g = inr (refl, refl)
lost_of b clean spoilt f g = inr (refl, refl)
lost_of b spoilt spoilt f g = inl refl
lost_of b (whole pg) clean f g = by_cases (leb b pg.serial) (λ e. not_whole clean (unfold is_whole in refl) (g pg refl (leb-true b pg.serial e))) (λ e. inr (e, refl))
lost_of b (whole pg) spoilt f g = by_cases (leb b pg.serial) (λ e. not_whole spoilt (unfold is_whole in refl) (g pg refl (leb-true b pg.serial e))) (λ e. inr (e, refl))

-- two runs of the same serials are one
pub run_same : (v : List View) (s : ℕ) (a b : List Placed) → distinct (wholes 0 v) ≡ true → consecutive s a ≡ true → consecutive s b ≡ true → length a ≡ length b → AllStand v a → AllStand v b → a ≡ b
unfolding consecutive
run_same v s [] [] d p q n f g = refl
run_same v s [] (y ∷ b) d p q n f g = absurd (omega arith)
run_same v s (x ∷ a) [] d p q n f g = absurd (omega arith)
run_same v s (x ∷ a) (y ∷ b) d p q n (cons f fs) (cons g gs) =
    let i : serial_of x ≡ s = eqb-true (serial_of x) s (and_l (eqb (serial_of x) s) (consecutive (suc s) a) p) in
    let j : serial_of y ≡ s = eqb-true (serial_of y) s (and_l (eqb (serial_of y) s) (consecutive (suc s) b) q) in
    ap₂ ◌∷◌ (same_page v x y d f g (i ∙ sym j))
    (run_same v (suc s) a b d (and_r (eqb (serial_of x) s) (consecutive (suc s) a) p) (and_r (eqb (serial_of y) s) (consecutive (suc s) b) q) (omega arith) fs gs)

-- ---- the greatest serial

-- one more than it: recovery's next serial
unfoldable pub next_serial : List View → ℕ
next_serial v = suc (serial_of (last_of no_page (sort (wholes 0 v))))

pub next_is : (v : List View) → next_serial v ≡ suc (serial_of (last_of no_page (sort (wholes 0 v))))
unfolding next_serial
next_is v = refl

last_all : (f : Placed → Bool) (d : Placed) (l : List Placed) → f d ≡ true → all f l ≡ true → f (last_of d l) ≡ true
unfolding last_of
last_all f d [] p q = p
last_all f d (x ∷ l) p q = last_all f x l (all_head f x l q) (all_tail f x l q)

insert_some : {P : Type 0} (x : Placed) (l : List Placed) → insert x l ≡ [] → P
unfolding insert
insert_some x [] e = let z : ◌≡◌ {A = ℕ} 0 1 = cc in absurd (omega arith)
insert_some x (y ∷ l) e =
    by_cases (ltb (serial_of x) (serial_of y)) (λ f. let g : x ∷ y ∷ l ≡ [] = rw f at e in let z : ◌≡◌ {A = ℕ} 0 1 = cc in absurd (omega arith))
    (λ f. let g : y ∷ insert x l ≡ [] = rw f at e in let z : ◌≡◌ {A = ℕ} 0 1 = cc in absurd (omega arith))

sort_none : (l : List Placed) → sort l ≡ [] → l ≡ []
unfolding sort
sort_none [] e = refl
sort_none (x ∷ l) e = insert_some x (sort l) e

from_none : (b : ℕ) (l : List Placed) → from b l ≡ [] → all (opposite (reaches b)) l ≡ true
unfolding from keep opposite
from_none b [] e = unfold all in refl
from_none b (x ∷ l) e =
    by_cases (reaches b x) (λ f. let g : x ∷ keep (reaches b) l ≡ [] = rw f at e in let z : ◌≡◌ {A = ℕ} 0 1 = cc in absurd (omega arith))
    (λ f. all_cons (opposite (reaches b)) x l (unfold opposite in rw f) (from_none b l (rw f at e)))

pub not_reached : (b : ℕ) (x : Placed) → opposite (reaches b) x ≡ true → serial_of x < b
unfolding opposite reaches
not_reached b x e = leb-false b (serial_of x) (not-true (leb b (serial_of x)) e)

is_reached : (b : ℕ) (x : Placed) → reaches b x ≡ true → b ≤ serial_of x
unfolding reaches
is_reached b x e = leb-true b (serial_of x) e

-- every whole page has a lower serial
pub below_next : (v : List View) (q : ℕ) (y : Page) → seen v q ≡ whole y → y.serial < next_serial v
below_next v q y e = go (sort (from y.serial (wholes 0 v))) refl
  where
    reach : all (reaches y.serial) (sort (from y.serial (wholes 0 v))) ≡ true
    reach = all_sort (reaches y.serial) (from y.serial (wholes 0 v)) (unfold from in all_keep (reaches y.serial) (wholes 0 v))

    go : (l : List Placed) → sort (from y.serial (wholes 0 v)) ≡ l → y.serial < next_serial v
    go [] k =
        let o : opposite (reaches y.serial) (placed q y) ≡ true =
        at_page (opposite (reaches y.serial)) q v y (from_none y.serial (wholes 0 v) (sort_none (from y.serial (wholes 0 v)) k)) e in
        let h : y.serial < y.serial = not_reached y.serial (placed q y) o in
        absurd (omega arith)
    go (x ∷ l) k =
        let a : all (reaches y.serial) (x ∷ l) ≡ true = rw k at reach in
        let s : sort (wholes 0 v) ≡ sort (upto y.serial (wholes 0 v)) ++ (x ∷ l) = sort_split y.serial (wholes 0 v) ∙ ap (λ (m : List Placed). sort (upto y.serial (wholes 0 v)) ++ m) k in
        let t : last_of no_page (sort (wholes 0 v)) ≡ last_of x l = ap (last_of no_page) s ∙ last_append no_page (sort (upto y.serial (wholes 0 v))) (x ∷ l) ∙ (unfold last_of in refl) in
        let r : y.serial ≤ serial_of (last_of x l) =
        is_reached y.serial (last_of x l) (last_all (reaches y.serial) x l (all_head (reaches y.serial) x l a) (all_tail (reaches y.serial) x l a)) in
        omega (arith, next_is v, ap serial_of t)

-- and it is the least such number
pub next_most : (k : ℕ) (v : List View) → 1 ≤ k → ((q : ℕ) (y : Page) → seen v q ≡ whole y → y.serial < k) → next_serial v ≤ k
unfolding next_serial
next_most k v o h =
    ltb-true (serial_of (last_of no_page (sort (wholes 0 v)))) k
    (unfold below in last_all (below k) no_page (sort (wholes 0 v)) (unfold below no_page in lt-ltb 0 k o)
    (all_sort (below k) (wholes 0 v) (all_pages (below k) v (λ q y e. unfold below in lt-ltb y.serial k (h q y e)))))

pub next_within : (u v : List View) → Within u v → next_serial u ≤ next_serial v
next_within u v w = next_most (next_serial v) u (omega (arith, next_is v)) (λ q y k. below_next v q y (at_within u v w q y k))

-- pages with serials of their own still have them where some are gone
pub distinct_within : (u v : List View) → length u ≡ length v → Within u v → distinct (wholes 0 v) ≡ true → distinct (wholes 0 u) ≡ true
distinct_within u v l w d = thin_distinct (thin_of (next_serial v) 0 v u l (λ q. lost_of (next_serial v) (seen v q) (seen u q) (λ pg e. at_within u v w q pg e) (λ pg e k. above q pg e k))) d
  where
    above : (q : ℕ) (pg : Page) → seen v q ≡ whole pg → next_serial v ≤ pg.serial → seen u q ≡ whole pg
    above q pg e k = absurd (omega (arith, below_next v q pg e))

pub lawful_within : (u v : List View) → Within u v → all_lawful (wholes 0 v) ≡ true → all_lawful (wholes 0 u) ≡ true
unfolding all_lawful
lawful_within u v w a = all_pages (λ x. lawful x.page) u (λ q y e. at_page (λ x. lawful x.page) q v y a (at_within u v w q y e))

-- ---- the base

some_is : (a b : ℕ) → Some a ≡ Some b → a ≡ b
some_is a b e = cc

-- pages before the base's first do not matter
base_past : (x : Placed) (l : List Placed) (b : ℕ) → serial_of x < b → base_of (x ∷ l) ≡ Some b → base_of l ≡ Some b
unfolding base_of is_some
base_past x l b h e = go (base_of l) (starts_group 2 (x ∷ l)) e
  where
    go : (o : Option ℕ) (g : Bool) → cond (is_some o) o (cond g (Some (serial_of x)) None) ≡ Some b → o ≡ Some b
    go (Some c) g k = k
    go None true k = let z = some_is (serial_of x) b k in absurd (omega arith)
    go None false k = k

pub base_right : (b : ℕ) (l r : List Placed) → all (opposite (reaches b)) l ≡ true → base_of (l ++ r) ≡ Some b → base_of r ≡ Some b
base_right b [] r p e = e
base_right b (x ∷ l) r p e =
    let h : serial_of x < b = not_reached b x (all_head (opposite (reaches b)) x l p) in
    base_right b l r (all_tail (opposite (reaches b)) x l p) (base_past x (l ++ r) b h e)
