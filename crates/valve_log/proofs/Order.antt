-- Laws of sorting by serial, of serials that rise by one, of the walk and of the search for the base.
use mathlib.Core.Path.{◌≡◌, refl}
use mathlib.Core.Bool.{Bool, true, false, not, ◌&&◌, ◌||◌}
use Rattle.std.proofs.Common.{None, Some}
use mathlib.Core.List.{List, [], ◌∷◌, ◌++◌}
use Prim.Native.Nat.{ℕ, suc, ◌+◌, ◌≤◌, ◌<◌}
use native.Mathlib.Omega.{arith}
use lib.ListN.{length}
use lib.Dec.{leb, ltb, eqb}
use borrow.Author.Tests.{ltb-true, leb-true, leb-false, eqb-true, not-true, lt-ltb, le-ltb, le-leb, lt-leb, eq-eqb, ne_eqb}
use Rattle.lists.specs.Lists.{all, every, keep, is_some}
use Rattle.lists.proofs.Laws.{by_cases, and_l, and_r, and_both, all_head, all_tail, all_cons, all_weaken, keep_append, keep_all, all_keep, opposite, keep_none}
use Rattle.page.specs.Pages.{begins, ends}
use Rattle.recovery.specs.Recovery.{Placed, serial_of, kind_of, other_serial, distinct, insert, sort, last_of, goes_on, starts_group, base_of, reaches, from, consecutive, Walk, enter, walk}

-- ---- one page more, with the greatest serial

unfoldable pub below : ℕ → Placed → Bool
below n x = ltb (serial_of x) n

-- the second list is the first with x put in somewhere
pub data Grow (x : Placed) : List Placed → List Placed → Type 0 where
  here : {l : List Placed} → Grow x l (x ∷ l)
  there : {y : Placed} {l m : List Placed} → Grow x l m → Grow x (y ∷ l) (y ∷ m)

pub grow_all : (f : Placed → Bool) {x : Placed} {l m : List Placed} → Grow x l m → f x ≡ true → all f l ≡ true → all f m ≡ true
grow_all f {x} (here {l = l}) p q = all_cons f x l p q
grow_all f (there {y = y} {l = l} {m = m} g) p q = all_cons f y m (all_head f y l q) (grow_all f g p (all_tail f y l q))

pub grow_from : (b : ℕ) {x : Placed} {l m : List Placed} → Grow x l m → b ≤ serial_of x → Grow x (from b l) (from b m)
unfolding from keep reaches
grow_from b {x} (here {l = l}) h = rw (le-leb b (serial_of x) h) here
grow_from b {x} (there {y = y} {l = l} {m = m} g) h =
    by_cases (leb b (serial_of y)) (λ e. rw e (there (grow_from b g h))) (λ e. rw e (grow_from b g h))

all_insert : (f : Placed → Bool) (x : Placed) (l : List Placed) → f x ≡ true → all f l ≡ true → all f (insert x l) ≡ true
unfolding insert
all_insert f x [] p q = all_cons f x [] p q
all_insert f x (y ∷ l) p q =
    by_cases (ltb (serial_of x) (serial_of y)) (λ e. rw e (all_cons f x (y ∷ l) p q)) (λ e. rw e (all_cons f y (insert x l) (all_head f y l q) (all_insert f x l p (all_tail f y l q))))

pub all_sort : (f : Placed → Bool) (l : List Placed) → all f l ≡ true → all f (sort l) ≡ true
unfolding sort
all_sort f [] p = p
all_sort f (x ∷ l) p = all_insert f x (sort l) (all_head f x l p) (all_sort f l (all_tail f x l p))

insert_last : (x : Placed) (l : List Placed) → all (below (serial_of x)) l ≡ true → insert x l ≡ l ++ (x ∷ [])
unfolding insert below
insert_last x [] p = refl
insert_last x (y ∷ l) p =
    let h : serial_of y < serial_of x = ltb-true (serial_of y) (serial_of x) (all_head (below (serial_of x)) y l p) in
    rw (le-ltb (serial_of x) (serial_of y) (omega arith), insert_last x l (all_tail (below (serial_of x)) y l p))

insert_snoc : (y x : Placed) (l : List Placed) → serial_of y < serial_of x → insert y (l ++ (x ∷ [])) ≡ insert y l ++ (x ∷ [])
unfolding insert
insert_snoc y x [] h = rw (lt-ltb (serial_of y) (serial_of x) h)
insert_snoc y x (z ∷ l) h = by_cases (ltb (serial_of y) (serial_of z)) (λ e. rw e) (λ e. rw (e, insert_snoc y x l h))

pub grow_sort : {x : Placed} {l m : List Placed} → Grow x l m → all (below (serial_of x)) l ≡ true → sort m ≡ sort l ++ (x ∷ [])
unfolding sort below
grow_sort {x} (here {l = l}) p = insert_last x (sort l) (all_sort (below (serial_of x)) l p)
grow_sort {x} (there {y = y} {l = l} {m = m} g) p =
    rw (grow_sort g (all_tail (below (serial_of x)) y l p)) (insert_snoc y x (sort l) (ltb-true (serial_of y) (serial_of x) (all_head (below (serial_of x)) y l p)))

other_above : (x y : Placed) → serial_of x < serial_of y → other_serial (serial_of x) y ≡ true
unfolding other_serial
other_above x y h = rw (ne_eqb (serial_of y) (serial_of x) (λ c. omega arith))

other_below : (x y : Placed) → below (serial_of x) y ≡ true → other_serial (serial_of x) y ≡ true
unfolding other_serial below
other_below x y e =
    let h : serial_of y < serial_of x = ltb-true (serial_of y) (serial_of x) e in
    rw (ne_eqb (serial_of y) (serial_of x) (λ c. omega arith))

pub grow_distinct : {x : Placed} {l m : List Placed} → Grow x l m → all (below (serial_of x)) l ≡ true → distinct l ≡ true → distinct m ≡ true
unfolding distinct below
grow_distinct {x} (here {l = l}) p q = and_both (all_weaken (below (serial_of x)) (other_serial (serial_of x)) (other_below x) l p) q
grow_distinct {x} (there {y = y} {l = l} {m = m} g) p q =
    let o : other_serial (serial_of y) x ≡ true = other_above y x (ltb-true (serial_of y) (serial_of x) (all_head (below (serial_of x)) y l p)) in
    and_both (grow_all (other_serial (serial_of y)) g o (and_l (all (other_serial (serial_of y)) l) (distinct l) q))
    (grow_distinct g (all_tail (below (serial_of x)) y l p) (and_r (all (other_serial (serial_of y)) l) (distinct l) q))

-- ---- pages with serials below b may go

-- the second list is the first without some of those pages
pub data Thin (b : ℕ) : List Placed → List Placed → Type 0 where
  end : Thin b [] []
  held : {y : Placed} {l m : List Placed} → Thin b l m → Thin b (y ∷ l) (y ∷ m)
  gone : {y : Placed} {l m : List Placed} → serial_of y < b → Thin b l m → Thin b (y ∷ l) m

pub thin_all : (f : Placed → Bool) {b : ℕ} {l m : List Placed} → Thin b l m → all f l ≡ true → all f m ≡ true
thin_all f end p = p
thin_all f (held {y = y} {l = l} {m = m} t) p = all_cons f y m (all_head f y l p) (thin_all f t (all_tail f y l p))
thin_all f (gone {y = y} {l = l} h t) p = thin_all f t (all_tail f y l p)

pub thin_distinct : {b : ℕ} {l m : List Placed} → Thin b l m → distinct l ≡ true → distinct m ≡ true
unfolding distinct
thin_distinct end p = p
thin_distinct (held {y = y} {l = l} {m = m} t) p =
    and_both (thin_all (other_serial (serial_of y)) t (and_l (all (other_serial (serial_of y)) l) (distinct l) p)) (thin_distinct t (and_r (all (other_serial (serial_of y)) l) (distinct l) p))
thin_distinct (gone {y = y} {l = l} h t) p = thin_distinct t (and_r (all (other_serial (serial_of y)) l) (distinct l) p)

pub thin_from : {b : ℕ} {l m : List Placed} → Thin b l m → from b m ≡ from b l
unfolding from keep reaches
thin_from end = refl
thin_from {b} (held {y = y} {l = l} {m = m} t) = by_cases (leb b (serial_of y)) (λ e. rw (e, thin_from t)) (λ e. rw (e, thin_from t))
thin_from {b} (gone {y = y} {l = l} {m = m} h t) = rw (lt-leb b (serial_of y) h, thin_from t)

-- ---- the sorted list at serial b

keep_yes : {A : Type 0} (f : A → Bool) (x : A) (l : List A) → f x ≡ true → keep f (x ∷ l) ≡ x ∷ keep f l
unfolding keep
keep_yes f x l p = rw p

keep_no : {A : Type 0} (f : A → Bool) (x : A) (l : List A) → f x ≡ false → keep f (x ∷ l) ≡ keep f l
unfolding keep
keep_no f x l p = rw p

-- what `from b` leaves out
unfoldable pub upto : ℕ → List Placed → List Placed
upto b l = keep (opposite (reaches b)) l

insert_past : (b : ℕ) (x : Placed) (l r : List Placed) → b ≤ serial_of x → all (opposite (reaches b)) l ≡ true → insert x (l ++ r) ≡ l ++ insert x r
unfolding insert opposite reaches
insert_past b x [] r h p = refl
insert_past b x (y ∷ l) r h p =
    let k : serial_of y < b = leb-false b (serial_of y) (not-true (leb b (serial_of y)) (all_head (opposite (reaches b)) y l p)) in
    rw (le-ltb (serial_of x) (serial_of y) (omega arith), insert_past b x l r h (all_tail (opposite (reaches b)) y l p))

insert_before : (b : ℕ) (x : Placed) (l r : List Placed) → serial_of x < b → all (reaches b) r ≡ true → insert x (l ++ r) ≡ insert x l ++ r
unfolding insert reaches
insert_before b x [] [] h p = refl
insert_before b x [] (y ∷ r) h p =
    let k : b ≤ serial_of y = leb-true b (serial_of y) (all_head (reaches b) y r p) in
    rw (lt-ltb (serial_of x) (serial_of y) (omega arith))
insert_before b x (y ∷ l) r h p = by_cases (ltb (serial_of x) (serial_of y)) (λ e. rw e) (λ e. rw (e, insert_before b x l r h p))

opposite_of_true : {A : Type 0} (f : A → Bool) (x : A) → f x ≡ true → opposite f x ≡ false
unfolding opposite
opposite_of_true f x e = rw e

opposite_of_false : {A : Type 0} (f : A → Bool) (x : A) → f x ≡ false → opposite f x ≡ true
unfolding opposite
opposite_of_false f x e = rw e

split_step : (b : ℕ) (x : Placed) (l : List Placed) → sort l ≡ sort (upto b l) ++ sort (from b l) → sort (x ∷ l) ≡ sort (upto b (x ∷ l)) ++ sort (from b (x ∷ l))
unfolding sort upto from
split_step b x l ih =
    by_cases (reaches b x)
    (λ e. rw (keep_no (opposite (reaches b)) x l (opposite_of_true (reaches b) x e), keep_yes (reaches b) x l e)
    (rw ih (insert_past b x (sort (upto b l)) (sort (from b l)) (reached e) (all_sort (opposite (reaches b)) (upto b l) (all_keep (opposite (reaches b)) l)))))
    (λ e. rw (keep_yes (opposite (reaches b)) x l (opposite_of_false (reaches b) x e), keep_no (reaches b) x l e)
    (rw ih (insert_before b x (sort (upto b l)) (sort (from b l)) (unreached e) (all_sort (reaches b) (from b l) (all_keep (reaches b) l)))))
  where
    reached : reaches b x ≡ true → b ≤ serial_of x
    reached e = unfold reaches in leb-true b (serial_of x) e

    unreached : reaches b x ≡ false → serial_of x < b
    unreached e = unfold reaches in leb-false b (serial_of x) e

pub sort_split : (b : ℕ) (l : List Placed) → sort l ≡ sort (upto b l) ++ sort (from b l)
unfolding sort upto from keep
sort_split b [] = refl
sort_split b (x ∷ l) = split_step b x l (sort_split b l)

pub from_parts : (b : ℕ) (l r : List Placed) → all (opposite (reaches b)) l ≡ true → all (reaches b) r ≡ true → from b (l ++ r) ≡ r
unfolding from
from_parts b l r p q = rw (keep_append (reaches b) l r, keep_none (reaches b) l p, keep_all (reaches b) r q)

pub from_sort : (b : ℕ) (l : List Placed) → from b (sort l) ≡ sort (from b l)
unfolding from upto
from_sort b l =
    rw (sort_split b l)
    (from_parts b (sort (upto b l)) (sort (from b l)) (all_sort (opposite (reaches b)) (upto b l) (all_keep (opposite (reaches b)) l)) (all_sort (reaches b) (from b l) (all_keep (reaches b) l)))

pub from_from : (b f : ℕ) (l : List Placed) → b ≤ f → from f (from b l) ≡ from f l
unfolding from keep reaches
from_from b f [] h = refl
from_from b f (x ∷ l) h =
    by_cases (leb b (serial_of x)) (λ e. by_cases (leb f (serial_of x)) (λ g. rw (e, g, from_from b f l h)) (λ g. rw (e, g, from_from b f l h)))
    (λ e. let k : serial_of x < b = leb-false b (serial_of x) e in rw (e, lt-leb f (serial_of x) (omega arith), from_from b f l h))

-- ---- folds

pub walk_append : (w : Walk) (a b : List Placed) → walk w (a ++ b) ≡ walk (walk w a) b
unfolding walk
walk_append w [] b = refl
walk_append w (x ∷ a) b = walk_append (enter w x) a b

pub last_append : (d : Placed) (a b : List Placed) → last_of d (a ++ b) ≡ last_of (last_of d a) b
unfolding last_of
last_append d [] b = refl
last_append d (x ∷ a) b = last_append x a b

-- ---- serials that rise by one

pub consecutive_append : (s : ℕ) (a b : List Placed) → consecutive s a ≡ true → consecutive (s + length a) b ≡ true → consecutive s (a ++ b) ≡ true
unfolding consecutive
consecutive_append s [] b p q = rw (zero_right s) at q
  where
    zero_right : (n : ℕ) → n + 0 ≡ n
    zero_right n = omega arith
consecutive_append s (x ∷ a) b p q =
    and_both (and_l (eqb (serial_of x) s) (consecutive (suc s) a) p) (consecutive_append (suc s) a b (and_r (eqb (serial_of x) s) (consecutive (suc s) a) p) (rw (shift s (length a)) at q))
  where
    shift : (m n : ℕ) → m + suc n ≡ suc m + n
    shift m n = omega arith

pub consecutive_left : (s : ℕ) (a b : List Placed) → consecutive s (a ++ b) ≡ true → consecutive s a ≡ true
unfolding consecutive
consecutive_left s [] b p = refl
consecutive_left s (x ∷ a) b p = and_both (and_l (eqb (serial_of x) s) (consecutive (suc s) (a ++ b)) p) (consecutive_left (suc s) a b (and_r (eqb (serial_of x) s) (consecutive (suc s) (a ++ b)) p))

pub consecutive_right : (s : ℕ) (a b : List Placed) → consecutive s (a ++ b) ≡ true → consecutive (s + length a) b ≡ true
unfolding consecutive
consecutive_right s [] b p = rw (zero_right s) p
  where
    zero_right : (n : ℕ) → n + 0 ≡ n
    zero_right n = omega arith
consecutive_right s (x ∷ a) b p = rw (shift s (length a)) (consecutive_right (suc s) a b (and_r (eqb (serial_of x) s) (consecutive (suc s) (a ++ b)) p))
  where
    shift : (m n : ℕ) → m + suc n ≡ suc m + n
    shift m n = omega arith

pub consecutive_one : (s : ℕ) (x : Placed) → serial_of x ≡ s → consecutive s (x ∷ []) ≡ true
unfolding consecutive
consecutive_one s x e = rw (eq-eqb (serial_of x) s e)

pub consecutive_reaches : (b s : ℕ) (l : List Placed) → b ≤ s → consecutive s l ≡ true → all (reaches b) l ≡ true
unfolding consecutive all reaches
consecutive_reaches b s [] h p = refl
consecutive_reaches b s (x ∷ l) h p =
    let e : serial_of x ≡ s = eqb-true (serial_of x) s (and_l (eqb (serial_of x) s) (consecutive (suc s) l) p) in
    and_both (le-leb b (serial_of x) (omega arith)) (consecutive_reaches b (suc s) l (omega arith) (and_r (eqb (serial_of x) s) (consecutive (suc s) l) p))

pub consecutive_below : (b s : ℕ) (l : List Placed) → s + length l ≤ b → consecutive s l ≡ true → all (opposite (reaches b)) l ≡ true
unfolding consecutive all reaches opposite
consecutive_below b s [] h p = refl
consecutive_below b s (x ∷ l) h p =
    let e : serial_of x ≡ s = eqb-true (serial_of x) s (and_l (eqb (serial_of x) s) (consecutive (suc s) l) p) in
    all_cons (opposite (reaches b)) x l (rw (lt-leb b (serial_of x) (omega arith))) (consecutive_below b (suc s) l (omega arith) (and_r (eqb (serial_of x) s) (consecutive (suc s) l) p))

-- the last of a run
pub consecutive_last : (s : ℕ) (d : Placed) (l : List Placed) → 1 ≤ length l → consecutive s l ≡ true → suc (serial_of (last_of d l)) ≡ s + length l
unfolding consecutive last_of
consecutive_last s d [] h p = omega arith
consecutive_last s d (x ∷ []) h p =
    let e : serial_of x ≡ s = eqb-true (serial_of x) s (and_l (eqb (serial_of x) s) true p) in omega arith
consecutive_last s d (x ∷ y ∷ l) h p =
    let r = consecutive_last (suc s) x (y ∷ l) (omega arith) (and_r (eqb (serial_of x) s) (consecutive (suc s) (y ∷ l)) p) in
    omega (arith, r)

-- ---- complete groups

unfoldable pub is_begin : Placed → Bool
is_begin x = begins x.page

-- a page that ends no group of kind k completes none
last_open : (a k e : Bool) → (k && e) ≡ false → ((k && a) && (e || false)) ≡ false
last_open true true e h = rw h
last_open false true e h = refl
last_open a false e h = refl

pub goes_on_snoc : (k s : ℕ) (xs : List Placed) (x : Placed) → (eqb (kind_of x) k && ends x.page) ≡ false → goes_on k s (xs ++ (x ∷ [])) ≡ goes_on k s xs
unfolding goes_on every
goes_on_snoc k s [] x h = last_open (eqb (serial_of x) s && (not (begins x.page) && true)) (eqb (kind_of x) k) (ends x.page) h
goes_on_snoc k s (y ∷ ys) x h = rw (goes_on_snoc k (suc s) ys x h)

pub starts_snoc : (k : ℕ) (xs : List Placed) (x : Placed) → (eqb (kind_of x) k && ends x.page) ≡ false → starts_group k (xs ++ (x ∷ [])) ≡ starts_group k xs
unfolding starts_group goes_on every
starts_snoc k [] x h = last_open (begins x.page && true) (eqb (kind_of x) k) (ends x.page) h
starts_snoc k (y ∷ ys) x h = rw (goes_on_snoc k (suc (serial_of y)) ys x h)

-- what follows a complete group leaves it complete
or_more : (a b c : Bool) → (b ≡ true → c ≡ true) → (a || b) ≡ true → (a || c) ≡ true
or_more true b c f h = refl
or_more false b c f h = f h

-- a group begins where it starts
pub starts_begins : (k : ℕ) (x : Placed) (xs : List Placed) → opposite is_begin x ≡ true → starts_group k (x ∷ xs) ≡ false
unfolding starts_group every opposite is_begin
starts_begins k x xs h = rw (not-true (begins x.page) h) (cut (eqb (kind_of x) k) (ends x.page || goes_on k (suc (serial_of x)) xs))
  where
    cut : (a b : Bool) → ((a && false) && b) ≡ false
    cut true b = refl
    cut false b = refl

-- pages of one kind, with consecutive serials and no begin, the last of which ends
or_right : (a : Bool) {b : Bool} → b ≡ true → (a || b) ≡ true
or_right true p = refl
or_right false p = p

goes_on_head :
    (k s : ℕ) (x : Placed) (xs : List Placed)
    → consecutive s (x ∷ xs) ≡ true
    → all (λ y. eqb (kind_of y) k) (x ∷ xs) ≡ true
    → all (opposite is_begin) (x ∷ xs) ≡ true
    → (ends x.page || goes_on k (suc s) xs) ≡ true
    → goes_on k s (x ∷ xs) ≡ true
unfolding goes_on every consecutive opposite is_begin
goes_on_head k s x xs c a n e =
    rw (and_l (eqb (serial_of x) s) (consecutive (suc s) xs) c, all_head (λ y. eqb (kind_of y) k) x xs a, all_head (opposite is_begin) x xs n) e

pub goes_on_end :
    (k s : ℕ) (xs : List Placed) (x : Placed)
    → consecutive s (xs ++ (x ∷ [])) ≡ true
    → all (λ y. eqb (kind_of y) k) (xs ++ (x ∷ [])) ≡ true
    → all (opposite is_begin) (xs ++ (x ∷ [])) ≡ true
    → ends x.page ≡ true
    → goes_on k s (xs ++ (x ∷ [])) ≡ true
unfolding consecutive
goes_on_end k s [] x c a n e = goes_on_head k s x [] c a n (rw e)
goes_on_end k s (y ∷ ys) x c a n e =
    let l : List Placed = ys ++ (x ∷ []) in
    let c2 : consecutive (suc s) l ≡ true = and_r (eqb (serial_of y) s) (consecutive (suc s) l) c in
    let r = goes_on_end k (suc s) ys x c2 (all_tail (λ z. eqb (kind_of z) k) y l a) (all_tail (opposite is_begin) y l n) e in
    goes_on_head k s y l c a n (or_right (ends y.page) r)

-- a begin page starts the group that it ends, or that the next pages go on to the end of
pub starts_one : (k : ℕ) (x : Placed) (xs : List Placed) → eqb (kind_of x) k ≡ true → is_begin x ≡ true → ends x.page ≡ true → starts_group k (x ∷ xs) ≡ true
unfolding starts_group every is_begin
starts_one k x xs a n e = rw (a, n, e)

pub starts_more : (k : ℕ) (x : Placed) (xs : List Placed) → eqb (kind_of x) k ≡ true → is_begin x ≡ true → goes_on k (suc (serial_of x)) xs ≡ true → starts_group k (x ∷ xs) ≡ true
unfolding starts_group every is_begin
starts_more k x xs a n g = rw (a, n) (or_right (ends x.page) g)

-- ---- the search for the base

-- a page that ends no base adds none
pub base_snoc : (l : List Placed) (x : Placed) → (eqb (kind_of x) 2 && ends x.page) ≡ false → base_of (l ++ (x ∷ [])) ≡ base_of l
unfolding base_of is_some
base_snoc [] x h = rw (starts_snoc 2 [] x h, empty)
  where
    empty : starts_group 2 [] ≡ false
    empty = unfold starts_group in refl
base_snoc (y ∷ l) x h = rw (base_snoc l x h, starts_snoc 2 (y ∷ l) x h)

-- no base without a begin, and a base where a complete group is the last that begins
pub base_none : (l : List Placed) → all (opposite is_begin) l ≡ true → base_of l ≡ None
unfolding base_of is_some
base_none [] h = refl
base_none (x ∷ l) h = rw (base_none l (all_tail (opposite is_begin) x l h), starts_begins 2 x l (all_head (opposite is_begin) x l h))

pub base_group : (x : Placed) (xs : List Placed) → all (opposite is_begin) xs ≡ true → starts_group 2 (x ∷ xs) ≡ true → base_of (x ∷ xs) ≡ Some (serial_of x)
unfolding base_of is_some
base_group x xs n h = rw (base_none xs n, h)
