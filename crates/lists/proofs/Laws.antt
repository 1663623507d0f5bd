-- Laws of tests, scans, tables and counted arrays.
use mathlib.Core.Path.{◌≡◌, refl, sym, ap, ◌∙◌}
use mathlib.Core.Bool.{Bool, true, false, not, ◌&&◌, ◌||◌}
use Rattle.std.proofs.Common.{None, Some}
use mathlib.Core.List.{List, [], ◌∷◌, ◌++◌}
use Prim.Native.Nat.{ℕ, zero, suc, ◌+◌, ◌-◌, ◌≤◌, ◌<◌}
use native.Mathlib.Omega.{arith}
use native.Mathlib.Numerals.{add-one}
use native.Mathlib.Decide.{dec_lt}
use borrow.Author.Tests.{leb-true, eqb-true, eqb-false, eq-eqb, ne_eqb, not-true, not-false}
use lib.Dec.{leb, eqb}
use lib.ListN.{length, get_or, take, drop, replicate, length-append, length-take, length-replicate, get_or-replicate, drop_of_length-le, get_or-append, get_or-eq_default}
use lib.Seq.{drop-cons, ext_get_or, get_or-drop, get_or-take, get_or-append-add, get_or-append_seam}
use Rattle.lists.specs.declared.Cell.{Cell}
use Rattle.lists.specs.Needs.{Answer, refused, gives, answered, and_then, Need, need, under, answer_or, refusal_of}
use Rattle.lists.specs.Lists.{keep, all, every, value_or, all_below, one_if, count_below, table, first, Below}
use Rattle.lists.specs.Cells.{cell, pairs, keys_of, words_of}

-- ---- truth values

-- to go by cases on a computed test, and keep the equation
pub by_cases : {P : Type 0} (b : Bool) → (b ≡ true → P) → (b ≡ false → P) → P
by_cases true f g = f refl
by_cases false f g = g refl

pub and_l : (a b : Bool) → (a && b) ≡ true → a ≡ true
and_l true b h = refl
and_l false b h = h

pub and_r : (a b : Bool) → (a && b) ≡ true → b ≡ true
and_r true b h = h
and_r false b h = let z : ◌≡◌ {A = ℕ} 0 1 = cc in absurd (omega arith)

pub and_both : {a b : Bool} → a ≡ true → b ≡ true → (a && b) ≡ true
and_both p q = rw (p, q)

pub true_false : {P : Type 0} {b : Bool} → b ≡ true → b ≡ false → P
true_false p q = let z : ◌≡◌ {A = ℕ} 0 1 = cc in absurd (omega arith)

pub and_true : (a : Bool) → (a && true) ≡ a
and_true true = refl
and_true false = refl

pub and_false : (a : Bool) → (a && false) ≡ false
and_false true = refl
and_false false = refl

pub and_swap : (a b c : Bool) → (a && (b && c)) ≡ (b && (a && c))
and_swap true b c = refl
and_swap false true c = refl
and_swap false false c = refl

pub or_right : (a b : Bool) → b ≡ true → (a || b) ≡ true
or_right true b h = refl
or_right false b h = h

-- two numbers are one, or are not
pub by_eq : {P : Type 0} (a b : ℕ) → (a ≡ b → P) → ((a ≡ b → ⊥) → P) → P
by_eq a b p q = by_cases (eqb a b) (λ e. p (eqb-true a b e)) (λ e. q (eqb-false a b e))

-- ---- what is there, or is not

pub some_same : {A : Type 0} {x y : A} → Some x ≡ Some y → x ≡ y
unfolding value_or
some_same {A} {x} {y} e = ap (value_or x) e

pub none_some : {A P : Type 0} {x : A} → None ≡ Some x → P
none_some e = let z : ◌≡◌ {A = ℕ} 0 1 = cc in absurd (omega arith)

-- ---- tests over lists

module _ {A : Type 0} (f : A → Bool) where
  pub all_head : (x : A) (xs : List A) → all f (x ∷ xs) ≡ true → f x ≡ true
  unfolding all
  all_head x xs h = and_l (f x) (all f xs) h

  pub all_tail : (x : A) (xs : List A) → all f (x ∷ xs) ≡ true → all f xs ≡ true
  unfolding all
  all_tail x xs h = and_r (f x) (all f xs) h

  pub all_cons : (x : A) (xs : List A) → f x ≡ true → all f xs ≡ true → all f (x ∷ xs) ≡ true
  unfolding all
  all_cons x xs p q = and_both p q

  pub all_take : (n : ℕ) (xs : List A) → all f xs ≡ true → all f (take n xs) ≡ true
  unfolding all
  all_take zero xs p = refl
  all_take (suc n) [] p = refl
  all_take (suc n) (x ∷ xs) p = all_cons x (take n xs) (all_head x xs p) (all_take n xs (all_tail x xs p))

  pub all_drop : (n : ℕ) (xs : List A) → all f xs ≡ true → all f (drop n xs) ≡ true
  all_drop zero xs p = p
  all_drop (suc n) [] p = p
  all_drop (suc n) (x ∷ xs) p = all_drop n xs (all_tail x xs p)

  pub all_snoc : (xs : List A) (x : A) → all f (xs ++ (x ∷ [])) ≡ (all f xs && f x)
  unfolding all
  all_snoc [] x = one (f x)
    where
      one : (b : Bool) → (b && true) ≡ b
      one true = refl
      one false = refl
  all_snoc (y ∷ ys) x = rw (all_snoc ys x) (mid (f y) (all f ys) (f x))
    where
      mid : (a b c : Bool) → (a && (b && c)) ≡ ((a && b) && c)
      mid true b c = refl
      mid false b c = refl

  -- a test of a table is a scan
  pub all_table : (n : ℕ) (g : ℕ → A) → all f (table n g) ≡ all_below n (λ i. f (g i))
  unfolding table all_below
  all_table zero g = unfold all in refl
  all_table (suc n) g = all_snoc (table n g) (g n) ∙ ap (λ (b : Bool). b && f (g n)) (all_table n g)

pub all_weaken : {A : Type 0} (f g : A → Bool) → ((x : A) → f x ≡ true → g x ≡ true) → (xs : List A) → all f xs ≡ true → all g xs ≡ true
unfolding all
all_weaken f g h [] p = refl
all_weaken f g h (x ∷ xs) p = and_both (h x (all_head f x xs p)) (all_weaken f g h xs (all_tail f x xs p))

-- ---- the elements of which a test holds

module _ {A : Type 0} (f : A → Bool) where
  pub keep_append : (xs ys : List A) → keep f (xs ++ ys) ≡ keep f xs ++ keep f ys
  unfolding keep
  keep_append [] ys = refl
  keep_append (x ∷ xs) ys = by_cases (f x) (λ e. rw (e, keep_append xs ys)) (λ e. rw (e, keep_append xs ys))

  pub keep_all : (xs : List A) → all f xs ≡ true → keep f xs ≡ xs
  unfolding keep
  keep_all [] p = refl
  keep_all (x ∷ xs) p = rw (all_head f x xs p, keep_all xs (all_tail f x xs p))

  pub all_keep : (xs : List A) → all f (keep f xs) ≡ true
  unfolding keep all
  all_keep [] = refl
  all_keep (x ∷ xs) = by_cases (f x) (λ e. rw e (all_cons f x (keep f xs) e (all_keep xs))) (λ e. rw e (all_keep xs))

  -- what holds of a list holds of what is kept of it
  pub keep_all_of : (g : A → Bool) (xs : List A) → all g xs ≡ true → all g (keep f xs) ≡ true
  unfolding keep all
  keep_all_of g [] p = refl
  keep_all_of g (x ∷ xs) p =
      by_cases (f x) (λ e. rw e (all_cons g x (keep f xs) (all_head g x xs p) (keep_all_of g xs (all_tail g x xs p)))) (λ e. rw e (keep_all_of g xs (all_tail g x xs p)))

-- the opposite test
unfoldable pub opposite : {A : Type 0} → (A → Bool) → A → Bool
opposite f x = not (f x)

pub keep_none : {A : Type 0} (f : A → Bool) (xs : List A) → all (opposite f) xs ≡ true → keep f xs ≡ []
unfolding keep opposite
keep_none f [] p = refl
keep_none f (x ∷ xs) p = rw (not-true (f x) (all_head (opposite f) x xs p), keep_none f xs (all_tail (opposite f) x xs p))

-- ---- answers

-- a refusal has its number alone
pub same_refusal : {A : Type 0} (a b : ℕ) → ◌≡◌ {A = Answer A} (refused a) (refused b) → a ≡ b
same_refusal a b e = cc

pub same_given : {A : Type 0} {x y : A} → gives x ≡ gives y → x ≡ y
same_given e = cc

-- what is given is not refused
pub given_refused : {A P : Type 0} (x : A) (n : ℕ) → gives x ≡ refused n → P
given_refused x n e = let z : ◌≡◌ {A = ℕ} 0 1 = cc in absurd (omega arith)

-- the code's answer of a number n and a value x
module _ {A : Type 0} (n : ℕ) (x : A) where
  pub answered_refused : (n ≡ 0 → ⊥) → answered n x ≡ refused n
  unfolding answered
  answered_refused h = rw (ne_eqb n 0 h)

  pub answered_gives : n ≡ 0 → answered n x ≡ gives x
  unfolding answered
  answered_gives h = rw (eq-eqb n 0 h)

  pub answered_then : {B : Type 0} (f : A → B) → answered n (f x) ≡ and_then (answered n x) (λ y. gives (f y))
  unfolding answered and_then
  answered_then f = by_cases (eqb n 0) (λ q. rw q) (λ q. rw q)

  -- it says what was given
  pub gave_number : (y : A) → answered n x ≡ gives y → n ≡ 0
  unfolding answered
  gave_number y e = by_cases (eqb n 0) (λ q. eqb-true n 0 q) (λ q. given_refused y n (sym (rw q at e)))

  pub gave_value : (y : A) → answered n x ≡ gives y → x ≡ y
  gave_value y e = same_given (sym (answered_gives (gave_number y e)) ∙ e)

  -- or which refusal
  pub refused_with : (k : ℕ) → answered n x ≡ refused k → eqb n 0 ≡ false
  unfolding answered
  refused_with k e = by_cases (eqb n 0) (λ q. given_refused x k (rw q at e)) (λ q. q)

-- ---- conditions in order

-- what a list of conditions tests
unfoldable pub tests : List Need → List Bool
tests [] = []
tests (c ∷ cs) = c.holds ∷ tests cs

-- refused with the number of one of them, or passed with every condition met
pub checked_cases : {A : Type 0} (P : Answer A → Type 0) (cs : List Need) (a : Answer A) → ((n : ℕ) → P (refused n)) → (every (tests cs) ≡ true → P a) → P (under cs a)
unfolding under tests every
checked_cases P [] a f g = g refl
checked_cases P (c ∷ cs) a f g = by_cases c.holds (λ e. rw e (checked_cases P cs a f (λ h. g (and_both e h)))) (λ e. rw e (f c.number))

pub checked_pass : {A : Type 0} (cs : List Need) (a : Answer A) → every (tests cs) ≡ true → under cs a ≡ a
unfolding under tests every
checked_pass [] a h = refl
checked_pass (c ∷ cs) a h = rw (and_l c.holds (every (tests cs)) h) (checked_pass cs a (and_r c.holds (every (tests cs)) h))

-- conditions of two lists, one after the other
pub checked_join : {A : Type 0} (cs ds : List Need) (a : Answer A) → under (cs ++ ds) a ≡ under cs (under ds a)
unfolding under
checked_join [] ds a = refl
checked_join (c ∷ cs) ds a = by_cases c.holds (λ e. rw e (checked_join cs ds a)) (λ e. rw e)

-- the number of the first that does not hold: r is what the code's test of the first condition gave
module _ (r b : Bool) (n : ℕ) (cs : List Need) (e : r ≡ b) where
  pub number_stop : not r ≡ true → n ≡ refusal_of (need n b ∷ cs)
  unfolding refusal_of answer_or under
  number_stop h = rw (← e, not-true r h)

  pub number_pass : (x : ℕ) → not r ≡ false → x ≡ refusal_of cs → x ≡ refusal_of (need n b ∷ cs)
  unfolding refusal_of answer_or under
  number_pass x h q = rw (← e, not-false r h) q

pub number_none : 0 ≡ refusal_of []
unfolding refusal_of answer_or under
number_none = refl

pub ruleset chain = (number_stop, number_pass, number_none)

-- 0 is the number of no condition
unfoldable pub numbered : List Need → Bool
numbered [] = true
numbered (c ∷ cs) = leb 1 c.number && numbered cs

-- without a number all conditions hold
pub number_clear : (cs : List Need) → numbered cs ≡ true → refusal_of cs ≡ 0 → every (tests cs) ≡ true
unfolding numbered refusal_of answer_or under tests every
number_clear [] z e = refl
number_clear (c ∷ cs) z e =
    by_cases c.holds
    (λ h. and_both h (number_clear cs (and_r (leb 1 c.number) (numbered cs) z) (rw h at e)))
    (λ h. let k = leb-true 1 c.number (and_l (leb 1 c.number) (numbered cs) z) in let y : c.number ≡ 0 = rw h at e in absurd (omega arith))

-- some conditions refuse with their number
pub number_refuses : {A : Type 0} (cs : List Need) (a : Answer A) (g : ℕ) → g ≡ refusal_of cs → (g ≡ 0 → ⊥) → refused g ≡ under cs a
unfolding refusal_of answer_or under
number_refuses [] a g e h = absurd (h e)
number_refuses (c ∷ cs) a g e h =
    by_cases c.holds (λ q. rw q (number_refuses cs a g (rw q at e) h)) (λ q. let y : g ≡ c.number = rw q at e in rw (q, y))

-- and whatever follows them
pub checked_stop : {A : Type 0} (cs ds : List Need) (a : Answer A) (g : ℕ) → g ≡ refusal_of cs → (g ≡ 0 → ⊥) → refused g ≡ under (cs ++ ds) a
checked_stop cs ds a g e h = number_refuses cs (under ds a) g e h ∙ sym (checked_join cs ds a)

-- some conditions that hold, and those that follow them
pub checked_on : {A : Type 0} (cs ds : List Need) (a : Answer A) (g : ℕ) → numbered cs ≡ true → g ≡ refusal_of cs → g ≡ 0 → under (cs ++ ds) a ≡ under ds a
checked_on cs ds a g z e h = checked_join cs ds a ∙ checked_pass cs (under ds a) (number_clear cs z (sym e ∙ h))

-- the same of the number alone
pub refusal_stop : (cs ds : List Need) (g : ℕ) → g ≡ refusal_of cs → (g ≡ 0 → ⊥) → g ≡ refusal_of (cs ++ ds)
unfolding refusal_of answer_or
refusal_stop cs ds g e h = ap (answer_or (λ n. n)) (checked_stop cs ds (gives 0) g e h)

pub refusal_on : (cs ds : List Need) (g : ℕ) → numbered cs ≡ true → g ≡ refusal_of cs → g ≡ 0 → refusal_of (cs ++ ds) ≡ refusal_of ds
unfolding refusal_of
refusal_on cs ds g z e h = ap (answer_or (λ n. n)) (checked_on cs ds (gives 0) g z e h)

-- the condition at place i of some that all hold
pub every_at : (i : ℕ) (bs : List Bool) → every bs ≡ true → get_or bs i true ≡ true
unfolding every
every_at i [] h = refl
every_at zero (b ∷ bs) h = and_l b (every bs) h
every_at (suc i) (b ∷ bs) h = every_at i bs (and_r b (every bs) h)

-- ---- scans that a loop makes

-- f holds of each number below i
pub record Held (n i : ℕ) (f : ℕ → Bool) : Type 0 where
  pub far : i ≤ n
  pub so : all_below i f ≡ true

pub held_start : (n : ℕ) (f : ℕ → Bool) → Held n 0 f
unfolding all_below
held_start n f = record { far = omega arith; so = refl }

pub held_next : (n i : ℕ) (f : ℕ → Bool) → i < n → f i ≡ true → Held n i f → Held n (i + 1) f
unfolding all_below
held_next n i f h e t = record { far = omega arith; so = rw (add-one i, t.so, e) }

pub held_end : (n i : ℕ) (f : ℕ → Bool) → n ≤ i → Held n i f → true ≡ all_below n f
held_end n i f h t = let e : i ≡ n = omega (arith, t.far) in sym (rw e at t.so)

pub below_all : (n : ℕ) (f : ℕ → Bool) → ((i : ℕ) → i < n → f i ≡ true) → all_below n f ≡ true
unfolding all_below
below_all zero f h = refl
below_all (suc n) f h = and_both (below_all n f (λ i l. h i (omega arith))) (h n (omega arith))

-- two tests that agree below a bound
pub below_same : (n : ℕ) (f g : ℕ → Bool) → ((i : ℕ) → i < n → f i ≡ g i) → all_below n f ≡ all_below n g
unfolding all_below
below_same zero f g h = refl
below_same (suc n) f g h = rw (below_same n f g (λ i l. h i (omega arith)), h n (omega arith))

pub below_at : (n : ℕ) (f : ℕ → Bool) → all_below n f ≡ true → (i : ℕ) → i < n → f i ≡ true
unfolding all_below
below_at zero f h i l = absurd (omega arith)
below_at (suc n) f h i l = go (dec_lt i n) (λ k. below_at n f (and_l (all_below n f) (f n) h) i k)
  where
    go : Dec (i < n) → (i < n → f i ≡ true) → f i ≡ true
    go (yes k) r = r k
    go (no k) r = let e : i ≡ n = omega arith in rw e (and_r (all_below n f) (f n) h)

-- a number below n of which f does not hold stops the scan
pub held_stop : (n i : ℕ) (f : ℕ → Bool) → i < n → f i ≡ false → false ≡ all_below n f
held_stop n i f l e = by_cases (all_below n f) (λ h. true_false (below_at n f h i l) e) (λ h. sym h)

-- how many of the numbers below i f holds of
pub record Counted (n i k : ℕ) (f : ℕ → Bool) : Type 0 where
  pub far : i ≤ n
  pub low : k ≤ i
  pub so : k ≡ count_below i f

pub counted_start : (n : ℕ) (f : ℕ → Bool) → Counted n 0 0 f
unfolding count_below
counted_start n f = record { far = omega arith; low = omega arith; so = refl }

pub one_most : (b : Bool) → one_if b ≤ 1
unfolding one_if
one_most true = omega arith
one_most false = omega arith

pub counted_next : (n i k x : ℕ) (f : ℕ → Bool) → i < n → x ≡ one_if (f i) → Counted n i k f → Counted n (i + 1) (k + x) f
unfolding count_below
counted_next n i k x f h e t = record { far = omega arith; low = omega (arith, t.low, one_most (f i)); so = rw (add-one i, e, ← t.so) }

pub counted_end : (n i k : ℕ) (f : ℕ → Bool) → n ≤ i → Counted n i k f → k ≡ count_below n f
counted_end n i k f h t = let e : i ≡ n = omega (arith, t.far) in rw e at t.so

-- ---- tables

module _ {A : Type 0} (f : ℕ → A) (d : A) where
  pub length_table : (n : ℕ) → length (table n f) ≡ n
  unfolding table
  length_table zero = refl
  length_table (suc n) = omega (arith, length-append (table n f) (f n ∷ []), length_table n)

  pub get_table : (n i : ℕ) → i < n → get_or (table n f) i d ≡ f i
  unfolding table
  get_table zero i h = absurd (omega arith)
  get_table (suc n) i h = go (dec_lt i n) (λ l. get_table n i l)
    where
      go : Dec (i < n) → (i < n → get_or (table n f) i d ≡ f i) → get_or (table n f ++ (f n ∷ [])) i d ≡ f i
      go (yes l) r = get_or-append (table n f) (f n ∷ []) d i (omega (arith, length_table n)) ∙ r l
      go (no x) r =
          let e : i ≡ n = omega arith in
          rw e (ap (λ (k : ℕ). get_or (table n f ++ (f n ∷ [])) k d) (sym (length_table n)) ∙ get_or-append_seam (table n f) (f n) [] d)

  -- past its end a table holds the default
  pub past_table : (n i : ℕ) → n ≤ i → get_or (table n f) i d ≡ d
  past_table n i h = get_or-eq_default (table n f) d {n = i} (omega (arith, length_table n))

-- a table of rows
pub get_rows : {A : Type 0} (f : ℕ → ℕ → A) (d : A) (h w k j : ℕ) → k < h → j < w → get_or (get_or (table h (λ i. table w (f i))) k []) j d ≡ f k j
get_rows f d h w k j p q = ap (λ (row : List _). get_or row j d) (get_table (λ i. table w (f i)) [] h k p) ∙ get_table (f k) d w j q

-- ---- arrays with a count

-- the first n places of an array of k
pub length_taken : (n k : ℕ) (xs : List ℕ) → n ≤ k → length xs ≡ k → n ≡ length (take n xs)
length_taken n k xs h l = omega (arith, l, length-take n xs)

module _ {A : Type 0} (d : A) where
  pub length_first : (n : ℕ) (s : List A) → length (first d n s) ≡ n
  unfolding first
  length_first n s = omega (arith, length-append (take n s) (replicate (n - length s) d), length-take n s, length-replicate (n - length s) d)

  pub first_none : (n : ℕ) (s : List A) → n ≡ 0 → first d n s ≡ []
  unfolding first
  first_none n s e = let z : 0 - length s ≡ 0 = omega arith in rw (e, z)

  pub get_first : (n i : ℕ) (s : List A) → i < n → get_or (first d n s) i d ≡ get_or s i d
  unfolding first
  get_first n i s h = go (dec_lt i (length s))
    where
      go : Dec (i < length s) → get_or (take n s ++ replicate (n - length s) d) i d ≡ get_or s i d
      go (yes l) = get_or-append (take n s) (replicate (n - length s) d) d i (omega (arith, length-take n s)) ∙ get_or-take n s i d h
      go (no l) =
          let k : length (take n s) + (i - length s) ≡ i = omega (arith, length-take n s) in
          ap (λ (j : ℕ). get_or (take n s ++ replicate (n - length s) d) j d) (sym k)
          ∙ get_or-append-add (take n s) (replicate (n - length s) d) (i - length s) d
          ∙ get_or-replicate (n - length s) (i - length s) d d (omega arith)
          ∙ sym (get_or-eq_default s d {n = i} (omega arith))

-- ---- cells in two arrays

module _ (n : ℕ) (ks vs : List ℕ) where
  pub length_pairs : length (pairs n ks vs) ≡ n
  unfolding pairs
  length_pairs = length_table (λ i. cell (get_or ks i 0) (get_or vs i 0)) (cell 0 0) n

  pub get_pairs : (i : ℕ) → i < n → get_or (pairs n ks vs) i (cell 0 0) ≡ cell (get_or ks i 0) (get_or vs i 0)
  unfolding pairs
  get_pairs i h = get_table (λ i. cell (get_or ks i 0) (get_or vs i 0)) (cell 0 0) n i h

  pub pairs_none : n ≡ 0 → pairs n ks vs ≡ []
  unfolding pairs table
  pairs_none e = rw e

  -- those from place i on
  pub pairs_cons : (i : ℕ) → i < n → drop i (pairs n ks vs) ≡ cell (get_or ks i 0) (get_or vs i 0) ∷ drop (i + 1) (pairs n ks vs)
  pairs_cons i h =
      let k : i < length (pairs n ks vs) = omega (arith, length_pairs) in
      rw (add-one, drop-cons (pairs n ks vs) i (cell 0 0) k, get_pairs i h)

  pub pairs_past : (i : ℕ) → n ≤ i → drop i (pairs n ks vs) ≡ []
  pairs_past i h = drop_of_length-le (pairs n ks vs) {i = i} (omega (arith, length_pairs))

-- ---- keys and words

pub length_keys : (l : List Cell) → length (keys_of l) ≡ length l
unfolding keys_of
length_keys [] = refl
length_keys (x ∷ xs) = ap suc (length_keys xs)

pub length_words : (l : List Cell) → length (words_of l) ≡ length l
unfolding words_of
length_words [] = refl
length_words (x ∷ xs) = ap suc (length_words xs)

pub key_at_lem : (l : List Cell) (i : ℕ) → get_or (keys_of l) i 0 ≡ (get_or l i (cell 0 0)).key
unfolding keys_of
key_at_lem [] i = refl
key_at_lem (x ∷ xs) zero = refl
key_at_lem (x ∷ xs) (suc i) = key_at_lem xs i

pub word_at_lem : (l : List Cell) (i : ℕ) → get_or (words_of l) i 0 ≡ (get_or l i (cell 0 0)).val
unfolding words_of
word_at_lem [] i = refl
word_at_lem (x ∷ xs) zero = refl
word_at_lem (x ∷ xs) (suc i) = word_at_lem xs i

-- the keys and the words of cells in two arrays that they fill
module _ (ks vs : List ℕ) where
  pub keys_pairs : keys_of (pairs (length ks) ks vs) ≡ ks
  keys_pairs =
      ext_get_or 0 _ ks (length_keys (pairs (length ks) ks vs) ∙ length_pairs (length ks) ks vs)
      (λ i h. key_at_lem (pairs (length ks) ks vs) i ∙ ap (λ (x : Cell). x.key) (get_pairs (length ks) ks vs i (omega (arith, length_keys (pairs (length ks) ks vs), length_pairs (length ks) ks vs))))

  pub words_pairs : words_of (pairs (length vs) ks vs) ≡ vs
  words_pairs =
      ext_get_or 0 _ vs (length_words (pairs (length vs) ks vs) ∙ length_pairs (length vs) ks vs)
      (λ i h. word_at_lem (pairs (length vs) ks vs) i ∙ ap (λ (x : Cell). x.val) (get_pairs (length vs) ks vs i (omega (arith, length_words (pairs (length vs) ks vs), length_pairs (length vs) ks vs))))

pub words_filled : (ks ws : List ℕ) → length ws ≡ length ks → words_of (pairs (length ks) ks ws) ≡ ws
words_filled ks ws e = ap (λ (n : ℕ). words_of (pairs n ks ws)) (sym e) ∙ words_pairs ks ws

-- ---- numbers below a bound

module _ {n : ℕ} where
  pub below_tail : {x : ℕ} {xs : List ℕ} → Below n (x ∷ xs) → Below n xs
  below_tail b = record { each = λ i. b.each (suc i) }

  pub below_nil : 0 < n → Below n []
  below_nil h = record { each = λ i. h }

  pub below_cons : {x : ℕ} {xs : List ℕ} → x < n → Below n xs → Below n (x ∷ xs)
  below_cons {x} {xs} h b = record { each = go }
    where
      go : (i : ℕ) → get_or (x ∷ xs) i 0 < n
      go zero = h
      go (suc i) = b.each i

  pub below_append : (xs ys : List ℕ) → Below n xs → Below n ys → Below n (xs ++ ys)
  below_append [] ys a b = b
  below_append (x ∷ xs) ys a b = below_cons (a.each 0) (below_append xs ys (below_tail a) b)

  pub below_take : (k : ℕ) (xs : List ℕ) → Below n xs → Below n (take k xs)
  below_take zero xs a = record { each = λ i. let h = a.each (length xs) in omega arith }
  below_take (suc k) [] a = a
  below_take (suc k) (x ∷ xs) a = below_cons (a.each 0) (below_take k xs (below_tail a))

  pub below_drop : (k : ℕ) (xs : List ℕ) → Below n xs → Below n (drop k xs)
  below_drop k xs a = record { each = λ i. rw (get_or-drop k xs i 0) (a.each (k + i)) }
