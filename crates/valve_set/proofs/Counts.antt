-- Of how many numbers below a bound a test holds.
use mathlib.Core.Path.{◌≡◌, refl, sym, ap, ◌∙◌}
use mathlib.Core.Bool.{Bool, true, false}
use Prim.Native.Nat.{ℕ, zero, suc, ◌+◌, ◌≤◌, ◌<◌}
use native.Mathlib.Omega.{arith}
use native.Mathlib.Decide.{dec_le}
use Rattle.lists.specs.Lists.{one_if, count_below}
use Rattle.lists.proofs.Laws.{by_cases, by_eq}

-- what one number counts
one_true : (b : Bool) → b ≡ true → one_if b ≡ 1
unfolding one_if
one_true b e = rw e

one_false : (b : Bool) → b ≡ false → one_if b ≡ 0
unfolding one_if
one_false b e = rw e

-- one more where the test holds of the bound
pub count_suc : (n : ℕ) (f : ℕ → Bool) → f n ≡ true → count_below (suc n) f ≡ suc (count_below n f)
unfolding count_below
count_suc n f e = omega (arith, one_true (f n) e)

-- no more where the test holds of none from there on
pub count_skip : (b c : ℕ) (f : ℕ → Bool) → b ≤ c → ((v : ℕ) → b ≤ v → v < c → f v ≡ false) → count_below c f ≡ count_below b f
unfolding count_below
count_skip b zero f h e = let z : b ≡ 0 = omega arith in rw z
count_skip b (suc c) f h e = go (dec_le b c) (λ l. count_skip b c f l (λ v p q. e v p (omega arith)))
  where
    go : Dec (b ≤ c) → (b ≤ c → count_below c f ≡ count_below b f) → count_below (suc c) f ≡ count_below b f
    go (yes l) r = omega (arith, r l, one_false (f c) (e c l (omega arith)))
    go (no l) r = let z : b ≡ suc c = omega arith in rw z

-- a greater bound counts no fewer
pub count_grows : (b c : ℕ) (f : ℕ → Bool) → b ≤ c → count_below b f ≤ count_below c f
unfolding count_below
count_grows b zero f h = let z : b ≡ 0 = omega arith in rw z (omega arith)
count_grows b (suc c) f h = go (dec_le b c) (λ l. count_grows b c f l)
  where
    go : Dec (b ≤ c) → (b ≤ c → count_below b f ≤ count_below c f) → count_below b f ≤ count_below (suc c) f
    go (yes l) r = omega (arith, r l)
    go (no l) r = let z : b ≡ suc c = omega arith in rw z (omega arith)

-- tests that agree count the same
count_same : (n : ℕ) (f g : ℕ → Bool) → ((k : ℕ) → k < n → f k ≡ g k) → count_below n f ≡ count_below n g
unfolding count_below
count_same zero f g e = refl
count_same (suc n) f g e = omega (arith, count_same n f g (λ k h. e k (omega arith)), ap one_if (e n (omega arith)))

-- tests that agree but at one number, of which the one does not hold: the other counts one more where it holds there
pub count_more : (n : ℕ) (f g : ℕ → Bool) (j : ℕ) (b : Bool) → j < n → ((k : ℕ) → (k ≡ j → ⊥) → f k ≡ g k) → g j ≡ false → f j ≡ b
    → count_below n f ≡ count_below n g + one_if b
unfolding count_below
count_more zero f g j b l e p q = absurd (omega arith)
count_more (suc n) f g j b l e p q =
    by_eq n j
    (λ h.
    let x = count_same n f g (λ k m. e k (λ t. absurd (omega arith))) in
    let y : one_if (g n) ≡ 0 = one_false (g n) (ap g h ∙ p) in
    let z : one_if (f n) ≡ one_if b = ap one_if (ap f h ∙ q) in omega arith)
    (λ h. let x = count_more n f g j b (omega arith) e p q in let y = ap one_if (e n h) in omega arith)

-- the same of a test that holds there
pub count_one_more : (n : ℕ) (f g : ℕ → Bool) (j : ℕ) → j < n → ((k : ℕ) → (k ≡ j → ⊥) → f k ≡ g k) → g j ≡ false → f j ≡ true
    → count_below n f ≡ suc (count_below n g)
count_one_more n f g j l e p q = omega (arith, count_more n f g j true l e p q, one_true true refl)

-- a test that holds of none counts none
pub none_counts : (n : ℕ) (f : ℕ → Bool) → ((v : ℕ) → f v ≡ false) → count_below n f ≡ 0
unfolding count_below
none_counts zero f e = refl
none_counts (suc n) f e = omega (arith, none_counts n f e, one_false (f n) (e n))

-- and where none is counted it holds of none
pub counts_none : (n : ℕ) (f : ℕ → Bool) → count_below n f ≡ 0 → (v : ℕ) → v < n → f v ≡ false
unfolding count_below
counts_none zero f e v h = absurd (omega arith)
counts_none (suc n) f e v h =
    by_eq v n
    (λ q. by_cases (f v) (λ t. let z = one_true (f n) (ap f (sym q) ∙ t) in absurd (omega arith)) (λ t. t))
    (λ q. counts_none n f (omega arith) v (omega arith))
