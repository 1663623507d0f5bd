-- Of how many numbers below a bound a test holds, where the test changes.
use mathlib.Core.Path.{◌≡◌, refl, ap, ◌∙◌}
use mathlib.Core.Bool.{Bool, false}
use Prim.Native.Nat.{ℕ, zero, suc, ◌+◌, ◌≤◌, ◌<◌}
use native.Mathlib.Omega.{arith}
use lib.Dec.{ltb}
use borrow.Author.Tests.{ltb-true, ltb-false}
use Rattle.lists.specs.Lists.{one_if, count_below}
use Rattle.lists.proofs.Laws.{by_cases, by_eq, one_most}

count_same : (n : ℕ) (f g : ℕ → Bool) → ((k : ℕ) → k < n → f k ≡ g k) → count_below n f ≡ count_below n g
unfolding count_below
count_same zero f g e = refl
count_same (suc n) f g e =
    ap (λ (t : ℕ). t + one_if (f n)) (count_same n f g (λ k h. e k (omega (arith, h)))) ∙ ap (λ (t : Bool). count_below n g + one_if t) (e n (omega arith))

-- a change at one number changes the count by one at most
pub count_change : (n : ℕ) (f g : ℕ → Bool) (j : ℕ) → ((k : ℕ) → (k ≡ j → ⊥) → f k ≡ g k) → count_below n f ≤ count_below n g + 1
unfolding count_below
count_change zero f g j e = omega arith
count_change (suc n) f g j e =
    by_eq n j
    (λ h. let z = count_same n f g (λ k l. e k (λ q. absurd (omega (arith, l, q, h)))) in let u = one_most (f n) in omega (arith, z, u))
    (λ h. let z = count_change n f g j e in let u = ap one_if (e n h) in omega (arith, z, u))

-- and by one where the test did not hold there and now does
pub count_more : (n : ℕ) (f g : ℕ → Bool) (j : ℕ) (b : Bool) → j < n → ((k : ℕ) → (k ≡ j → ⊥) → f k ≡ g k) → g j ≡ false → f j ≡ b
    → count_below n f ≡ count_below n g + one_if b
unfolding count_below
count_more zero f g j b l e p q = absurd (omega (arith, l))
count_more (suc n) f g j b l e p q =
    by_eq n j
    (λ h.
    let z = count_same n f g (λ k m. e k (λ t. absurd (omega (arith, m, t, h)))) in
    let u : one_if (f n) ≡ one_if b = ap one_if (ap f h ∙ q) in
    let v : one_if (g n) ≡ 0 = ap one_if (ap g h ∙ p) ∙ (unfold one_if in refl) in
    omega (arith, z, u, v))
    (λ h. let z = count_more n f g j b (below l h) e p q in let u = ap one_if (e n h) in omega (arith, z, u))
  where
    below : {i m : ℕ} → i < suc m → (m ≡ i → ⊥) → i < m
    below {i} {m} c d = by_cases (ltb i m) (λ t. ltb-true i m t) (λ t. let y = ltb-false i m t in absurd (d (omega (arith, c, y))))

pub count_sum : (n : ℕ) (f g h : ℕ → Bool) → ((k : ℕ) → one_if (f k) ≡ one_if (g k) + one_if (h k)) → count_below n f ≡ count_below n g + count_below n h
unfolding count_below
count_sum zero f g h e = refl
count_sum (suc n) f g h e = let z = count_sum n f g h e in let u = e n in omega (arith, z, u)

pub count_none : (n : ℕ) (f : ℕ → Bool) → ((k : ℕ) → f k ≡ false) → count_below n f ≡ 0
unfolding count_below one_if
count_none zero f e = refl
count_none (suc n) f e = let z = count_none n f e in let u : one_if (f n) ≡ 0 = ap one_if (e n) in omega (arith, z, u)
