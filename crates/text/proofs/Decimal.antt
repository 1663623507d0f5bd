-- The digits of a number stand for it; how many there are at most.
use mathlib.Core.Path.{◌≡◌, refl}
use mathlib.Core.List.{List, [], ◌∷◌, ◌++◌}
use Prim.Native.Nat.{ℕ, zero, suc, ◌+◌, ◌-◌, ◌*◌, ◌/◌, ◌%◌, ◌^◌, ◌≤◌, ◌<◌}
use native.Mathlib.Omega.{arith}
use native.Mathlib.Nat.{pow-succ'}
use lib.ListN.{length, length-append}
use lib.Dec.{ltb}
use Rattle.lists.proofs.Laws.{by_cases}
use Rattle.text.specs.Text.{decimal_within, decimal}
use Rattle.text.specs.Decimal.{value_of, ReadsBack}

value_snoc : (n : ℕ) (ds : List ℕ) (d : ℕ) → value_of n (ds ++ (d ∷ [])) ≡ 10 * value_of n ds + (d - 48)
unfolding value_of
value_snoc n [] d = refl
value_snoc n (e ∷ ds) d = value_snoc (10 * n + (e - 48)) ds d

within_reads : (k n : ℕ) → n < 10 ^ k → value_of 0 (decimal_within k n) ≡ n
unfolding decimal_within
within_reads zero n h = unfold value_of in omega arith
within_reads (suc k) n h =
    let p : 10 ^ suc k ≡ 10 * 10 ^ k = pow-succ' 10 k in
    let q : value_of 0 (decimal_within k (n / 10)) ≡ n / 10 = within_reads k (n / 10) (omega arith) in
    let one : value_of 0 ((48 + n) ∷ []) ≡ n = unfold value_of in omega arith in
    by_cases (ltb n 10) (λ e. rw e one)
    (λ e. rw e (omega (arith, value_snoc 0 (decimal_within k (n / 10)) (48 + n % 10), q)))

pub reads_back : ReadsBack
unfolding ReadsBack decimal
reads_back n h = within_reads 20 n (omega arith)

-- ---- how long a text is

pub few_app : (a b : List ℕ) (i j : ℕ) → length a ≤ i → length b ≤ j → length (a ++ b) ≤ i + j
few_app a b i j h k = omega (arith, length-append a b)

few_within : (k n : ℕ) → length (decimal_within k n) ≤ k
unfolding decimal_within
few_within zero n = omega arith
few_within (suc k) n =
    by_cases (ltb n 10) (λ e. rw e (omega arith))
    (λ e. rw e (omega (arith, few_within k (n / 10), length-append (decimal_within k (n / 10)) ((48 + n % 10) ∷ []))))

pub few_decimal : (n : ℕ) → length (decimal n) ≤ 20
unfolding decimal
few_decimal n = few_within 20 n
