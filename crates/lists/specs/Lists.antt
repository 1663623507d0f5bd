-- Tests over lists, scans below a bound, tables, and the list that an array with a count stands for.
use Rattle.std.specs.Prelude.{Bool, true, false, cond, ◌&&◌, List, [], ◌∷◌, ◌++◌, ℕ, zero, suc, ◌+◌, ◌-◌, ◌<◌, length, get_or, take, replicate}
use Rattle.std.specs.Prelude.{Option, None, Some}

-- f holds of each element
unfoldable pub all {ℓ} : {A : Type ℓ} → (A → Bool) → List A → Bool
all f [] = true
all f (x ∷ xs) = f x && all f xs

-- each of some conditions holds
unfoldable pub every : List Bool → Bool
every [] = true
every (x ∷ xs) = x && every xs

-- the elements of which f holds
unfoldable pub keep {ℓ} : {A : Type ℓ} → (A → Bool) → List A → List A
keep f [] = []
keep f (x ∷ xs) = cond (f x) (x ∷ keep f xs) (keep f xs)

-- whether there is one
unfoldable pub is_some : {A : Type 0} → Option A → Bool
is_some None = false
is_some (Some a) = true

-- it, or d
unfoldable pub value_or : {A : Type 0} → A → Option A → A
value_or d None = d
value_or d (Some a) = a

-- f holds of each number below n
unfoldable pub all_below : ℕ → (ℕ → Bool) → Bool
all_below zero f = true
all_below (suc n) f = all_below n f && f n

-- 1 where something holds, else 0
unfoldable pub one_if : Bool → ℕ
one_if true = 1
one_if false = 0

-- of how many numbers below n f holds
unfoldable pub count_below : ℕ → (ℕ → Bool) → ℕ
count_below zero f = 0
count_below (suc n) f = count_below n f + one_if (f n)

-- f 0, f 1, .. f (n - 1)
unfoldable pub table : {A : Type 0} → ℕ → (ℕ → A) → List A
table zero f = []
table (suc n) f = table n f ++ (f n ∷ [])

-- the first n places of an array; places past its end hold d, so that the list's length is n whatever n is
unfoldable pub first : {A : Type 0} → A → ℕ → List A → List A
first d n s = take n s ++ replicate (n - length s) d

-- each number of a list is below n
pub record Below (n : ℕ) (xs : List ℕ) : Type 0 where
  pub each : (i : ℕ) → get_or xs i 0 < n

-- each number of a list is a byte
abbrev pub Bytes : List ℕ → Type 0
Bytes xs = Below 256 xs
