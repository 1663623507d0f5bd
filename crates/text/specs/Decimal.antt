-- That the digits of a number stand for that number, so that none is left out.
use Rattle.std.specs.Prelude.{◌≡◌, List, [], ◌∷◌, ℕ, ◌+◌, ◌-◌, ◌*◌, ◌^◌, ◌<◌}
use Rattle.text.specs.Text.{decimal}

-- the number that digits stand for, read from the left, where those before them stand for n
unfoldable pub value_of : ℕ → List ℕ → ℕ
value_of n [] = n
value_of n (d ∷ ds) = value_of (10 * n + (d - 48)) ds

unfoldable pub ReadsBack : Type 0
ReadsBack = (n : ℕ) → n < 2 ^ 64 → value_of 0 (decimal n) ≡ n
