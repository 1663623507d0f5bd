-- What a recorded cut leaves: "each 1 bit of its pattern keeps that bit at 1 in a cut program, or sets it to 1 in a cut erase".
use Rattle.std.specs.Prelude.{List, [], ◌∷◌, ℕ, zero, suc, ◌+◌, ◌*◌, ◌/◌, ◌%◌, max, length}
use Rattle.codec.specs.Codec.{part, put_at}
use Rattle.flash.specs.Medium.{programmed}
use Rattle.step.specs.Step.{Step, program, erase}

-- the lowest k bits of x, each 1 where that of the pattern y is 1
unfoldable pub raised : ℕ → ℕ → ℕ → ℕ
raised zero x y = 0
raised (suc k) x y = max (x % 2) (y % 2) + 2 * raised k (x / 2) (y / 2)

-- bytes, each with a byte of the pattern
unfoldable pub raised_bytes : List ℕ → List ℕ → List ℕ
raised_bytes [] ys = []
raised_bytes (x ∷ xs) [] = x ∷ xs
raised_bytes (x ∷ xs) (y ∷ ys) = raised 8 x y ∷ raised_bytes xs ys

-- a medium with a pattern over its bytes from a on
unfoldable pub raised_at : List ℕ → ℕ → List ℕ → List ℕ
raised_at m a pattern = put_at m a (raised_bytes (part a (length pattern) m) pattern)

-- the medium m after a cut in a step: of the page as it would be programmed, or of the block as it was
unfoldable pub left_by_cut : List ℕ → Step → List ℕ → List ℕ
left_by_cut m (program p pg s finished) pattern = raised_at (programmed m p pg) (256 * p) pattern
left_by_cut m (erase b s finished) pattern = raised_at m (4096 * b) pattern
