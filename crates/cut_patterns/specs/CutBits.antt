-- What a recorded cut leaves, said bit by bit: "each 1 bit of its pattern keeps that bit at 1 in a cut program, or sets it to 1 in a cut erase".
use Rattle.std.specs.Prelude.{◌≡◌, ◌⊎◌, Bool, List, ℕ, ◌+◌, ◌*◌, ◌≤◌, ◌<◌, max, length, get_or}
use Rattle.page.specs.Pages.{Page}
use Rattle.flash.specs.Medium.{programmed}
use Rattle.flash.specs.Cuts.{bit_at}
use Rattle.state.specs.State.{Held}
use Rattle.step.specs.Step.{program, erase}
use Rattle.cut_patterns.specs.Cuts.{left_by_cut}

-- `left` is m with a pattern over its bytes from a on: there each bit is 1 where that of the pattern is, and else that of m; nothing else alters
pub record Patterned (m : List ℕ) (a : ℕ) (pattern left : List ℕ) : Type 0 where
  pub size : length left ≡ length m
  pub inside : (i j : ℕ) → i < length pattern → j < 8 → bit_at left (a + i) j ≡ max (bit_at m (a + i) j) (bit_at pattern i j)
  pub outside : (i : ℕ) → (i < a) ⊎ (a + length pattern ≤ i) → get_or left i 0 ≡ get_or m i 0

-- in a cut program the pattern is laid over the page as it would be, in a cut erase over the block as it was
pub record LeavesByPattern : Type 0 where
  pub programs : (m : List ℕ) (p : ℕ) (pg : Page) (s : Held) (finished : Bool) (pattern : List ℕ)
      → 256 * p + length pattern ≤ length (programmed m p pg) → Patterned (programmed m p pg) (256 * p) pattern (left_by_cut m (program p pg s finished) pattern)
  pub erases : (m : List ℕ) (b : ℕ) (s : Held) (finished : Bool) (pattern : List ℕ)
      → 4096 * b + length pattern ≤ length m → Patterned m (4096 * b) pattern (left_by_cut m (erase b s finished) pattern)
