-- The lines of a whole trace are what the history defines.
use mathlib.Core.Path.{◌≡◌, refl}
use mathlib.Core.Bool.{true}
use mathlib.Core.List.{List}
use Prim.Native.Nat.{ℕ, ◌*◌, ◌/◌, ◌%◌, ◌≤◌}
use native.Mathlib.Omega.{arith}
use lib.ListN.{length}
use borrow.Author.Tests.{le-leb, eq-eqb}
use Rattle.lists.specs.Lists.{every}
use Rattle.lists.specs.Needs.{gives}
use Rattle.codec.specs.Codec.{blank}
use Rattle.codec.proofs.Put.{length_blank, bytes_blank}
use Rattle.flash.specs.Medium.{most_blocks}
use Rattle.blocks.specs.Blocks.{size_ok}
use Rattle.calls.specs.Calls.{formatting, format_of}
use Rattle.valve_log.specs.Reached.{fresh, Formatting}
use Rattle.valve_log.proofs.Finished.{begun_there}
use Rattle.trace.specs.Trace.{Recorded, number_at, recorded}
use Rattle.player.specs.Run.{begun_format, played, start_world, lines_from, lines_of}
use Rattle.recorded_runs.specs.Recorded.{Phase, after_formatting, phase_after, told_lines, told_from, PrintsHistory}
use Rattle.recorded_runs.proofs.Prints.{InPhase, same_run}
use Rattle.recorded_runs.proofs.Form.{BeginsWithFormat, begins_of}

-- the medium that a run starts with is of allowed length, so formatting begins
pub size_ok_lem : (n : ℕ) → 4 ≤ n → n ≤ 16 → size_ok (4096 * n) ≡ true
unfolding size_ok every
size_ok_lem n low high =
    rw (eq-eqb (4096 * n % 4096) 0 (omega arith), le-leb 4 (4096 * n / 4096) (omega arith), le-leb (4096 * n / 4096) most_blocks (omega arith)) refl

module _ (t : List ℕ) (B : BeginsWithFormat t) where
  abbrev medium : List ℕ
  medium = blank (4096 * number_at t 0)

  long : length medium ≡ 4096 * number_at t 0
  long = length_blank (4096 * number_at t 0)

  formats : format_of (length medium) ≡ gives (formatting (length medium / 4096))
  formats = begun_there (length medium) (rw long (size_ok_lem (number_at t 0) B.low B.high))

  -- where the first call leads
  pub first_stands : InPhase Phase.formatting (played (start_world t) (Recorded.format (number_at t 0))).moment.after
  unfolding start_world played begun_format
  first_stands = rw formats (InPhase.formatting (Formatting.begun medium (formatting (length medium / 4096)) fresh (bytes_blank (4096 * number_at t 0)) formats) refl (omega (arith, long, B.high)))

  same_lines : lines_from (start_world t) (recorded t) ≡ told_from Phase.formatting (start_world t) (recorded t)
  same_lines = rw B.are (unfold lines_from told_from told_lines phase_after after_formatting in rw (same_run Phase.formatting _ B.rest first_stands B.later) refl)

pub prints_history : PrintsHistory
unfolding PrintsHistory lines_of
prints_history t b e = rw e (same_lines t (begins_of t b e))
