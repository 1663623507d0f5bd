-- Document 02's Paper 13, of the text that `rerun` prints: "once formatting has finished they equal what the history defines".
use Rattle.std.specs.Prelude.{◌≡◌, true, false, List, ℕ}
use Rattle.lists.specs.Lists.{Bytes}
use Rattle.listing.specs.Listing.{refusal_line}
use Rattle.trace.specs.Trace.{well_formed, recorded}
use Rattle.player.specs.Run.{start_world}
use Rattle.run_text.specs.RunText.{lines_text, run_text}
use Rattle.recorded_runs.specs.Recorded.{Phase, told_from}

-- The text of a trace: 26 alone if the trace breaks the form, else the text of what the history defines.
pub record TextOfHistory (t : List ℕ) : Type 0 where
  pub broken : well_formed t ≡ false → run_text t ≡ refusal_line 26
  pub told : well_formed t ≡ true → run_text t ≡ lines_text (told_from Phase.formatting (start_world t) (recorded t))

unfoldable pub PrintsHistoryText : Type 0
PrintsHistoryText = (t : List ℕ) → Bytes t → TextOfHistory t
