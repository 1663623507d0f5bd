-- The claim about the text of a trace.
use mathlib.Core.Path.{◌≡◌, ap}
use mathlib.Core.List.{append-nil}
use Rattle.listing.specs.Listing.{refusal_line}
use Rattle.player.specs.Run.{lines_of}
use Rattle.run_text.specs.RunText.{line_text, lines_text, run_text}
use Rattle.recorded_runs.specs.Recorded.{PrintsHistory}
use Rattle.recorded_runs.specs.Text.{TextOfHistory, PrintsHistoryText}
use Rattle.recorded_runs.proofs.Whole.{prints_history}

pub prints_history_text : PrintsHistoryText
unfolding PrintsHistoryText PrintsHistory run_text lines_of lines_text line_text
prints_history_text t b = record { broken = λ e. rw e (append-nil (refusal_line 26)); told = λ e. ap lines_text (prints_history t b e) }
