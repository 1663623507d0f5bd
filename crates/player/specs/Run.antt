-- Document 02's Paper 13: a recorded call played, and the lines of a whole run.
use Rattle.std.specs.Prelude.{Bool, true, false, cond, List, [], ◌∷◌, ◌++◌, ℕ, ◌+◌, ◌*◌, length, eqb}
use Rattle.std.specs.Prelude.{None, Some}
use Rattle.lists.specs.Needs.{Answer, refused, gives}
use Rattle.codec.specs.Codec.{blank}
use Rattle.flash.specs.Medium.{views}
use Rattle.state.specs.State.{Held}
use Rattle.recovery.specs.Recovery.{Recovery, recover as recover_of}
use Rattle.calls.specs.Calls.{format_of, append_of, commit_of, collect_of, buffer_of, flush_of, zip}
use Rattle.step.specs.Step.{Step, program, erase}
use Rattle.valve_log.specs.History.{unchanged, began_append, began_commit, began_collect, put_in, began_flush}
use Rattle.valve_log.specs.Reached.{World, world, fresh, with_state, step_due, Moment, moment, still, called, filled, stepped, cut_short, recovered}
use Rattle.trace.specs.Trace.{Recorded, number_at, well_formed, recorded}
use Rattle.cut_patterns.specs.Cuts.{left_by_cut}
use Rattle.player.specs.Lines.{Line, refusal_lines, recovery_lines}

-- ---- what a call answers in a world

-- Without a state a call has nothing to be made with (`valve_log` Reached: `happen`): it is answered as a step would be, 9. In a trace of the form no call
-- meets this.
unfoldable pub with_held : {A : Type 0} → World → (Held → Answer A) → Answer A
with_held w f = with_state w.state (refused 9) f

abbrev pub append_in : World → List ℕ → List ℕ → Answer Held
append_in w ks ws = with_held w (λ s. append_of (length w.medium) (views w.medium) s w.buffer ks ws)

abbrev pub commit_in : World → Answer Held
commit_in w = with_held w (λ s. commit_of (length w.medium) (views w.medium) s w.buffer)

abbrev pub collect_in : World → ℕ → Answer Held
collect_in w b = with_held w (λ s. collect_of (length w.medium) (views w.medium) s w.buffer b)

abbrev pub buffer_in : World → List ℕ → List ℕ → Answer (List ℕ)
buffer_in w ks ws = with_held w (λ s. buffer_of (length w.medium) (views w.medium) s w.buffer ks ws)

abbrev pub flush_in : World → Answer Held
flush_in w = with_held w (λ s. flush_of (length w.medium) (views w.medium) s w.buffer)

abbrev pub recover_in : World → Answer Recovery
recover_in w = recover_of (length w.medium) (views w.medium)

-- ---- one call played

-- the moment that it leads to, the lines printed, and whether the run ends with it
pub record Turn : Type 0 where
  pub moment : Moment
  pub lines : List Line
  pub ends : Bool

-- "after a call the journal refuses the trace goes on"
abbrev pub run_goes_on : Moment → List Line → Turn
run_goes_on k lines = record { moment = k; lines = lines; ends = false }

-- "but a refused recovery or 27 ends it"
abbrev pub run_ends_with : World → ℕ → Turn
run_ends_with w n = record { moment = still w; lines = Line.refusal n ∷ []; ends = true }

-- formatting begun on the medium of a world, and the buffer as it is lent from then on
unfoldable pub begun_format : World → Answer Held → Moment
begun_format w (refused n) = still w
begun_format w (gives s) = moment w.medium (Some s) fresh unchanged

unfoldable pub played_recovery : World → Answer Recovery → Turn
played_recovery w (refused n) = run_ends_with w n
played_recovery w (gives r) = run_goes_on (recovered w (gives r)) (recovery_lines (views w.medium) r)

-- what a step touches, as a cut names it: "page, or 256 + block"
unfoldable pub name_of : Step → ℕ
name_of (program p pg s finished) = p
name_of (erase b s finished) = 256 + b

-- "A cut takes the place of the step due"; "27 if no step is due at a cut or the cut names another page or block"
unfoldable pub played_cut : World → ℕ → List ℕ → Answer Step → Turn
played_cut w name pattern (refused n) = run_ends_with w 27
played_cut w name pattern (gives due) =
    cond (eqb name (name_of due)) (run_goes_on (cut_short w (left_by_cut w.medium due pattern) (gives due)) []) (run_ends_with w 27)

-- A call played in a world. The buffer is lent "all FFh after formatting": nothing is said of it at the step that finishes formatting, since it is all FFh
-- there. It is so where formatting begins (`begun_format`), and buffering is refused (8) till formatting has finished; a cut or a recovery lends it anew.
unfoldable pub played : World → Recorded → Turn
played w (Recorded.format n) = run_goes_on (begun_format w (format_of (length w.medium))) (refusal_lines (format_of (length w.medium)))
played w (Recorded.append ks ws) = run_goes_on (called w (began_append (zip ks ws)) (append_in w ks ws)) (refusal_lines (append_in w ks ws))
played w Recorded.commit = run_goes_on (called w began_commit (commit_in w)) (refusal_lines (commit_in w))
played w (Recorded.collect b) = run_goes_on (called w began_collect (collect_in w b)) (refusal_lines (collect_in w b))
played w Recorded.step = run_goes_on (stepped w (step_due w)) (refusal_lines (step_due w))
played w (Recorded.cut name pattern) = played_cut w name pattern (step_due w)
played w Recorded.recover = played_recovery w (recover_in w)
played w (Recorded.buffer ks ws) = run_goes_on (filled w (put_in (zip ks ws)) (buffer_in w ks ws)) (refusal_lines (buffer_in w ks ws))
played w Recorded.flush = run_goes_on (called w began_flush (flush_in w)) (refusal_lines (flush_in w))

-- ---- the run

-- "The medium starts all FFh": so many blocks as the first call, a format, names; there is no state yet
unfoldable pub start_world : List ℕ → World
start_world t = world (blank (4096 * number_at t 0)) None fresh

-- the lines of calls from a world on, up to one that ends the run
unfoldable pub lines_from : World → List Recorded → List Line
lines_from w [] = []
lines_from w (c ∷ cs) = (played w c).lines ++ cond (played w c).ends [] (lines_from (played w c).moment.after cs)

-- the lines of a trace: "26, before any call, if the trace breaks this form"
unfoldable pub lines_of : List ℕ → List Line
lines_of t = cond (well_formed t) (lines_from (start_world t) (recorded t)) (Line.refusal 26 ∷ [])
