-- Paper 7 of the code: what the effect's call answers after a program's run, and that the whole log's, laid on the settings at the last counted commit,
-- gives recovery's settings.
use Rattle.std.specs.Prelude.{◌≡◌, List, [], ℕ, length}
use Rattle.lists.specs.Cells.{Setting, listed}
use Rattle.flash.specs.Medium.{views}
use Rattle.index.specs.Index.{assign_all}
use Rattle.recover.specs.declared.Recovered.{Recovered}
use Rattle.recover.specs.Recovers.{Recovers}
use Rattle.spans.specs.declared.SpanEffect.{SpanEffect}
use Rattle.spans.specs.Spans.{span_effect}
use Rattle.spans.specs.Along.{effected, effected_by, Effects}
use Rattle.valve_log.specs.History.{History}
use Rattle.valve_log.specs.Reached.{Words}
use Rattle.valve_log.specs.SinceCommit.{settings_at_commit, last_committed_before}
use Rattle.journal.specs.Run.{Machine, told_by, Run}

-- the settings at the last counted commit along a run; "none set before the first"
unfoldable pub last_committed_in : (x : Machine) (h : History) → Run x h → List Setting
last_committed_in x h (Run.start z y F v last) = []
last_committed_in x h (Run.next z y k e R v) = settings_at_commit (last_committed_in z k R) k (told_by z y e v)
last_committed_in x h (Run.taken_over {w = w} {h = k} b) = last_committed_before w k b

-- Whatever the effect's call and recovery answer, of which nothing is known but the promise: the call answers of the history's log, so that 1 to 6 never
-- refuse it; and what it answers of the whole log, where that is not 22, laid on some settings gives recovery's valves, each with the word at its address.
pub record EffectTold (m : List ℕ) (h : History) (before : List Setting) : Type 0 where
  pub of_log : (first second : ℕ) (a : SpanEffect) → Effects m first second a → effected_by a ≡ effected (span_effect first second h.log)
  pub whole : (a : SpanEffect) (r : Recovered) → Effects m 0 (length h.log) a → Recovers m r → (a.number ≡ 22 → ⊥)
      → Words (views m) (listed r.state.index) (assign_all before (listed a.cells))

unfoldable pub EffectExplainsOfCode : Type 0
EffectExplainsOfCode = (x : Machine) (h : History) (R : Run x h) → EffectTold x.medium h (last_committed_in x h R)
