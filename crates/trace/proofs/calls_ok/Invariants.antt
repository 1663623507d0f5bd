use Rattle.lists.proofs.Laws.{Held}
use Rattle.trace.specs.Trace.{call_count, call_ok}
use Rattle.trace.proofs.calls_ok.Given as goal

abbrev pub invariant-loop-i : goal.invariant-loop-i
invariant-loop-i l = Held (call_count l.t) l.i (call_ok l.t)
