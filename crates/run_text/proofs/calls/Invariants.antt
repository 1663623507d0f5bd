use Rattle.text.specs.Filled.{filled}
use Rattle.run_text.proofs.Laws.{Running}
use Rattle.run_text.proofs.calls.Given as goal

abbrev pub invariant-loop-run : goal.invariant-loop-run
invariant-loop-run l = Running l.t l.from l.initial.m l.initial.b (filled l.fn.out) l.run l.m l.b (filled l.out)

abbrev pub decreases-loop-run : goal.decreases-loop-run
decreases-loop-run l = l.run.left
