use Rattle.trace.proofs.Laws.{Summed}
use Rattle.trace.proofs.ends_with_data.Given as goal

abbrev pub invariant-loop-i : goal.invariant-loop-i
invariant-loop-i l = Summed l.t l.i l.at
