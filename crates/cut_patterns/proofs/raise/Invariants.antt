use Rattle.cut_patterns.proofs.Cuts.{Raising}
use Rattle.cut_patterns.proofs.raise.Given as goal

abbrev pub invariant-loop-i : goal.invariant-loop-i
invariant-loop-i l = Raising l.initial.m l.at l.pattern l.m l.i
