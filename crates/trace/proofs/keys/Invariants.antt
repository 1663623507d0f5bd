use Rattle.trace.proofs.Laws.{NumbersRead}
use Rattle.trace.proofs.keys.Given as goal

abbrev pub invariant-loop-i : goal.invariant-loop-i
invariant-loop-i l = NumbersRead 2 l.n l.k l.t l.all l.i
