use Rattle.trace.proofs.Laws.{NumbersRead}
use Rattle.trace.proofs.words.Given as goal

abbrev pub invariant-loop-i : goal.invariant-loop-i
invariant-loop-i l = NumbersRead 8 l.n l.k l.t l.all l.i
