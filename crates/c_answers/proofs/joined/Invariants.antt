use Rattle.c_answers.proofs.Laws.{JoinedTo}
use Rattle.c_answers.proofs.joined.Given as goal

abbrev pub invariant-loop-i : goal.invariant-loop-i
invariant-loop-i l = JoinedTo l.rows l.all l.i
