use Rattle.wanted_group.proofs.Turns.{Appending, cells_of}
use Rattle.wanted_group.proofs.appended.Given as goal

abbrev pub invariant-loop-i : goal.invariant-loop-i
invariant-loop-i l = Appending (cells_of l.initial.n l.initial.keys l.initial.vals) l.c l.n l.i l.keys l.vals
