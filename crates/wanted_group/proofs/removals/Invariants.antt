use Rattle.wanted_group.proofs.Turns.{Removing}
use Rattle.wanted_group.proofs.removals.Given as goal

abbrev pub invariant-loop-i : goal.invariant-loop-i
invariant-loop-i l = Removing l.present.count l.present.keys l.present.vals l.c.named l.count l.i l.keys l.vals
