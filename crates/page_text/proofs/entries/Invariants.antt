use Rattle.text.specs.Filled.{filled}
use Rattle.page_text.proofs.Laws.{Entering}
use Rattle.page_text.proofs.entries.Given as goal

abbrev pub invariant-loop-i : goal.invariant-loop-i
invariant-loop-i l = Entering l.s (filled l.initial.out) (filled l.out) l.i
