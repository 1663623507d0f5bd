use Rattle.text.specs.Filled.{filled}
use Rattle.page_text.proofs.Medium.{Listed}
use Rattle.page_text.proofs.pages.Given as goal

abbrev pub invariant-loop-p : goal.invariant-loop-p
invariant-loop-p l = Listed l.m (filled l.initial.out) (filled l.out) l.first l.p
