use Rattle.text.specs.Filled.{filled}
use Rattle.run_text.proofs.Laws.{Replying}
use Rattle.run_text.proofs.reply.Given as goal

abbrev pub invariant-loop-k : goal.invariant-loop-k
invariant-loop-k l = Replying l.m l.r (filled l.initial.out) (filled l.out) l.k
