use Rattle.run_text.proofs.Laws.{replying_end, replying_next, replying_start}
use borrow.Author.Rules.{rules}
use Rattle.run_text.proofs.reply.Goals as goal

pub loop-k-init : goal.loop-k-init
loop-k-init c = search (replying_start, rules)

pub loop-k-preserved : goal.loop-k-preserved
loop-k-preserved c = search (replying_next, rules)

pub returns : goal.returns
returns c = search (replying_end, rules)
