use Rattle.c_answers.proofs.Laws.{joined_start, joined_next, joined_end}
use borrow.Author.Rules.{rules}
use Rattle.c_answers.proofs.joined.Goals as goal

pub loop-i-init : goal.loop-i-init
loop-i-init c = search joined_start

pub loop-i-preserved : goal.loop-i-preserved
loop-i-preserved c = search joined_next

pub returns : goal.returns
returns c = search joined_end
