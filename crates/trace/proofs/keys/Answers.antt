use Rattle.trace.proofs.Laws.{numbers_end, numbers_next, numbers_start}
use borrow.Author.Rules.{rules}
use Rattle.trace.proofs.keys.Goals as goal

pub loop-i-init : goal.loop-i-init
loop-i-init c = search (numbers_start, rules)

pub loop-i-preserved : goal.loop-i-preserved
loop-i-preserved c = search (numbers_next, rules)

pub returns : goal.returns
returns c = (search rules, search (numbers_end, rules))
