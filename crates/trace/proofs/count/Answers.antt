use Rattle.trace.proofs.Laws.{count_is}
use borrow.Author.Rules.{rules}
use Rattle.trace.proofs.count.Goals as goal

pub returns : goal.returns
returns c = search (count_is, rules)
