use Rattle.trace.proofs.Laws.{number_is}
use borrow.Author.Rules.{rules}
use Rattle.trace.proofs.number.Goals as goal

pub returns : goal.returns
returns c = search (number_is, rules)
