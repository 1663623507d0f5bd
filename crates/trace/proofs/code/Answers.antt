use Rattle.trace.proofs.Laws.{code_is}
use borrow.Author.Rules.{rules}
use Rattle.trace.proofs.code.Goals as goal

pub returns : goal.returns
returns c = search (code_is, rules)
