use Rattle.trace.proofs.Laws.{pattern_is}
use borrow.Author.Rules.{rules}
use Rattle.trace.proofs.pattern.Goals as goal

pub returns : goal.returns
returns c = search (pattern_is, rules)
