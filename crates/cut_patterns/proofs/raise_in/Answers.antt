use Rattle.cut_patterns.proofs.Cuts.{raise_there}
use borrow.Author.Rules.{rules}
use Rattle.cut_patterns.proofs.raise_in.Goals as goal

pub returns : goal.returns
returns c = search (raise_there, rules)
