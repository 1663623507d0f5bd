use Rattle.run_text.proofs.Laws.{broken_is}
use borrow.Author.Rules.{rules}
use Rattle.run_text.proofs.broken.Goals as goal

pub returns : goal.returns
returns c = search (broken_is, rules)
