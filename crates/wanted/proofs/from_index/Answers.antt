use Rattle.wanted.proofs.Laws.{index_6, index_start}
use borrow.Author.Rules.{rules}
use Rattle.wanted.proofs.from_index.Goals as goal

pub returns-then-not-present : goal.returns-then-not-present
returns-then-not-present c = search (index_6, rules)

pub returns : goal.returns
returns c = search (index_start, rules)
