use Rattle.index.proofs.Pairs.{held_there}
use borrow.Author.Rules.{rules}
use Rattle.wanted_group.proofs.Comparison.{held_out}
use Rattle.wanted_group.proofs.is_at.Goals as goal

pub returns-then-at-n : goal.returns-then-at-n
returns-then-at-n c = search (held_there, rules)

pub returns-else-at-n : goal.returns-else-at-n
returns-else-at-n c = search (held_out, rules)
