use Rattle.wanted_group.proofs.Comparison.{group_more, group_whole}
use borrow.Author.Rules.{rules}
use Rattle.wanted_group.proofs.group.Goals as goal

pub returns-then-c : goal.returns-then-c
returns-then-c c = search (group_more, rules)

pub returns : goal.returns
returns c = search (group_whole, rules)
