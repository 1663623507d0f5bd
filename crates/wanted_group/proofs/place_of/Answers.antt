use Rattle.index.proofs.Pairs.{lent_ascends}
use Rattle.wanted_group.proofs.Comparison.{place_here, place_none}
use borrow.Author.Rules.{rules}
use Rattle.wanted_group.proofs.place_of.Goals as goal

pub returns-then-is_at : goal.returns-then-is_at
returns-then-is_at c = search (place_here, rules)

pub rank16-at-requires : goal.rank16-at-requires
rank16-at-requires c = (search rules, search rules, search lent_ascends)

pub returns-then-is_at-2 : goal.returns-then-is_at-2
returns-then-is_at-2 c = search (place_here, rules)

pub returns : goal.returns
returns c = search (place_none, rules)
