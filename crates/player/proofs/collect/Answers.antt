use Rattle.player.proofs.Laws.{collect_lost, collect_held}
use borrow.Author.Rules.{rules}
use Rattle.player.proofs.collect.Goals as goal

pub returns-in_default : goal.returns-in_default
returns-in_default c = search (collect_lost, rules)

pub returns : goal.returns
returns c = search (collect_held, rules)
