use Rattle.player.proofs.Laws.{flush_lost, flush_held}
use borrow.Author.Rules.{rules}
use Rattle.player.proofs.flush.Goals as goal

pub returns-in_default : goal.returns-in_default
returns-in_default c = search (flush_lost, rules)

pub returns : goal.returns
returns c = search (flush_held, rules)
