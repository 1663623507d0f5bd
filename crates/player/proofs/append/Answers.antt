use Rattle.player.proofs.Laws.{append_lost, append_held}
use borrow.Author.Rules.{rules}
use Rattle.player.proofs.append.Goals as goal

pub returns-in_default : goal.returns-in_default
returns-in_default c = search (append_lost, rules)

pub returns : goal.returns
returns c = search (append_held, rules)
