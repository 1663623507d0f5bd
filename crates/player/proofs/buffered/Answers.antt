use Rattle.player.proofs.Laws.{buffer_lost, buffer_held}
use borrow.Author.Rules.{rules}
use Rattle.player.proofs.buffered.Goals as goal

pub returns-in_default : goal.returns-in_default
returns-in_default c = search (buffer_lost, rules)

pub returns : goal.returns
returns c = search (buffer_held, c.number_in-number.ensures, c.buffer.ensures, rules)
