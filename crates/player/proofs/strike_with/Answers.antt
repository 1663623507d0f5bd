use Rattle.player.proofs.Cuts.{strike_is}
use borrow.Author.Rules.{rules}
use Rattle.player.proofs.strike_with.Goals as goal

pub returns : goal.returns
returns c = search (strike_is, rules)
