use Rattle.player.proofs.Cuts.{rehearse_is}
use borrow.Author.Rules.{rules}
use Rattle.player.proofs.rehearse.Goals as goal

pub returns : goal.returns
returns c = search (rehearse_is, rules)
