use Rattle.player.proofs.Cuts.{cut_lost, cut_missed, cut_played}
use borrow.Author.Rules.{rules}
use Rattle.player.proofs.cut.Goals as goal

pub returns-in_default : goal.returns-in_default
returns-in_default c = search (cut_lost, rules)

pub returns-then-not-strike : goal.returns-then-not-strike
returns-then-not-strike c = search (cut_missed, rules)

pub returns : goal.returns
returns c = search (cut_played, rules)
