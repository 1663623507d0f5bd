use Rattle.player.proofs.Laws.{commit_lost, commit_held}
use borrow.Author.Rules.{rules}
use Rattle.player.proofs.commit.Goals as goal

pub returns-in_default : goal.returns-in_default
returns-in_default c = search (commit_lost, rules)

pub returns : goal.returns
returns c = search (commit_held, rules)
