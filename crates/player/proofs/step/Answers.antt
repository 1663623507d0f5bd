use Rattle.player.proofs.Laws.{step_lost, step_held}
use borrow.Author.Rules.{rules}
use Rattle.player.proofs.step.Goals as goal

pub returns-in_default : goal.returns-in_default
returns-in_default c = search (step_lost, rules)

pub returns : goal.returns
returns c = search (step_held, rules)
