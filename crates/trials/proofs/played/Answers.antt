use Rattle.trials.proofs.Laws.{fits}
use borrow.Author.Rules.{rules}
use Rattle.trials.proofs.played.Goals as goal

pub perform-requires : goal.perform-requires
perform-requires c = (search (fits, rules), search rules)
