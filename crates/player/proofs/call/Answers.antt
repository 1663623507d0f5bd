use Rattle.player.proofs.Laws.{code_fits, code_plays}
use borrow.Author.Rules.{rules}
use Rattle.player.proofs.call.Goals as goal

pub perform-requires : goal.perform-requires
perform-requires c = (code_fits _ _ _ _ _ _ _ c.recorded_call-c.ensures c.requires.0, search rules)

pub returns : goal.returns
returns c = code_plays _ _ _ _ _ _ c.recorded_call-c.ensures c.perform.ensures
