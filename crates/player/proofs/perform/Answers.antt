use Rattle.player.proofs.Laws.{cut_small}
use borrow.Author.Rules.{rules}
use Rattle.player.proofs.perform.Goals as goal

pub cut-requires : goal.cut-requires
cut-requires c = (cut_small _ _ _ _ c.in-Cut.is c.requires.0, search rules)
