use Rattle.trace.proofs.Laws.{group_unknown}
use Rattle.trace.proofs.has_group.Goals as goal

pub returns-in-Err : goal.returns-in-Err
returns-in-Err c = group_unknown _ _ _ c.try_from.ensures c.in-Err.is
