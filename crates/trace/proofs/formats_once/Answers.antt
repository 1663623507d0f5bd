use Rattle.trace.proofs.Laws.{once_is}
use Rattle.trace.proofs.formats_once.Goals as goal

pub returns : goal.returns
returns c = once_is _ _ _ c.kind_at.ensures _ c.eq.ensures
