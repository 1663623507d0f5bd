use Rattle.trace.proofs.Laws.{kind_is}
use Rattle.trace.proofs.kind_at.Goals as goal

pub returns : goal.returns
returns c = kind_is _ _ _ _ c.read_kind.ensures c.unwrap_or.ensures
