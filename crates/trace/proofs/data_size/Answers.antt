use Rattle.trace.proofs.Laws.{size_here, size_is}
use Rattle.trace.proofs.data_size.Goals as goal

pub size-requires : goal.size-requires
size-requires c = size_here _ _ _ _ c.kind_at.ensures c.number.ensures c.requires

pub returns : goal.returns
returns c = size_is _ _ _ _ c.kind_at.ensures c.number.ensures _ c.size.ensures
