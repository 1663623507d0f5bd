-- A turn notes the next record, and after the last turn none is left.
use Rattle.records.proofs.Laws.{all_next, all_end}
use Rattle.records.proofs.gather.Goals as goal

pub loop-r-preserved : goal.loop-r-preserved
loop-r-preserved c = all_next c.args.list.now c.loop-r.r-index _ c.loop-r.n c.note-n.result c.loop-r-test.true c.note-n.ensures c.loop-r.invariant

pub returns : goal.returns
returns c = all_end c.args.list.now c.loop-r.r-index c.loop-r.n c.loop-r-test.false c.loop-r.invariant
