use Rattle.std.proofs.Common.{arith}
use Rattle.streams.proofs.Laws.{gave_more}
use Rattle.streams.proofs.write.Goals as goal

pub loop-done-preserved : goal.loop-done-preserved
loop-done-preserved g c =
    let r = c.in-Ok.ensures in
    record { within = omega arith; few = omega arith; bytes = gave_more _ _ _ _ _ _ _ (omega arith) c.loop-done.invariant.bytes r.bytes }
