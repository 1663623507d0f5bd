use Rattle.std.proofs.Common.{arith}
use Rattle.streams.proofs.Laws.{on_after, on_took, over_after, got_over, took_over}
use Rattle.streams.proofs.read_all.Goals as goal

pub loop-done-preserved : goal.loop-done-preserved
loop-done-preserved g c =
    let r = c.read-answer.ensures in
    let m = on_after _ _ c.loop-done.buf _ _ _ (omega arith) (omega arith) (omega arith) _ _ c.in-On.ensures r.bound r.bytes in
    record {
      within = omega (arith, m.is, m.few);
      few = omega arith;
      bytes = on_took _ _ _ _ _ _ _ _ (omega arith) m c.loop-done.invariant.bytes;
    }

pub loop-done-smaller : goal.loop-done-smaller
loop-done-smaller g c =
    let r = c.read-answer.ensures in
    let m = on_after _ _ c.loop-done.buf _ _ _ (omega arith) (omega arith) (omega arith) _ _ c.in-On.ensures r.bound r.bytes in
    omega (arith, m.is, m.some, m.few)

pub returns-in-Over-clause-got : goal.returns-in-Over-clause-got
returns-in-Over-clause-got g c =
    let r = c.read-answer.ensures in
    got_over _ _ _ _ (omega arith)
    (over_after _ _ c.loop-done.buf _ _ _ (omega arith) (omega arith) (omega arith) _ 0 _ _ c.in-Over.ensures r.bound r.bytes
    c.loop-done.invariant.bytes)

pub returns-in-Over-clause-took : goal.returns-in-Over-clause-took
returns-in-Over-clause-took g c =
    let r = c.read-answer.ensures in
    took_over _ _ _
    (over_after _ _ c.loop-done.buf _ _ _ (omega arith) (omega arith) (omega arith) _ _ _ _ c.in-Over.ensures r.bound r.bytes
    c.loop-done.invariant.bytes)
