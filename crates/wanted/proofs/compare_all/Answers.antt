-- A turn compares the next record, and after the last turn none is left.
use Rattle.std.proofs.Common.{ap}
use Rattle.lists.specs.Cells.{listed}
use Rattle.records.specs.Records.{wanted_settings}
use Rattle.wanted_group.specs.Compare.{SoFar, compared_all, so_far}
use Rattle.wanted.proofs.InTurn.{turn_next, turn_end}
use Rattle.wanted.proofs.compare_all.Goals as goal

pub loop-r-init : goal.loop-r-init
loop-r-init c = record {
  still = record { few = c.not_compared-c.ensures.few };
  so = ap (λ (t : SoFar). compared_all (listed c.args.present) t (wanted_settings c.args.list.now)) c.not_compared-c.ensures.so;
}

pub loop-r-preserved : goal.loop-r-preserved
loop-r-preserved c = record {
  still = record { few = c.compare-c.ensures.few };
  so = turn_next (listed c.args.present) c.args.list.now c.loop-r.r-index _ (so_far c.loop-r.c) (so_far c.compare-c.result) c.loop-r-test.true c.compare-c.ensures.so c.loop-r.invariant.so;
}

pub returns : goal.returns
returns c = record {
  few = c.loop-r.invariant.still.few;
  so = turn_end (listed c.args.present) c.args.list.now c.loop-r.r-index (so_far c.loop-r.c) c.loop-r-test.false c.loop-r.invariant.so;
}
