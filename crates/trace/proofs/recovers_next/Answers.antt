use Rattle.trace.proofs.Laws.{next_any, next_last, next_recovery}
use Rattle.trace.proofs.recovers_next.Goals as goal

pub returns-then-ne : goal.returns-then-ne
returns-then-ne c = next_any _ _ _ c.kind_at.ensures _ c.ne.ensures c.if-ne.true

pub returns-then-i-count : goal.returns-then-i-count
returns-then-i-count c = next_recovery _ _ _ c.kind_at.ensures _ c.ne.ensures c.if-ne.false _ c.count.ensures _ _ c.if-i-count.true c.kind_at-then-i-count.ensures c.eq.ensures

pub returns-else-i-count : goal.returns-else-i-count
returns-else-i-count c = next_last _ _ _ c.kind_at.ensures _ c.ne.ensures c.if-ne.false _ c.count.ensures c.if-i-count.false
