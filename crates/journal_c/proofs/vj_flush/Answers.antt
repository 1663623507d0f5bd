use Rattle.begin.proofs.Laws.{flush_begun, flush_refused}
use mathlib.Core.Path.{◌∙◌}
use Rattle.journal_c.proofs.vj_flush.Goals as goal

pub returns-then-r-eq0 : goal.returns-then-r-eq0
returns-then-r-eq0 c = flush_begun c.args.m.now c.args.s c.args.b.now _ (c.number_in.ensures ∙ c.check_flush.ensures) c.if-r-eq0.true

pub returns-else-r-eq0 : goal.returns-else-r-eq0
returns-else-r-eq0 c = flush_refused c.args.m.now c.args.s c.args.b.now _ (c.number_in.ensures ∙ c.check_flush.ensures) c.if-r-eq0.false
