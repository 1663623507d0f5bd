use Rattle.begin.proofs.Laws.{collect_begun, collect_refused}
use mathlib.Core.Path.{◌∙◌}
use Rattle.journal_c.proofs.vj_collect.Goals as goal

pub returns-then-r-eq0 : goal.returns-then-r-eq0
returns-then-r-eq0 c = collect_begun c.args.m.now c.args.s c.args.b.now c.args.block _ (c.number_in.ensures ∙ c.check_collect.ensures) c.if-r-eq0.true

pub returns-else-r-eq0 : goal.returns-else-r-eq0
returns-else-r-eq0 c = collect_refused c.args.m.now c.args.s c.args.b.now c.args.block _ (c.number_in.ensures ∙ c.check_collect.ensures) c.if-r-eq0.false
