use Rattle.begin.proofs.Laws.{commit_begun, commit_refused}
use mathlib.Core.Path.{◌∙◌}
use Rattle.journal_c.proofs.vj_commit.Goals as goal

pub returns-then-r-eq0 : goal.returns-then-r-eq0
returns-then-r-eq0 c = commit_begun c.args.m.now c.args.s c.args.b.now _ (c.number_in.ensures ∙ c.check_commit.ensures) c.if-r-eq0.true

pub returns-else-r-eq0 : goal.returns-else-r-eq0
returns-else-r-eq0 c = commit_refused c.args.m.now c.args.s c.args.b.now _ (c.number_in.ensures ∙ c.check_commit.ensures) c.if-r-eq0.false
