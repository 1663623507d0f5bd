use Rattle.begin.proofs.Laws.{append_begun, append_refused, append_keys, append_words}
use mathlib.Core.Path.{◌∙◌}
use borrow.Author.Rules.{rules}
use Rattle.journal_c.proofs.vj_append.Goals as goal

pub store-requires : goal.store-requires
store-requires c = search (append_keys c.args.m.now c.args.s c.args.b.now c.args.keys.now c.args.words.now _ (c.number_in.ensures ∙ c.check_append.ensures) c.if-r-eq0.true, rules)

pub store-requires-then-r-eq0 : goal.store-requires-then-r-eq0
store-requires-then-r-eq0 c = search (append_words c.args.m.now c.args.s c.args.b.now c.args.keys.now c.args.words.now _ (c.number_in.ensures ∙ c.check_append.ensures) c.if-r-eq0.true, rules)

pub returns-then-r-eq0 : goal.returns-then-r-eq0
returns-then-r-eq0 c = search (append_begun c.args.m.now c.args.s c.args.b.now c.args.keys.now c.args.words.now _ (c.number_in.ensures ∙ c.check_append.ensures), rules)

pub returns-else-r-eq0 : goal.returns-else-r-eq0
returns-else-r-eq0 c = append_refused c.args.m.now c.args.s c.args.b.now c.args.keys.now c.args.words.now _ (c.number_in.ensures ∙ c.check_append.ensures) c.if-r-eq0.false
