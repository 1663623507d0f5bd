use borrow.Author.Rules.{rules}
use Rattle.lists.proofs.Laws.{held_start}
use Rattle.trace.proofs.Laws.{calls_stop, calls_next, calls_end}
use Rattle.trace.proofs.calls_ok.Goals as goal

pub loop-i-init : goal.loop-i-init
loop-i-init c = search (held_start, rules)

pub returns-then-not-call_ok : goal.returns-then-not-call_ok
returns-then-not-call_ok c = search (calls_stop, rules)

pub loop-i-preserved : goal.loop-i-preserved
loop-i-preserved c = search (calls_next, rules)

pub returns : goal.returns
returns c = search (calls_end, rules)
