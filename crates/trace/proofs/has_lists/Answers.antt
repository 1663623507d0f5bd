use Rattle.trace.proofs.Laws.{lists_none, lists_some, lists_empty}
use borrow.Author.Rules.{rules}
use Rattle.trace.proofs.has_lists.Goals as goal

pub returns-then-n-gt-MOST : goal.returns-then-n-gt-MOST
returns-then-n-gt-MOST c = lists_none _ c.then-n-gt-MOST.either

pub returns-then-calls-gt0 : goal.returns-then-calls-gt0
returns-then-calls-gt0 c = search (lists_some, rules)

pub returns-else-calls-gt0 : goal.returns-else-calls-gt0
returns-else-calls-gt0 c = search (lists_empty, rules)
