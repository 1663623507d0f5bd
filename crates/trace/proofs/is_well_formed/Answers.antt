use Rattle.trace.proofs.Laws.{formed_calls, formed_end, formed_lists, lists_there}
use borrow.Author.Rules.{rules}
use Rattle.trace.proofs.is_well_formed.Goals as goal

pub returns-then-not-has_lists : goal.returns-then-not-has_lists
returns-then-not-has_lists c = search (formed_lists, rules)

pub calls_ok-requires : goal.calls_ok-requires
calls_ok-requires c = search (lists_there, rules)

pub ends_with_data-requires : goal.ends_with_data-requires
ends_with_data-requires c = search (lists_there, rules)

pub returns-then-calls_ok : goal.returns-then-calls_ok
returns-then-calls_ok c = search (formed_end, rules)

pub returns-else-calls_ok : goal.returns-else-calls_ok
returns-else-calls_ok c = search (formed_calls, rules)
