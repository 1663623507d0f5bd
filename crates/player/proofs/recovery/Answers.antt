use Rattle.filing.proofs.Laws.{kept_part}
use Rattle.player.proofs.Laws.{kept_within, restored_accepted, restored_refused}
use borrow.Author.Rules.{rules}
use Rattle.player.proofs.recovery.Goals as goal

pub returns-in-Err : goal.returns-in-Err
returns-in-Err c = search (restored_refused, rules)

pub slice_bounds-count-end : goal.slice_bounds-count-end
slice_bounds-count-end c = search (kept_part, rules)

pub count-log-requires : goal.count-log-requires
count-log-requires c = search (kept_within, rules)

pub returns : goal.returns
returns c = search (restored_accepted, rules, c.recover_into.ensures, c.in-Ok.is)
