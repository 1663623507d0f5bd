use Prim.Native.Nat.{◌-◌}
use Rattle.wanted_group.proofs.Turns.{Appending, cells_of, append_start, append_next, append_over, append_end}
use borrow.Author.Rules.{rules}
use Rattle.wanted_group.proofs.appended.Goals as goal

pub returns-then-a-count-gt96 : goal.returns-then-a-count-gt96
returns-then-a-count-gt96 c = search (append_over, rules)

pub loop-i-init : goal.loop-i-init
loop-i-init c = search (append_start, rules)

pub loop-i-preserved : goal.loop-i-preserved
loop-i-preserved c = search (append_next, rules)

pub returns : goal.returns
returns c = search (append_end, rules)
