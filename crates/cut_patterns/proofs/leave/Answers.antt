use Rattle.cut_patterns.proofs.Cuts.{leave_refused, leave_other, leave_block, leave_another, leave_page}
use borrow.Author.Rules.{rules}
use Rattle.cut_patterns.proofs.leave.Goals as goal

pub returns-then-r-ne0 : goal.returns-then-r-ne0
returns-then-r-ne0 c = search (leave_refused, rules)

pub returns-then-name-lt256 : goal.returns-then-name-lt256
returns-then-name-lt256 c = search (leave_other, rules)

pub returns-then-r-eq-BLOCK : goal.returns-then-r-eq-BLOCK
returns-then-r-eq-BLOCK c = search (leave_block, rules)

pub returns-then-name-r-2 : goal.returns-then-name-r-2
returns-then-name-r-2 c = search (leave_another, rules)

pub returns : goal.returns
returns c = search (leave_page, rules)
