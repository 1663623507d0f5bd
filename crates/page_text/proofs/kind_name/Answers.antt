use Rattle.page_text.proofs.Laws.{kind_nodes, kind_base, kind_moved, kind_small, kind_other}
use Rattle.text.specs.Text.{ascii}
use borrow.Author.Rules.{rules}
use Rattle.page_text.proofs.kind_name.Goals as goal

pub returns-in-1 : goal.returns-in-1
unfolding ascii
returns-in-1 c = search (kind_nodes, rules)

pub returns-in-2 : goal.returns-in-2
unfolding ascii
returns-in-2 c = search (kind_base, rules)

pub returns-in-3 : goal.returns-in-3
unfolding ascii
returns-in-3 c = search (kind_moved, rules)

pub returns-in-4 : goal.returns-in-4
unfolding ascii
returns-in-4 c = search (kind_small, rules)

pub returns-in_default : goal.returns-in_default
unfolding ascii
returns-in_default c = search (kind_other, rules)
