use Rattle.page_text.proofs.Laws.{flags_neither, flags_begin, flags_end, flags_both, flags_other}
use Rattle.text.specs.Text.{ascii}
use borrow.Author.Rules.{rules}
use Rattle.page_text.proofs.flags_name.Goals as goal

pub returns-in-0 : goal.returns-in-0
unfolding ascii
returns-in-0 c = search (flags_neither, rules)

pub returns-in-1 : goal.returns-in-1
unfolding ascii
returns-in-1 c = search (flags_begin, rules)

pub returns-in-2 : goal.returns-in-2
unfolding ascii
returns-in-2 c = search (flags_end, rules)

pub returns-in-3 : goal.returns-in-3
unfolding ascii
returns-in-3 c = search (flags_both, rules)

pub returns-in_default : goal.returns-in_default
unfolding ascii
returns-in_default c = search (flags_other, rules)
