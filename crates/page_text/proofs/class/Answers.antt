use Rattle.page_text.proofs.Laws.{class_whole, class_spoilt}
use Rattle.text.proofs.Laws.{puts_then}
use Rattle.text.specs.Text.{ascii}
use borrow.Author.Rules.{rules}
use Rattle.page_text.proofs.class.Goals as goal

pub returns-then-is_whole : goal.returns-then-is_whole
unfolding ascii
returns-then-is_whole c = search (class_whole, puts_then, rules)

pub returns-else-is_whole : goal.returns-else-is_whole
unfolding ascii
returns-else-is_whole c = search (class_spoilt, puts_then, rules)
