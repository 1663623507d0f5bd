use Rattle.page_text.proofs.Medium.{end_none, end_refused}
use borrow.Author.Rules.{rules}
use Rattle.page_text.proofs.end.Goals as goal

pub returns-then-r-ne0 : goal.returns-then-r-ne0
returns-then-r-ne0 c = search (end_refused, rules)

pub returns-else-r-ne0 : goal.returns-else-r-ne0
returns-else-r-ne0 c = search (end_none, rules)
