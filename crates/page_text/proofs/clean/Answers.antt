use Rattle.page_text.specs.PageText.{field_text}
use Rattle.page_text.proofs.Laws.{clean_none, clean_one, clean_more}
use Rattle.text.proofs.Laws.{puts_then}
use Rattle.text.specs.Text.{ascii}
use borrow.Author.Rules.{rules}
use Rattle.page_text.proofs.clean.Goals as goal

pub returns-then-e-a : goal.returns-then-e-a
returns-then-e-a c = search (clean_none, rules)

pub returns-then-a-e : goal.returns-then-a-e
unfolding field_text ascii
returns-then-a-e c = search (clean_one, puts_then, rules)

pub returns-else-a-e : goal.returns-else-a-e
unfolding field_text ascii
returns-else-a-e c = search (clean_more, puts_then, rules)
