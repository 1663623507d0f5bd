use Rattle.page_text.specs.PageText.{field_text, page_text}
use Rattle.page_text.proofs.Laws.{puts_four}
use Rattle.text.specs.Text.{ascii}
use borrow.Author.Rules.{rules}
use Rattle.page_text.proofs.page.Goals as goal

pub returns : goal.returns
unfolding page_text field_text ascii
returns c = search (puts_four, rules)
