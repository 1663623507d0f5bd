use Rattle.page_text.proofs.Laws.{puts_four}
use Rattle.page_text.specs.PageText.{field_text, entry_line}
use Rattle.text.specs.Text.{ascii}
use Rattle.page_text.proofs.entry.Goals as goal

pub returns : goal.returns
unfolding entry_line field_text ascii
returns c = puts_four c.field.ensures (rw c.from.ensures at c.field-2.ensures) c.field-3.ensures c.push.ensures
