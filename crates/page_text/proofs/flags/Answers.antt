use Rattle.page_text.specs.PageText.{field_text, flags_text}
use Rattle.text.proofs.Laws.{puts_then}
use Rattle.text.specs.Text.{ascii}
use Rattle.page_text.proofs.flags.Goals as goal

pub returns : goal.returns
unfolding flags_text field_text ascii
returns c = puts_then (rw c.from.ensures at c.field.ensures) c.flags_name.ensures
