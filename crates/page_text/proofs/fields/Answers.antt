use Rattle.page_text.specs.PageText.{field_text}
use Rattle.page_text.proofs.Laws.{fields_are, puts_four}
use Rattle.text.specs.Text.{ascii}
use Rattle.page_text.proofs.fields.Goals as goal

pub returns : goal.returns
unfolding field_text ascii
returns c =
    fields_are _ _ _ c.le64.ensures c.used.ensures
    (puts_four c.kind.ensures c.flags.ensures c.field.ensures c.field-2.ensures)
