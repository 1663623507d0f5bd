use Rattle.std.proofs.Common.{rules}
use Rattle.text.proofs.Laws.{puts_then}
use Rattle.text.proofs.Text.field.Goals as goal

pub returns : goal.returns
returns c = search (puts_then, rules)
