use Rattle.std.proofs.Common.{rules}
use Rattle.text.specs.Text.{ascii}
use Rattle.text.proofs.Laws.{puts_then}
use Rattle.text.proofs.Text.line.Goals as goal

pub returns : goal.returns
unfolding ascii
returns c = search (puts_then, rules)
