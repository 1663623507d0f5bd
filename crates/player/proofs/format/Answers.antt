use Rattle.player.proofs.Laws.{format_begun, format_refused}
use borrow.Author.Rules.{rules}
use Rattle.player.proofs.format.Goals as goal

pub returns-then-f-ne0 : goal.returns-then-f-ne0
returns-then-f-ne0 c = search (format_refused, rules)

pub returns : goal.returns
returns c = search (format_begun, rules)
