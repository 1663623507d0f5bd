use Rattle.reply_lines.proofs.Laws.{many_none, many_some}
use borrow.Author.Rules.{rules}
use Rattle.reply_lines.proofs.valves_set.Goals as goal

pub returns-in_default : goal.returns-in_default
returns-in_default c = search (many_none, rules)

pub returns : goal.returns
returns c = search (many_some, rules)
