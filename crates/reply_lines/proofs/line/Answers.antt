use Rattle.reply_lines.proofs.Laws.{line_past, line_none, line_refused, line_recovered, line_place, few_many}
use borrow.Author.Rules.{rules}
use Rattle.reply_lines.proofs.line.Goals as goal

pub returns-then-line_count-k : goal.returns-then-line_count-k
returns-then-line_count-k c = search (line_past, rules)

pub returns-in-Nothing : goal.returns-in-Nothing
returns-in-Nothing c = search (line_none, rules)

pub returns-in-Refused : goal.returns-in-Refused
returns-in-Refused c = search (line_refused, rules)

pub recovery_line-requires : goal.recovery_line-requires
recovery_line-requires c = (search (few_many, rules), search (line_place, rules))

pub returns-in-Recovered : goal.returns-in-Recovered
returns-in-Recovered c = search (line_recovered, rules)
