use Rattle.reply_lines.proofs.Laws.{count_fits, count_none, count_refused, count_summary}
use borrow.Author.Rules.{rules}
use Rattle.reply_lines.proofs.line_count.Goals as goal

pub returns-in-Nothing : goal.returns-in-Nothing
returns-in-Nothing c = search (count_none, rules)

pub returns-in-Refused : goal.returns-in-Refused
returns-in-Refused c = search (count_refused, rules)

pub overflow_add-result : goal.overflow_add-result
overflow_add-result c = search (count_fits, rules)

pub returns-in-Recovered : goal.returns-in-Recovered
returns-in-Recovered c = search (count_summary, rules)
