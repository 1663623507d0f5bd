use Rattle.text.specs.Text.{ascii}
use Rattle.run_text.proofs.Laws.{line_log, line_refusal, line_set, line_setting}
use borrow.Author.Rules.{rules}
use Rattle.run_text.proofs.line.Goals as goal

pub returns-in-Refusal : goal.returns-in-Refusal
unfolding ascii
returns-in-Refusal c = search (line_refusal, rules)

pub returns-in-LogLength : goal.returns-in-LogLength
returns-in-LogLength c = search (line_log, rules)

pub returns-in-ValvesSet : goal.returns-in-ValvesSet
returns-in-ValvesSet c = search (line_set, rules)

pub returns-in-Setting : goal.returns-in-Setting
returns-in-Setting c = search (line_setting, rules)
