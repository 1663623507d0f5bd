use Rattle.reply_lines.proofs.Laws.{recovery_log, recovery_none, recovery_set, recovery_place, recovery_few, recovery_setting}
use borrow.Author.Rules.{rules}
use Rattle.reply_lines.proofs.recovery_line.Goals as goal

pub returns-then-k-eq0 : goal.returns-then-k-eq0
returns-then-k-eq0 c = search (recovery_log, rules)

pub returns-in_default : goal.returns-in_default
returns-in_default c = search (recovery_none, rules)

pub returns-then-k-eq1 : goal.returns-then-k-eq1
returns-then-k-eq1 c = search (recovery_set, rules)

pub setting-requires : goal.setting-requires
setting-requires c = (search (recovery_place, rules), search (recovery_few, rules))

pub returns : goal.returns
returns c = search (recovery_setting, rules)
