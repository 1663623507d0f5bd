use Rattle.reply_lines.proofs.Laws.{setting_is}
use borrow.Author.Rules.{rules}
use Rattle.reply_lines.proofs.setting.Goals as goal

pub returns : goal.returns
returns c = search (setting_is, rules)
