use Rattle.reply_lines.proofs.Laws.{word_or}
use Rattle.reply_lines.proofs.word.Goals as goal

pub returns : goal.returns
returns c = word_or _ _ _ c.word_at.ensures c.unwrap_or.ensures
