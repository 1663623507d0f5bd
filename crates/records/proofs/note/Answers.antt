use Rattle.records.proofs.Laws.{noted_past, noted_at}
use borrow.Author.Rules.{rules}
use Rattle.records.proofs.note.Goals as goal

pub returns-then-n-ge192 : goal.returns-then-n-ge192
returns-then-n-ge192 c = search (noted_past, rules)

pub returns-else-n-ge192 : goal.returns-else-n-ge192
returns-else-n-ge192 c = search (noted_at, rules)
