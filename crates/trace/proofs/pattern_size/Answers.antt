use Rattle.trace.proofs.Laws.{pattern_block, pattern_page}
use borrow.Author.Rules.{rules}
use Rattle.trace.proofs.pattern_size.Goals as goal

pub returns-then-n-lt256 : goal.returns-then-n-lt256
returns-then-n-lt256 c = search (pattern_page, rules)

pub returns-else-n-lt256 : goal.returns-else-n-lt256
returns-else-n-lt256 c = search (pattern_block, rules)
