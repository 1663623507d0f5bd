use Rattle.listing.proofs.Laws.{telling_start}
use Rattle.page_text.proofs.Laws.{entering_next, entering_end}
use borrow.Author.Rules.{rules}
use Rattle.page_text.proofs.entries.Goals as goal

pub loop-i-init : goal.loop-i-init
loop-i-init c = search (telling_start, rules)

pub loop-i-preserved : goal.loop-i-preserved
loop-i-preserved c = search (entering_next, rules)

pub returns : goal.returns
returns c = search (entering_end, rules)
