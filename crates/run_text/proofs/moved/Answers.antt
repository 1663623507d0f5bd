use Rattle.run_text.proofs.Laws.{moved_ends, moved_on}
use Rattle.run_text.proofs.moved.Goals as goal

pub returns-then-r : goal.returns-then-r
returns-then-r c = search moved_ends

pub returns : goal.returns
returns c = search moved_on
