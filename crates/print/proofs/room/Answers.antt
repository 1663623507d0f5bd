use Rattle.print.proofs.Laws.{zeros_long}
use Rattle.print.proofs.room.Goals as goal

pub returns : goal.returns
returns c = zeros_long 524288
