use Rattle.rerun.proofs.Laws.{zeros_long}
use Rattle.rerun.proofs.input_room.Goals as goal

pub returns : goal.returns
returns c = zeros_long 65537
