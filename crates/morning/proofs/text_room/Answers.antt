use Rattle.morning.proofs.Laws.{zeros_long}
use Rattle.morning.proofs.text_room.Goals as goal

pub returns : goal.returns
returns c = zeros_long 524288
