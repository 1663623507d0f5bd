use Rattle.pages.proofs.Laws.{zeros_long}
use Rattle.pages.proofs.text_room.Goals as goal

pub returns : goal.returns
returns c = zeros_long 1048576
