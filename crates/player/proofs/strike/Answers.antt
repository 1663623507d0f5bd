use Rattle.player.proofs.Cuts.{room_long, room_same}
use borrow.Author.Rules.{rules}
use Rattle.player.proofs.strike.Goals as goal

pub slice_bounds-strike_with-end : goal.slice_bounds-strike_with-end
slice_bounds-strike_with-end c = search (room_long, rules)

pub strike_with-requires : goal.strike_with-requires
strike_with-requires c = (search (room_same, rules), search rules, search rules)
