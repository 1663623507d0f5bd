use Rattle.run_text.proofs.Laws.{turn_is, turn_has, turn_more, turn_place, turn_plays}
use borrow.Author.Rules.{rules}
use Rattle.run_text.proofs.turn.Goals as goal

pub play-r-requires : goal.play-r-requires
play-r-requires c = search turn_plays

pub data_size-bytes-requires : goal.data_size-bytes-requires
data_size-bytes-requires c = search turn_has

pub overflow_add-i : goal.overflow_add-i
overflow_add-i c = search (turn_more, rules)

pub overflow_add-at : goal.overflow_add-at
overflow_add-at c = search (turn_place, rules)

pub returns : goal.returns
returns c =
    turn_is _ c.args.run _ _ c.requires _ c.data_size-bytes.ensures _ c.play-r.result _ _ _ c.moved.result c.play-r.ensures
    c.reply.ensures
    c.moved.ensures
