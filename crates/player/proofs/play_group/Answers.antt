use Rattle.player.proofs.Calls.{taken_few, group_keys, group_words, group_twice, group_start, append_plays, buffer_plays}
use borrow.Author.Rules.{rules}
use Rattle.player.proofs.play_group.Goals as goal

pub keys-all_keys-requires : goal.keys-all_keys-requires
keys-all_keys-requires c = (search rules, search (group_keys, rules))

pub overflow_mul-n : goal.overflow_mul-n
overflow_mul-n c = search (group_twice, rules)

pub overflow_add-at : goal.overflow_add-at
overflow_add-at c = search (group_start, rules)

pub words-all_words-requires : goal.words-all_words-requires
words-all_words-requires c = (search rules, search (group_words, rules))

pub returns-in-Append : goal.returns-in-Append
returns-in-Append c = search (append_plays, rules)

pub returns-in_default : goal.returns-in_default
returns-in_default c = search (buffer_plays, rules)
