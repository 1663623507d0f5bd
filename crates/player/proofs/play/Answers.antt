use Rattle.player.proofs.Calls.{has_group_lem, cut_bytes, play_format, play_commit, play_collect, play_step, play_cut, play_recover, play_flush}
use borrow.Author.Rules.{rules}
use Rattle.player.proofs.play.Goals as goal

pub play_group-requires : goal.play_group-requires
play_group-requires c = (search rules, search (has_group_lem, rules))

pub pattern-pattern-requires : goal.pattern-pattern-requires
pattern-pattern-requires c = search (cut_bytes, rules)

pub returns-in-Format : goal.returns-in-Format
returns-in-Format c = search (play_format, rules)

pub returns-in-Commit : goal.returns-in-Commit
returns-in-Commit c = search (play_commit, rules)

pub returns-in-Collect : goal.returns-in-Collect
returns-in-Collect c = search (play_collect, rules)

pub returns-in-Step : goal.returns-in-Step
returns-in-Step c = search (play_step, rules)

pub returns-in-Cut : goal.returns-in-Cut
returns-in-Cut c = search (play_cut, rules)

pub returns-in-Recover : goal.returns-in-Recover
returns-in-Recover c = search (play_recover, rules)

pub returns-in-Flush : goal.returns-in-Flush
returns-in-Flush c = search (play_flush, rules)
