-- The examples of the archive hold by computation.
use mathlib.Core.Path.{refl}
use Rattle.lists.specs.Lists.{all, every, keep, is_some, value_or, all_below, one_if, count_below, table}
use Rattle.lists.specs.Needs.{under, and_then, answer_or}
use Rattle.lists.specs.Cells.{keys_of, words_of}
use Rattle.page.specs.Pages.{begins, ends, changes_of}
use Rattle.page.specs.Rules.{may_carry, least_count, entry_ok, serial_ok, mark_ok, last_marked, marks_ok, ruled, lawful}
use Rattle.flash.specs.Medium.{seen}
use Rattle.index.specs.Index.{put, remove, assign, entering}
use Rattle.blocks.specs.Blocks.{size_ok}
use Rattle.nodes.specs.Nodes.{sets_valves, entry_in, node_in, word_for, word_at, sound, words}
use Rattle.recovery.specs.Recovery.{above, stack, wholes, all_lawful, other_serial, distinct, insert, sort, last_of, starts_group, goes_on, base_of, reaches, from, consecutive, joined, begun, continues}
use Rattle.recovery.specs.Recovery.{enter, walk, groups_of, entries_of, groups_on_pages, enters_log, log_of_group, log_of, pages_of, enter_one, enter_all, enter_page, enter_pages}
use Rattle.recovery.specs.Recovery.{base, chain, groups, replayed, recovered_state, recover}
use Rattle.news.specs.News.{mark_of, comes_after, first_new, compared, news_after}
use Rattle.archive.specs.Archive.{reading_by}
use Rattle.archive.specs.Examples.{ArchiveExamples}

pub archive_examples : ArchiveExamples
unfolding
    keys_of words_of count_below table all every keep is_some value_or under and_then answer_or begins ends changes_of may_carry least_count entry_ok serial_ok mark_ok last_marked marks_ok
    ruled lawful seen put remove assign entering size_ok sets_valves entry_in node_in word_for word_at sound words above stack wholes all_lawful other_serial distinct insert sort last_of
    starts_group goes_on base_of reaches from consecutive joined begun continues enter walk groups_of entries_of groups_on_pages enters_log log_of_group log_of pages_of enter_one
    enter_all enter_page enter_pages base chain groups replayed recovered_state recover all_below one_if mark_of comes_after first_new compared news_after reading_by
archive_examples =
    record {
      first = refl;
      again = refl;
      next = refl;
      more = refl;
      late = refl;
      lost = refl;
      earlier = refl;
      smaller_base = refl;
      fewer = refl;
      there_before = refl;
      under_way_lem = refl;
    }
