-- The archive by example, over the pages of a medium of 4 blocks: the morning, a morning that was cut before the commit counted, what 28 and 29 tell, what
-- nobody can tell after formatting; and a list whose commit comes too early.
use Rattle.std.specs.Prelude.{◌≡◌, true, List, [], ◌∷◌, ◌++◌, ℕ, ◌-◌, take, replicate}
use Rattle.std.specs.Prelude.{Option, Some}
use Rattle.lists.specs.Needs.{Answer}
use Rattle.lists.specs.Cells.{cell, Entry}
use Rattle.page.specs.Pages.{View, clean, whole, page, changes_of}
use Rattle.recovery.specs.Recovery.{Recovery, recover as recover_of}
use Rattle.news.specs.declared.News.{News}
use Rattle.news.specs.declared.Mark.{Mark}
use Rattle.news.specs.News.{mark, no_mark, refused_news, news_from, compared, news_after}
use Rattle.valve_log.specs.History.{History}
use Rattle.valve_log.specs.Reached.{World, Event, happen, Reached}
use Rattle.valve_log.specs.SinceCommit.{commit_counts}
use Rattle.valve_log.specs.Made.{groups_made}
use Rattle.archive.specs.Archive.{Reading, reading_with, reading_by, read, nothing_filed, file}

-- the group {5 → 1000}
abbrev pub move : List Entry
move = cell 5 1000 ∷ []

-- The pages that a journal writes one after the other, from page 0 on: formatting's empty base, serial 1; an append of the group; a commit, whose base has
-- valve 5 at page 1, place 0, address 24; an append of the same group once more; and of {6 → 7}.
abbrev pub pages_written : List View
pages_written =
    whole (page 2 3 1 [])
    ∷ whole (page 1 3 2 move)
    ∷ whole (page 2 3 3 (cell 5 24 ∷ []))
    ∷ whole (page 1 3 4 move)
    ∷ whole (page 1 3 5 (cell 6 7 ∷ []))
    ∷ []

-- the 64 pages of the medium after the first n of them, what recovery gives of them, what `news` answers with the mark filed last, and what is read
abbrev pub written : ℕ → List View
written n = take n pages_written ++ replicate (64 - n) clean

abbrev pub recovered : ℕ → Answer Recovery
recovered n = recover_of 16384 (written n)

abbrev pub news_then : Mark → ℕ → News
news_then filed n = news_after filed (recovered n)

abbrev pub read_then : Mark → ℕ → Option Reading
read_then filed n = reading_by (news_then filed n) (written n) (recovered n)

pub record ArchiveExamples : Type 0 where
  -- the first morning, before the commit
  pub first : read_then no_mark 2 ≡ Some (reading_with move move (mark 1 3 1))
  -- The power failed before the commit counted: nothing is new. The commit counted, and the same group was made once more: it is new. Log and settings are the
  -- same on both mornings, so that comparing these would not tell. Formatted, and the same group appended again, the medium is the same byte for byte
  -- (`valve_log` Finished: `FormattedAlike`): with the mark from before the formatting nothing is new, as in `again`, though the group was made again; with a
  -- new mark it is, as in `first`.
  pub again : read_then (mark 1 3 1) 2 ≡ Some (reading_with [] move (mark 1 3 1))
  pub next : read_then (mark 1 3 1) 4 ≡ Some (reading_with move move (mark 3 5 1))
  -- one group more on the same base
  pub more : read_then (mark 3 5 1) 5 ≡ Some (reading_with (cell 6 7 ∷ []) (cell 5 1000 ∷ cell 6 7 ∷ []) (mark 3 6 2))
  -- read after the commit only: the first group is not filed, nor is it new any more, then or later
  pub late : read_then no_mark 3 ≡ Some (reading_with [] move (mark 3 4 0))
  pub lost : read_then (mark 3 4 0) 5 ≡ Some (reading_with (cell 5 1000 ∷ cell 6 7 ∷ []) (cell 5 1000 ∷ cell 6 7 ∷ []) (mark 3 6 2))
  -- 28: an earlier moment. 29: a smaller base than the one filed, fewer changes on the same base, and a base that was there already
  pub earlier : news_then (mark 3 5 1) 2 ≡ refused_news 28
  pub smaller_base : news_then (mark 5 6 0) 5 ≡ refused_news 29
  pub fewer : news_then (mark 1 3 2) 2 ≡ refused_news 29
  pub there_before : compared (mark 3 20 9) (mark 12 20 9) ≡ refused_news 29
  -- a commit of two pages was under way at the reading that was filed, its first page with serial 9 written; then it counted
  pub under_way_lem : compared (mark 1 10 3) (mark 9 11 0) ≡ news_from 0 (mark 9 11 0)

-- A list with a commit that comes too early: on a formatted medium of 4 blocks the group is appended, and a commit is begun though nothing is filed. Its next
-- step counts. What is read then has nothing new; filed, it is not all that was made.
pub record TooEarly : Type 0 where
  pub world : World
  pub history : History
  pub list : Reached world history
  pub made : groups_made list ≡ move ∷ []
  pub counts : commit_counts history (happen world Event.step).told ≡ true
  pub reads : read no_mark (happen world Event.step).after.medium ≡ Some (reading_with [] move (mark 3 4 0))
  pub lost : (x : Reading) → read no_mark (happen world Event.step).after.medium ≡ Some x
      → (file nothing_filed x).filed ≡ changes_of (groups_made (Reached.next world history Event.step list)) → ⊥
