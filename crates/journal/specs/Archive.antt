-- The user's archive (docs/USING.md, "The archive's morning"), of the code: beside a program's run, in which the power fails anywhere, it reads and files by
-- the answers of `vj_news`, of `vj_log` or the log reader, of `vj_recover` and of `vj_settings`. Each call is known by its promise alone.
use Rattle.std.specs.Prelude.{◌≡◌, Bool, true, false, not, cond, ◌||◌, ◌⊎◌, List, [], ◌∷◌, ◌++◌, ℕ, ◌≤◌, drop}
use Rattle.std.specs.Prelude.{Option, None, Some}
use Rattle.lists.specs.Cells.{cell, Entry, pairs}
use Rattle.page.specs.Pages.{changes_of}
use Rattle.news.specs.declared.News.{News}
use Rattle.news.specs.declared.Mark.{Mark}
use Rattle.news.specs.News.{mark, no_mark, news_of}
use Rattle.recover.specs.declared.Recovered.{Recovered}
use Rattle.recover.specs.Recovers.{Recovers}
use Rattle.filing.specs.declared.Counted.{Counted}
use Rattle.filing.specs.Filed.{Logs, ListsSettings}
use Rattle.log_reader.specs.declared.LogPlace.{LogPlace}
use Rattle.log_reader.specs.declared.ReadChange.{ReadChange}
use Rattle.log_reader.specs.Reader.{start_of, AskedInTurn}
use Rattle.valve_log.specs.History.{History, start as no_history, began_commit, tell}
use Rattle.valve_log.specs.Reached.{World, fresh, Event, Before}
use Rattle.fading.specs.Fading.{Faded}
use Rattle.valve_log.specs.Made.{groups_counting, groups_made_before}
use Rattle.archive.specs.Archive.{Reading, reading_with, Archive, archive, nothing_filed, file, FiledInOrder, NewsRight}
use Rattle.archive.specs.Faded.{FirstPart}
use Rattle.journal.specs.Run.{Machine, machine, world_of, Moves, told_by, finished_by, Formatting, starting_on, Run}
use Rattle.journal.specs.Fading.{groups_made_by}

-- ---- what is read

-- changes that answers of `vj_change` give, one after the other
unfoldable pub changes_given : List ReadChange → List Entry
changes_given [] = []
changes_given (c ∷ cs) = cond c.found (cell c.key c.word ∷ changes_given cs) (changes_given cs)

-- one of the answers was 'no more'
unfoldable pub asked_to_the_end : List ReadChange → Bool
asked_to_the_end [] = false
asked_to_the_end (c ∷ cs) = not c.found || asked_to_the_end cs

-- the log's changes: as many as `vj_log` counts, of the lists that it leaves; or change by change, asked until there is no more
pub data LogReadBy (m : List ℕ) : List Entry → Type 0 where
  in_lists : (ks ws ns ks' ws' ns' : List ℕ) (log : Counted) → Logs m ks ws ns log ks' ws' ns' → log.number ≡ 0 → LogReadBy m (pairs log.count ks' ws')
  change_by_change : (p : LogPlace) (cs : List ReadChange) → p ≡ start_of m → AskedInTurn m p cs → asked_to_the_end cs ≡ true → LogReadBy m (changes_given cs)

-- What the archive reads of a medium with the mark that it filed last, where no call refuses it: the changes of the log from the first on that `vj_news` calls
-- new, the settings, as many as `vj_settings` counts with the state that `vj_recover` gives, and the mark that `vj_news` gives.
pub data ReadBy (filed : Mark) (m : List ℕ) : Reading → Type 0 where
  answers : (n : News) → n ≡ news_of filed m → n.number ≡ 0 → (log : List Entry) → LogReadBy m log → (r : Recovered) → Recovers m r
      → (valves us valves' us' : List ℕ) (settings : Counted) → ListsSettings m r.state valves us settings valves' us' → settings.number ≡ 0
      → ReadBy filed m (reading_with (drop n.first log) (pairs settings.count valves' us') (mark n.base n.serial n.count))

-- ---- the archive beside a run

-- The archive a after the run r, and what it has read last and not yet filed; `since` has the groups that have counted since the reading that it filed last,
-- or since formatting ended, and `later` those that have counted since the one not yet filed. It reads and files anywhere, also between a cut and the
-- recovery after it. One rule is kept: where `vj_commit` is accepted, `since` is empty. On a medium taken over, all that was made before the log is filed, and
-- it first reads and files the whole log, with the mark of zeros.
pub data FilingsRun : (x : Machine) (h : History) → Run x h → Archive → List (List Entry) → Option Reading → List (List Entry) → Type 0 where
  start : {x y : Machine} (f : Formatting x) (v : Moves x Event.step y) (last : finished_by x y v ≡ true)
      → FilingsRun (machine y.medium y.state fresh) no_history (Run.start x y f v last) nothing_filed [] None []
  taken_over : {w : World} {h : History} (b : Before w h) (before : List Entry) {z : Reading}
      → before ++ changes_of h.log ≡ changes_of (groups_made_before b) → ReadBy no_mark w.medium z
      → FilingsRun (starting_on w) h (Run.taken_over b) (file (archive before [] no_mark) z) [] None []
  move : {x y : Machine} {h : History} {r : Run x h} {a : Archive} {since later : List (List Entry)} {p : Option Reading} {e : Event (world_of x)} (v : Moves x e y)
      → FilingsRun x h r a since p later → (told_by x y e v ≡ began_commit → since ≡ [])
      → FilingsRun y (tell h (told_by x y e v)) (Run.next x y h e r v) a (since ++ groups_counting h (told_by x y e v)) p (later ++ groups_counting h (told_by x y e v))
  reading : {x : Machine} {h : History} {r : Run x h} {a : Archive} {since later : List (List Entry)} {p : Option Reading} {z : Reading}
      → FilingsRun x h r a since p later → ReadBy a.mark x.medium z → FilingsRun x h r a since (Some z) []
  filing : {x : Machine} {h : History} {r : Run x h} {a : Archive} {since later : List (List Entry)} {z : Reading}
      → FilingsRun x h r a since (Some z) later → FilingsRun x h r (file a z) later None []

-- All that was filed, and then what has counted since, is all that was made, in the order in which it counted; and the settings filed last are what all filed
-- changes lead to.
unfoldable pub FiledOnceOfCode : Type 0
FiledOnceOfCode =
    (x : Machine) (h : History) (r : Run x h) (a : Archive) (since later : List (List Entry)) (p : Option Reading)
    → FilingsRun x h r a since p later → FiledInOrder (groups_made_by r) a since

-- Whatever `vj_news` answers, with the mark filed last, it accepts the medium, and names the first change that is new in whatever is read of the log.
unfoldable pub CheckPassesOfCode : Type 0
CheckPassesOfCode =
    (x : Machine) (h : History) (r : Run x h) (a : Archive) (since later : List (List Entry)) (p : Option Reading) → FilingsRun x h r a since p later
    → (n : News) → n ≡ news_of a.mark x.medium → (log : List Entry) → LogReadBy x.medium log → NewsRight n log a since

-- ---- faded media

-- The archive after the run r, whose medium has faded since, more or less at each reading: it files what the calls accept.
pub data FadedFilingsRun {x : Machine} {h : History} (r : Run x h) : Archive → Type 0 where
  begun : {a : Archive} {since later : List (List Entry)} {p : Option Reading} → FilingsRun x h r a since p later → FadedFilingsRun r a
  filing : {a : Archive} {z : Reading} (m : List ℕ) → FadedFilingsRun r a → Faded x.medium m → ReadBy a.mark m z → FadedFilingsRun r (file a z)

-- What is filed is always the first part of all that was made, with the settings that it leads to; and the call refuses a faded medium by 4, 5, 6 or 28 alone.
pub record FirstPartOfCode {x : Machine} {h : History} (r : Run x h) (a : Archive) : Type 0 where
  pub first : FirstPart (groups_made_by r) a
  pub refusals : (m : List ℕ) → Faded x.medium m → (n : News) → n ≡ news_of a.mark m
      → (n.number ≡ 0) ⊎ (((4 ≤ n.number) × (n.number ≤ 6)) ⊎ (n.number ≡ 28))

unfoldable pub FadedFilingOfCode : Type 0
FadedFilingOfCode = (x : Machine) (h : History) (r : Run x h) (a : Archive) → FadedFilingsRun r a → FirstPartOfCode r a
