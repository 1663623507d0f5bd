-- What was made along a list of calls and power cuts: all groups that have counted, in the order in which they counted.
use Rattle.std.specs.Prelude.{◌≡◌, List, [], ◌∷◌, ◌++◌, zero, suc}
use Rattle.lists.specs.Cells.{Entry}
use Rattle.valve_log.specs.History.{UnderWay, nothing, appending, committing, collecting, flushing, History, Told}
use Rattle.valve_log.specs.History.{unchanged, began_append, began_commit, began_collect, put_in, began_flush, stepped_page, stepped_block, recovery, assign_groups}
use Rattle.valve_log.specs.Reached.{World, happen, happened, Before, Reached}

-- ---- what counts

-- the groups that a step on a page finishes, by what is under way: an append with one page left is one group, a flush all of its own
unfoldable pub groups_finished : UnderWay → List (List Entry)
groups_finished nothing = []
groups_finished (appending es zero) = []
groups_finished (appending es (suc zero)) = es ∷ []
groups_finished (appending es (suc (suc n))) = []
groups_finished (committing n) = []
groups_finished collecting = []
groups_finished (flushing gs zero) = []
groups_finished (flushing gs (suc zero)) = gs
groups_finished (flushing gs (suc (suc n))) = []

-- the groups that count where the history h is told something
unfoldable pub groups_counting : History → Told → List (List Entry)
groups_counting h unchanged = []
groups_counting h (began_append es) = []
groups_counting h began_commit = []
groups_counting h began_collect = []
groups_counting h (put_in es) = []
groups_counting h began_flush = []
groups_counting h stepped_page = groups_finished h.under_way
groups_counting h stepped_block = []
groups_counting h recovery = []

-- ---- all that was made

-- All groups that have counted along a list, the first to count first; a commit takes none away.
unfoldable pub groups_made_before : {w : World} {h : History} → Before w h → List (List Entry)
groups_made_before (Before.start w F e) = []
groups_made_before (Before.next w h e b) = groups_made_before b ++ groups_counting h (happened w e).told

unfoldable pub groups_made : {w : World} {h : History} → Reached w h → List (List Entry)
groups_made (Reached.start w F e) = []
groups_made (Reached.next w h e r) = groups_made r ++ groups_counting h (happen w e).told
groups_made (Reached.taken_over b) = groups_made_before b

-- A history's log is the last of the groups made, and its settings are what all of them lead to, none being set at first.
pub record Tallied (made : List (List Entry)) (h : History) : Type 0 where
  pub before : List (List Entry)
  pub ends : made ≡ before ++ h.log
  pub sets : assign_groups [] made ≡ h.settings

unfoldable pub MadeTallies : Type 0
MadeTallies = (w : World) (h : History) (r : Reached w h) → Tallied (groups_made r) h
