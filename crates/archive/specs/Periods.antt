-- The archive over several formattings. Formatting erases all that tells one period from another, the next serial too, so whoever formats files all before it
-- and begins a new mark after it: nothing filed. The archive's files go on.
use Rattle.std.specs.Prelude.{◌≡◌, List, [], ◌++◌}
use Rattle.std.specs.Prelude.{Option}
use Rattle.lists.specs.Cells.{Entry}
use Rattle.page.specs.Pages.{changes_of}
use Rattle.valve_log.specs.History.{History}
use Rattle.valve_log.specs.Reached.{World, Reached}
use Rattle.valve_log.specs.Made.{groups_made}
use Rattle.archive.specs.Archive.{Reading, Archive, Filings}

-- Periods from one formatting to the next, each a list of its own whose archive starts with nothing filed, or on a medium taken over, and whose medium is read and filed
-- to the end before it is formatted; with all that was made in them, and all that was filed, period after period.
pub data Periods : List Entry → List Entry → Type 0 where
  none : Periods [] []
  period : {made filed : List Entry} {w : World} {h : History} {r : Reached w h} {a : Archive} {later : List (List Entry)} {p : Option Reading}
      → Periods made filed → Filings w h r a [] p later → Periods (made ++ changes_of (groups_made r)) (filed ++ a.filed)

-- All that was filed over the periods, then in the present one, then what has counted since, is all that was made over them and in it.
unfoldable pub FiledOverPeriods : Type 0
FiledOverPeriods =
    (made filed : List Entry) → Periods made filed
    → (w : World) (h : History) (r : Reached w h) (a : Archive) (since later : List (List Entry)) (p : Option Reading) → Filings w h r a since p later
    → (filed ++ a.filed) ++ changes_of since ≡ made ++ changes_of (groups_made r)
