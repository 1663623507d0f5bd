-- What the base's first serial and the next serial tell an archive: the base that recovery finds changes only where a commit counts, and a new one is greater
-- than any before it (docs/USING.md, "The archive's morning").
use Rattle.std.specs.Prelude.{◌≡◌, Bool, true, false, List, ℕ, ◌+◌, ◌≤◌, ◌<◌, length}
use Rattle.lists.specs.Needs.{gives}
use Rattle.lists.specs.Cells.{Entry}
use Rattle.flash.specs.Medium.{views}
use Rattle.state.specs.State.{Held}
use Rattle.recovery.specs.Recovery.{recovery_with, recover as recover_of}
use Rattle.valve_log.specs.History.{History}
use Rattle.valve_log.specs.Reached.{World, Event, happen, Reached}
use Rattle.valve_log.specs.SinceCommit.{commit_counts}

-- A base before an event and after it, and the next serial before it. Where no commit counts the base stays. Where one counts it is greater, and at most
-- seven smaller than that next serial: the pages that the commit had written before its last are at most seven.
pub record Rises (counts : Bool) (before serial after : ℕ) : Type 0 where
  pub same : counts ≡ false → after ≡ before
  pub greater : counts ≡ true → before < after
  pub late : counts ≡ true → serial ≤ after + 7

-- what recovery would give before an event of the list, and after it
unfoldable pub BaseTells : Type 0
BaseTells =
    (w : World) (h : History) → Reached w h → (e : Event w) (log log' : List (List Entry)) (s s' : Held)
    → recover_of (length w.medium) (views w.medium) ≡ gives (recovery_with log s)
    → recover_of (length (happen w e).after.medium) (views (happen w e).after.medium) ≡ gives (recovery_with log' s')
    → Rises (commit_counts h (happen w e).told) s.head.base s.head.serial s'.head.base
