-- The listing is the history's, by point 3.
use mathlib.Core.Path.{ap₂}
use mathlib.Core.List.{List, ◌++◌}
use lib.ListN.{length}
use borrow.Author.Tests.{le-ltb}
use Rattle.lists.specs.Cells.{Entry, Setting}
use Rattle.flash.specs.Medium.{views}
use Rattle.listing.specs.Listing.{log_text, settings_text, answer_text, listing}
use Rattle.valve_log.specs.History.{History}
use Rattle.valve_log.specs.Reached.{World, Shows, Point3, Reached}
use Rattle.valve_log.proofs.Point3.{words_are, point3}
use Rattle.listed_history.specs.ListsHistory.{ListsHistory}

shows_there : (w : World) (h : History) → Reached w h → Shows w.medium h
unfolding Point3
shows_there w h R = point3 w h R

pub lists_history : ListsHistory
unfolding ListsHistory listing answer_text
lists_history w h R l =
    let s = shows_there w h R in
    rw (le-ltb 65536 (length w.medium) l, s.accepts)
    (ap₂ (λ (x : List (List Entry)) (y : List Setting). log_text x ++ settings_text y) s.same_log
    (words_are (views w.medium) s.same_settings))
