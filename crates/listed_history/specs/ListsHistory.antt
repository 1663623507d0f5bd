-- What `morning` prints of a medium that a list of calls and power cuts leads to: the log and the settings of the plain history.
use Rattle.std.specs.Prelude.{◌≡◌, ◌++◌, ◌≤◌, length}
use Rattle.listing.specs.Listing.{log_text, settings_text, listing}
use Rattle.valve_log.specs.History.{History}
use Rattle.valve_log.specs.Reached.{World, Reached}

unfoldable pub ListsHistory : Type 0
ListsHistory =
    (w : World) (h : History) → Reached w h → length w.medium ≤ 65536
    → listing w.medium ≡ log_text h.log ++ settings_text h.settings
