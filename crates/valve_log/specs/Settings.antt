-- What a reading of the settings meets on a medium reached, with the state last handed back, whatever is under way or buffered: the history's
-- settings.
use Rattle.std.specs.Prelude.{◌≡◌, true, List, ℕ, length}
use Rattle.std.specs.Prelude.{Some}
use Rattle.flash.specs.Medium.{views}
use Rattle.blocks.specs.Blocks.{size_ok}
use Rattle.nodes.specs.Nodes.{sound, words}
use Rattle.state.specs.State.{Held, fit}
use Rattle.readings.specs.Readings.{filed_settings, read_settings}
use Rattle.valve_log.specs.History.{History}
use Rattle.valve_log.specs.Reached.{World, Reached}

-- 1 and 7 pass, and 6 over the whole index; the valves of the index with the words at their addresses are the settings
pub record Stands (m : List ℕ) (s : Held) (h : History) : Type 0 where
  pub size : size_ok (length m) ≡ true
  pub fits : fit (views m) s ≡ true
  pub sounds : sound (views m) s.index ≡ true
  pub settings : words (views m) s.index ≡ h.settings

unfoldable pub StandsReached : Type 0
StandsReached = (w : World) (h : History) (s : Held) → Reached w h → w.state ≡ Some s → Stands w.medium s h

-- so the settings filed into lent lists are the history's
unfoldable pub SettingsTold : Type 0
SettingsTold =
    (w : World) (h : History) (s : Held) (lists : List (List ℕ)) → Reached w h → w.state ≡ Some s
    → read_settings (length w.medium) (views w.medium) s lists ≡ filed_settings lists h.settings
