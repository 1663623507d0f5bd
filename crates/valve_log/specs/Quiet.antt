-- What changes nothing: refused calls and readings; a collection, for what recovery shows; a recovery after a recovery.
use Rattle.std.specs.Prelude.{◌≡◌, List, ℕ}
use Rattle.std.specs.Prelude.{Some}
use Rattle.lists.specs.Needs.{refused}
use Rattle.state.specs.State.{Held, collect}
use Rattle.valve_log.specs.History.{History, Told, unchanged, tell}
use Rattle.valve_log.specs.Reached.{World, Event, step_due, CutOf, still, called, filled, stepped, recovered, happen, Reached, Shows}

-- a refused call and a reading leave the world as it is, and the history too
pub record Unmoved : Type 0 where
  pub reading : (w : World) → happen w Event.read ≡ still w
  pub call : (w : World) (t : Told) (n : ℕ) → called w t (refused n) ≡ still w
  pub buffer : (w : World) (t : Told) (n : ℕ) → filled w t (refused n) ≡ still w
  pub step : (w : World) (n : ℕ) → stepped w (refused n) ≡ still w
  pub recovery : (w : World) (n : ℕ) → recovered w (refused n) ≡ still w
  pub history : (h : History) → tell h unchanged ≡ h

-- a step of a collection, and a cut inside one, leaves log and settings as they were
pub record Collecting (w : World) (h : History) : Type 0 where
  pub step : Shows (happen w Event.step).after.medium h
  pub cut : (left : List ℕ) → CutOf w.medium (step_due w) left → Shows left h

unfoldable pub CollectionKeeps : Type 0
CollectionKeeps = (w : World) (h : History) (s : Held) (b : ℕ) → Reached w h → w.state ≡ Some s → s.pending ≡ collect b → Collecting w h

-- a recovery right after a recovery hands back the same
unfoldable pub RecoversAgain : Type 0
RecoversAgain = (w : World) → (happen (happen w Event.recover).after Event.recover).after ≡ (happen w Event.recover).after
