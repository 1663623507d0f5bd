-- What is buffered can be flushed, on a medium that such a list reaches, with the state last handed back and the buffer last left.
use Rattle.std.specs.Prelude.{◌≡◌, true, false, List, ℕ, length}
use Rattle.std.specs.Prelude.{Some}
use Rattle.lists.specs.Needs.{refused, gives}
use Rattle.flash.specs.Medium.{views}
use Rattle.state.specs.State.{flush, Held, is_idle}
use Rattle.calls.specs.Calls.{starting, holds_none, flush_of}
use Rattle.step.specs.Step.{step_of}
use Rattle.valve_log.specs.History.{History}
use Rattle.valve_log.specs.Reached.{World, Reached}

-- where nothing is pending, a flush begins; else it is the flush that is pending, and its steps are not refused
pub record CanFlush (m : List ℕ) (s : Held) (b : List ℕ) : Type 0 where
  pub begins : is_idle s.pending ≡ true → flush_of (length m) (views m) s b ≡ gives (starting s flush)
  pub pends : is_idle s.pending ≡ false → s.pending ≡ flush
  pub steps : is_idle s.pending ≡ false → (n : ℕ) → step_of (length m) (views m) s b ≡ refused n → ⊥

unfoldable pub Flushable : Type 0
Flushable = (w : World) (h : History) (s : Held) → Reached w h → w.state ≡ Some s → holds_none w.buffer ≡ false → CanFlush w.medium s w.buffer
