-- Weak blocks along a program's run: no step of the code programs a page into one.
use Rattle.std.specs.Prelude.{◌≡◌, false, List, ℕ, ◌/◌}
use Rattle.std.specs.Prelude.{Some}
use Rattle.state.specs.declared.State.{State}
use Rattle.operations.specs.declared.Stepped.{Stepped}
use Rattle.advance.specs.Outcomes.{Steps}
use Rattle.valve_log.specs.History.{History}
use Rattle.valve_log.specs.Reached.{Event}
use Rattle.valve_log.specs.Weak.{Weak, weak_after}
use Rattle.journal.specs.Run.{Machine, world_of, Formatting, Run}

-- the weak blocks along formatting, of those that were weak where it began
unfoldable pub weak_in_format : Weak → (x : Machine) → Formatting x → Weak
weak_in_format weak x (Formatting.begun m r b bytes told accepted) = weak
weak_in_format weak x (Formatting.next z y e F v k) = weak_after (world_of z) e (weak_in_format weak z F)

-- and along the run that it starts, or of those that were weak on the medium taken over
unfoldable pub weak_in : Weak → (x : Machine) (h : History) → Run x h → Weak
weak_in weak x h (Run.start z y F v last) = weak_after (world_of z) Event.step (weak_in_format weak z F)
weak_in weak x h (Run.next z y k e R v) = weak_after (world_of z) e (weak_in weak z k R)
weak_in weak x h (Run.taken_over b) = weak

-- Whatever a step answers, of which nothing is known but the promise: where it tells of a page (1 in `touched`), that page's block is not
-- weak; whichever blocks were where formatting, or the run, began.
pub record NeverWeakOfCode : Type 0 where
  pub in_format : (weak : Weak) (x : Machine) (F : Formatting x) (s : State) (r : Stepped) (after buffer : List ℕ)
      → x.state ≡ Some s → Steps x.medium s x.buffer r after buffer → r.number ≡ 0 → r.touched ≡ 1 → weak_in_format weak x F (r.at / 16) ≡ false
  pub in_run : (weak : Weak) (x : Machine) (h : History) (R : Run x h) (s : State) (r : Stepped) (after buffer : List ℕ)
      → x.state ≡ Some s → Steps x.medium s x.buffer r after buffer → r.number ≡ 0 → r.touched ≡ 1 → weak_in weak x h R (r.at / 16) ≡ false
