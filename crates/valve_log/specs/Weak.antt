-- Weak blocks, and that no step programs a page into one. "The chip maker's revised sheet says a block whose erase was cut can read FFh and
-- still be weak": a block is weak if its last erase was cut. Which blocks are is followed beside the list of the valve log's statement. Of the
-- medium that formatting is begun on, and of one that the program before Paper 8 left, nothing is known: any blocks may be weak there.
use Rattle.std.specs.Prelude.{◌≡◌, Bool, true, false, cond, List, ℕ, ◌/◌, eqb}
use Rattle.lists.specs.Needs.{Answer, refused, gives}
use Rattle.page.specs.Pages.{Page}
use Rattle.state.specs.State.{Held}
use Rattle.step.specs.Step.{Step}
use Rattle.valve_log.specs.History.{History}
use Rattle.valve_log.specs.Reached.{World, step_due, CutOf, Event, happen, Formatting, Reached}

-- which blocks are weak
abbrev pub Weak : Type 0
Weak = ℕ → Bool

-- after an erase of block b: it is weak if the erase was cut, and no other block changes
unfoldable pub after_erase : ℕ → Bool → Weak → Weak
after_erase b cut weak c = cond (eqb c b) cut (weak c)

-- after a device step, cut or not: an erase counts, whichever operation it belongs to
unfoldable pub after_step : Answer Step → Bool → Weak → Weak
after_step (refused n) cut weak = weak
after_step (gives (Step.program p pg s finished)) cut weak = weak
after_step (gives (Step.erase b s finished)) cut weak = after_erase b cut weak

-- after an event
unfoldable pub weak_after : (w : World) → Event w → Weak → Weak
weak_after w (Event.append ks ws narrow small) weak = weak
weak_after w Event.commit weak = weak
weak_after w (Event.collect b) weak = weak
weak_after w (Event.buffer ks ws narrow small) weak = weak
weak_after w Event.flush weak = weak
weak_after w Event.step weak = after_step (step_due w) false weak
weak_after w Event.recover weak = weak
weak_after w Event.read weak = weak
weak_after w Event.cut weak = weak
weak_after w (Event.cut_inside left allowed) weak = after_step (step_due w) true weak

-- along formatting, of those that were weak where it began
unfoldable pub weak_in_format : Weak → (w : World) → Formatting w → Weak
weak_in_format weak w (Formatting.begun m s b bytes e) = weak
weak_in_format weak w (Formatting.next v e F k) = weak_after v e (weak_in_format weak v F)

-- and along the list that it starts, or of those that were weak on the medium taken over
unfoldable pub weak_in : Weak → (w : World) (h : History) → Reached w h → Weak
weak_in weak w h (Reached.start v F e) = weak_after v Event.step (weak_in_format weak v F)
weak_in weak w h (Reached.next v g e R) = weak_after v e (weak_in weak v g R)
weak_in weak w h (Reached.taken_over b) = weak

-- Where the step due programs a page, in formatting or after it, the page's block is not weak; whichever blocks were where the list began.
pub record NeverWeak : Type 0 where
  pub in_format : (weak : Weak) (w : World) (F : Formatting w) (p : ℕ) (pg : Page) (s : Held) (finished : Bool)
      → step_due w ≡ gives (Step.program p pg s finished) → weak_in_format weak w F (p / 16) ≡ false
  pub in_list : (weak : Weak) (w : World) (h : History) (R : Reached w h) (p : ℕ) (pg : Page) (s : Held) (finished : Bool)
      → step_due w ≡ gives (Step.program p pg s finished) → weak_in weak w h R (p / 16) ≡ false

-- What is followed is what the sheet speaks of: an erase that is cut leaves its block weak, one that is finished does not, whichever operation
-- it belongs to, and nothing changes a block but an erase of its own.
pub record Follows : Type 0 where
  pub cut_erase : (weak : Weak) (w : World) (left : List ℕ) (allowed : CutOf w.medium (step_due w) left) (b : ℕ) (s : Held) (finished : Bool)
      → step_due w ≡ gives (Step.erase b s finished) → weak_after w (Event.cut_inside left allowed) weak b ≡ true
  pub finished_erase : (weak : Weak) (w : World) (b : ℕ) (s : Held) (finished : Bool)
      → step_due w ≡ gives (Step.erase b s finished) → weak_after w Event.step weak b ≡ false
  pub others : (weak : Weak) (w : World) (e : Event w) (c : ℕ)
      → ((b : ℕ) (s : Held) (finished : Bool) → step_due w ≡ gives (Step.erase b s finished) → c ≡ b → ⊥) → weak_after w e weak c ≡ weak c

-- "one erase step precedes its first page", and no more: once formatting is over, after an erase that does not finish its operation the step due
-- is no erase.
unfoldable pub ErasedOnce : Type 0
ErasedOnce =
    (w : World) (h : History) (b : ℕ) (s : Held) → Reached w h → step_due w ≡ gives (Step.erase b s false)
    → (c : ℕ) (t : Held) (finished : Bool) → step_due (happen w Event.step).after ≡ gives (Step.erase c t finished) → ⊥
