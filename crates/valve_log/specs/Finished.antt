-- That the list of point 3 can start: formatting, begun on any medium of allowed length and stepped, is finished, by one step for each block
-- and one more. So point 3 speaks of some world for every such medium. And it speaks of media that hold valve 0.
use Rattle.std.specs.Prelude.{◌≡◌, true, false, List, [], ◌∷◌, ℕ, zero, suc, ◌/◌, ◌^◌, ◌≤◌, ◌<◌, length}
use Rattle.std.specs.Prelude.{Some}
use Rattle.lists.specs.Lists.{Bytes}
use Rattle.lists.specs.Needs.{refused, gives}
use Rattle.lists.specs.Cells.{cell}
use Rattle.blocks.specs.Blocks.{size_ok}
use Rattle.state.specs.State.{Held}
use Rattle.calls.specs.Calls.{format_of}
use Rattle.valve_log.specs.History.{nothing, history, start as no_history}
use Rattle.valve_log.specs.Reached.{World, world, fresh, lent_anew, step_due, Event, happen, finishes, Before, Reached}

-- the world after n steps
unfoldable pub steps_on : ℕ → World → World
steps_on zero w = w
steps_on (suc n) w = (happen (steps_on n w) Event.step).after

-- Formatting of medium m: format is not refused, nor is any step; a step for each block does not finish it, the next one does; and the world
-- that it leaves is one that point 3 speaks of, with a medium as long as m. The steps are lent an empty buffer.
pub record Finished (m : List ℕ) : Type 0 where
  pub state : Held
  pub begun : format_of (length m) ≡ gives state
  pub accepted : (n k : ℕ) → n ≤ length m / 4096 → step_due (steps_on n (world m (Some state) fresh)) ≡ refused k → ⊥
  pub before : (n : ℕ) → n < length m / 4096 → finishes (step_due (steps_on n (world m (Some state) fresh))) ≡ false
  pub last : finishes (step_due (steps_on (length m / 4096) (world m (Some state) fresh))) ≡ true
  pub reached : Reached (lent_anew (steps_on (suc (length m / 4096)) (world m (Some state) fresh))) no_history
  pub same_length : length (steps_on (suc (length m / 4096)) (world m (Some state) fresh)).medium ≡ length m

unfoldable pub FormattingFinishes : Type 0
FormattingFinishes = (m : List ℕ) → Bytes m → size_ok (length m) ≡ true → Finished m

-- A list of the program as it was before Paper 8 leads to a log of one group, which set valve 0 to this word: nothing else is set, and nothing
-- is under way or buffered. The list of point 3, and a run of the code, start on what it left (`taken_over`).
pub record HoldsValveZero (word : ℕ) : Type 0 where
  pub world : World
  pub four_blocks : length world.medium ≡ 16384
  pub before : Before world (history (cell 0 word ∷ []) ((cell 0 word ∷ []) ∷ []) nothing [])

-- "Media that hold it": each word, whatever bytes stood on four blocks
unfoldable pub ValveZeroReached : Type 0
ValveZeroReached = (m : List ℕ) → Bytes m → length m ≡ 16384 → (word : ℕ) → word < 2 ^ 64 → HoldsValveZero word

-- Whatever stood on a medium: formatted, it is the same byte for byte, and so is the state. So the same calls then lead to the same media, and nothing on one
-- tells which formatting it comes after.
unfoldable pub FormattedAlike : Type 0
FormattedAlike =
    (m m' : List ℕ) → Bytes m → Bytes m' → size_ok (length m) ≡ true → length m' ≡ length m → (s : Held) → format_of (length m) ≡ gives s
    → steps_on (suc (length m / 4096)) (world m' (Some s) fresh) ≡ steps_on (suc (length m / 4096)) (world m (Some s) fresh)
