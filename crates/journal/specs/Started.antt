-- That a run of the code can start: a program that calls format on any medium of allowed length, and then step, once for each block and once
-- more, has a run.
use Rattle.std.specs.Prelude.{◌≡◌, true, List, ℕ, suc, ◌/◌, length}
use Rattle.std.specs.Prelude.{Some}
use Rattle.lists.specs.Lists.{Bytes}
use Rattle.blocks.specs.Blocks.{size_ok}
use Rattle.state.specs.declared.State.{State}
use Rattle.begin.specs.declared.Begun.{Begun}
use Rattle.begin.specs.Begun.{Formats}
use Rattle.operations.specs.declared.Stepped.{Stepped}
use Rattle.advance.specs.Outcomes.{Steps}
use Rattle.valve_log.specs.History.{start as no_history}
use Rattle.valve_log.specs.Reached.{fresh}
use Rattle.journal.specs.Run.{Machine, machine, Run}

-- format called on medium m, then step n times, lent an empty buffer at first, with their answers, of which nothing is known but the promise
pub data Formatted (m : List ℕ) : ℕ → Machine → Type 0 where
  begun : (r : Begun) → Formats m r → Formatted m 0 (machine m (Some r.state) fresh)
  step : (n : ℕ) (now after b b' : List ℕ) (s : State) (r : Stepped) → Formatted m n (machine now (Some s) b) → Steps now s b r after b'
      → Formatted m (suc n) (machine after (Some r.state) b')

-- Whatever these calls answer, a run has started; and there are structs that meet the promises, so that this speaks of something.
pub record Started (m : List ℕ) : Type 0 where
  pub whatever : (x : Machine) → Formatted m (suc (length m / 4096)) x → Run (machine x.medium x.state fresh) no_history
  pub then : Machine
  pub answered : Formatted m (suc (length m / 4096)) then

unfoldable pub RunsStart : Type 0
RunsStart = (m : List ℕ) → Bytes m → size_ok (length m) ≡ true → Started m
