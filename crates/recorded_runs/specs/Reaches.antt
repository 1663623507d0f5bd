-- Where a recorded run leads: once formatting has finished, to a world and a history of the valve log's statement. So point 3 and every other theorem
-- about such worlds speak of it; and formatting does finish.
use Rattle.std.specs.Prelude.{◌≡◌, true, List, [], ◌∷◌, ℕ, suc, ◌*◌, ◌≤◌, take, replicate}
use Rattle.std.specs.Prelude.{None}
use Rattle.lists.specs.Lists.{Bytes}
use Rattle.codec.specs.Codec.{blank}
use Rattle.valve_log.specs.History.{History, start as no_history}
use Rattle.valve_log.specs.Reached.{World, world, fresh, Reached}
use Rattle.trace.specs.Trace.{Recorded, well_formed, recorded}
use Rattle.player.specs.Run.{played, start_world}
use Rattle.recorded_runs.specs.Recorded.{Phase, phase_after}

-- the world that calls lead to, one after the other; it goes on over all the calls it is given, also past one that ends the run, which leaves the world as
-- it is
unfoldable pub world_over : World → List Recorded → World
world_over w [] = w
world_over w (c ∷ cs) = world_over (played w c).moment.after cs

-- and the phase, over all the calls too
unfoldable pub phase_over : Phase → World → List Recorded → Phase
phase_over p w [] = p
phase_over p w (c ∷ cs) = phase_over (phase_after p w c) (played w c).moment.after cs

-- after the first n calls of a trace of the form, whatever n is: so also where the run ends, and were it to go on
unfoldable pub RunsReach : Type 0
RunsReach =
    (t : List ℕ) → Bytes t → well_formed t ≡ true → (n : ℕ) (h : History)
    → phase_over Phase.formatting (start_world t) (take n (recorded t)) ≡ Phase.since h → Reached (world_over (start_world t) (take n (recorded t))) h

-- a format of n blocks and n + 1 steps: the history starts there
unfoldable pub FormatsInRun : Type 0
FormatsInRun =
    (n : ℕ) → 4 ≤ n → n ≤ 16 → phase_over Phase.formatting (world (blank (4096 * n)) None fresh) (Recorded.format n ∷ replicate (suc n) Recorded.step) ≡ Phase.since no_history
