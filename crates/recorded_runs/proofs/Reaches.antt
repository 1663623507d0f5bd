-- Where a recorded run leads.
use mathlib.Core.Path.{◌≡◌, refl, ap, ap₂, ◌∙◌}
use mathlib.Core.Bool.{true}
use Rattle.std.proofs.Common.{None, Some}
use mathlib.Core.List.{List, [], ◌∷◌}
use Prim.Native.Nat.{ℕ, zero, suc, ◌+◌, ◌*◌, ◌/◌, ◌≤◌, ◌<◌}
use native.Mathlib.Omega.{arith}
use lib.ListN.{length, take, replicate}
use Rattle.codec.specs.Codec.{blank}
use Rattle.codec.proofs.Put.{length_blank, bytes_blank}
use Rattle.blocks.specs.Blocks.{size_ok}
use Rattle.valve_log.specs.History.{History, start as no_history, tell}
use Rattle.valve_log.specs.Reached.{World, world, fresh, happen, Reached}
use Rattle.valve_log.specs.Finished.{steps_on, Finished, FormattingFinishes}
use Rattle.valve_log.proofs.Finished.{formatting_finishes}
use Rattle.trace.specs.Trace.{Recorded, number_at}
use Rattle.player.specs.Run.{begun_format, played, start_world}
use Rattle.recorded_runs.specs.Recorded.{Phase, after_formatting, phase_after}
use Rattle.recorded_runs.specs.Reaches.{world_over, phase_over, RunsReach, FormatsInRun}
use Rattle.recorded_runs.proofs.Along.{InForm}
use Rattle.recorded_runs.proofs.Prints.{InPhase, next_stands, AllInForm, more}
use Rattle.recorded_runs.proofs.Form.{BeginsWithFormat, begins_of}
use Rattle.recorded_runs.proofs.Whole.{size_ok_lem, first_stands}

-- ---- along the calls

over_stands : (p : Phase) (w : World) (cs : List Recorded) (n : ℕ) → InPhase p w → AllInForm cs → InPhase (phase_over p w (take n cs)) (world_over w (take n cs))
unfolding phase_over world_over
over_stands p w cs zero s a = s
over_stands p w [] (suc n) s a = s
over_stands p w (c ∷ cs) (suc n) s (more i a) = over_stands (phase_after p w c) (played w c).moment.after cs n (next_stands p w c s i) a

pub reached_there : (p : Phase) (w : World) (h : History) → InPhase p w → p ≡ Phase.since h → Reached w h
reached_there p w h (InPhase.formatting F e small) q = absurd (let z : ◌≡◌ {A = ℕ} 0 1 = cc in omega arith)
reached_there p w h (InPhase.since {h = g} r small) q = let z : g ≡ h = cc in rw (← z) r
reached_there p w h InPhase.unpromised q = absurd (let z : ◌≡◌ {A = ℕ} 0 1 = cc in omega arith)

-- from the start of a trace, whose calls are a format and others
module _ (t : List ℕ) (B : BeginsWithFormat t) where
  abbrev calls : List Recorded
  calls = Recorded.format (number_at t 0) ∷ B.rest

  from_start : (n : ℕ) (h : History) → phase_over Phase.formatting (start_world t) (take n calls) ≡ Phase.since h → Reached (world_over (start_world t) (take n calls)) h
  unfolding phase_over world_over phase_after after_formatting
  from_start zero h q = absurd (let z : ◌≡◌ {A = ℕ} 0 1 = cc in omega arith)
  from_start (suc n) h q = reached_there _ _ h (over_stands Phase.formatting _ B.rest n (first_stands t B) B.later) q

pub runs_reach : RunsReach
unfolding RunsReach
runs_reach t b e n h = let B = begins_of t b e in rw B.are (from_start t B n h)

-- ---- formatting in a run

one_over : (p q : Phase) (w w' : World) (c : Recorded) (cs : List Recorded) → phase_after p w c ≡ q → (played w c).moment.after ≡ w' → phase_over p w (c ∷ cs) ≡ phase_over q w' cs
unfolding phase_over
one_over p q w w' c cs e f = ap₂ (λ (x : Phase) (y : World). phase_over x y cs) e f

module _ (n : ℕ) (low : 4 ≤ n) (high : n ≤ 16) where
  abbrev pub medium : List ℕ
  medium = blank (4096 * n)

  size : size_ok (length medium) ≡ true
  size = rw (length_blank (4096 * n)) (size_ok_lem n low high)

  pub ends : Finished medium
  unfolding FormattingFinishes
  ends = formatting_finishes medium (bytes_blank (4096 * n)) size

  -- the world that the format leads to
  abbrev pub first : World
  first = world medium (Some ends.state) fresh

  pub blocks : length medium / 4096 ≡ n
  blocks = ap (λ (k : ℕ). k / 4096) (length_blank (4096 * n)) ∙ (omega arith)

  pub format_leads : (played (world medium None fresh) (Recorded.format n)).moment.after ≡ first
  unfolding played begun_format
  format_leads = rw ends.begun refl

  pub step_leads : (k : ℕ) → (played (steps_on k first) Recorded.step).moment.after ≡ steps_on (suc k) first
  unfolding played steps_on happen
  step_leads k = refl

  phase_goes : (k : ℕ) → k < n → phase_after Phase.formatting (steps_on k first) Recorded.step ≡ Phase.formatting
  unfolding phase_after after_formatting
  phase_goes k h = rw (ends.before k (omega (arith, blocks))) refl

  phase_ends : (k : ℕ) → k ≡ n → phase_after Phase.formatting (steps_on k first) Recorded.step ≡ Phase.since no_history
  unfolding phase_after after_formatting
  phase_ends k e = let z : length medium / 4096 ≡ k = omega (arith, blocks) in rw (rw z at ends.last) refl

  -- so many steps are left
  steps_phase : (j k : ℕ) → j + k ≡ n → phase_over Phase.formatting (steps_on k first) (replicate (suc j) Recorded.step) ≡ Phase.since no_history
  unfolding phase_over
  steps_phase zero k e = phase_ends k (omega arith)
  steps_phase (suc j) k e =
      one_over Phase.formatting Phase.formatting (steps_on k first) (steps_on (suc k) first) Recorded.step (replicate (suc j) Recorded.step)
      (phase_goes k (omega arith)) (step_leads k)
      ∙ steps_phase j (suc k) (omega arith)

  from_first : phase_over Phase.formatting first (replicate (suc n) Recorded.step) ≡ Phase.since no_history
  unfolding steps_on
  from_first = steps_phase n 0 (omega arith)

pub formats_in_run : FormatsInRun
unfolding FormatsInRun phase_over phase_after after_formatting
formats_in_run n low high =
    ap (λ (w : World). phase_over Phase.formatting w (replicate (suc n) Recorded.step)) (format_leads n low high) ∙ from_first n low high

-- one call more
pub call_reached : (w : World) (h : History) (c : Recorded) → Reached w h → length w.medium ≤ 65536 → InForm c → Reached (played w c).moment.after (tell h (played w c).moment.told)
unfolding phase_after
call_reached w h c r small i = reached_there (phase_after (Phase.since h) w c) _ (tell h (played w c).moment.told) (next_stands (Phase.since h) w c (InPhase.since r small) i) refl
