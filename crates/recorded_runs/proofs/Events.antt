-- Each recorded call played is that event of the list of calls and power cuts.
use mathlib.Core.Path.{◌≡◌, refl, sym}
use Rattle.std.proofs.Common.{Option, None, Some}
use mathlib.Core.List.{List}
use Prim.Native.Nat.{ℕ, ◌≤◌}
use lib.ListN.{length}
use borrow.Author.Tests.{eq-eqb, ne_eqb}
use Rattle.lists.specs.Needs.{refused, gives}
use Rattle.lists.proofs.Laws.{given_refused}
use Rattle.flash.specs.Medium.{views}
use Rattle.state.specs.State.{Held}
use Rattle.recovery.specs.Recovery.{Recovery}
use Rattle.step.specs.Step.{Step, step_of}
use Rattle.valve_log.specs.History.{History}
use Rattle.valve_log.specs.Reached.{World, world, with_state, step_due, CutOf, happen, Reached}
use Rattle.valve_log.proofs.Events.{Upheld, due_good}
use Rattle.valve_log.proofs.Point3.{reached_upheld}
use Rattle.trace.specs.Trace.{Recorded, pattern_size}
use Rattle.cut_patterns.specs.Cuts.{left_by_cut}
use Rattle.player.specs.Lines.{recovery_lines}
use Rattle.player.specs.Run.{with_held, recover_in, name_of, played, played_cut, played_recovery}
use Rattle.recorded_runs.specs.Events.{EndsRun, CallsAsEvents, RecoversAsEvent, CutAsEvent, PlayedAsEvents}
use Rattle.recorded_runs.proofs.Along.{pattern_cut}

calls_as_events : (m : List ℕ) (s : Held) (b : List ℕ) → CallsAsEvents m s b
unfolding played happen with_held with_state step_due
calls_as_events m s b =
    record {
      append = λ ks ws narrow small. record { moment = refl; lines = refl; ends = refl };
      commit = record { moment = refl; lines = refl; ends = refl };
      collect = λ n. record { moment = refl; lines = refl; ends = refl };
      step = record { moment = refl; lines = refl; ends = refl };
      buffer = λ ks ws narrow small. record { moment = refl; lines = refl; ends = refl };
      flush = record { moment = refl; lines = refl; ends = refl };
    }

-- ---- recoveries

recovers_as : (w : World) (r : Recovery) → recover_in w ≡ gives r → RecoversAsEvent w r
unfolding played played_recovery happen recovery_lines
recovers_as w r e = record { moment = rw e refl; lines = rw e refl; ends = rw e refl }

recovery_ends : (w : World) (n : ℕ) → recover_in w ≡ refused n → EndsRun w Recorded.recover n
unfolding played played_recovery
recovery_ends w n e = record { moment = rw e refl; lines = rw e refl; ends = rw e refl }

-- ---- cuts

module _ (w : World) (name : ℕ) (pattern : List ℕ) where
  none_due_ends : (n : ℕ) → step_due w ≡ refused n → EndsRun w (Recorded.cut name pattern) 27
  unfolding played played_cut
  none_due_ends n e = record { moment = rw e refl; lines = rw e refl; ends = rw e refl }

  another_ends : (due : Step) → step_due w ≡ gives due → (name ≡ name_of due → ⊥) → EndsRun w (Recorded.cut name pattern) 27
  unfolding played played_cut
  another_ends due e f =
      let q = ne_eqb name (name_of due) f in
      record { moment = rw (e, q) refl; lines = rw (e, q) refl; ends = rw (e, q) refl }

cut_allowed : (m : List ℕ) (s : Option Held) (b : List ℕ) (h : History) → Upheld (world m s b) h → length m ≤ 65536 → (name : ℕ) (pattern : List ℕ)
    → length pattern ≡ pattern_size name → (due : Step) → step_due (world m s b) ≡ gives due → name ≡ name_of due → CutOf m (step_due (world m s b)) (left_by_cut m due pattern)
unfolding step_due with_state
cut_allowed m None b h U small name pattern l due e q = given_refused due 9 (sym e)
cut_allowed m (Some s) b h U small name pattern l due e q =
    pattern_cut m s b h U (step_of (length m) (views m) s b) (due_good m s b h U) small due name pattern e (eq-eqb name (name_of due) q) l

cut_as_event : (w : World) (name : ℕ) (pattern : List ℕ) (h : History) → Reached w h → length w.medium ≤ 65536 → length pattern ≡ pattern_size name
    → (due : Step) → step_due w ≡ gives due → name ≡ name_of due → CutAsEvent w name pattern due
unfolding played played_cut happen
cut_as_event w name pattern h r small l due e n =
    let q = eq-eqb name (name_of due) n in
    record {
      allowed = cut_allowed w.medium w.state w.buffer h (reached_upheld w h r) small name pattern l due e n;
      moment = rw (e, q) refl;
      lines = rw (e, q) refl;
      ends = rw (e, q) refl;
    }

-- ---- the claim

pub played_as_events : PlayedAsEvents
played_as_events =
    record {
      calls = calls_as_events;
      recoveries = λ w. record { accepted = recovers_as w; refuses = recovery_ends w };
      cuts = λ w name pattern. record { none_due = none_due_ends w name pattern; another = another_ends w name pattern; named = cut_as_event w name pattern };
    }
