-- A run up to the end of formatting: its lines, and the world that it leads to.
use mathlib.Core.Path.{◌≡◌, refl, ap, subst, ◌∙◌}
use mathlib.Core.Bool.{Bool, true, false}
use Rattle.std.proofs.Common.{None, Some}
use mathlib.Core.List.{List, [], ◌∷◌, ◌++◌}
use Prim.Native.Nat.{ℕ, zero, suc, ◌+◌, ◌-◌, ◌*◌, ◌/◌, ◌≤◌}
use native.Mathlib.Omega.{arith}
use lib.ListN.{length, replicate, length-replicate}
use Rattle.lists.specs.Needs.{Answer, refused, gives}
use Rattle.codec.specs.Codec.{blank}
use Rattle.codec.proofs.Put.{length_blank, bytes_blank}
use Rattle.page.specs.Pages.{View, clean, whole}
use Rattle.flash.specs.Medium.{views}
use Rattle.flash.proofs.Laws.{length_views}
use Rattle.step.specs.Step.{Step}
use Rattle.valve_log.specs.History.{start as no_history}
use Rattle.valve_log.specs.Reached.{World, world, fresh, lent_anew, step_due, Event, happen, finishes, meanwhile, Formatting, Reached}
use Rattle.valve_log.specs.Finished.{steps_on}
use Rattle.valve_log.proofs.Formats.{Begins, base_page, started, in_format, starts}
use Rattle.trace.specs.Trace.{Recorded}
use Rattle.player.specs.Lines.{refusal_lines}
use Rattle.player.specs.Run.{played, lines_from}
use Rattle.recorded_runs.proofs.Formats.{step_empty}
use Rattle.recorded_runs.proofs.Prints.{anew}
use Rattle.recorded_runs.proofs.Reaches.{medium, ends, first, blocks, format_leads, step_leads}

-- a call that prints nothing and does not end the run
pub line_next : (w w' : World) (c : Recorded) (cs : List Recorded) → (played w c).lines ≡ [] → (played w c).ends ≡ false → (played w c).moment.after ≡ w' → lines_from w (c ∷ cs) ≡ lines_from w' cs
unfolding lines_from
line_next w w' c cs e f g = rw (e, f, g) refl

quiet : (st : Answer Step) → ((j : ℕ) → st ≡ refused j → ⊥) → refusal_lines st ≡ []
unfolding refusal_lines
quiet (refused n) k = absurd (k n refl)
quiet (gives s) k = refl

-- the world after formatting of n blocks
pub record FormattedWorld (n : ℕ) (w : World) : Type 0 where
  pub reached : Reached w no_history
  pub records : List Bool
  pub state : w.state ≡ Some (started n records)
  pub buffer : w.buffer ≡ fresh
  pub long : length w.medium ≡ 4096 * n
  pub sees : views w.medium ≡ whole base_page ∷ replicate (16 * n - 1) clean

module _ (n : ℕ) (low : 4 ≤ n) (high : n ≤ 16) where
  abbrev at : ℕ → World
  at k = steps_on k (first n low high)

  format_quiet : (played (world (blank (4096 * n)) None fresh) (Recorded.format n)).lines ≡ []
  unfolding played
  format_quiet = rw (ends n low high).begun (unfold refusal_lines in refl)

  format_goes : (played (world (blank (4096 * n)) None fresh) (Recorded.format n)).ends ≡ false
  unfolding played
  format_goes = refl

  step_quiet : (k : ℕ) → k ≤ n → (played (at k) Recorded.step).lines ≡ []
  unfolding played
  step_quiet k h = quiet (step_due (at k)) (λ j e. (ends n low high).accepted k j (omega (arith, blocks n low high)) e)

  step_goes : (k : ℕ) → (played (at k) Recorded.step).ends ≡ false
  unfolding played
  step_goes k = refl

  -- so many steps are left
  steps_lines : (j k : ℕ) (cs : List Recorded) → j + k ≡ suc n → lines_from (at k) (replicate j Recorded.step ++ cs) ≡ lines_from (at (suc n)) cs
  steps_lines zero k cs e = let z : k ≡ suc n = omega arith in rw z refl
  steps_lines (suc j) k cs e =
      line_next (at k) (at (suc k)) Recorded.step (replicate j Recorded.step ++ cs) (step_quiet k (omega arith)) (step_goes k) (step_leads n low high k) ∙ steps_lines j (suc k) cs (omega arith)

  first_lines : (cs : List Recorded) → lines_from (first n low high) (replicate (suc n) Recorded.step ++ cs) ≡ lines_from (at (suc n)) cs
  unfolding steps_on
  first_lines cs = steps_lines (suc n) 0 cs (omega arith)

  pub format_lines : (cs : List Recorded) → lines_from (world (blank (4096 * n)) None fresh) (Recorded.format n ∷ replicate (suc n) Recorded.step ++ cs) ≡ lines_from (at (suc n)) cs
  format_lines cs =
      line_next (world (blank (4096 * n)) None fresh) (first n low high) (Recorded.format n) (replicate (suc n) Recorded.step ++ cs) format_quiet format_goes (format_leads n low high)
      ∙ first_lines cs

  -- ---- the world there

  under_way_lem : (k : ℕ) → k ≤ n → Formatting (at k)
  unfolding steps_on
  under_way_lem zero h = Formatting.begun (medium n low high) (ends n low high).state fresh (bytes_blank (4096 * n)) (ends n low high).begun
  under_way_lem (suc k) h =
      Formatting.next (at k) Event.step (under_way_lem k (omega arith)) (unfold meanwhile in rw ((ends n low high).before k (omega (arith, blocks n low high))) refl)

  empty : (k : ℕ) → (at k).buffer ≡ fresh
  unfolding steps_on happen
  empty zero = refl
  empty (suc k) = step_empty (at k) (empty k)

  last : finishes (step_due (at n)) ≡ true
  last = rw (blocks n low high) at (ends n low high).last

  begins : Begins (lent_anew (happen (at n) Event.step).after)
  begins = starts (at n).medium (at n).buffer (at n).state (in_format (at n) (under_way_lem n (omega arith))) last

  begins_there : Begins (at (suc n))
  unfolding steps_on
  begins_there = subst Begins (anew (at (suc n)) (empty (suc n))) begins

  long : length (at (suc n)).medium ≡ 4096 * n
  long = rw (blocks n low high) at (ends n low high).same_length ∙ length_blank (4096 * n)

  pub formatted : FormattedWorld n (at (suc n))
  formatted =
      let B = begins_there in
      let l = ap length B.sees ∙ ap suc (length-replicate {A = View} B.pages clean) in
      let p : B.pages ≡ 16 * n - 1 = omega (arith, l, length_views (at (suc n)).medium, long) in
      let b : length (at (suc n)).medium / 4096 ≡ n = omega (arith, long) in
      record {
        reached = reached_there;
        records = B.erased;
        state = B.holds ∙ ap (λ (k : ℕ). Some (started k B.erased)) b;
        buffer = empty (suc n);
        long = long;
        sees = B.sees ∙ ap (λ (k : ℕ). whole base_page ∷ replicate k clean) p;
      }
    where
      reached_there : Reached (at (suc n)) no_history
      reached_there = subst (λ (x : World). Reached x no_history) (anew (at (suc n)) (empty (suc n))) (rw (blocks n low high) at (ends n low high).reached)
