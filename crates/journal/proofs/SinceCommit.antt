-- Paper 7 of the code.
use mathlib.Core.Path.{◌≡◌, sym, ap, ◌∙◌, subst}
use mathlib.Core.List.{List}
use Prim.Native.Nat.{ℕ, ◌-◌}
use native.Mathlib.Omega.{arith}
use lib.ListN.{length}
use lib.Seq.{take_all}
use borrow.Author.Tests.{le-leb}
use Rattle.lists.specs.Needs.{under, and_then}
use Rattle.lists.specs.Cells.{Entry, Setting, listed}
use Rattle.lists.proofs.Laws.{by_cases}
use Rattle.flash.specs.Medium.{views}
use Rattle.index.specs.Index.{assign_all}
use Rattle.effects.specs.Effects.{effect}
use Rattle.effects.specs.Arrays.{few_touched}
use Rattle.spans.specs.declared.SpanEffect.{SpanEffect}
use Rattle.spans.specs.Spans.{span, ends_ok, span_effect, effect_of}
use Rattle.spans.specs.Along.{Effected, effected, effected_by, Effects}
use Rattle.valve_log.specs.History.{History}
use Rattle.valve_log.specs.Reached.{Words, Shows, Point3}
use Rattle.valve_log.proofs.Point3.{point3}
use Rattle.valve_log.proofs.SinceCommit.{Since, start_since, tell_since, before_since, since_effect}
use Rattle.journal.specs.Run.{Machine, world_of, told_by, Run, Point3OfCode}
use Rattle.journal.specs.SinceCommit.{last_committed_in, EffectExplainsOfCode}
use Rattle.journal.proofs.Chain.{runs, point3_of_code}

run_since : (x : Machine) (h : History) (R : Run x h) → Since h (last_committed_in x h R)
unfolding last_committed_in
run_since x h (Run.start z y F v last) = start_since
run_since x h (Run.next z y k e R v) = tell_since k (last_committed_in z k R) (told_by z y e v) (run_since z k R)
run_since x h (Run.taken_over {w = w} {h = k} b) = before_since w k b

-- the whole log is a span of it
whole_span : (log : List (List Entry)) → span 0 (length log) log ≡ log
unfolding span
whole_span log = let z : length log - 0 ≡ length log = omega arith in rw z (take_all (length log) log (omega arith))

-- its effect is answered, unless 22 is
whole_is : (log : List (List Entry)) (a : SpanEffect) → effected_by a ≡ effected (span_effect 0 (length log) log) → (a.number ≡ 22 → ⊥)
    → listed a.cells ≡ effect log
unfolding effected span_effect under ends_ok
whole_is log a e d =
    let y = rw (le-leb 0 (length log) (omega arith), le-leb (length log) (length log) (omega arith), whole_span log) at e in
    by_cases (few_touched (effect log)) (λ b. ap (λ (x : Effected). x.entries) (rw b at y)) (λ b. absurd (d (ap (λ (x : Effected). x.number) (rw b at y))))

-- what the call answers of every medium that shows a history
pub effect_shown : (m : List ℕ) (h : History) → Shows m h → (first second : ℕ) (a : SpanEffect) → Effects m first second a
    → effected_by a ≡ effected (span_effect first second h.log)
unfolding effect_of and_then
effect_shown m h S first second a p =
    p ∙ ap effected (ap (λ R. and_then R (λ r. span_effect first second r.log)) S.accepts ∙ ap (span_effect first second) S.same_log)

pub effect_explains_of_code : EffectExplainsOfCode
unfolding EffectExplainsOfCode Point3 Point3OfCode
effect_explains_of_code x h R =
    record {
      of_log = told;
      whole = λ a r p q d. subst (λ (s : List Setting). Words (views x.medium) (listed r.state.index) s) (settings a p d) ((point3_of_code x h R).settings r q);
    }
  where
    told : (first second : ℕ) (a : SpanEffect) → Effects x.medium first second a → effected_by a ≡ effected (span_effect first second h.log)
    told = effect_shown x.medium h (point3 (world_of x) h (runs x h R))

    settings : (a : SpanEffect) → Effects x.medium 0 (length h.log) a → (a.number ≡ 22 → ⊥) → h.settings ≡ assign_all (last_committed_in x h R) (listed a.cells)
    settings a p d =
        sym (since_effect h (last_committed_in x h R) (run_since x h R))
        ∙ ap (assign_all (last_committed_in x h R)) (sym (whole_is h.log a (told 0 (length h.log) a p) d))
