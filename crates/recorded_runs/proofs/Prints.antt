-- What a run prints is what the history defines: where the run stands at each call, and that the lines of a recovery are the history's.
use mathlib.Core.Path.{◌≡◌, refl, sym, ap, subst}
use mathlib.Core.Bool.{true, false, cond}
use mathlib.Core.List.{List, [], ◌∷◌}
use Prim.Native.Nat.{ℕ, ◌≤◌}
use native.Mathlib.Omega.{arith}
use lib.ListN.{length}
use Rattle.lists.specs.Needs.{Answer, refused, gives}
use Rattle.lists.specs.Lists.{value_or}
use Rattle.lists.specs.Cells.{Setting}
use Rattle.lists.proofs.Laws.{by_cases}
use Rattle.page.specs.Pages.{View}
use Rattle.flash.specs.Medium.{views}
use Rattle.nodes.specs.Nodes.{words}
use Rattle.recovery.specs.Recovery.{Recovery}
use Rattle.valve_log.specs.History.{History, start as no_history, tell}
use Rattle.valve_log.specs.Reached.{World, world, fresh, lent_anew, step_due, Event, Moment, still, stepped, happen, accepted, finishes, meanwhile, Formatting, Reached, Words, Point3}
use Rattle.valve_log.proofs.Point3.{reached_upheld, point3, words_are}
use Rattle.trace.specs.Trace.{Recorded}
use Rattle.player.specs.Lines.{summary, recovery_lines}
use Rattle.player.specs.Run.{played, played_recovery, recover_in, lines_from}
use Rattle.recorded_runs.specs.Recorded.{Phase, after_formatting, phase_after, is_recovery, told_lines, told_from}
use Rattle.recorded_runs.proofs.Along.{AsEvent, InForm, as_event, happen_length}
use Rattle.recorded_runs.proofs.Formats.{append_refused, commit_refused, collect_refused, buffer_refused, flush_refused, called_still, filled_still, step_empty, step_long_as}

-- ---- where a run stands

-- in formatting, with an empty buffer; past it, in a world and with a history that a list of calls and cuts leads to; or where nothing is promised
pub data InPhase : Phase → World → Type 0 where
  formatting : {w : World} → Formatting w → w.buffer ≡ fresh → length w.medium ≤ 65536 → InPhase Phase.formatting w
  since : {w : World} {h : History} → Reached w h → length w.medium ≤ 65536 → InPhase (Phase.since h) w
  unpromised : {w : World} → InPhase Phase.unpromised w

-- an event after formatting
goes_on : (w : World) (h : History) (k : Moment) → Reached w h → length w.medium ≤ 65536 → AsEvent w k → InPhase (Phase.since (tell h k.told)) k.after
goes_on w h k r small E =
    subst (λ (x : Moment). InPhase (Phase.since (tell h x.told)) x.after) (sym E.same)
    (since (Reached.next w h E.event r) (omega (arith, happen_length w.medium w.state w.buffer h E.event (reached_upheld w h r))))

-- an empty buffer is as it is lent after formatting
pub anew : (w : World) → w.buffer ≡ fresh → lent_anew w ≡ w
anew w e = ap (λ (b : List ℕ). world w.medium w.state b) (sym e)

module _ (w : World) (F : Formatting w) (e : w.buffer ≡ fresh) (small : length w.medium ≤ 65536) where
  here : (k : Moment) → k ≡ still w → InPhase Phase.formatting k.after
  here k q = rw q (formatting F e small)

  step_stands : InPhase (cond (finishes (step_due w)) (Phase.since no_history) Phase.formatting) (stepped w (step_due w)).after
  step_stands = by_cases (finishes (step_due w)) (λ q. rw q (last q)) (λ q. rw q (inner q))
    where
      long : length (stepped w (step_due w)).after.medium ≤ 65536
      long = omega (arith, step_long_as w F)

      last : finishes (step_due w) ≡ true → InPhase (Phase.since no_history) (stepped w (step_due w)).after
      last q = since (subst (λ (x : World). Reached x no_history) (anew (stepped w (step_due w)).after (step_empty w e)) (unfold happen in Reached.start w F q)) long

      inner : finishes (step_due w) ≡ false → InPhase Phase.formatting (stepped w (step_due w)).after
      inner q = formatting {w = (stepped w (step_due w)).after} (unfold happen in Formatting.next w Event.step F (unfold meanwhile in rw q refl)) (step_empty w e) long

  recover_stands : (a : Answer Recovery) → InPhase (cond (accepted a) Phase.unpromised Phase.formatting) (played_recovery w a).moment.after
  unfolding accepted played_recovery
  recover_stands (refused n) = formatting F e small
  recover_stands (gives r) = unpromised

  in_formatting : (c : Recorded) → InForm c → InPhase (after_formatting w c) (played w c).moment.after
  unfolding InForm after_formatting played
  in_formatting (Recorded.format n) i = absurd i
  in_formatting (Recorded.append ks ws) i = here _ (called_still w _ _ (append_refused w F ks ws))
  in_formatting Recorded.commit i = here _ (called_still w _ _ (commit_refused w F))
  in_formatting (Recorded.collect b) i = here _ (called_still w _ _ (collect_refused w F b))
  in_formatting Recorded.step i = step_stands
  in_formatting (Recorded.cut name pattern) i = unpromised
  in_formatting Recorded.recover i = recover_stands (recover_in w)
  in_formatting (Recorded.buffer ks ws) i = here _ (filled_still w _ _ (buffer_refused w F ks ws))
  in_formatting Recorded.flush i = here _ (called_still w _ _ (flush_refused w F))

-- one call more
pub next_stands : (p : Phase) (w : World) (c : Recorded) → InPhase p w → InForm c → InPhase (phase_after p w c) (played w c).moment.after
unfolding phase_after
next_stands p w c (formatting F e small) i = in_formatting w F e small c i
next_stands p w c (since {h = h} r small) i = goes_on w h (played w c).moment r small (as_event w h (reached_upheld w h r) small c i)
next_stands p w c unpromised i = unpromised

-- ---- the lines of a call

-- a recovery after formatting, by point 3
pub recovery_lines_lem : (w : World) (h : History) → Reached w h → summary h.log h.settings ≡ (played_recovery w (recover_in w)).lines
unfolding played_recovery recovery_lines Point3
recovery_lines_lem w h r =
    let S = point3 w h r in
    rw (S.accepts, S.same_log, words_are (views w.medium) S.same_settings) refl

same_lines : (p : Phase) (w : World) (c : Recorded) → InPhase p w → told_lines p w c ≡ (played w c).lines
unfolding told_lines is_recovery played
same_lines p w c (formatting F e small) = refl
same_lines p w (Recorded.format n) (since r small) = refl
same_lines p w (Recorded.append ks ws) (since r small) = refl
same_lines p w Recorded.commit (since r small) = refl
same_lines p w (Recorded.collect b) (since r small) = refl
same_lines p w Recorded.step (since r small) = refl
same_lines p w (Recorded.cut name pattern) (since r small) = refl
same_lines p w Recorded.recover (since {h = h} r small) = recovery_lines_lem w h r
same_lines p w (Recorded.buffer ks ws) (since r small) = refl
same_lines p w Recorded.flush (since r small) = refl
same_lines p w c unpromised = refl

-- ---- the lines of a run

pub data AllInForm : List Recorded → Type 0 where
  end : AllInForm []
  more : {c : Recorded} {cs : List Recorded} → InForm c → AllInForm cs → AllInForm (c ∷ cs)

pub same_run : (p : Phase) (w : World) (cs : List Recorded) → InPhase p w → AllInForm cs → lines_from w cs ≡ told_from p w cs
unfolding lines_from told_from
same_run p w [] s a = refl
same_run p w (c ∷ cs) s (more i a) =
    rw (same_lines p w c s, same_run (phase_after p w c) (played w c).moment.after cs (next_stands p w c s i) a) refl
