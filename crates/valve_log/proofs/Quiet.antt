-- Refused calls and readings change nothing; a collection alters neither log nor settings; a recovery right after a recovery gives the same.
use mathlib.Core.Path.{◌≡◌, refl, ap, subst, ◌∙◌}
use mathlib.Core.Bool.{Bool, true, false, cond}
use Rattle.std.proofs.Common.{Option, None, Some}
use mathlib.Core.List.{List}
use Prim.Native.Nat.{ℕ}
use native.Mathlib.Omega.{arith}
use lib.ListN.{length}
use Rattle.lists.specs.Needs.{Answer, refused, gives}
use Rattle.page.specs.Pages.{View}
use Rattle.flash.specs.Medium.{views, programmed}
use Rattle.state.specs.State.{Pending, collect, Held}
use Rattle.recovery.specs.Recovery.{Placed, Group, Recovery, recover}
use Rattle.lists.specs.Cells.{Place}
use Rattle.step.specs.Step.{Step}
use Rattle.valve_log.specs.History.{UnderWay, collecting, History, history, unchanged, stepped_page, counted, tell}
use Rattle.valve_log.specs.Reached.{World, world, Event, step_due, CutOf, called, filled, stepped, same_bytes, cut_short, recovered, happen, Reached, Shows, Point3}
use Rattle.valve_log.specs.Quiet.{Unmoved, CollectionKeeps, RecoversAgain}
use Rattle.valve_log.proofs.Coupling.{Pend, at_rest, in_append, in_commit, in_collect, in_flush, alive_of}
use Rattle.valve_log.proofs.Events.{Upheld}
use Rattle.valve_log.proofs.Point3.{reached_upheld, point3}

pub unmoved : Unmoved
unmoved =
    record {
      reading = λ w. unfold happen in refl;
      call = λ w t n. unfold called in refl;
      buffer = λ w t n. unfold filled in refl;
      step = λ w n. unfold stepped in refl;
      recovery = λ w n. unfold recovered in refl;
      history = λ h. unfold tell in refl;
    }

-- ---- a collection

-- where a collection is pending the history has it under way
under_way_lem : {v : List View} {serial : ℕ} {ch : List Placed} {gs : List Group} {idx : List Place} {u : UnderWay} (b : ℕ) (p : Pending) → p ≡ collect b → Pend v serial ch gs idx p u → u ≡ collecting
under_way_lem b p e at_rest = let z : ◌≡◌ {A = ℕ} 0 1 = cc in absurd (omega arith)
under_way_lem b p e (in_append f a c d g h) = let z : ◌≡◌ {A = ℕ} 0 1 = cc in absurd (omega arith)
under_way_lem b p e (in_commit f ps pre a c d g h i j) = let z : ◌≡◌ {A = ℕ} 0 1 = cc in absurd (omega arith)
under_way_lem b p e in_collect = refl
under_way_lem b p e in_flush = let z : ◌≡◌ {A = ℕ} 0 1 = cc in absurd (omega arith)

-- so no step tells it anything
page_nothing : (h : History) → h.under_way ≡ collecting → tell h stepped_page ≡ h
unfolding tell counted
page_nothing h u = rw u

step_nothing : (w : World) (h : History) → h.under_way ≡ collecting → (st : Answer Step) → tell h (stepped w st).told ≡ h
unfolding stepped
step_nothing w h u (refused n) = unfold tell in refl
step_nothing w h u (gives (Step.program p pg s f)) = page_nothing h u
step_nothing w h u (gives (Step.erase b s f)) = unfold tell in refl

cut_nothing : (w : World) (h : History) → h.under_way ≡ collecting → (left : List ℕ) (st : Answer Step) → tell h (cut_short w left st).told ≡ h
unfolding cut_short
cut_nothing w h u left (refused n) = unfold tell in refl
cut_nothing w h u left (gives (Step.program p pg s f)) = go (same_bytes left (programmed w.medium p pg))
  where
    go : (b : Bool) → tell h (cond b stepped_page unchanged) ≡ h
    go true = page_nothing h u
    go false = unfold tell in refl
cut_nothing w h u left (gives (Step.erase b s f)) = unfold tell in refl

left_medium : (w : World) (left : List ℕ) (st : Answer Step) → CutOf w.medium st left → (cut_short w left st).after.medium ≡ left
unfolding cut_short CutOf
left_medium w left (refused n) c = absurd c
left_medium w left (gives (Step.program p pg s f)) c = refl
left_medium w left (gives (Step.erase b s f)) c = refl

pub collection_keeps : CollectionKeeps
unfolding CollectionKeeps
collection_keeps w h s b R e q =
    let t : tell h (happen w Event.step).told ≡ h = unfold happen in step_nothing w h u (step_due w) in
    record {
      step = subst (Shows (happen w Event.step).after.medium) t (shows (happen w Event.step).after (tell h (happen w Event.step).told) (Reached.next w h Event.step R));
      cut = λ left c. cut left c;
    }
  where
    shows : (w : World) (h : History) → Reached w h → Shows w.medium h
    shows = unfold Point3 in point3

    collects : (o : Option Held) → o ≡ Some s → Upheld (world w.medium o w.buffer) h → h.under_way ≡ collecting
    collects None e U = let z : ◌≡◌ {A = ℕ} 0 1 = cc in absurd (omega arith)
    collects (Some t) e U = let k : t ≡ s = cc in under_way_lem b t.pending (ap (λ (x : Held). x.pending) k ∙ q) (alive_of U.coupled.memory).pends

    u : h.under_way ≡ collecting
    u = collects w.state e (reached_upheld w h R)

    cut : (left : List ℕ) → CutOf w.medium (step_due w) left → Shows left h
    cut left c =
        let r = shows (happen w (Event.cut_inside left c)).after (tell h (happen w (Event.cut_inside left c)).told) (Reached.next w h (Event.cut_inside left c) R) in
        let a : (happen w (Event.cut_inside left c)).after.medium ≡ left = unfold happen in left_medium w left (step_due w) c in
        let t : tell h (happen w (Event.cut_inside left c)).told ≡ h = unfold happen in cut_nothing w h u left (step_due w) in
        subst (λ (m : List ℕ). Shows m h) a (subst (Shows (happen w (Event.cut_inside left c)).after.medium) t r)

-- ---- a recovery after a recovery

pub recovers_again : RecoversAgain
unfolding RecoversAgain happen
recovers_again w = again (recover (length w.medium) (views w.medium)) refl
  where
    again : (r : Answer Recovery) → recover (length w.medium) (views w.medium) ≡ r
        → (recovered (recovered w r).after (recover (length (recovered w r).after.medium) (views (recovered w r).after.medium))).after ≡ (recovered w r).after
    again (refused n) e = unfold recovered in rw e
    again (gives x) e = unfold recovered in rw e
