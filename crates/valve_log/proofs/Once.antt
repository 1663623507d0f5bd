-- One erase precedes the first page of a new head, and no more.
use mathlib.Core.Path.{◌≡◌, refl}
use mathlib.Core.Bool.{Bool, true, false}
use Rattle.std.proofs.Common.{Option, None, Some}
use mathlib.Core.List.{List, [], ◌∷◌}
use Prim.Native.Nat.{ℕ, ◌<◌}
use native.Mathlib.Omega.{arith}
use lib.ListN.{length}
use lib.Dec.{ltb}
use Rattle.lists.specs.Needs.{Answer, refused, gives}
use Rattle.lists.specs.Cells.{Entry, Place}
use Rattle.lists.proofs.Laws.{by_cases, true_false, checked_cases}
use Rattle.page.specs.Pages.{Page, View}
use Rattle.flash.specs.Medium.{views, erased}
use Rattle.blocks.specs.declared.Head.{Head}
use Rattle.blocks.specs.Blocks.{new_head}
use Rattle.nodes.specs.Nodes.{live}
use Rattle.state.specs.State.{Pending, idle, append, commit, collect, format, flush, unnamed, Held, was_erased, buffered_in}
use Rattle.state.proofs.Records.{now_was}
use Rattle.step.specs.Step.{Step, erasing, programming, append_step, commit_step, move_step, collect_step, flush_step, due, programs_due, needs_erase, erased_first, step_of, medium_after, buffer_after}
use Rattle.step.proofs.Laws.{NeedsErase, needs_erase_lem, first_cases}
use Rattle.valve_log.specs.History.{History}
use Rattle.valve_log.specs.Reached.{World, world, Reached, with_state, step_due, stepped, happen}
use Rattle.valve_log.specs.Weak.{Weak, weak_in, ErasedOnce}
use Rattle.valve_log.proofs.Views.{clean_same}
use Rattle.valve_log.proofs.Due.{Good}
use Rattle.valve_log.proofs.Events.{Upheld, erase_cut, due_good}
use Rattle.valve_log.proofs.Point3.{reached_upheld}
use Rattle.valve_log.proofs.Ready.{Left, Ready}
use Rattle.valve_log.proofs.Steady.{StateReady, reached_ready}
use Rattle.valve_log.proofs.Weak.{Kept, list_kept}

-- a block that has its record needs no erase
recorded : (v : List View) (s : Held) → was_erased s.erased (new_head v s.head) ≡ true → needs_erase v s ≡ false
recorded v s e = by_cases (needs_erase v s) (λ q. true_false e (needs_erase_lem v s q).before) (λ q. q)

-- an erase that does not finish its operation is one of these
record First (v : List View) (s : Held) (b : ℕ) (t : Held) : Type 0 where
  needs : NeedsErase v s
  named : b ≡ new_head v s.head
  after : t ≡ erasing s b s.pending

unfoldable Unfinished : List View → Held → Answer Step → Type 0
Unfinished v s (refused n) = Unit {0}
Unfinished v s (gives (Step.program p pg t f)) = Unit {0}
Unfinished v s (gives (Step.erase b t true)) = Unit {0}
Unfinished v s (gives (Step.erase b t false)) = First v s b t

module _ (v : List View) (s : Held) where
  refused_no : (n : ℕ) → Unfinished v s (refused n)
  unfolding Unfinished
  refused_no n = tt

  programming_no : (h : Head) (p : ℕ) (pg : Page) (t : Held) (f : Bool) → Unfinished v s (programming v h p pg t f)
  unfolding programming
  programming_no h p pg t f = checked_cases (Unfinished v s) _ _ refused_no (λ e. unfold Unfinished in tt)

  collect_one : (b : ℕ) (l : List Place) → Unfinished v s (collect_step v s b l)
  unfolding collect_step
  collect_one b [] = unfold Unfinished in tt
  collect_one b (x ∷ xs) = unfold move_step in checked_cases (Unfinished v s) _ _ refused_no (λ e. programming_no _ _ _ _ _)

  due_one : (gs : List (List Entry)) (pend : Pending) → s.pending ≡ pend → Ready v s → Unfinished v s (due v s gs pend)
  unfolding due
  due_one gs idle e r = refused_no 9
  due_one gs (append es ps) e r = unfold append_step in programming_no _ _ _ _ _
  due_one gs (commit k) e r = unfold commit_step in programming_no _ _ _ _ _
  due_one gs (collect b) e r = collect_one b (live s.index b)
  due_one gs (format n) e r = absurd (unfold Left in (rw e at r.left))
  due_one gs flush e r = unfold flush_step in programming_no _ _ _ _ _
  due_one gs unnamed e r = refused_no 7

step_one : (n : ℕ) (v : List View) (s : Held) (bs : List ℕ) → Ready v s → Unfinished v s (step_of n v s bs)
unfolding step_of
step_one n v s bs r =
    checked_cases (Unfinished v s) _ _ (refused_no v s)
    (λ e. first_cases (Unfinished v s) v s (due v s (buffered_in bs) s.pending) (λ q. unfold Unfinished in record { needs = q; named = refl; after = refl })
    (λ q. due_one v s (buffered_in bs) s.pending refl r))

-- ---- a step that is no erase

unfoldable NoErase : Answer Step → Type 0
NoErase (refused n) = Unit {0}
NoErase (gives (Step.program p pg t f)) = Unit {0}
NoErase (gives (Step.erase b t f)) = ⊥

refused_none : (n : ℕ) → NoErase (refused n)
unfolding NoErase
refused_none n = tt

-- where the operation programs the page due, and no erase precedes it
module _ (v : List View) (s : Held) where
  programming_none : (h : Head) (p : ℕ) (pg : Page) (t : Held) (f : Bool) → NoErase (programming v h p pg t f)
  unfolding programming
  programming_none h p pg t f = checked_cases NoErase _ _ refused_none (λ e. unfold NoErase in tt)

  collect_none : (b : ℕ) (l : List Place) → ltb 0 (length l) ≡ true → NoErase (collect_step v s b l)
  unfolding collect_step
  collect_none b [] e = true_false e refl
  collect_none b (x ∷ xs) e = unfold move_step in checked_cases NoErase _ _ refused_none (λ q. programming_none _ _ _ _ _)

  due_none : (gs : List (List Entry)) (pend : Pending) → programs_due s.index pend ≡ true → NoErase (due v s gs pend)
  unfolding due programs_due
  due_none gs idle e = refused_none 9
  due_none gs (append es ps) e = unfold append_step in programming_none _ _ _ _ _
  due_none gs (commit k) e = unfold commit_step in programming_none _ _ _ _ _
  due_none gs (collect b) e = collect_none b (live s.index b) e
  due_none gs (format n) e = true_false e refl
  due_none gs flush e = unfold flush_step in programming_none _ _ _ _ _
  due_none gs unnamed e = refused_none 7

step_none : (n : ℕ) (v : List View) (s : Held) (bs : List ℕ) → programs_due s.index s.pending ≡ true → needs_erase v s ≡ false → NoErase (step_of n v s bs)
unfolding step_of erased_first
step_none n v s bs p q = checked_cases NoErase _ _ refused_none (λ e. rw q (due_none v s (buffered_in bs) s.pending p))

-- ---- the theorem

-- what such an erase leaves: its block has the record, and the operation programs a page next
record ErasedFor (m : List ℕ) (b : ℕ) (t : Held) : Type 0 where
  has_record : needs_erase (views (erased m b)) t ≡ false
  programs : programs_due t.index t.pending ≡ true

erased_for_at : (m : List ℕ) (o : Option Held) (bs : List ℕ) (h : History) (weak : Weak) (b : ℕ) (t : Held) → Upheld (world m o bs) h → StateReady (views m) o → Kept weak o
    → step_due (world m o bs) ≡ gives (Step.erase b t false) → ErasedFor m b t
unfolding step_due with_state StateReady Kept
erased_for_at m None bs h weak b t U r K e = let z : ◌≡◌ {A = ℕ} 0 1 = cc in absurd (omega arith)
erased_for_at m (Some s) bs h weak b t U r K e =
    record {
      has_record = rw (same, first.after, first.named) (recorded (views m) _ (unfold erasing in now_was s.erased (new_head (views m) s.head) few));
      programs = rw first.after (unfold erasing in first.needs.programs);
    }
  where
    first : First (views m) s b t
    first = unfold Unfinished in (rw e at (step_one (length m) (views m) s bs r))

    same : views (erased m b) ≡ views m
    same = clean_same (views m) (views (erased m b)) b (rw first.named first.needs.cleans) (erase_cut m s bs h U b t (unfold Good in (rw e at (due_good m s bs h U))))

    few : new_head (views m) s.head < length s.erased
    few = omega (arith, K.long, first.needs.inside)

erased_for : (w : World) (h : History) (b : ℕ) (s : Held) → Reached w h → step_due w ≡ gives (Step.erase b s false) → ErasedFor w.medium b s
erased_for w h b s R e = erased_for_at w.medium w.state w.buffer h (weak_in (λ c. false) w h R) b s (reached_upheld w h R) (reached_ready w h R) (list_kept (λ c. false) w h R) e

-- the block of an erase that does not finish its operation needs no other
pub erased_recorded : (w : World) (h : History) (b : ℕ) (s : Held) → Reached w h → step_due w ≡ gives (Step.erase b s false) → needs_erase (views (erased w.medium b)) s ≡ false
erased_recorded w h b s R e = (erased_for w h b s R e).has_record

no_erase : (x : Answer Step) (c : ℕ) (t : Held) (finished : Bool) → NoErase x → x ≡ gives (Step.erase c t finished) → ⊥
unfolding NoErase
no_erase x c t finished z e = rw e at z

pub once : ErasedOnce
unfolding ErasedOnce happen
once w h b s R e c t finished =
    let L = erased_for w h b s R e in
    no_erase _ c t finished (rw e (unfold stepped medium_after buffer_after step_due with_state in
    step_none (length (erased w.medium b)) (views (erased w.medium b)) s w.buffer L.programs L.has_record))
