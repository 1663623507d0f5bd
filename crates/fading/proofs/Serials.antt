-- What the steps do to the next serial: an erase leaves the head of the state, and a page put where one was clean takes none away.
use mathlib.Core.Path.{◌≡◌, refl, sym, ◌∙◌}
use mathlib.Core.Bool.{Bool}
use Rattle.std.proofs.Common.{Some}
use mathlib.Core.List.{List, [], ◌∷◌}
use Prim.Native.Nat.{ℕ, ◌≤◌}
use native.Mathlib.Decide.{ℕ_discrete}
use lib.Dec.{ltb}
use Rattle.lists.specs.Needs.{Answer, refused, gives, Need, under}
use Rattle.lists.specs.Cells.{Entry, Place}
use Rattle.lists.proofs.Laws.{by_cases, checked_cases}
use Rattle.page.specs.Pages.{Page, View, clean, whole, is_whole}
use Rattle.flash.specs.Medium.{seen}
use Rattle.state.specs.State.{Pending, idle, append, commit, collect, format, flush, unnamed, Held}
use Rattle.step.specs.Step.{Step, erasing, programming, append_step, commit_step, move_step, collect_step, format_step, flush_step, due, erased_first}
use Rattle.step.proofs.Laws.{first_cases}
use Rattle.nodes.specs.Nodes.{live}
use Rattle.valve_log.specs.History.{History}
use Rattle.valve_log.proofs.Sound.{greatest}
use Rattle.valve_log.proofs.Coupling.{alive_of, Coupled}
use Rattle.fading.proofs.Standing.{not_whole, to_within, next_serial, next_is, next_within}

-- ---- an erase leaves the head of the state

unfoldable pub KeepsHead : Held → Answer Step → Type 0
KeepsHead s (refused n) = Unit {0}
KeepsHead s (gives (Step.program p pg t f)) = Unit {0}
KeepsHead s (gives (Step.erase b t f)) = t.head ≡ s.head

module _ (v : List View) (s : Held) where
  refused_keeps : (n : ℕ) → KeepsHead s (refused n)
  unfolding KeepsHead
  refused_keeps n = tt

  programming_keeps : (p : ℕ) (pg : Page) (t : Held) (f : Bool) → KeepsHead s (programming v s.head p pg t f)
  unfolding programming
  programming_keeps p pg t f = checked_cases (KeepsHead s) _ _ refused_keeps (λ e. unfold KeepsHead in tt)

  collect_keeps : (b : ℕ) (l : List Place) → KeepsHead s (collect_step v s b l)
  unfolding collect_step
  collect_keeps b [] = unfold KeepsHead erasing in refl
  collect_keeps b (x ∷ xs) = unfold move_step in checked_cases (KeepsHead s) _ _ refused_keeps (λ e. programming_keeps _ _ _ _)

  format_keeps : (n : ℕ) → KeepsHead s (format_step v s n)
  unfolding format_step
  format_keeps n = by_cases (ltb n s.head.blocks) (λ e. rw e (unfold KeepsHead erasing in refl)) (λ e. rw e (programming_keeps _ _ _ _))

  due_keeps : (gs : List (List Entry)) (p : Pending) → KeepsHead s (due v s gs p)
  unfolding due
  due_keeps gs idle = refused_keeps 9
  due_keeps gs (append es ps) = unfold append_step in programming_keeps _ _ _ _
  due_keeps gs (commit k) = unfold commit_step in programming_keeps _ _ _ _
  due_keeps gs (collect b) = collect_keeps b (live s.index b)
  due_keeps gs (format n) = format_keeps n
  due_keeps gs flush = unfold flush_step in programming_keeps _ _ _ _
  due_keeps gs unnamed = refused_keeps 7

-- whatever is asked before the step
pub step_keeps : (cs : List Need) (v : List View) (s : Held) (gs : List (List Entry))
    → KeepsHead s (under cs (erased_first v s (due v s gs s.pending)))
step_keeps cs v s gs =
    checked_cases (KeepsHead s) cs _ (refused_keeps v s)
    (λ e. first_cases (KeepsHead s) v s (due v s gs s.pending) (λ r. unfold KeepsHead erasing in refl)
    (λ r. due_keeps v s gs s.pending))

-- ---- the next serial

-- that of a state is the medium's
pub serial_of_lem : {v : List View} {s : Held} {h : History} → Coupled v (Some s) h → s.head.serial ≡ next_serial v
serial_of_lem {v} c = (alive_of c.memory).serials ∙ sym (greatest c.medium) ∙ sym (next_is v)

-- where page p was clean, and every other page is as it was
pub all_stand : (v u : List View) (p : ℕ) → seen v p ≡ clean → ((q : ℕ) → (q ≡ p → ⊥) → seen u q ≡ seen v q) → next_serial v ≤ next_serial u
all_stand v u p c o = next_within v u (to_within v u (λ q y e. go q y e (ℕ_discrete q p)))
  where
    go : (q : ℕ) (y : Page) → seen v q ≡ whole y → Dec (q ≡ p) → seen u q ≡ whole y
    go q y e (yes k) = not_whole clean (unfold is_whole in refl) (sym c ∙ (rw k at e))
    go q y e (no k) = o q k ∙ e
