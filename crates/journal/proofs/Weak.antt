-- No step of the code programs a page into a weak block.
use mathlib.Core.Path.{◌≡◌, sym, ap, subst, ◌∙◌}
use mathlib.Core.Bool.{Bool, false}
use Rattle.std.proofs.Common.{Option, None, Some}
use mathlib.Core.List.{List}
use Prim.Native.Nat.{ℕ, ◌/◌}
use native.Mathlib.Omega.{arith}
use lib.ListN.{length}
use borrow.Author.Tests.{eq-eqb}
use Rattle.lists.specs.Needs.{Answer, refused, gives}
use Rattle.flash.specs.Medium.{views}
use Rattle.state.specs.declared.State.{State}
use Rattle.state.specs.State.{Held, meaning}
use Rattle.step.specs.Step.{Step, step_of}
use Rattle.operations.specs.declared.Stepped.{Stepped}
use Rattle.operations.specs.Answers.{Outcome, page, touched_by, done_of, done, performed}
use Rattle.advance.specs.Outcomes.{Steps}
use Rattle.valve_log.specs.History.{History}
use Rattle.valve_log.specs.Reached.{World, Event}
use Rattle.valve_log.specs.Weak.{Weak, weak_after}
use Rattle.valve_log.proofs.Weak.{Guard, Kept, Careful, step_careful, event_kept, begun_guard}
use Rattle.journal.specs.Run.{Machine, meant, world_of, Moves, Formatting, Run}
use Rattle.journal.specs.Weak.{weak_in_format, weak_in, NeverWeakOfCode}
use Rattle.journal.proofs.Chain.{formats, moves}

-- ---- what the state knows of weak blocks, along the run

pub moves_kept : (weak : Weak) (x y : Machine) (e : Event (world_of x)) → Moves x e y → Kept weak (meant x.state) → Kept (weak_after (world_of x) e weak) (meant y.state)
moves_kept weak x y e v K = subst (λ (w : World). Kept (weak_after (world_of x) e weak) w.state) (sym (moves x y e v)) (event_kept weak x.medium (meant x.state) x.buffer e K)

format_kept : (weak : Weak) (x : Machine) (F : Formatting x) → Kept (weak_in_format weak x F) (meant x.state)
unfolding weak_in_format meant Kept
format_kept weak x (Formatting.begun m r bs b f q) = begun_guard weak (length m) (meaning r.state) (formats m r f q)
format_kept weak x (Formatting.next z y e F v k) = moves_kept (weak_in_format weak z F) z y e v (format_kept weak z F)

run_kept : (weak : Weak) (x : Machine) (h : History) (R : Run x h) → Kept (weak_in weak x h R) (meant x.state)
unfolding weak_in
run_kept weak x h (Run.start z y F v last) = moves_kept (weak_in_format weak z F) z y Event.step v (format_kept weak z F)
run_kept weak x h (Run.next z y k e R v) = moves_kept (weak_in weak z k R) z y e v (run_kept weak z k R)
run_kept weak x h (Run.taken_over b) = unfold meant Kept in tt

kept_guard : (weak : Weak) (o : Option State) (s : State) → o ≡ Some s → Kept weak (meant o) → Guard weak (meaning s)
unfolding meant Kept
kept_guard weak None s e K = let z : ◌≡◌ {A = ℕ} 0 1 = cc in absurd (omega arith)
kept_guard weak (Some t) s e K = let q : t ≡ s = cc in rw q at K

-- ---- a step that tells of a page is one that programs it

page_careful : (weak : Weak) (s : State) (t : Answer Step) (p : ℕ) (f : Bool) (h : Held) → page p f h ≡ done s t → Careful weak t → weak (p / 16) ≡ false
unfolding done Careful
page_careful weak s (refused n) p f h e C = let z : ◌≡◌ {A = ℕ} 0 1 = cc in absurd (omega arith)
page_careful weak s (gives (Step.program q pg a g)) p f h e C = let z : p ≡ q = cc in rw z C.0
page_careful weak s (gives (Step.erase b a g)) p f h e C = let z : ◌≡◌ {A = ℕ} 0 1 = cc in absurd (omega arith)

told_page : (r : Stepped) → r.number ≡ 0 → r.touched ≡ 1 → done_of r ≡ Some (page r.at r.finished (meaning r.state))
unfolding done_of touched_by
told_page r n t = rw (eq-eqb r.number 0 n, eq-eqb r.touched 1 t)

step_strong : (weak : Weak) (m : List ℕ) (o : Option State) (s : State) (bs : List ℕ) (r : Stepped) (after left : List ℕ) → Kept weak (meant o) → o ≡ Some s → Steps m s bs r after left → r.number ≡ 0
    → r.touched ≡ 1 → weak (r.at / 16) ≡ false
unfolding performed
step_strong weak m o s bs r after left K e w n t =
    let d : done_of r ≡ Some (done s (step_of (length m) (views m) (meaning s) bs)) = ap (λ (x : Outcome). x.done) w.does in
    let q : page r.at r.finished (meaning r.state) ≡ done s (step_of (length m) (views m) (meaning s) bs) = same (sym (told_page r n t) ∙ d) in
    page_careful weak s (step_of (length m) (views m) (meaning s) bs) r.at r.finished (meaning r.state) q (step_careful weak m (meaning s) bs (kept_guard weak o s e K))
  where
    same : {A : Type 0} {x y : A} → Some x ≡ Some y → x ≡ y
    same k = cc

pub never_weak_of_code : NeverWeakOfCode
never_weak_of_code =
    record {
      in_format = λ weak x F s r after left. step_strong (weak_in_format weak x F) x.medium x.state s x.buffer r after left (format_kept weak x F);
      in_run = λ weak x h R s r after left. step_strong (weak_in weak x h R) x.medium x.state s x.buffer r after left (run_kept weak x h R);
    }
