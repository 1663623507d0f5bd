-- The list of the program as it was before Paper 8 keeps the invariant: its events that differ from today's do.
use mathlib.Core.Path.{◌≡◌, refl}
use mathlib.Core.Bool.{true, not, ◌||◌}
use Rattle.std.proofs.Common.{Option, None, Some}
use mathlib.Core.List.{List, [], ◌∷◌}
use Prim.Native.Nat.{ℕ}
use lib.Dec.{ltb, eqb}
use lib.ListN.{length}
use borrow.Author.Tests.{leb-true, ltb-true}
use Rattle.lists.specs.Lists.{all}
use Rattle.lists.specs.Needs.{Answer, refused, need}
use Rattle.lists.specs.Cells.{Entry}
use Rattle.lists.proofs.Laws.{by_cases, every_at, tests, all_weaken, checked_cases}
use Rattle.page.specs.Pages.{View, pages_for}
use Rattle.page.specs.Rules.{entry_ok}
use Rattle.flash.specs.Medium.{views}
use Rattle.blocks.specs.Blocks.{size_ok}
use Rattle.state.specs.State.{Pending, idle, append, commit, collect, format, flush, unnamed, Held, done_fit, is_idle, fit_with, buffered_in}
use Rattle.calls.specs.Calls.{starting, zip, append_needs, flush_needs, buffer_needs}
use Rattle.step.specs.Step.{Step, due, erased_first}
use Rattle.valve_log.specs.History.{History, tell}
use Rattle.valve_log.specs.Reached.{World, world, with_state, CutOf, stepped, step_due_before, Earlier, happened, Before}
use Rattle.valve_log.specs.ValveZero.{entry_allowed_before, allowed_before, with11, append_before, buffer_before, flush_before, pending_before, fit_before, step_before}
use Rattle.valve_log.proofs.Small.{words_small}
use Rattle.valve_log.proofs.Coupling.{Fits, fits, Awaited, awaited}
use Rattle.valve_log.proofs.Lent.{lent_of, state_fit}
use Rattle.valve_log.proofs.Due.{Good, refused_good, awaited_good}
use Rattle.valve_log.proofs.Events.{Upheld, Follows, few_views, append_good, flush_good, buffer_good, step_goes, cut_goes, happen_good}
use Rattle.valve_log.proofs.Formats.{in_format, starts}

-- that 11 gives the page rules of entries too
one_lawful : (kind : ℕ) → eqb kind 1 || eqb kind 4 ≡ true → (e : Entry) → entry_allowed_before e ≡ true → entry_ok kind e ≡ true
unfolding entry_allowed_before entry_ok
one_lawful kind k e h = by_cases (ltb e.key 32768) (λ q. rw q) (λ q. rw (q, k) (rw q at h))

before_lawful : (kind : ℕ) → eqb kind 1 || eqb kind 4 ≡ true → (es : List Entry) → allowed_before es ≡ true → all (entry_ok kind) es ≡ true
unfolding allowed_before
before_lawful kind k es h = all_weaken entry_allowed_before (entry_ok kind) (one_lawful kind k) es h

-- ---- the step

-- what 7 gave of what is pending
awaited_before : (v : List View) (s : Held) (gs : List (List Entry)) (p : Pending) → pending_before v s gs p ≡ true → Awaited v s p
unfolding pending_before Awaited done_fit
awaited_before v s gs idle f = tt
awaited_before v s gs (append es ps) f =
    let n = every_at 0 _ f in (
      record {
        many = leb-true 1 (length es) (every_at 0 _ n);
        most = leb-true (length es) 96 (every_at 1 _ n);
        lawfuls = before_lawful 1 refl es (every_at 1 _ f);
        counts = every_at 2 _ f;
      },
      ltb-true (length ps) (pages_for (length es)) (every_at 1 _ (every_at 3 _ f)),
    )
awaited_before v s gs (commit k) f = awaited v s (commit k) f
awaited_before v s gs (collect b) f = awaited v s (collect b) f
awaited_before v s gs (format n) f = tt
awaited_before v s gs flush f = tt
awaited_before v s gs unnamed f = tt

-- and of the rest
fits_before : (v : List View) (s : Held) → Fits v (starting s idle) → Fits v s
fits_before v s F = record { size = F.size; count = F.count; rise = F.rise; valve = F.valve; address = F.address; serial = F.serial }

-- the step is refused, or it is the one due, and the state was fit
pub before_cases : (P : Answer Step → Type 0) (n : ℕ) (v : List View) (s : Held) (b : List ℕ) → ((k : ℕ) → P (refused k))
    → (Fits v s → Awaited v s s.pending → P (erased_first v s (due v s (buffered_in b) s.pending))) → P (step_before n v s b)
unfolding step_before
before_cases P n v s b r g =
    checked_cases P (need 1 (size_ok n) ∷ need 7 (fit_before v s b) ∷ need 9 (not (is_idle s.pending)) ∷ [])
    (erased_first v s (due v s (buffered_in b) s.pending)) r (λ e. given (unfold tests in every_at 1 _ e))
  where
    given : fit_before v s b ≡ true → P (erased_first v s (due v s (buffered_in b) s.pending))
    given f =
        let rest : fit_with v (starting s idle) b ≡ true = unfold fit_before in every_at 0 _ f in
        g (fits_before v s (fits v (starting s idle) (state_fit v (starting s idle) b rest)))
        (awaited_before v s (buffered_in b) s.pending (unfold fit_before in every_at 1 _ f))

-- ---- any such event

module _ (m : List ℕ) (s : Held) (b : List ℕ) (h : History) (U : Upheld (world m (Some s) b) h) where
  pub due_before : Good (views m) s b h (step_before (length m) (views m) s b)
  due_before =
      before_cases (Good (views m) s b h) (length m) (views m) s b (refused_good (views m) s b h)
      (awaited_good (views m) s b h (words_small m U.guarded.bytes) (few_views m U.size) U.coupled (lent_of U.lending))

happened_good : (m : List ℕ) (s : Option Held) (b : List ℕ) (h : History) (e : Earlier (world m s b)) → Upheld (world m s b) h → Follows h (happened (world m s b) e)
unfolding happened with_state step_due_before append_before buffer_before flush_before with11 tests
happened_good m s b h (Earlier.same e) U = happen_good m s b h e U
happened_good m None b h (Earlier.append ks ws x y) U = unfold tell in U
happened_good m (Some s) b h (Earlier.append ks ws x y) U =
    append_good m s b h U ks ws (with11 (zip ks ws) (append_needs (length m) (views m) s b ks ws)) (λ e. every_at 3 _ e) x y
happened_good m None b h (Earlier.buffer ks ws x y) U = unfold tell in U
happened_good m (Some s) b h (Earlier.buffer ks ws x y) U =
    buffer_good m s b h U ks ws (with11 (zip ks ws) (buffer_needs (length m) (views m) s b ks ws))
    (λ e. record { rests = every_at 2 _ e; lists = every_at 3 _ e; lawfuls = before_lawful 4 refl (zip ks ws) (every_at 4 _ e); counts = every_at 5 _ e; places = every_at 6 _ e }) x y
happened_good m None b h Earlier.flush U = unfold tell in U
happened_good m (Some s) b h Earlier.flush U = flush_good m s b h U (with11 _ (flush_needs (length m) (views m) s b)) (λ e. every_at 3 _ e)
happened_good m None b h Earlier.step U = unfold stepped tell in U
happened_good m (Some s) b h Earlier.step U = step_goes m s b h U (step_before (length m) (views m) s b) (due_before m s b h U)
happened_good m None b h (Earlier.cut_inside left c) U = absurd (unfold CutOf in c)
happened_good m (Some s) b h (Earlier.cut_inside left c) U = cut_goes m s b h U (step_before (length m) (views m) s b) (due_before m s b h U) left c

pub before_upheld : (w : World) (h : History) → Before w h → Upheld w h
before_upheld w h (Before.start v F e) = (starts v.medium v.buffer v.state (in_format v F) e).upheld
before_upheld w h (Before.next v g e b) = happened_good v.medium v.state v.buffer g e (before_upheld v g b)
