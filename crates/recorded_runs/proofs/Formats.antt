-- Along a run, while formatting is under way: every call is refused by 8, and a step leaves the buffer empty and the medium as long as it was.
use mathlib.Core.Path.{◌≡◌, refl, sym, ap, subst, ◌∙◌}
use mathlib.Core.Bool.{Bool, true, false}
use Rattle.std.proofs.Common.{Option}
use mathlib.Core.List.{List, ◌∷◌}
use Prim.Native.Nat.{ℕ, ◌/◌, ◌≤◌, ◌<◌}
use native.Mathlib.Omega.{arith}
use lib.Dec.{ltb, eqb}
use lib.ListN.{length}
use borrow.Author.Tests.{ltb-true}
use Rattle.lists.specs.Lists.{every}
use Rattle.lists.specs.Needs.{Answer, refused, gives, Need, checked}
use Rattle.lists.proofs.Laws.{by_cases, true_false, every_at, tests, checked_cases}
use Rattle.page.specs.Pages.{View}
use Rattle.flash.specs.Medium.{views}
use Rattle.flash.proofs.Steps.{program_length, erase_length}
use Rattle.blocks.specs.Blocks.{size_ok}
use Rattle.state.specs.State.{Held, is_idle}
use Rattle.calls.specs.Calls.{formatting, append_of, commit_of, collect_of, buffer_of, flush_of}
use Rattle.calls.proofs.Laws.{format_state}
use Rattle.step.specs.Step.{Step, programming, format_step, due, programs_due, needs_erase, erased_first, step_of, medium_after, buffer_after}
use Rattle.valve_log.specs.History.{Told}
use Rattle.valve_log.specs.Reached.{World, world, fresh, with_state, step_due, still, called, filled, stepped, Formatting}
use Rattle.valve_log.proofs.Events.{sized}
use Rattle.valve_log.proofs.Formats.{InFormat, in_format, base_page}
use Rattle.player.specs.Run.{with_held, append_in, commit_in, collect_in, buffer_in, flush_in}
use Rattle.recorded_runs.proofs.Along.{stepped_medium}

-- ---- calls

pub record Refused {A : Type 0} (a : Answer A) : Type 0 where
  pub number : ℕ
  pub is : a ≡ refused number

-- a call whose third condition, 8, is not met is refused
busy : {A : Type 0} (a b c : Need) (cs : List Need) (x : A) → c.holds ≡ false → Refused (checked (a ∷ b ∷ c ∷ cs) x)
busy a b c cs x e =
    checked_cases Refused (a ∷ b ∷ c ∷ cs) (gives x) (λ n. record { number = n; is = refl }) (λ f. let g : c.holds ≡ true = unfold tests in every_at 2 _ f in true_false g e)

module _ (n : ℕ) (v : List View) (s : Held) (b : List ℕ) (e : is_idle s.pending ≡ false) where
  append_busy : (ks ws : List ℕ) → Refused (append_of n v s b ks ws)
  unfolding append_of
  append_busy ks ws = busy _ _ _ _ _ e

  commit_busy : Refused (commit_of n v s b)
  unfolding commit_of
  commit_busy = busy _ _ _ _ _ e

  collect_busy : (block : ℕ) → Refused (collect_of n v s b block)
  unfolding collect_of
  collect_busy block = busy _ _ _ _ _ e

  buffer_busy : (ks ws : List ℕ) → Refused (buffer_of n v s b ks ws)
  unfolding buffer_of
  buffer_busy ks ws = busy _ _ _ _ _ e

  flush_busy : Refused (flush_of n v s b)
  unfolding flush_of
  flush_busy = busy _ _ _ _ _ e

not_idle : (blocks k : ℕ) (e : List Bool) → is_idle (format_state blocks k e).pending ≡ false
unfolding is_idle
not_idle blocks k e = refl

module _ (w : World) (F : Formatting w) where
  I : InFormat w.medium w.state
  I = in_format w F

  held_refused : {A : Type 0} (f : Held → Answer A) → ((s : Held) → is_idle s.pending ≡ false → Refused (f s)) → Refused (with_held w f)
  unfolding with_held with_state
  held_refused f k = rw I.state (k _ (not_idle (length w.medium / 4096) I.done I.erased))

  pub append_refused : (ks ws : List ℕ) → Refused (append_in w ks ws)
  append_refused ks ws = held_refused _ (λ s e. append_busy _ _ s _ e ks ws)

  pub commit_refused : Refused (commit_in w)
  commit_refused = held_refused _ (λ s e. commit_busy _ _ s _ e)

  pub collect_refused : (b : ℕ) → Refused (collect_in w b)
  collect_refused b = held_refused _ (λ s e. collect_busy _ _ s _ e b)

  pub buffer_refused : (ks ws : List ℕ) → Refused (buffer_in w ks ws)
  buffer_refused ks ws = held_refused _ (λ s e. buffer_busy _ _ s _ e ks ws)

  pub flush_refused : Refused (flush_in w)
  flush_refused = held_refused _ (λ s e. flush_busy _ _ s _ e)

pub called_still : (w : World) (t : Told) (a : Answer Held) → Refused a → called w t a ≡ still w
unfolding called
called_still w t a r = rw r.is refl

pub filled_still : (w : World) (t : Told) (a : Answer (List ℕ)) → Refused a → filled w t a ≡ still w
unfolding filled
filled_still w t a r = rw r.is refl

-- ---- steps

empty_after : (st : Answer Step) → buffer_after fresh st ≡ fresh
unfolding buffer_after
empty_after (refused n) = refl
empty_after (gives (Step.program p pg s finished)) = by_cases (eqb pg.kind 4) (λ e. rw e refl) (λ e. rw e refl)
empty_after (gives (Step.erase b s finished)) = refl

stepped_buffer : (w : World) (st : Answer Step) → (stepped w st).after.buffer ≡ buffer_after w.buffer st
unfolding stepped buffer_after
stepped_buffer w (refused n) = refl
stepped_buffer w (gives (Step.program p pg s finished)) = refl
stepped_buffer w (gives (Step.erase b s finished)) = refl

pub step_empty : (w : World) → w.buffer ≡ fresh → (stepped w (step_due w)).after.buffer ≡ fresh
step_empty w e = stepped_buffer w (step_due w) ∙ ap (λ (b : List ℕ). buffer_after b (step_due w)) e ∙ empty_after (step_due w)

module _ (m : List ℕ) (bs : List ℕ) (k : ℕ) (e : List Bool) (size : size_ok (length m) ≡ true) (few : k ≤ length m / 4096) where
  Long : Answer Step → Type 0
  Long st = length (medium_after m st) ≡ length m

  refused_long : (n : ℕ) → Long (refused n)
  unfolding Long medium_after
  refused_long n = refl

  step_long : Long (step_of (length m) (views m) (format_state (length m / 4096) k e) bs)
  unfolding step_of due format_step formatting programs_due needs_erase every erased_first
  step_long =
      checked_cases Long _ _ refused_long
      (λ c. by_cases (ltb k (length m / 4096))
      (λ h. rw h (unfold Long medium_after in (let x : k < length m / 4096 = ltb-true k (length m / 4096) h in erase_length m k (omega arith))))
      (λ h. rw h (unfold programming in checked_cases Long _ _ refused_long
      (λ g. unfold Long medium_after in (let S = sized (length m) size in program_length m 0 base_page (omega (arith, S.low)) (omega arith))))))

pub step_long_as : (w : World) → Formatting w → length (stepped w (step_due w)).after.medium ≡ length w.medium
step_long_as w F = ap length (stepped_medium w (step_due w)) ∙ by_state w.medium w.state w.buffer (in_format w F)
  where
    by_state : (m : List ℕ) (s : Option Held) (b : List ℕ) → InFormat m s → length (medium_after m (step_due (world m s b))) ≡ length m
    by_state m s b J =
        subst (λ (o : Option Held). length (medium_after m (step_due (world m o b))) ≡ length m) (sym J.state)
        (unfold step_due with_state Long in step_long m b J.done J.erased J.size J.few)
