-- The buffer holds the history's buffered groups, and a flush programs it as lent.
use mathlib.Core.Path.{◌≡◌, refl, ap, ◌∙◌}
use mathlib.Core.Bool.{Bool, true, not}
use Rattle.std.proofs.Common.{Option, None, Some}
use mathlib.Core.List.{List, [], ◌∷◌}
use Prim.Native.Nat.{ℕ}
use native.Mathlib.Omega.{arith}
use Rattle.lists.specs.Lists.{every, value_or}
use Rattle.lists.specs.Needs.{Answer, refused, gives, need}
use Rattle.lists.proofs.Laws.{by_cases, true_false, every_at, tests, checked_cases}
use Rattle.codec.specs.Codec.{bytes_of, put_at}
use Rattle.page.specs.Pages.{Page, View}
use Rattle.page.specs.Layout.{decode, with_check, encode, clean_bytes}
use Rattle.page.specs.Buffer.{groups_in, groups_page, in_making, gathered}
use Rattle.page.proofs.Back.{flush_page_lem}
use Rattle.blocks.specs.Blocks.{size_ok, page_due}
use Rattle.state.specs.State.{Pending, flush, Held, flush_ok, groups_fit, buffer_fit, fit_with, buffered_in, is_idle}
use Rattle.step.specs.Step.{Step, programming, flushed, flush_step, due, erased_first, step_of}
use Rattle.step.proofs.Laws.{first_cases}
use Rattle.valve_log.specs.Reached.{world}
use Rattle.valve_log.specs.Buffered.{HoldsBuffered, ProgramsAsLent}
use Rattle.valve_log.proofs.Lent.{lent_of, lent_gathered}
use Rattle.valve_log.proofs.Events.{Upheld}
use Rattle.valve_log.proofs.Point3.{reached_upheld}

pub holds_buffered : HoldsBuffered
unfolding HoldsBuffered
holds_buffered w h s R e = there w.medium w.buffer w.state (reached_upheld w h R) e
  where
    there : (m bs : List ℕ) (o : Option Held) → Upheld (world m o bs) h → o ≡ Some s → gathered bs ≡ Some h.buffered
    there m bs None U e = let z : ◌≡◌ {A = ℕ} 0 1 = cc in absurd (omega arith)
    there m bs (Some t) U e = lent_gathered (lent_of U.lending)

-- ---- a flush's page

-- a buffer that is fit beside a pending flush is a page in the making
record Making (b : List ℕ) : Type 0 where
  making : in_making b ≡ true
  groups : buffered_in b ≡ groups_in (decode b)

fit_making : (s : Held) (b : List ℕ) → s.pending ≡ flush → buffer_fit s (gathered b) ≡ true → Making b
unfolding gathered buffer_fit
fit_making s b p f =
    by_cases (clean_bytes b) (λ c. let g : groups_fit s.index s.pending [] ≡ true = rw c at f in true_false g (rw p (unfold groups_fit flush_ok every in refl)))
    (λ c. by_cases (in_making b) (λ q. record { making = q; groups = unfold buffered_in gathered value_or in rw (c, q) }) (λ q. true_false (rw (c, q) at f) refl))

module _ (v : List View) (s : Held) (b : List ℕ) (p : ℕ) (pg : Page) (t : Held) (finished : Bool) where
  abbrev Laid : Answer Step → Type 0
  Laid st = st ≡ gives (Step.program p pg t finished) → pg ≡ groups_page s.head.serial (buffered_in b)

  refused_laid : (n : ℕ) → Laid (refused n)
  refused_laid n e = let z : ◌≡◌ {A = ℕ} 0 1 = cc in absurd (omega arith)

  erase_laid : (c : ℕ) (r : Held) (f : Bool) → Laid (gives (Step.erase c r f))
  erase_laid c r f e = let z : ◌≡◌ {A = ℕ} 0 1 = cc in absurd (omega arith)

  program_laid : (q : ℕ) (r : Held) (f : Bool) → Laid (gives (Step.program q (groups_page s.head.serial (buffered_in b)) r f))
  program_laid q r f e = cc

  flush_laid : Laid (flush_step v s (buffered_in b))
  unfolding flush_step programming
  flush_laid = checked_cases Laid _ _ refused_laid (λ e. program_laid (page_due v s.head) (flushed s (buffered_in b) (page_due v s.head)) true)

  due_laid : (q : Pending) → q ≡ flush → Laid (due v s (buffered_in b) q)
  unfolding due
  due_laid q e = rw e flush_laid

pub programs_as_lent : ProgramsAsLent
unfolding ProgramsAsLent step_of
programs_as_lent n v s b p pg t f bytes e =
    checked_cases (λ (st : Answer Step). st ≡ gives (Step.program p pg t f) → encode pg ≡ with_check (put_at b 8 (bytes_of 8 s.head.serial)))
    (need 1 (size_ok n) ∷ need 7 (fit_with v s b) ∷ need 9 (not (is_idle s.pending)) ∷ [])
    (erased_first v s (due v s (buffered_in b) s.pending)) (λ k q. let z : ◌≡◌ {A = ℕ} 0 1 = cc in absurd (omega arith))
    (λ c q. same (lent (unfold tests in every_at 1 _ c)) (first_cases (Laid v s b p pg t f) v s
    (due v s (buffered_in b) s.pending) (λ r. erase_laid v s b p pg t f _ _ _) (λ r. due_laid v s b p pg t f s.pending e) q))
  where
    lent : fit_with v s b ≡ true → Making b
    lent w = fit_making s b e (unfold fit_with in every_at 1 _ w)

    same : Making b → pg ≡ groups_page s.head.serial (buffered_in b) → encode pg ≡ with_check (put_at b 8 (bytes_of 8 s.head.serial))
    same M q = ap encode (q ∙ ap (groups_page s.head.serial) M.groups) ∙ flush_page_lem b s.head.serial bytes M.making
