-- What an event does to the whole pages of a medium: each of them was there before, the same at the same place, or has the next serial, which never falls.
-- So a list has passed a moment at which the next serial was any given number up to today's, and the pages below it stand since then.
use mathlib.Core.Path.{◌≡◌, refl, sym, ap, ◌∙◌}
use mathlib.Core.Logic.{◌⊎◌, inl, inr}
use mathlib.Core.Bool.{Bool, true, false, cond}
use Rattle.std.proofs.Common.{Option, None, Some}
use mathlib.Core.List.{List, ◌∷◌}
use Prim.Native.Nat.{ℕ, zero, suc, ◌+◌, ◌*◌, ◌≤◌, ◌<◌}
use native.Mathlib.Omega.{arith}
use native.Mathlib.Decide.{dec_lt, ℕ_discrete}
use lib.ListN.{length, set, replicate}
use Rattle.lists.specs.Needs.{Answer, refused, gives}
use Rattle.lists.proofs.Laws.{true_false}
use Rattle.page.specs.Pages.{Page, View, clean, whole}
use Rattle.page.proofs.Berger.{Turned, kept, torn, blanked}
use Rattle.flash.specs.Medium.{views, seen, programmed, erased}
use Rattle.flash.specs.Cuts.{CutProgram, CutErase}
use Rattle.flash.proofs.Laws.{length_views, clean_in}
use Rattle.flash.proofs.Steps.{seen_set, seen_set_other, program_length, program_views, erase_length}
use Rattle.flash.proofs.Cuts.{CutViews, cut_program_views, cut_erase_views}
use Rattle.state.specs.State.{Held, buffered_in}
use Rattle.recovery.specs.Recovery.{Recovery}
use Rattle.step.specs.Step.{Step, step_of, medium_after}
use Rattle.valve_log.specs.History.{History, Told, unchanged, began_append, began_commit, began_collect, put_in, began_flush, stepped_page, stepped_block, recovery}
use Rattle.valve_log.specs.Reached.{World, world, with_state, step_due, CutOf, Event, called, filled, stepped, same_bytes, cut_short, recovered, happen, finishes}
use Rattle.valve_log.specs.Reached.{Formatting, step_due_before, Earlier, happened, Before, switched_off, Reached}
use Rattle.valve_log.specs.ValveZero.{step_before}
use Rattle.valve_log.proofs.Views.{clean_is}
use Rattle.valve_log.proofs.Due.{Programs, Erases, Good}
use Rattle.valve_log.proofs.Events.{Upheld, same_true, there, others, erase_cut, due_good}
use Rattle.valve_log.proofs.Formats.{in_format, starts, base_page}
use Rattle.valve_log.proofs.ValveZero.{due_before, before_upheld}
use Rattle.valve_log.proofs.Point3.{reached_upheld}
use Rattle.fading.specs.Fading.{AtOrBefore, now, earlier, older, MomentOf}
use Rattle.fading.proofs.Serials.{KeepsHead, step_keeps, serial_of_lem, all_stand}
use Rattle.fading.proofs.Standing.{next_serial, below_next, next_most}

-- ---- one event

pub record PageChange (m u : List ℕ) : Type 0 where
  pub size : length u ≡ length m
  pub pages : (q : ℕ) (y : Page) → seen (views u) q ≡ whole y → (seen (views m) q ≡ whole y) ⊎ (y.serial ≡ next_serial (views m))
  pub never_falls : next_serial (views m) ≤ next_serial (views u)

no_change : (m u : List ℕ) → u ≡ m → PageChange m u
no_change m u e = rw e (record { size = refl; pages = λ q y k. inl k; never_falls = omega arith })

-- a page turned up that is whole was that page
turned_from : (x y : View) (pg : Page) → Turned x y → y ≡ whole pg → x ≡ whole pg
turned_from x y pg (kept x') e = e
turned_from x y pg (torn pg') e = let z : ◌≡◌ {A = ℕ} 0 1 = cc in absurd (omega arith)
turned_from x y pg (blanked x') e = let z : ◌≡◌ {A = ℕ} 0 1 = cc in absurd (omega arith)

pub cut_from : (v w other : List View) (a n : ℕ) → CutViews v a n other w → (q : ℕ) (y : Page) → seen w q ≡ whole y → (seen v q ≡ whole y) ⊎ (seen other q ≡ whole y)
cut_from v w other a n c q y e = go (dec_lt q a) (dec_lt q (a + n))
  where
    go : Dec (q < a) → Dec (q < a + n) → (seen v q ≡ whole y) ⊎ (seen other q ≡ whole y)
    go (yes h) d = inl (sym (c.outside q (inl h)) ∙ e)
    go (no h) (no k) = inl (sym (c.outside q (inr (omega arith))) ∙ e)
    go (no h) (yes k) = inr (turned_from (seen other q) (seen w q) y (c.inside q (omega arith) k) e)

module _ (m : List ℕ) (s : Held) (bs : List ℕ) (h : History) (U : Upheld (world m (Some s) bs) h) where
  -- a page programmed
  module _ (p : ℕ) (pg : Page) (s' : Held) (P : Programs (views m) s bs h p pg s') where
    in_medium : 256 * p + 256 ≤ length m
    in_medium = there m s bs h U p pg s' P

    few : length pg.entries ≤ 24
    few = P.fits_in.count

    next_serial_lem : pg.serial ≡ next_serial (views m)
    next_serial_lem = P.serials ∙ serial_of_lem U.coupled

    set_from : (q : ℕ) (y : Page) → seen (set (views m) p (whole pg)) q ≡ whole y → (seen (views m) q ≡ whole y) ⊎ (y.serial ≡ next_serial (views m))
    set_from q y e = go (ℕ_discrete q p)
      where
        go : Dec (q ≡ p) → (seen (views m) q ≡ whole y) ⊎ (y.serial ≡ next_serial (views m))
        go (yes k) =
            let i : whole pg ≡ whole y = sym (seen_set (views m) p (whole pg) (clean_in (views m) p P.cleans)) ∙ ap (seen (set (views m) p (whole pg))) (sym k) ∙ e in
            let j : pg ≡ y = cc in
            inr (ap (λ (z : Page). z.serial) (sym j) ∙ next_serial_lem)
        go (no k) = inl (sym (seen_set_other (views m) p q (whole pg) k) ∙ e)

    program_change : PageChange m (programmed m p pg)
    program_change =
        record {
          size = program_length m p pg in_medium few;
          pages = λ q y e. set_from q y (rw (program_views m p pg in_medium P.fits_in) at e);
          never_falls =
              rw (program_views m p pg in_medium P.fits_in)
              (all_stand (views m) (set (views m) p (whole pg)) p (clean_is (seen (views m) p) P.cleans) (λ q n. seen_set_other (views m) p q (whole pg) n));
        }

    cut_program_change : (left : List ℕ) → CutProgram m p pg left → PageChange m left
    cut_program_change left c =
        record {
          size = unfold CutProgram in c.size;
          pages = λ q y e. go q y (cut_from (views m) (views left) (views (programmed m p pg)) p 1 (cut_program_views m p pg left in_medium few U.guarded c) q y e);
          never_falls = all_stand (views m) (views left) p (clean_is (seen (views m) p) P.cleans) (others m s bs h U p pg s' P left c);
        }
      where
        go : (q : ℕ) (y : Page) → (seen (views m) q ≡ whole y) ⊎ (seen (views (programmed m p pg)) q ≡ whole y) → (seen (views m) q ≡ whole y) ⊎ (y.serial ≡ next_serial (views m))
        go q y (inl k) = inl k
        go q y (inr k) = program_change.pages q y k

  -- a block erased
  module _ (b : ℕ) (s' : Held) (E : Erases (views m) bs h b s') (head : s'.head ≡ s.head) where
    block_there : 4096 * b + 4096 ≤ length m
    block_there = omega (arith, E.inside, length_views m)

    lost_from : (u : List ℕ) → CutViews (views m) (16 * b) 16 (views m) (views u)
        → (q : ℕ) (y : Page) → seen (views u) q ≡ whole y → (seen (views m) q ≡ whole y) ⊎ (y.serial ≡ next_serial (views m))
    lost_from u c q y e = go (cut_from (views m) (views u) (views m) (16 * b) 16 c q y e)
      where
        go : (seen (views m) q ≡ whole y) ⊎ (seen (views m) q ≡ whole y) → (seen (views m) q ≡ whole y) ⊎ (y.serial ≡ next_serial (views m))
        go (inl k) = inl k
        go (inr k) = inl k

    same_serial : (u : List ℕ) → CutViews (views m) (16 * b) 16 (views m) (views u) → next_serial (views m) ≤ next_serial (views u)
    same_serial u c = let p = serial_of_lem U.coupled in let q = serial_of_lem (E.after (views u) c) in let z : s'.head.serial ≡ s.head.serial = ap (λ x. x.serial) head in omega arith

    erase_change : PageChange m (erased m b)
    erase_change =
        let c = erase_cut m s bs h U b s' E in
        record { size = erase_length m b block_there; pages = lost_from (erased m b) c; never_falls = same_serial (erased m b) c }

    cut_erase_change : (left : List ℕ) → CutErase m b left → PageChange m left
    cut_erase_change left c =
        let k = cut_erase_views m b left block_there U.guarded c in
        record { size = unfold CutErase in c.size; pages = lost_from left k; never_falls = same_serial left k }

  step_change : (st : Answer Step) → Good (views m) s bs h st → KeepsHead s st → PageChange m (stepped (world m (Some s) bs) st).after.medium
  unfolding stepped medium_after Good KeepsHead
  step_change (refused n) G k = no_change m m refl
  step_change (gives (Step.program p pg s' finished)) G k = program_change p pg s' G
  step_change (gives (Step.erase b s' finished)) G k = erase_change b s' G k

  cut_change : (st : Answer Step) → Good (views m) s bs h st → KeepsHead s st → (left : List ℕ) → CutOf m st left → PageChange m (cut_short (world m (Some s) bs) left st).after.medium
  unfolding cut_short CutOf Good KeepsHead
  cut_change (refused n) G k left c = no_change m m refl
  cut_change (gives (Step.program p pg s' finished)) G k left c = cut_program_change p pg s' G left c
  cut_change (gives (Step.erase b s' finished)) G k left c = cut_erase_change b s' G k left c

-- a call, and a recovery, touches no page
called_medium : (w : World) (t : Told) (c : Answer Held) → (called w t c).after.medium ≡ w.medium
unfolding called
called_medium w t (refused n) = refl
called_medium w t (gives s) = refl

recovered_medium : (w : World) (r : Answer Recovery) → (recovered w r).after.medium ≡ w.medium
unfolding recovered
recovered_medium w (refused n) = refl
recovered_medium w (gives r) = refl

filled_medium : (w : World) (t : Told) (c : Answer (List ℕ)) → (filled w t c).after.medium ≡ w.medium
unfolding filled
filled_medium w t (refused n) = refl
filled_medium w t (gives b) = refl

pub happen_change : (m : List ℕ) (s : Option Held) (bs : List ℕ) (h : History) (e : Event (world m s bs)) → Upheld (world m s bs) h → PageChange m (happen (world m s bs) e).after.medium
unfolding happen with_state step_due
happen_change m None bs h (Event.append ks ws a b) U = no_change m m refl
happen_change m (Some s) bs h (Event.append ks ws a b) U = no_change m _ (called_medium (world m (Some s) bs) _ _)
happen_change m None bs h Event.commit U = no_change m m refl
happen_change m (Some s) bs h Event.commit U = no_change m _ (called_medium (world m (Some s) bs) _ _)
happen_change m None bs h (Event.collect b) U = no_change m m refl
happen_change m (Some s) bs h (Event.collect b) U = no_change m _ (called_medium (world m (Some s) bs) _ _)
happen_change m None bs h (Event.buffer ks ws a b) U = no_change m m refl
happen_change m (Some s) bs h (Event.buffer ks ws a b) U = no_change m _ (filled_medium (world m (Some s) bs) _ _)
happen_change m None bs h Event.flush U = no_change m m refl
happen_change m (Some s) bs h Event.flush U = no_change m _ (called_medium (world m (Some s) bs) _ _)
happen_change m None bs h Event.step U = unfold stepped in no_change m m refl
happen_change m (Some s) bs h Event.step U =
    step_change m s bs h U (step_of (length m) (views m) s bs) (due_good m s bs h U) (unfold step_of in step_keeps _ (views m) s (buffered_in bs))
happen_change m s bs h Event.recover U = no_change m _ (recovered_medium (world m s bs) _)
happen_change m s bs h Event.read U = no_change m m refl
happen_change m s bs h Event.cut U = no_change m m refl
happen_change m None bs h (Event.cut_inside left c) U = absurd (unfold CutOf in c)
happen_change m (Some s) bs h (Event.cut_inside left c) U =
    cut_change m s bs h U (step_of (length m) (views m) s bs) (due_good m s bs h U) (unfold step_of in step_keeps _ (views m) s (buffered_in bs)) left c

-- and so an event of the program before Paper 8
happened_change : (m : List ℕ) (s : Option Held) (bs : List ℕ) (h : History) (e : Earlier (world m s bs)) → Upheld (world m s bs) h
    → PageChange m (happened (world m s bs) e).after.medium
unfolding happened with_state step_due_before
happened_change m s bs h (Earlier.same e) U = happen_change m s bs h e U
happened_change m None bs h (Earlier.append ks ws a b) U = no_change m m refl
happened_change m (Some s) bs h (Earlier.append ks ws a b) U = no_change m _ (called_medium (world m (Some s) bs) _ _)
happened_change m None bs h (Earlier.buffer ks ws a b) U = no_change m m refl
happened_change m (Some s) bs h (Earlier.buffer ks ws a b) U = no_change m _ (filled_medium (world m (Some s) bs) _ _)
happened_change m None bs h Earlier.flush U = no_change m m refl
happened_change m (Some s) bs h Earlier.flush U = no_change m _ (called_medium (world m (Some s) bs) _ _)
happened_change m None bs h Earlier.step U = unfold stepped in no_change m m refl
happened_change m (Some s) bs h Earlier.step U =
    step_change m s bs h U (step_before (length m) (views m) s bs) (due_before m s bs h U)
    (unfold step_before in step_keeps _ (views m) s (buffered_in bs))
happened_change m None bs h (Earlier.cut_inside left c) U = absurd (unfold CutOf in c)
happened_change m (Some s) bs h (Earlier.cut_inside left c) U =
    cut_change m s bs h U (step_before (length m) (views m) s bs) (due_before m s bs h U)
    (unfold step_before in step_keeps _ (views m) s (buffered_in bs)) left c

pub changed_before : (w : World) (h : History) (e : Earlier w) → Before w h → PageChange w.medium (happened w e).after.medium
changed_before w h e b = happened_change w.medium w.state w.buffer h e (before_upheld w h b)

-- ---- the next serial

-- a step on a page was told
unfoldable pub page_told : Told → Bool
page_told unchanged = false
page_told (began_append es) = false
page_told began_commit = false
page_told began_collect = false
page_told (put_in es) = false
page_told began_flush = false
page_told stepped_page = true
page_told stepped_block = false
page_told recovery = false

-- then it has risen: the page has the serial that was the next
abbrev Risen : List ℕ → Told → List ℕ → Type 0
Risen m t u = page_told t ≡ true → next_serial (views m) < next_serial (views u)

module _ (m : List ℕ) (s : Held) (bs : List ℕ) (h : History) (U : Upheld (world m (Some s) bs) h) where
  program_risen : (p : ℕ) (pg : Page) (s' : Held) → Programs (views m) s bs h p pg s' → next_serial (views m) < next_serial (views (programmed m p pg))
  program_risen p pg s' P =
      let i : seen (views (programmed m p pg)) p ≡ whole pg =
      rw (program_views m p pg (in_medium m s bs h U p pg s' P) P.fits_in) (seen_set (views m) p (whole pg) (clean_in (views m) p P.cleans)) in
      omega (arith, next_serial_lem m s bs h U p pg s' P, below_next (views (programmed m p pg)) p pg i)

  step_risen : (st : Answer Step) → Good (views m) s bs h st → Risen m (stepped (world m (Some s) bs) st).told (stepped (world m (Some s) bs) st).after.medium
  unfolding stepped medium_after Good page_told
  step_risen (refused n) G = λ e. true_false e refl
  step_risen (gives (Step.program p pg s' finished)) G = λ e. program_risen p pg s' G
  step_risen (gives (Step.erase b s' finished)) G = λ e. true_false e refl

  cut_program_risen : (p : ℕ) (pg : Page) (s' : Held) → Programs (views m) s bs h p pg s' → (left : List ℕ) (b : Bool) → same_bytes left (programmed m p pg) ≡ b
      → Risen m (cond b stepped_page unchanged) left
  unfolding page_told
  cut_program_risen p pg s' P left true q e = rw (same_true left (programmed m p pg) q) (program_risen p pg s' P)
  cut_program_risen p pg s' P left false q e = true_false e refl

  cut_risen : (st : Answer Step) → Good (views m) s bs h st → (left : List ℕ) → Risen m (cut_short (world m (Some s) bs) left st).told (cut_short (world m (Some s) bs) left st).after.medium
  unfolding cut_short Good
  cut_risen (refused n) G left = unfold page_told in (λ e. true_false e refl)
  cut_risen (gives (Step.program p pg s' finished)) G left = cut_program_risen p pg s' G left (same_bytes left (programmed m p pg)) refl
  cut_risen (gives (Step.erase b s' finished)) G left = unfold page_told in (λ e. true_false e refl)

called_risen : (w : World) (t : Told) (c : Answer Held) → page_told t ≡ false → Risen w.medium (called w t c).told (called w t c).after.medium
unfolding called page_told
called_risen w t (refused n) f = λ e. true_false e refl
called_risen w t (gives s) f = λ e. true_false e f

filled_risen : (w : World) (t : Told) (c : Answer (List ℕ)) → page_told t ≡ false → Risen w.medium (filled w t c).told (filled w t c).after.medium
unfolding filled page_told
filled_risen w t (refused n) f = λ e. true_false e refl
filled_risen w t (gives b) f = λ e. true_false e f

recovered_risen : (w : World) (r : Answer Recovery) → Risen w.medium (recovered w r).told (recovered w r).after.medium
unfolding recovered page_told
recovered_risen w (refused n) = λ e. true_false e refl
recovered_risen w (gives r) = λ e. true_false e refl

pub happen_risen : (m : List ℕ) (s : Option Held) (bs : List ℕ) (h : History) (e : Event (world m s bs)) → Upheld (world m s bs) h
    → Risen m (happen (world m s bs) e).told (happen (world m s bs) e).after.medium
unfolding happen with_state step_due page_told
happen_risen m None bs h (Event.append ks ws a b) U = λ e. true_false e refl
happen_risen m (Some s) bs h (Event.append ks ws a b) U = called_risen (world m (Some s) bs) _ _ refl
happen_risen m None bs h Event.commit U = λ e. true_false e refl
happen_risen m (Some s) bs h Event.commit U = called_risen (world m (Some s) bs) _ _ refl
happen_risen m None bs h (Event.collect b) U = λ e. true_false e refl
happen_risen m (Some s) bs h (Event.collect b) U = called_risen (world m (Some s) bs) _ _ refl
happen_risen m None bs h (Event.buffer ks ws a b) U = λ e. true_false e refl
happen_risen m (Some s) bs h (Event.buffer ks ws a b) U = filled_risen (world m (Some s) bs) _ _ refl
happen_risen m None bs h Event.flush U = λ e. true_false e refl
happen_risen m (Some s) bs h Event.flush U = called_risen (world m (Some s) bs) _ _ refl
happen_risen m None bs h Event.step U = unfold stepped in (λ e. true_false e refl)
happen_risen m (Some s) bs h Event.step U = step_risen m s bs h U (step_of (length m) (views m) s bs) (due_good m s bs h U)
happen_risen m s bs h Event.recover U = recovered_risen (world m s bs) _
happen_risen m s bs h Event.read U = λ e. true_false e refl
happen_risen m s bs h Event.cut U = λ e. true_false e refl
happen_risen m None bs h (Event.cut_inside left c) U = absurd (unfold CutOf in c)
happen_risen m (Some s) bs h (Event.cut_inside left c) U = cut_risen m s bs h U (step_of (length m) (views m) s bs) (due_good m s bs h U) left

-- the same of the program as it was before Paper 8
happened_risen : (m : List ℕ) (s : Option Held) (bs : List ℕ) (h : History) (e : Earlier (world m s bs)) → Upheld (world m s bs) h
    → Risen m (happened (world m s bs) e).told (happened (world m s bs) e).after.medium
unfolding happened with_state step_due_before page_told
happened_risen m s bs h (Earlier.same e) U = happen_risen m s bs h e U
happened_risen m None bs h (Earlier.append ks ws a b) U = λ e. true_false e refl
happened_risen m (Some s) bs h (Earlier.append ks ws a b) U = called_risen (world m (Some s) bs) _ _ refl
happened_risen m None bs h (Earlier.buffer ks ws a b) U = λ e. true_false e refl
happened_risen m (Some s) bs h (Earlier.buffer ks ws a b) U = filled_risen (world m (Some s) bs) _ _ refl
happened_risen m None bs h Earlier.flush U = λ e. true_false e refl
happened_risen m (Some s) bs h Earlier.flush U = called_risen (world m (Some s) bs) _ _ refl
happened_risen m None bs h Earlier.step U = unfold stepped in (λ e. true_false e refl)
happened_risen m (Some s) bs h Earlier.step U =
    step_risen m s bs h U (step_before (length m) (views m) s bs) (due_before m s bs h U)
happened_risen m None bs h (Earlier.cut_inside left c) U = absurd (unfold CutOf in c)
happened_risen m (Some s) bs h (Earlier.cut_inside left c) U =
    cut_risen m s bs h U (step_before (length m) (views m) s bs) (due_before m s bs h U) left

pub risen_before : (w : World) (h : History) (e : Earlier w) → Before w h
    → Risen w.medium (happened w e).told (happened w e).after.medium
risen_before w h e b = happened_risen w.medium w.state w.buffer h e (before_upheld w h b)

-- the next serial rises by at most one
pub rise : (m u : List ℕ) → PageChange m u → next_serial (views u) ≤ suc (next_serial (views m))
rise m u F = next_most (suc (next_serial (views m))) (views u) (omega arith) (λ q y e. go q y (F.pages q y e))
  where
    go : (q : ℕ) (y : Page) → (seen (views m) q ≡ whole y) ⊎ (y.serial ≡ next_serial (views m)) → y.serial < suc (next_serial (views m))
    go q y (inl k) = omega (arith, below_next (views m) q y k)
    go q y (inr k) = omega arith

-- ---- the moments of a list

-- m₀ is the medium at a moment at which the next serial was n, and m what has become of it: the pages with lower serials stand since then
pub record OlderStand (m₀ m : List ℕ) (n : ℕ) : Type 0 where
  pub size : length m₀ ≡ length m
  pub next : next_serial (views m₀) ≡ n
  pub older : (q : ℕ) (y : Page) → seen (views m) q ≡ whole y → y.serial < n → seen (views m₀) q ≡ whole y

older_after : (m₀ m u : List ℕ) (n : ℕ) → n ≤ next_serial (views m) → PageChange m u → OlderStand m₀ m n → OlderStand m₀ u n
older_after m₀ m u n l F A = record { size = A.size ∙ sym F.size; next = A.next; older = λ q y k b. A.older q y (go q y b (F.pages q y k)) b }
  where
    go : (q : ℕ) (y : Page) → y.serial < n → (seen (views m) q ≡ whole y) ⊎ (y.serial ≡ next_serial (views m)) → seen (views m) q ≡ whole y
    go q y b (inl k) = k
    go q y b (inr k) = absurd (omega arith)

-- two moments apart
pub older_apart : (m₀ m u : List ℕ) (n k : ℕ) → n ≤ k → OlderStand m₀ m n → OlderStand m u k → OlderStand m₀ u n
older_apart m₀ m u n k l A B = record { size = A.size ∙ B.size; next = A.next; older = λ q y e b. A.older q y (B.older q y e (omega arith)) b }

-- m₀ is the medium at some moment, and m what has become of it: the pages of that moment that are left stand, and the next serial has not fallen
pub record Along (m₀ m : List ℕ) : Type 0 where
  pub stand : OlderStand m₀ m (next_serial (views m₀))
  pub rises : next_serial (views m₀) ≤ next_serial (views m)

pub along_now : (m : List ℕ) → Along m m
along_now m = record { stand = record { size = refl; next = refl; older = λ q y k l. k }; rises = omega arith }

pub along_next : (m₀ m u : List ℕ) → PageChange m u → Along m₀ m → Along m₀ u
along_next m₀ m u F A = record { stand = older_after m₀ m u (next_serial (views m₀)) A.rises F A.stand; rises = let a = A.rises in let b = F.never_falls in omega arith }

-- one of the moments M, whose media are f, at which the next serial was n
pub record AtSerial (M : Type 0) (f : M → List ℕ) (m : List ℕ) (n : ℕ) : Type 0 where
  pub moment : M
  pub stand : OlderStand (f moment) m n

-- now
pub at_now : {M : Type 0} {f : M → List ℕ} (t : M) (n : ℕ) → next_serial (views (f t)) ≡ n → AtSerial M f (f t) n
at_now t n e = record { moment = t; stand = record { size = refl; next = e; older = λ q y k l. k } }

-- after one event more, which leads from the medium m to that of the moment t: the moments before it, and t, are moments of the longer list
pub at_next : {M N : Type 0} {f : M → List ℕ} {g : N → List ℕ} (m : List ℕ) (t : N) (onward : M → N) → ((x : M) → f x ≡ g (onward x)) → PageChange m (g t) → (n : ℕ)
    → (n ≤ next_serial (views m) → AtSerial M f m n) → n ≤ next_serial (views (g t)) → AtSerial N g (g t) n
at_next {M} {N} {f} {g} m t onward same F n ih hi = go (dec_lt (next_serial (views m)) n)
  where
    go : Dec (next_serial (views m) < n) → AtSerial N g (g t) n
    go (yes k) = at_now t n (let b = rise m (g t) F in omega arith)
    go (no k) =
        let A = ih (omega arith) in
        record { moment = onward A.moment; stand = older_after (g (onward A.moment)) m (g t) n (omega arith) F (rw (same A.moment) at A.stand) }

-- where the list starts the only page is the base
start_page : (k q : ℕ) (y : Page) → seen (whole base_page ∷ replicate k clean) q ≡ whole y → y.serial < 2
unfolding seen
start_page k zero y e = let p : base_page ≡ y = cc in let t : 1 ≡ y.serial = ap (λ (z : Page). z.serial) p in omega arith
start_page zero (suc q) y e = let z : ◌≡◌ {A = ℕ} 0 1 = cc in absurd (omega arith)
start_page (suc k) (suc zero) y e = let z : ◌≡◌ {A = ℕ} 0 1 = cc in absurd (omega arith)
start_page (suc k) (suc (suc q)) y e = start_page k (suc q) y e

-- so its next serial is 2
pub start_next : (v : World) → Formatting v → finishes (step_due v) ≡ true → next_serial (views (happen v Event.step).after.medium) ≤ 2
start_next v F f = next_most 2 (views (happen v Event.step).after.medium) (omega arith) only
  where
    only : (q : ℕ) (y : Page) → seen (views (happen v Event.step).after.medium) q ≡ whole y → y.serial < 2
    only q y e = let B = starts v.medium v.buffer v.state (in_format v F) f in start_page B.pages q y (rw B.sees at e)

abbrev pub now_of : {w : World} {h : History} (r : Reached w h) → MomentOf r
now_of {w} {h} r = record { world = w; history = h; reached = r; passed = now }

abbrev onward_of : {w : World} {h : History} (r : Reached w h) (e : Event w) → MomentOf r → MomentOf (Reached.next w h e r)
onward_of r e t = record { world = t.world; history = t.history; reached = t.reached; passed = earlier e t.passed }

abbrev older_of : {w : World} {h : History} (b : Before w h) (e : Earlier w) → MomentOf (Reached.taken_over b)
    → MomentOf (Reached.taken_over (Before.next w h e b))
older_of b e t = record { world = t.world; history = t.history; reached = t.reached; passed = older e t.passed }

abbrev pub medium_then : {w : World} {h : History} (r : Reached w h) → MomentOf r → List ℕ
medium_then r t = t.world.medium

-- a list has passed a moment at which the next serial was n
moment_before : (w : World) (h : History) (b : Before w h) (n : ℕ) → 2 ≤ n → n ≤ next_serial (views w.medium)
    → AtSerial (MomentOf (Reached.taken_over b)) (medium_then (Reached.taken_over b)) w.medium n
moment_before w h (Before.start v F f) n lo hi =
    at_now (now_of (Reached.taken_over (Before.start v F f))) n (let b = start_next v F f in omega arith)
moment_before w h (Before.next v g e b) n lo hi =
    at_next v.medium (now_of (Reached.taken_over (Before.next v g e b))) (older_of b e) (λ x. refl) (changed_before v g e b) n
    (λ k. moment_before v g b n lo k) hi

pub moment_of : (w : World) (h : History) (r : Reached w h) (n : ℕ) → 2 ≤ n → n ≤ next_serial (views w.medium) → AtSerial (MomentOf r) (medium_then r) w.medium n
moment_of w h (Reached.start v F f) n lo hi = at_now (now_of (Reached.start v F f)) n (let b = start_next v F f in omega arith)
moment_of w h (Reached.next v g e r) n lo hi =
    at_next v.medium (now_of (Reached.next v g e r)) (onward_of r e) (λ x. refl) (happen_change v.medium v.state v.buffer g e (reached_upheld v g r)) n (λ k. moment_of v g r n lo k) hi
moment_of w h (Reached.taken_over {w = v} {h = g} b) n lo hi = moment_before v g b n lo hi

-- ---- from a moment on

pub along : {v : World} {g : History} (q : Reached v g) (w : World) (h : History) (r : Reached w h) → AtOrBefore q w h r → Along v.medium w.medium
along {v} q w h r now = along_now v.medium
along {v} q w h r (earlier {w = w'} {h = h'} {r = r'} e p) =
    along_next v.medium w'.medium (happen w' e).after.medium (happen_change w'.medium w'.state w'.buffer h' e (reached_upheld w' h' r')) (along q w' h' r' p)
along {v} q w h r (older {w = w'} {h = h'} {b = b} e p) =
    along_next v.medium w'.medium (happened w' e).after.medium (changed_before w' h' e b)
    (along q (switched_off w') h' (Reached.taken_over b) p)

-- a moment at which the list had passed the moment q
pub record From {v : World} {g : History} (q : Reached v g) (w : World) (h : History) (r : Reached w h) : Type 0 where
  pub moment : MomentOf r
  pub passed : AtOrBefore q moment.world moment.history moment.reached

abbrev pub medium_from : {v : World} {g : History} (q : Reached v g) (w : World) (h : History) (r : Reached w h) → From q w h r → List ℕ
medium_from q w h r t = t.moment.world.medium

pub moment_from : {v : World} {g : History} (q : Reached v g) (w : World) (h : History) (r : Reached w h) → AtOrBefore q w h r
    → (n : ℕ) → next_serial (views v.medium) ≤ n → n ≤ next_serial (views w.medium) → AtSerial (From q w h r) (medium_from q w h r) w.medium n
moment_from q w h r now n lo hi = at_now {f = medium_from q w h r} (record { moment = now_of q; passed = now }) n (omega arith)
moment_from q w h r (earlier {w = w'} {h = h'} {r = r'} e p) n lo hi =
    at_next {f = medium_from q w' h' r'} {g = medium_from q w h r} w'.medium (record { moment = now_of (Reached.next w' h' e r'); passed = earlier e p })
    (λ t. record { moment = onward_of r' e t.moment; passed = t.passed }) (λ t. refl) (happen_change w'.medium w'.state w'.buffer h' e (reached_upheld w' h' r')) n
    (λ k. moment_from q w' h' r' p n lo k) hi
moment_from q w h r (older {w = w'} {h = h'} {b = b} e p) n lo hi =
    at_next {f = medium_from q (switched_off w') h' (Reached.taken_over b)} {g = medium_from q w h r} w'.medium
    (record { moment = now_of (Reached.taken_over (Before.next w' h' e b)); passed = older e p })
    (λ t. record { moment = older_of b e t.moment; passed = t.passed }) (λ t. refl) (changed_before w' h' e b) n
    (λ k. moment_from q (switched_off w') h' (Reached.taken_over b) p n lo k) hi
