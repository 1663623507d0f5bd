-- A commit, an append and a collection carried to their ends, from any world reached.
use mathlib.Core.Path.{◌≡◌, refl, sym, ap, subst, ◌∙◌}
use mathlib.Core.Logic.{◌⊎◌, inl, inr}
use mathlib.Core.Bool.{Bool, true, false, not, cond}
use Rattle.std.proofs.Common.{Some}
use mathlib.Core.List.{List, [], ◌∷◌, ◌++◌}
use Prim.Native.Nat.{ℕ, zero, suc, ◌+◌, ◌-◌, ◌*◌, ◌/◌, ◌^◌, ◌≤◌, ◌<◌}
use native.Mathlib.Omega.{arith}
use native.Mathlib.Decide.{dec_lt, ℕ_discrete}
use lib.Dec.{ltb, eqb}
use lib.ListN.{length, set, take, length-take, length-set, length-append}
use borrow.Author.Tests.{ltb-true, le-leb, lt-leb, eq-eqb}
use Rattle.lists.specs.declared.Cell.{Cell}
use Rattle.lists.specs.Lists.{all, every}
use Rattle.lists.specs.Needs.{need, Answer, gives}
use Rattle.lists.specs.Cells.{Entry, Place}
use Rattle.lists.proofs.Laws.{by_cases, true_false, every_at, tests, checked_pass, all_take, held_stop, below_all, below_same}
use Rattle.page.specs.Pages.{Page, View, clean, spoilt, whole, page, ends, is_clean, pages_for}
use Rattle.flash.specs.Medium.{views, seen, wholly_clean, programmed, erased}
use Rattle.flash.proofs.Laws.{length_views, clean_in}
use Rattle.flash.proofs.Steps.{program_length, program_views, seen_set, erase_length, erase_views, seen_cleaned, seen_uncleaned}
use Rattle.index.specs.Index.{rising, assign_all}
use Rattle.index.proofs.Members.{In, in_take, in_all, all_in}
use Rattle.blocks.specs.declared.Head.{Head}
use Rattle.blocks.specs.Blocks.{size_ok, spare, available, reaches_base, old_block, new_head, page_due, collectible}
use Rattle.nodes.specs.Nodes.{in_block, sound, words, live}
use Rattle.nodes.proofs.Alive.{in_live}
use Rattle.state.specs.State.{Pending, idle, append, commit, collect, Held, held, done_fit, base_pages, fit, fit_with, buffered_in, is_idle}
use Rattle.calls.specs.Calls.{serials_for}
use Rattle.step.specs.Step.{Step, is_last, group_page, head_after, addressed, appended, committed, collected, erasing, programs_due, needs_erase}
use Rattle.step.specs.Step.{erased_first, page_needs, programming, append_step, commit_step, move_step, collect_step, due, step_of, medium_after, buffer_after}
use Rattle.step.proofs.Laws.{needs_erase_lem, first_none, erase_due as first_due}
use Rattle.recovery.specs.Recovery.{Placed, Group}
use Rattle.valve_log.specs.History.{UnderWay, appending, collecting, History, stepped_page, stepped_block, counted, tell}
use Rattle.valve_log.specs.Reached.{World, world, fresh, Moment, moment, with_state, step_due, Event, stepped, happen, finishes, Reached}
use Rattle.valve_log.proofs.Index.{valves}
use Rattle.valve_log.proofs.Groups.{ends_page}
use Rattle.valve_log.proofs.Steps.{page_serial}
use Rattle.valve_log.proofs.Replay.{addressed_one}
use Rattle.valve_log.proofs.Moves.{unique_live, live_in_block, moves_out}
use Rattle.valve_log.proofs.Coupling.{Pend, at_rest, in_append, in_commit, in_collect, in_flush, Alive, alive_of}
use Rattle.valve_log.proofs.Lent.{lent_of, with_fit}
use Rattle.valve_log.proofs.Views.{clean_same}
use Rattle.valve_log.proofs.Due.{Good, Programs, Erases, old_page, counted_collect}
use Rattle.valve_log.proofs.Events.{Upheld, sized, there, block_there, erase_cut, due_good}
use Rattle.valve_log.proofs.Point3.{reached_upheld}
use Rattle.valve_log.proofs.Supply.{clean_elsewhere, spare_is, spare_other, spare_clean, Which, in_head, new_head_lem, due_page, available_after}
use Rattle.valve_log.proofs.Ready.{Left, pending_well, Ready, fit_ready, sound_part, collects, due_outside, old_elsewhere}
use Rattle.valve_log.proofs.Allowed.{Allowed, StateAllowed, reached_allowed}
use Rattle.valve_log.proofs.Steady.{StateReady, reached_ready}
use Rattle.valve_log.proofs.Once.{erased_recorded}
use Rattle.newest_page.specs.Newer.{serial_seen, greatest_below, greatest_serial, ends_base, newer}
use Rattle.housekeeping.specs.Bound.{is_unfinished, Finishes, EndsWith}
use Rattle.newest_page.proofs.Laws.{greatest_most, greatest_least}
use Rattle.housekeeping.proofs.Counting.{count_more}
use Rattle.housekeeping.proofs.Places.{not_spoilt, There, serial_below, newest_there, Stands}
use Rattle.housekeeping.proofs.Lives.{StateStands, reached_places}

-- ---- a world reached with a state

pub record Known (m : List ℕ) (s : Held) (h : History) : Type 0 where
  pub reached : Reached (world m (Some s) fresh) h
  pub upheld : Upheld (world m (Some s) fresh) h
  pub ready : Ready (views m) s
  pub stands : Stands (views m) s

pub known : (m : List ℕ) (s : Held) (h : History) → Reached (world m (Some s) fresh) h → Known m s h
known m s h R =
    record {
      reached = R;
      upheld = reached_upheld (world m (Some s) fresh) h R;
      ready = unfold StateReady in reached_ready (world m (Some s) fresh) h R;
      stands = unfold StateStands in (reached_places (world m (Some s) fresh) h R).state;
    }

module _ {m : List ℕ} {s : Held} {h : History} (K : Known m s h) where
  pub alives : Alive (views m) s h.under_way K.upheld.coupled.b K.upheld.coupled.ch K.upheld.coupled.gs K.upheld.coupled.idx
  alives = alive_of K.upheld.coupled.memory

  allows : Allowed h
  allows = unfold StateAllowed in reached_allowed (world m (Some s) fresh) h K.reached

  pub fits : fit (views m) s ≡ true
  fits = fit_ready (views m) s h K.upheld.coupled allows K.ready

  pub fits_fresh : fit_with (views m) s fresh ≡ true
  fits_fresh = with_fit (views m) (lent_of K.upheld.lending) allows.gathers fits

  pub bound : (q : ℕ) (x : Page) → seen (views m) q ≡ whole x → x.serial < s.head.serial
  bound q x e = omega (arith, serial_below K.upheld.coupled.medium q x e, alives.serials)

  pub newest : There (views m) s.head.serial
  newest = rw alives.serials (newest_there K.upheld.coupled.medium)

  pub base_less : s.head.base < s.head.serial
  base_less = omega (arith, alives.serials, alives.bases, K.upheld.coupled.medium.some_page)

  pub four : 4 ≤ s.head.blocks
  four = let z = sized (length m) K.upheld.size in omega (arith, length_views m, K.ready.size, z.low)

  pub index_few : length s.index ≤ 192
  index_few = omega (arith, ap length alives.indices, K.upheld.coupled.medium.tidy.count)

  pub index_sound : sound (views m) s.index ≡ true
  index_sound = ap (sound (views m)) alives.indices ∙ K.upheld.coupled.medium.sounds

-- ---- one step

pub record Goes (m : List ℕ) (s : Held) (m' : List ℕ) (s' : Held) (h' : History) (finished : Bool) : Type 0 where
  pub knows : Known m' s' h'
  pub further : finished ≡ false → (w : World) → Finishes (world m' (Some s') fresh) w → Finishes (world m (Some s) fresh) w
  pub ends_here : finished ≡ true → Finishes (world m (Some s) fresh) (world m' (Some s') fresh)

-- A page is written at p, and the operation may be finished by it: one step, or an erase of the new head and a step. All that the runs below
-- know of it, since of the state afterwards they ask no records of erases.
pub record Writes (m : List ℕ) (s : Held) (p : ℕ) (pg : Page) (head : Head) (index : List Place) (pend : Pending) (h' : History) (finished : Bool) : Type 0 where
  pub m' : List ℕ
  pub records : List Bool
  pub size : length m' ≡ length m
  pub sees : views m' ≡ set (views m) p (whole pg)
  pub goes_on : Goes m s m' (held head index pend records) h' finished

module _ {m : List ℕ} {s : Held} {h : History} (K : Known m s h) where
  module _ (m' : List ℕ) (s' : Held) (h' : History) (finished : Bool) (t : Moment) (is : happen (world m (Some s) fresh) Event.step ≡ t) (after : t.after ≡ world m' (Some s') fresh)
      (tells : tell h t.told ≡ h') where
    reaches_on : Reached (world m' (Some s') fresh) h'
    reaches_on = rw (← after, ← tells, ← is) (Reached.next (world m (Some s) fresh) h Event.step K.reached)

    after_is : (happen (world m (Some s) fresh) Event.step).after ≡ world m' (Some s') fresh
    after_is = ap (λ (x : Moment). x.after) is ∙ after

    goes : finishes (step_due (world m (Some s) fresh)) ≡ finished → (finished ≡ false → is_unfinished (step_due (world m (Some s) fresh)) ≡ true) → Goes m s m' s' h' finished
    goes fin on =
        record {
          knows = known m' s' h' reaches_on;
          further = λ e w F. Finishes.more (world m (Some s) fresh) w (on e) (subst (λ (x : World). Finishes x w) (sym after_is) F);
          ends_here = λ e. subst (λ (x : World). Finishes (world m (Some s) fresh) x) after_is (Finishes.last (world m (Some s) fresh) (fin ∙ e));
        }

  programs : (p : ℕ) (pg : Page) (s' : Held) (finished : Bool) → step_of (length m) (views m) s fresh ≡ gives (Step.program p pg s' finished)
      → Goes m s (programmed m p pg) s' (counted h h.under_way) finished
  unfolding happen step_due with_state stepped medium_after buffer_after tell finishes is_unfinished
  programs p pg s' finished e =
      goes (programmed m p pg) s' (counted h h.under_way) finished (moment (programmed m p pg) (Some s') fresh stepped_page) (rw (e, blanks (eqb pg.kind 4))) refl refl (rw e) (λ f. rw (e, f))
    where
      blanks : (k : Bool) → cond k fresh fresh ≡ fresh
      blanks true = refl
      blanks false = refl

  erases : (b : ℕ) (s' : Held) (finished : Bool) → step_of (length m) (views m) s fresh ≡ gives (Step.erase b s' finished) → Goes m s (erased m b) s' h finished
  unfolding happen step_due with_state stepped medium_after buffer_after tell finishes is_unfinished
  erases b s' finished e =
      goes (erased m b) s' h finished (moment (erased m b) (Some s') fresh stepped_block) (rw e) refl refl (rw e) (λ f. rw (e, f))

  sees_program : (p : ℕ) (pg : Page) (s' : Held) (finished : Bool) → step_of (length m) (views m) s fresh ≡ gives (Step.program p pg s' finished)
      → views (programmed m p pg) ≡ set (views m) p (whole pg)
  sees_program p pg s' finished e =
      let G : Programs (views m) s fresh h p pg s' = unfold Good in (rw e at (due_good m s fresh h K.upheld)) in
      program_views m p pg (there m s fresh h K.upheld p pg s' G) G.fits_in

  size_program : (p : ℕ) (pg : Page) (s' : Held) (finished : Bool) → step_of (length m) (views m) s fresh ≡ gives (Step.program p pg s' finished) → length (programmed m p pg) ≡ length m
  size_program p pg s' finished e =
      let G : Programs (views m) s fresh h p pg s' = unfold Good in (rw e at (due_good m s fresh h K.upheld)) in
      program_length m p pg (there m s fresh h K.upheld p pg s' G) G.fits_in.count

  step_writes : (p : ℕ) (pg : Page) (hd : Head) (index : List Place) (pend : Pending) (records : List Bool) (finished : Bool)
      → step_of (length m) (views m) s fresh ≡ gives (Step.program p pg (held hd index pend records) finished)
      → Writes m s p pg hd index pend (counted h h.under_way) finished
  step_writes p pg hd index pend records finished e =
      record {
        m' = programmed m p pg;
        records = records;
        size = size_program p pg (held hd index pend records) finished e;
        sees =
            sees_program p pg (held hd index pend records) finished e;
        goes_on = programs p pg (held hd index pend records) finished e;
      }

  -- what an erase leaves
  module _ (b : ℕ) (s' : Held) (finished : Bool) (e : step_of (length m) (views m) s fresh ≡ gives (Step.erase b s' finished)) where
    erase_known : Erases (views m) fresh h b s'
    erase_known = unfold Good in (rw e at (due_good m s fresh h K.upheld))

    erased_clean : (q : ℕ) → 16 * b ≤ q → q < 16 * b + 16 → seen (views (erased m b)) q ≡ clean
    erased_clean q lo hi = rw (erase_views m b (block_there m s fresh h K.upheld b s' erase_known)) (seen_cleaned (views m) (16 * b) 16 erase_known.inside q lo hi)

    erased_other : (q : ℕ) → (q < 16 * b) ⊎ (16 * b + 16 ≤ q) → seen (views (erased m b)) q ≡ seen (views m) q
    erased_other q o = rw (erase_views m b (block_there m s fresh h K.upheld b s' erase_known)) (seen_uncleaned (views m) (16 * b) 16 erase_known.inside q o)

  -- conditions 1, 7 and 9
  pub step_due_lem : (pend : Pending) → s.pending ≡ pend → is_idle pend ≡ false → step_of (length m) (views m) s fresh ≡ erased_first (views m) s (due (views m) s (buffered_in fresh) pend)
  unfolding step_of
  step_due_lem pend e busy =
      checked_pass (need 1 (size_ok (length m)) ∷ need 7 (fit_with (views m) s fresh) ∷ need 9 (not (is_idle s.pending)) ∷ [])
      (erased_first (views m) s (due (views m) s (buffered_in fresh) s.pending)) met
      ∙ ap (λ (x : Pending). erased_first (views m) s (due (views m) s (buffered_in fresh) x)) e
    where
      pending_busy : not (is_idle s.pending) ≡ true
      pending_busy = ap (λ (x : Pending). not (is_idle x)) e ∙ ap not busy

      met : every (tests (need 1 (size_ok (length m)) ∷ need 7 (fit_with (views m) s fresh) ∷ need 9 (not (is_idle s.pending)) ∷ [])) ≡ true
      met = unfold every tests in rw (K.upheld.size, fits_fresh K, pending_busy)

  -- conditions 14 and 16
  pub page_programmed : 1 ≤ available (views m) s.head → s.head.serial + 1 ≤ 2 ^ 64 - 1 → (pg : Page) (s' : Held) (finished : Bool)
      → programming (views m) s.head (page_due (views m) s.head) pg s' finished ≡ gives (Step.program (page_due (views m) s.head) pg s' finished)
  unfolding programming
  page_programmed one room pg s' finished =
      checked_pass (page_needs (views m) s.head (page_due (views m) s.head)) (gives (Step.program (page_due (views m) s.head) pg s' finished)) met
    where
      met : every (tests (page_needs (views m) s.head (page_due (views m) s.head))) ≡ true
      met = unfold every tests serials_for in rw (le-leb (s.head.serial + 1) (2 ^ 64 - 1) room, (due_page (views m) s.head K.ready.heads one).free)

-- ---- one page, after the erase of a new head without a record

own_step : (v : List View) (s : Held) (own : Answer Step) → needs_erase v s ≡ false → erased_first v s own ≡ own
unfolding erased_first
own_step v s own e = rw e

-- a state with other records of erases
abbrev recording : Held → List Bool → Held
recording s records = held s.head s.index s.pending records

module _ {m : List ℕ} {s : Held} {h : History} (K : Known m s h) (pend : Pending) (e : s.pending ≡ pend) (busy : is_idle pend ≡ false) (p : ℕ) (pg : Page) (hd : Head) (index : List Place)
    (after : Pending) (finished : Bool)
    (own : (records : List Bool) → due (views m) (recording s records) (buffered_in fresh) pend ≡ gives (Step.program p pg (held hd index after records) finished)) where
  module _ (n : needs_erase (views m) s ≡ true) where
    abbrev x : ℕ
    x = new_head (views m) s.head

    abbrev records₁ : List Bool
    records₁ = (erasing s x s.pending).erased

    erases_first : step_of (length m) (views m) s fresh ≡ gives (Step.erase x (recording s records₁) false)
    unfolding erasing
    erases_first = first_due (length m) (views m) s fresh K.upheld.size (fits_fresh K) n

    same_views : views (erased m x) ≡ views m
    same_views = clean_same (views m) (views (erased m x)) x (needs_erase_lem (views m) s n).cleans
        (erase_cut m s fresh h K.upheld x (recording s records₁) (erase_known K x (recording s records₁) false erases_first))

    same_size : length (erased m x) ≡ length m
    same_size = erase_length m x (block_there m s fresh h K.upheld x (recording s records₁) (erase_known K x (recording s records₁) false erases_first))

    first_goes : Goes m s (erased m x) (recording s records₁) h false
    first_goes = erases K x (recording s records₁) false erases_first

    -- the page comes next
    once_only : needs_erase (views (erased m x)) (recording s records₁) ≡ false
    once_only = erased_recorded (world m (Some s) fresh) h x (recording s records₁) K.reached (unfold step_due with_state in erases_first)

    then_writes : Writes (erased m x) (recording s records₁) p pg hd index after (counted h h.under_way) finished
    then_writes =
        let K₁ = first_goes.knows in
        step_writes K₁ p pg hd index after records₁ finished
        (step_due_lem K₁ pend e busy ∙ own_step (views (erased m x)) (recording s records₁) _ once_only ∙ ap (λ (v : List View). due v (recording s records₁) (buffered_in fresh) pend) same_views
        ∙ own records₁)

    both : Writes m s p pg hd index after (counted h h.under_way) finished
    both =
        let W = then_writes in
        record {
          m' = W.m';
          records = W.records;
          size = W.size ∙ same_size;
          sees = W.sees ∙ ap (λ (v : List View). set v p (whole pg)) same_views;
          goes_on =
              record {
                knows = W.goes_on.knows;
                further = λ f w F. first_goes.further refl w (W.goes_on.further f w F);
                ends_here = λ f. first_goes.further refl _ (W.goes_on.ends_here f);
              };
        }

  pub writes : Writes m s p pg hd index after (counted h h.under_way) finished
  writes =
      by_cases (needs_erase (views m) s) both
      (λ n. step_writes K p pg hd index after s.erased finished (step_due_lem K pend e busy ∙ own_step (views m) s _ n ∙ own s.erased))

-- ---- the greatest serial

greatest_is : (v : List View) (n : ℕ) → There v n → ((q : ℕ) (x : Page) → seen v q ≡ whole x → x.serial < n) → suc (greatest_serial v) ≡ n
unfolding greatest_serial
greatest_is v n t b = omega (arith, greatest_most (length v) v t.page.serial most, least, t.serial)
  where
    most : (q : ℕ) → serial_seen (seen v q) ≤ t.page.serial
    most q = go (seen v q) refl
      where
        go : (x : View) → seen v q ≡ x → serial_seen x ≤ t.page.serial
        go clean e = unfold serial_seen in omega arith
        go spoilt e = unfold serial_seen in omega arith
        go (whole x) e = unfold serial_seen in omega (arith, b q x e, t.serial)

    inside : t.at < length v
    inside = go (dec_lt t.at (length v))
      where
        go : Dec (t.at < length v) → t.at < length v
        go (yes k) = k
        go (no k) = let z : seen v t.at ≡ spoilt = unfold seen in lib.ListN.get_or-eq_default v spoilt {n = t.at} (omega arith) in not_spoilt t.page (sym z ∙ t.is)

    least : t.page.serial ≤ greatest_below (length v) v
    least = let g = greatest_least (length v) v t.at inside in let e : serial_seen (seen v t.at) ≡ t.page.serial = rw t.is (unfold serial_seen in refl) in omega arith

pub serials_known : {m : List ℕ} {s : Held} {h : History} → Known m s h → suc (greatest_serial (views m)) ≡ s.head.serial
serials_known {m} {s} K = greatest_is (views m) s.head.serial (newest K) (bound K)

-- the newest page ends a base
pub ended : {m : List ℕ} {s : Held} {h : History} → Known m s h → (p : ℕ) (pg : Page) → p < length (views m) → seen (views m) p ≡ whole pg → suc pg.serial ≡ s.head.serial → pg.kind ≡ 2
    → ends pg ≡ true → newer (views m) ≡ false
unfolding newer
ended {m} K p pg l e n k f = sym (held_stop (length (views m)) p (λ q. not (ends_base (greatest_serial (views m)) (seen (views m) q))) l stops)
  where
    same : pg.serial ≡ greatest_serial (views m)
    same = omega (arith, serials_known K)

    stops : not (ends_base (greatest_serial (views m)) (seen (views m) p)) ≡ false
    stops = rw e (unfold ends_base every in rw (eq-eqb pg.serial (greatest_serial (views m)) same, eq-eqb pg.kind 2 k, f))

-- ---- all blocks but two are used and hold no page from serial f on

pub record Frame (v : List View) (h : Head) (f a b : ℕ) : Type 0 where
  pub head_in : (h.block ≡ a) ⊎ (h.block ≡ b)
  pub used : (x : ℕ) → x < h.blocks → (x ≡ a → ⊥) → (x ≡ b → ⊥) → wholly_clean v x ≡ false
  pub olds : (x : ℕ) → x < h.blocks → (x ≡ a → ⊥) → (x ≡ b → ⊥) → old_block v f x ≡ true

frame_after : (v : List View) (h : Head) (f a b p base : ℕ) (x : View) → Which v h p → Frame v h f a b → Frame (set v p x) (head_after h p base) f a b
unfolding head_after
frame_after v h f a b p base x w F =
    record {
      head_in = in_two;
      used = λ y l na nb. clean_elsewhere v p y x (away in_two y na nb) ∙ F.used y l na nb;
      olds = λ y l na nb. old_elsewhere v p y f x (away in_two y na nb) ∙ F.olds y l na nb;
    }
  where
    away : (p / 16 ≡ a) ⊎ (p / 16 ≡ b) → (y : ℕ) → (y ≡ a → ⊥) → (y ≡ b → ⊥) → p / 16 ≡ y → ⊥
    away (inl q) y na nb e = na (sym e ∙ q)
    away (inr q) y na nb e = nb (sym e ∙ q)

    go : Which v h p → (p / 16 ≡ a) ⊎ (p / 16 ≡ b)
    go (in_head l e) = let z : p / 16 ≡ h.block = omega arith in rw z F.head_in
    go (new_head_lem y l e i o c) = let z : p / 16 ≡ y = omega arith in rw z (pick (ℕ_discrete y a) (ℕ_discrete y b))
      where
        pick : Dec (y ≡ a) → Dec (y ≡ b) → (y ≡ a) ⊎ (y ≡ b)
        pick (yes q) d = inl q
        pick (no q) (yes d) = inr d
        pick (no q) (no d) = true_false c (F.used y i q d)

    in_two : (p / 16 ≡ a) ⊎ (p / 16 ≡ b)
    in_two = go w

-- ---- a commit

pub record CommitDone (m : List ℕ) (s : Held) (j f a b : ℕ) : Type 0 where
  pub m' : List ℕ
  pub s' : Held
  pub h' : History
  pub run : Finishes (world m (Some s) fresh) (world m' (Some s') fresh)
  pub knows : Known m' s' h'
  pub rests : s'.pending ≡ idle
  pub indices : s'.index ≡ s.index
  pub serials : s'.head.serial ≡ s.head.serial + j
  pub bases : s'.head.base ≡ f
  pub frame : Frame (views m') s'.head f a b
  pub supply : available (views m) s.head ≤ j + available (views m') s'.head
  pub ends_base_lem : newer (views m') ≡ false

last_page : (n k : ℕ) → base_pages n ≡ k + 1 → is_last k n ≡ true
unfolding base_pages pages_for is_last
last_page n k e = le-leb n (24 * suc k) (omega arith)

more_page : (n k j : ℕ) → base_pages n ≡ k + suc (suc j) → is_last k n ≡ false
unfolding base_pages pages_for is_last
more_page n k j e = lt-leb n (24 * suc k) (omega arith)

module _ {m : List ℕ} {s : Held} {h : History} (K : Known m s h) (k : ℕ) (e : s.pending ≡ commit k) (room : s.head.serial + 1 ≤ 2 ^ 64 - 1) where
  abbrev p : ℕ
  p = page_due (views m) s.head

  abbrev pg : Page
  pg = group_page 2 s.index k s.head.serial

  one_left : 1 ≤ available (views m) s.head
  one_left = omega (arith, lefts, fewer)
    where
      lefts : base_pages (length s.index) ≤ k + available (views m) s.head
      lefts = unfold Left in (subst (Left (views m) s.head s.index) e K.ready.left)

      fewer : k < base_pages (length s.index)
      fewer = unfold pending_well done_fit in ltb-true k (base_pages (length s.index))
          (every_at 1 _ (ap (pending_well (views m) s.head s.index) (sym e) ∙ K.ready.pend))

  whichs : Which (views m) s.head p
  whichs = (due_page (views m) s.head K.ready.heads one_left).which

  free : is_clean (seen (views m) p) ≡ true
  free = (due_page (views m) s.head K.ready.heads one_left).free

  commit_due : (records : List Bool) → due (views m) (recording s records) (buffered_in fresh) (commit k) ≡ gives
      (Step.program p pg (committed (recording s records) k p) (is_last k (length s.index)))
  commit_due records = unfold due commit_step in page_programmed K one_left room pg (committed (recording s records) k p) (is_last k (length s.index))

  -- the head after a page of it
  abbrev more_head : Head
  more_head = head_after s.head p s.head.base

  abbrev last_head : Head
  last_head = head_after s.head p (s.head.serial - k)

  writes_more : is_last k (length s.index) ≡ false → Writes m s p pg more_head s.index (commit (suc k)) (counted h h.under_way) false
  writes_more l = writes K (commit k) e (unfold is_idle in refl) p pg more_head s.index (commit (suc k)) false (λ records. commit_due records ∙ (unfold committed in rw l))

  writes_last : is_last k (length s.index) ≡ true → Writes m s p pg last_head s.index idle (counted h h.under_way) true
  writes_last l = writes K (commit k) e (unfold is_idle in refl) p pg last_head s.index idle true (λ records. commit_due records ∙ (unfold committed in rw l))

  supplies : (base : ℕ) (m' : List ℕ) → views m' ≡ set (views m) p (whole pg) → available (views m) s.head ≤ suc (available (views m') (head_after s.head p base))
  supplies base m' vs = rw vs (available_after (views m) s.head p base (whole pg) K.ready.heads whichs)

  frames : (base f a b : ℕ) (m' : List ℕ) → views m' ≡ set (views m) p (whole pg) → Frame (views m) s.head f a b → Frame (views m') (head_after s.head p base) f a b
  frames base f a b m' vs F = rw vs (frame_after (views m) s.head f a b p base (whole pg) whichs F)

  -- its last page
  commit_ends : (f a b : ℕ) → is_last k (length s.index) ≡ true → f + k ≡ s.head.serial → Frame (views m) s.head f a b → CommitDone m s 1 f a b
  unfolding head_after
  commit_ends f a b l firsts F =
      let W = writes_last l in
      record {
        m' = W.m';
        s' = held last_head s.index idle W.records;
        h' = counted h h.under_way;
        run = W.goes_on.ends_here refl;
        knows = W.goes_on.knows;
        rests = refl;
        indices = refl;
        serials = omega arith;
        bases = omega arith;
        frame = frames (s.head.serial - k) f a b W.m' W.sees F;
        supply = omega (arith, supplies (s.head.serial - k) W.m' W.sees);
        ends_base_lem = base_ended W.goes_on.knows W.sees;
      }
    where
      base_ended : {m' : List ℕ} {h' : History} {records : List Bool} → Known m' (held last_head s.index idle records) h' → views m' ≡ set (views m) p (whole pg) → newer (views m') ≡ false
      base_ended K' vs =
          ended K' p pg (rw vs (omega (arith, length-set (views m) p (whole pg), clean_in (views m) p free))) (rw vs (seen_set (views m) p (whole pg) (clean_in (views m) p free)))
          (ap suc (page_serial 2 s.index k s.head.serial)) (unfold group_page in refl) (ends_page 2 s.index k s.head.serial ∙ l)

  -- a page that is not its last
  commit_goes : (j f a b : ℕ) → is_last k (length s.index) ≡ false
      → ((m' : List ℕ) (records : List Bool) (h' : History) (K' : Known m' (held more_head s.index (commit (suc k)) records) h') → Frame (views m') more_head f a b → CommitDone m'
      (held more_head s.index (commit (suc k)) records) j f a b)
      → Frame (views m) s.head f a b → CommitDone m s (suc j) f a b
  unfolding head_after
  commit_goes j f a b l ih F =
      let W = writes_more l in
      let D = ih W.m' W.records (counted h h.under_way) W.goes_on.knows (frames s.head.base f a b W.m' W.sees F) in
      record {
        m' = D.m';
        s' = D.s';
        h' = D.h';
        run = W.goes_on.further refl (world D.m' (Some D.s') fresh) D.run;
        knows = D.knows;
        rests = D.rests;
        indices = D.indices;
        serials = omega (arith, D.serials);
        bases = D.bases;
        frame = D.frame;
        supply = omega (arith, D.supply, supplies s.head.base W.m' W.sees);
        ends_base_lem = D.ends_base_lem;
      }

pub commit_runs : (j : ℕ) {m : List ℕ} {s : Held} {h : History} (K : Known m s h) (k f a b : ℕ) → s.pending ≡ commit k → base_pages (length s.index) ≡ k + suc j → f + k ≡ s.head.serial
    → s.head.serial + suc j ≤ 2 ^ 64 - 1
    → Frame (views m) s.head f a b → CommitDone m s (suc j) f a b
commit_runs zero {m} {s} {h} K k f a b e left firsts room F = commit_ends K k e room f a b (last_page (length s.index) k left) firsts F
commit_runs (suc j) {m} {s} {h} K k f a b e left firsts room F =
    commit_goes K k e (omega arith) (suc j) f a b (more_page (length s.index) k j left)
    (λ m' records h' K' F'. commit_runs j K' (suc k) f a b refl (omega arith) (unfold head_after in omega arith) (unfold head_after in omega arith) F') F

-- ---- an append

-- the world and the history that its steps lead to: its group is the last of the log
pub record AppendDone (m : List ℕ) (s : Held) (es : List Entry) : Type 0 where
  pub end : World
  pub run : Finishes (world m (Some s) fresh) end
  pub history : History
  pub reached : Reached end history
  pub in_log_lem : EndsWith es history.log

-- an append with so many pages left is under way
under_append : {v : List View} {serial : ℕ} {ch : List Placed} {gs : List Group} {idx : List Place} (p : Pending) (u : UnderWay)
    (es : List Entry) (ps : List ℕ) (n : ℕ)
    → Pend v serial ch gs idx p u → p ≡ append es ps → pages_for (length es) ≡ length ps + n → u ≡ appending es n
under_append p u es ps n at_rest e l = let z : ◌≡◌ {A = ℕ} 0 1 = cc in absurd (omega arith)
under_append p u es ps n (in_commit f qs pre a b c d g o i) e l = let z : ◌≡◌ {A = ℕ} 0 1 = cc in absurd (omega arith)
under_append p u es ps n in_collect e l = let z : ◌≡◌ {A = ℕ} 0 1 = cc in absurd (omega arith)
under_append p u es ps n in_flush e l = let z : ◌≡◌ {A = ℕ} 0 1 = cc in absurd (omega arith)
under_append p u es ps n (in_append {es = es₁} {ps = ps₁} {left = left} f small a b op pr) e l =
    let x : es₁ ≡ es = cc in
    let y : ps₁ ≡ ps = cc in
    let k : left ≡ n = omega (arith, a, l, ap length y, ap (λ (t : List Entry). pages_for (length t)) x) in
    rw (x, k)

last_in_log : (h : History) (u : UnderWay) (es : List Entry) → u ≡ appending es 1 → EndsWith es (counted h u).log
unfolding counted
last_in_log h u es e = rw e (record { before = h.log; is = refl })

last_part : (n k : ℕ) → pages_for n ≡ k + 1 → is_last k n ≡ true
unfolding pages_for is_last
last_part n k e = le-leb n (24 * suc k) (omega arith)

more_part : (n k j : ℕ) → pages_for n ≡ k + suc (suc j) → is_last k n ≡ false
unfolding pages_for is_last
more_part n k j e = lt-leb n (24 * suc k) (omega arith)

module _ {m : List ℕ} {s : Held} {h : History} (K : Known m s h) (es : List Entry) (ps : List ℕ) (e : s.pending ≡ append es ps) (one_left : 1 ≤ available (views m) s.head)
    (room : s.head.serial + 1 ≤ 2 ^ 64 - 1) where
  abbrev place : ℕ
  place = page_due (views m) s.head

  abbrev group_page_lem : Page
  group_page_lem = group_page 1 es (length ps) s.head.serial

  abbrev head_after_lem : Head
  head_after_lem = head_after s.head place s.head.base

  append_due : (records : List Bool) → due (views m) (recording s records) (buffered_in fresh) (append es ps) ≡ gives
      (Step.program place group_page_lem (appended (recording s records) es ps place) (is_last (length ps) (length es)))
  append_due records = unfold due append_step in page_programmed K one_left room group_page_lem (appended (recording s records) es ps place) (is_last (length ps) (length es))

  -- its last page
  append_ends : is_last (length ps) (length es) ≡ true → pages_for (length es) ≡ length ps + 1 → AppendDone m s es
  append_ends l left =
      let W = writes K (append es ps) e (unfold is_idle in refl) place group_page_lem head_after_lem (assign_all s.index (addressed es (ps ++ (place ∷ [])))) idle true
      (λ records. append_due records ∙ (unfold appended in rw l)) in
      record {
        end = _;
        run = W.goes_on.ends_here refl;
        history = counted h h.under_way;
        reached = W.goes_on.knows.reached;
        in_log_lem = last_in_log h h.under_way es (under_append s.pending h.under_way es ps 1 (alives K).pends e left);
      }

  -- a page that is not its last
  append_goes : (j : ℕ) → is_last (length ps) (length es) ≡ false → suc j ≤ available (views m) s.head
      → ((m' : List ℕ) (records : List Bool) (h' : History) → Known m' (held head_after_lem s.index (append es (ps ++ (place ∷ []))) records) h' → j ≤ available (views m') head_after_lem
      → AppendDone m' (held head_after_lem s.index (append es (ps ++ (place ∷ []))) records) es) → AppendDone m s es
  append_goes j l many ih =
      let W =
      writes K (append es ps) e (unfold is_idle in refl) place group_page_lem head_after_lem s.index (append es (ps ++ (place ∷ []))) false (λ records. append_due records ∙ (unfold appended in rw l)) in
      let D = ih W.m' W.records (counted h h.under_way) W.goes_on.knows (left W.m' W.sees) in
      record {
        end = D.end;
        run = W.goes_on.further refl D.end
            D.run;
        history = D.history;
        reached = D.reached;
        in_log_lem = D.in_log_lem;
      }
    where
      left : (m' : List ℕ) → views m' ≡ set (views m) place (whole group_page_lem) → j ≤ available (views m') head_after_lem
      left m' vs =
          let a = available_after (views m) s.head place s.head.base (whole group_page_lem) K.ready.heads (due_page (views m) s.head K.ready.heads one_left).which in
          rw vs (omega (arith, a, many))

pub append_runs : (j : ℕ) {m : List ℕ} {s : Held} {h : History} (K : Known m s h) (es : List Entry) (ps : List ℕ) → s.pending ≡ append es ps → pages_for (length es) ≡ length ps + suc j
    → suc j ≤ available (views m) s.head → s.head.serial + suc j ≤ 2 ^ 64 - 1 → AppendDone m s es
append_runs zero {m} {s} {h} K es ps e left many room = append_ends K es ps e (omega arith) (omega arith)
    (last_part (length es) (length ps) left) left
append_runs (suc j) {m} {s} {h} K es ps e left many room =
    append_goes K es ps e (omega arith) (omega arith) (suc j) (more_part (length es) (length ps) j left) many
    (λ m' records h' K' many'. append_runs j K' es (ps ++ (place K es ps e (omega arith) (omega arith) ∷ [])) refl (longer (place K es ps e (omega arith) (omega arith))) many'
    (unfold head_after in omega arith))
  where
    longer : (p : ℕ) → pages_for (length es) ≡ length (ps ++ (p ∷ [])) + suc j
    longer p = omega (arith, length-append ps (p ∷ []))

-- ---- a collection

pub record CollectDone (m : List ℕ) (s : Held) (h : History) (j : ℕ) : Type 0 where
  pub m' : List ℕ
  pub s' : Held
  pub h' : History
  pub run : Finishes (world m (Some s) fresh) (world m' (Some s') fresh)
  pub knows : Known m' s' h'
  pub rests : s'.pending ≡ idle
  pub settings : h'.settings ≡ h.settings
  pub serials : s'.head.serial ≤ s.head.serial + j
  pub supply : available (views m) s.head + 16 ≤ j + available (views m') s'.head

module _ {m : List ℕ} {s : Held} {h : History} (K : Known m s h) (b : ℕ) (e : s.pending ≡ collect b) where
  abbrev head : Head
  head = s.head

  fits_block : collectible (views m) s.head b ≡ true
  fits_block = unfold pending_well in (ap (pending_well (views m) s.head s.index) (sym e) ∙ K.ready.pend)

  pages_left : pages_for (length (live s.index b)) ≤ available (views m) s.head
  pages_left = unfold Left in (subst (Left (views m) s.head s.index) e K.ready.left)

  -- the head holds the newest page, which reaches the base
  not_head : b ≡ s.head.block → ⊥
  not_head q = true_false reached (old_page (views m) s.head.base b (collects (views m) s.head b fits_block).old t.at (omega (arith, here)) (omega (arith, here)))
    where
      t : There (views m) s.head.serial
      t = newest K

      here : t.at / 16 ≡ b
      here = K.stands.newest t.at t.page t.is t.serial ∙ sym q

      reached : reaches_base s.head.base (seen (views m) t.at) ≡ true
      reached = rw t.is (unfold reaches_base in le-leb s.head.base t.page.serial (omega (arith, base_less K, t.serial)))

  -- the erase
  erase_due : live s.index b ≡ [] → step_of (length m) (views m) s fresh ≡ gives (Step.erase b (erasing s b idle) true)
  erase_due q =
      step_due_lem K (collect b) e (unfold is_idle in refl) ∙ first_none (views m) s _ (ap (programs_due s.index) e ∙ (unfold programs_due in rw q)) ∙
      (unfold due in (ap (collect_step (views m) s b) q ∙ (unfold collect_step in refl)))

  module _ (q : live s.index b ≡ []) where
    abbrev w : List View
    w = views (erased m b)

    block_clean : wholly_clean w b ≡ true
    unfolding wholly_clean
    block_clean =
        below_all 16 (λ i. is_clean (seen w (16 * b + i))) (λ i l. rw (erased_clean K b (erasing s b idle) true (erase_due q) (16 * b + i) (omega arith) (omega arith)) (unfold is_clean in refl))

    block_same : (x : ℕ) → (x ≡ b → ⊥) → wholly_clean w x ≡ wholly_clean (views m) x
    unfolding wholly_clean
    block_same x n =
        below_same 16 (λ i. is_clean (seen w (16 * x + i))) (λ i. is_clean (seen (views m) (16 * x + i)))
        (λ i l. ap is_clean (erased_other K b (erasing s b idle) true (erase_due q) (16 * x + i) (side i l (dec_lt x b))))
      where
        side : (i : ℕ) → i < 16 → Dec (x < b) → (16 * x + i < 16 * b) ⊎ (16 * b + 16 ≤ 16 * x + i)
        side i l (yes k) = inl (omega arith)
        side i l (no k) = inr (let z : b < x = above (dec_lt b x) in omega arith)
          where
            above : Dec (b < x) → b < x
            above (yes y) = y
            above (no y) = absurd (n (omega arith))

    -- it gives 16 pages back
    supply_erased : available (views m) s.head + 16 ≤ available w s.head
    unfolding available
    supply_erased =
        let c = collects (views m) s.head b fits_block in
        let k = count_more s.head.blocks (spare (views m) s.head.block) (spare w s.head.block) b c.inside (not_spare c.used) (spare_is w s.head.block b not_head block_clean)
        (λ i l y. stays c.used i y) in
        omega (arith, k)
      where
        not_spare : wholly_clean (views m) b ≡ false → spare (views m) s.head.block b ≡ false
        not_spare u = by_cases (spare (views m) s.head.block b) (λ y. true_false (spare_clean (views m) s.head.block b y) u) (λ y. y)

        stays : wholly_clean (views m) b ≡ false → (i : ℕ) → spare (views m) s.head.block i ≡ true → spare w s.head.block i ≡ true
        stays u i y =
            let n : i ≡ b → ⊥ = λ z. true_false (rw z at (spare_clean (views m) s.head.block i y)) u in
            spare_is w s.head.block i (spare_other (views m) s.head.block i y) (block_same i n ∙ spare_clean (views m) s.head.block i y)

    collect_ends : (j : ℕ) → CollectDone m s h j
    unfolding erasing
    collect_ends j =
        let G = erases K b (erasing s b idle) true (erase_due q) in
        record {
          m' = erased m b;
          s' = erasing s b idle;
          h' = h;
          run = G.ends_here refl;
          knows = G.knows;
          rests = refl;
          settings = refl;
          serials = omega arith;
          supply = omega (arith, supply_erased);
        }

  -- a page of head_after nodes
  module _ (l : List Place) (q : live s.index b ≡ l) (many : 1 ≤ length l) (room : s.head.serial + 1 ≤ 2 ^ 64 - 1) where
    abbrev at : ℕ
    at = page_due (views m) s.head

    abbrev moves : List Place
    moves = take 24 l

    abbrev text : Page
    text = page 3 3 s.head.serial (words (views m) moves)

    one_page : 1 ≤ available (views m) s.head
    one_page = omega (arith, pages_left, ap (λ (x : List Place). pages_for (length x)) q, some_pages)
      where
        some_pages : 1 ≤ pages_for (length l)
        some_pages = unfold pages_for in omega arith

    members : (x : Cell) → In x moves → In x s.index
    members x i = in_live s.index b (rw q (in_take 24 l i))

    move_due : (records : List Bool) → move_step (views m) (recording s records) b moves ≡ gives (Step.program at text (collected (recording s records) b moves at) false)
    unfolding move_step
    move_due records =
        checked_pass (need 6 (sound (views m) moves) ∷ []) (programming (views m) s.head at text (collected (recording s records) b moves at) false)
        (unfold every tests in rw (sound_part (views m) s.index moves (index_sound K) members))
        ∙ page_programmed K one_page room text (collected (recording s records) b moves at) false

    rises : rising s.index ≡ true
    rises = ap rising (alives K).indices ∙ K.upheld.coupled.medium.tidy.rise

    valved : valves moves ≡ true
    unfolding valves
    valved = in_all (λ (x : Cell). ltb x.key 32768) moves (λ x i. all_in (λ (x : Cell). ltb x.key 32768) index_valved (members x i))
      where
        index_valved : all (λ (x : Cell). ltb x.key 32768) s.index ≡ true
        index_valved = unfold valves in (ap valves (alives K).indices ∙ K.upheld.coupled.medium.tidy.valve)

    taken : length moves ≤ 24
    taken = omega (arith, length-take 24 l)

    which_page : Which (views m) s.head at
    which_page = (due_page (views m) s.head K.ready.heads one_page).which

    moved_out : length (live (assign_all s.index (addressed moves (at ∷ []))) b) + length moves ≡ length l
    moved_out =
        ap (λ (t : List Place). length (live (assign_all s.index t) b) + length moves) (addressed_one moves at taken)
        ∙ moves_out b at s.index moves rises members (subst (λ (x : List Place). all (in_block b) (take 24 x) ≡ true) q
        (all_take (in_block b) 24 (live s.index b) (live_in_block s.index b))) valved
        (rw q at (unique_live s.index b 24 rises)) taken (due_outside (views m) s.head b at which_page fits_block)
        ∙ ap length q

    fewer_pages : (n : ℕ) → n + length moves ≡ length l → pages_for n + 1 ≤ pages_for (length l)
    unfolding pages_for
    fewer_pages n k = omega (arith, length-take 24 l)

    abbrev moved_head : Head
    moved_head = head_after s.head at s.head.base

    abbrev moved_index : List Place
    moved_index = assign_all s.index (addressed moves (at ∷ []))

    abbrev moved_state : List Bool → Held
    moved_state records = held moved_head moved_index (collect b) records

    collect_goes : (j : ℕ) → h.under_way ≡ collecting → Writes m s at text moved_head moved_index (collect b) (counted h h.under_way) false
        → ((m' : List ℕ) (records : List Bool) (K' : Known m' (moved_state records) h) → CollectDone m' (moved_state records) h j) → CollectDone m s h (suc j)
    unfolding head_after
    collect_goes j u W ih =
        let K' : Known W.m' (moved_state W.records) h = rw (counted_collect h h.under_way u) at W.goes_on.knows in
        let D = ih W.m' W.records K' in
        let a : available (views m) s.head ≤ suc (available (views W.m') (head_after s.head at s.head.base)) =
        rw W.sees (available_after (views m) s.head at s.head.base (whole text) K.ready.heads which_page) in
        record {
          m' = D.m';
          s' = D.s';
          h' = D.h';
          run = W.goes_on.further refl (world D.m' (Some D.s') fresh) D.run;
          knows = D.knows;
          rests = D.rests;
          settings = D.settings;
          serials = omega (arith, D.serials);
          supply = omega (arith, D.supply, a);
        }

module _ {m : List ℕ} {s : Held} {h : History} (K : Known m s h) (b : ℕ) (e : s.pending ≡ collect b) where
  collect_writes : (x : Place) (xs : List Place) (q : live s.index b ≡ x ∷ xs) (many : 1 ≤ length (x ∷ xs)) (room : s.head.serial + 1 ≤ 2 ^ 64 - 1)
      → Writes m s (at K b e (x ∷ xs) q many room) (text K b e (x ∷ xs) q many room) (moved_head K b e (x ∷ xs) q many room) (moved_index K b e (x ∷ xs) q many room) (collect b)
      (counted h h.under_way) false
  unfolding due collect_step collected
  collect_writes x xs q many room =
      writes K (collect b) e (unfold is_idle in refl) (at K b e (x ∷ xs) q many room) (text K b e (x ∷ xs) q many room) (moved_head K b e (x ∷ xs) q many room)
      (moved_index K b e (x ∷ xs) q many room) (collect b) false
      (λ records. ap (collect_step (views m) (recording s records) b) q ∙ move_due K b e (x ∷ xs) q many room records)

  -- one step, and the rest
  collect_steps : (j : ℕ) → h.under_way ≡ collecting → pages_for (length (live s.index b)) ≤ suc j → s.head.serial + suc j ≤ 2 ^ 64 - 1 → (l : List Place) → live s.index b ≡ l
      → ((m' : List ℕ) (s' : Held) (K' : Known m' s' h) → s'.pending ≡ collect b → pages_for (length (live s'.index b)) ≤ j → s'.head.serial + j ≤ 2 ^ 64 - 1 → CollectDone m' s' h j)
      → CollectDone m s h (suc j)
  collect_steps j u few room [] q ih = collect_ends K b e q (suc j)
  collect_steps j u few room (x ∷ xs) q ih =
      collect_goes K b e (x ∷ xs) q (omega arith) (omega arith) j u (collect_writes x xs q (omega arith) (omega arith))
      (λ m' records K'. ih m' (moved_state K b e (x ∷ xs) q (omega arith) (omega arith) records) K' refl (omega (arith, few, fewer, ap (λ (z : List Place). pages_for (length z)) q))
      (unfold head_after in omega arith))
    where
      fewer : pages_for (length (live (assign_all s.index (addressed (take 24 (x ∷ xs)) (page_due (views m) s.head ∷ []))) b)) + 1 ≤ pages_for (length (x ∷ xs))
      fewer = fewer_pages K b e (x ∷ xs) q (omega arith) (omega arith) _ (moved_out K b e (x ∷ xs) q (omega arith) (omega arith))

pub collect_runs : (j : ℕ) {m : List ℕ} {s : Held} {h : History} (K : Known m s h) (b : ℕ) → s.pending ≡ collect b → h.under_way ≡ collecting → pages_for (length (live s.index b)) ≤ j
    → s.head.serial + j ≤ 2 ^ 64 - 1 → CollectDone m s h j
collect_runs zero {m} {s} {h} K b e u few room = go (live s.index b) refl
  where
    none_left : (n : ℕ) → pages_for n ≤ 0 → n ≡ 0
    none_left n k = unfold pages_for in omega arith

    go : (l : List Place) → live s.index b ≡ l → CollectDone m s h 0
    go [] q = collect_ends K b e q 0
    go (x ∷ xs) q = absurd (omega (arith, none_left (length (live s.index b)) few, ap length q))
collect_runs (suc j) {m} {s} {h} K b e u few room =
    collect_steps K b e j u few room (live s.index b) refl (λ m' s' K' e' few' room'. collect_runs j K' b e' u few' room')
