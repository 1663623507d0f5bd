-- On a reached medium, with the state last handed back, no call answers 1, 6, 7 or 16.
use mathlib.Core.Path.{◌≡◌, refl, sym, ap, subst, ◌∙◌}
use mathlib.Core.Bool.{Bool, true}
use Rattle.std.proofs.Common.{Option, None, Some}
use mathlib.Core.List.{List, [], ◌∷◌, ◌++◌}
use Prim.Native.Nat.{ℕ, zero, suc, ◌+◌, ◌*◌, ◌/◌, ◌%◌, ◌≤◌, ◌<◌}
use native.Mathlib.Omega.{arith}
use lib.Dec.{ltb, eqb}
use lib.ListN.{length, replicate, length-append, length-replicate, get_or-replicate}
use borrow.Author.Tests.{leb-true, le-leb, ltb-true, lt-ltb, eqb-true}
use Rattle.lists.specs.declared.Cell.{Cell}
use Rattle.lists.specs.Lists.{all, every, is_some, value_or}
use Rattle.lists.specs.Needs.{Answer, refused, gives, Need, need, under, checked, answer_or, refusal_of}
use Rattle.lists.specs.Cells.{cell, Place}
use Rattle.lists.proofs.Laws.{by_cases, true_false, every_at, all_head, all_tail, tests, checked_cases, same_refusal, given_refused}
use Rattle.page.specs.Pages.{View, clean, spoilt, whole, is_clean, pages_for, changes_of}
use Rattle.flash.specs.Medium.{views, seen, erased}
use Rattle.flash.proofs.Laws.{length_views}
use Rattle.flash.proofs.Steps.{program_views}
use Rattle.index.specs.Index.{within, lookup}
use Rattle.blocks.specs.Blocks.{size_ok, available}
use Rattle.nodes.specs.Nodes.{word_at, sound, words, live}
use Rattle.state.specs.State.{Pending, append, commit, collect, flush, Held, count_tests, base_pages, fit, fit_with, buffered_in, state_needs}
use Rattle.recovery.specs.Recovery.{Placed, wholes, sort, last_of, no_page, Recovery}
use Rattle.recovery.specs.Recovery
use Rattle.readings.specs.Readings.{place_of, opening_needs, opening_of, last_naming, sets_at, sought_in, sought, word_refusal}
use Rattle.readings.specs.Readings.{pick_of, survey_of, available_of, long_enough, put_into, filed_into, filed_settings, read_settings}
use Rattle.calls.specs.Calls.{starting, zip, lists_ok, room_for, append_needs, append_of, commit_needs, commit_of, collect_needs, collect_of, flush_needs, flush_of, buffer_needs, buffer_of}
use Rattle.step.specs.Step.{Step, due, erased_first, step_of, medium_after}
use Rattle.valve_log.specs.Settings.{Stands}
use Rattle.valve_log.specs.History.{History, Told, began_append, began_commit, began_collect, put_in, began_flush}
use Rattle.valve_log.specs.Reached.{World, world, with_state, step_due, Event, called, filled, stepped, cut_short, recovered, happen, finishes, Formatting, lent_anew}
use Rattle.valve_log.specs.Reached.{step_due_before, Earlier, happened, Before, Reached}
use Rattle.valve_log.specs.ValveZero.{with11, append_before, buffer_before, flush_before, step_before}
use Rattle.valve_log.specs.Steady.{expected, Answers, Steady}
use Rattle.valve_log.proofs.Order.{all_sort, upto, sort_split}
use Rattle.index.proofs.Members.{In, first, later, all_in}
use Rattle.nodes.proofs.Alive.{in_live}
use Rattle.valve_log.proofs.Small.{zip_length}
use Rattle.valve_log.proofs.Sound.{outcome, accepts}
use Rattle.valve_log.proofs.Coupling.{alive_of, Coupled}
use Rattle.page.specs.Buffer.{holding}
use Rattle.valve_log.proofs.Lent.{Lent, lent_of, with_fit}
use Rattle.valve_log.proofs.Due.{Good}
use Rattle.valve_log.proofs.Events.{Upheld, Sized, sized, there, erase_cut, due_good}
use Rattle.valve_log.proofs.Formats.{Begins, base_page, started, in_format, starts}
use Rattle.valve_log.proofs.Allowed.{Allowed, StateAllowed, reached_allowed}
use Rattle.valve_log.proofs.ValveZero.{due_before, before_upheld}
use Rattle.valve_log.proofs.Point3.{reached_upheld}
use Rattle.valve_log.proofs.Ready.{Left, pending_well, Ready, fit_ready, sound_part, well_append, well_commit, left_append, left_commit, left_collect, left_flush, StepReady, own_ready, step_ready}

-- a state that is there is ready
unfoldable pub StateReady : List View → Option Held → Type 0
StateReady v None = Unit {0}
StateReady v (Some s) = Ready v s

-- ---- operations begun

module _ (n : ℕ) (v : List View) (s : Held) (bs : List ℕ) (h : History) (c : Coupled v (Some s) h) (r : Ready v s) where
  begun_ready : (pend : Pending) → pending_well v s.head s.index pend ≡ true → Left v s.head s.index pend → Ready v (starting s pend)
  begun_ready pend f l = record { size = r.size; heads = r.heads; pend = f; left = l }

  serial_one : 1 ≤ s.head.serial
  serial_one = omega (arith, (alive_of c.memory).serials, c.medium.some_page)

  -- whichever 11 is asked among the conditions
  append_begun : (ks ws : List ℕ) → lists_ok ks ws ≡ true → within s.index (zip ks ws) ≡ true
      → room_for v s.head (pages_for (length ks) + 16) ≡ true → Ready v (starting s (append (zip ks ws) []))
  append_begun ks ws lists count fits =
      let z = zip_length ks ws (eqb-true (length ks) (length ws) (unfold lists_ok in every_at 0 _ lists)) in
      let low : 1 ≤ length ks = leb-true 1 (length ks) (unfold lists_ok in every_at 1 _ lists) in
      let high : length ks ≤ 96 = leb-true (length ks) 96 (unfold lists_ok in every_at 2 _ lists) in
      let room : pages_for (length ks) + 16 ≤ available v s.head =
      leb-true (pages_for (length ks) + 16) (available v s.head) (unfold room_for in fits) in
      begun_ready (append (zip ks ws) [])
      (well_append v s.head s.index (zip ks ws) [] (counted (omega arith) (omega arith)) count serial_one (some_page (omega arith)))
      (left_append v s.head s.index (zip ks ws) [] (rw z (omega arith)))
    where
      counted : 1 ≤ length (zip ks ws) → length (zip ks ws) ≤ 96 → every (count_tests (length (zip ks ws))) ≡ true
      counted a b = unfold every in rw (le-leb 1 (length (zip ks ws)) a, le-leb (length (zip ks ws)) 96 b)

      some_page : 1 ≤ length (zip ks ws) → 0 < pages_for (length (zip ks ws))
      some_page a = unfold pages_for in omega arith

  commit_begun : every (tests (commit_needs n v s bs)) ≡ true → Ready v (starting s (commit 0))
  unfolding tests
  commit_begun e =
      let room : base_pages (length s.index) ≤ available v s.head = leb-true (base_pages (length s.index)) (available v s.head) (unfold room_for in every_at 4 _ e) in
      begun_ready (commit 0) (well_commit v s.head s.index 0 serial_one (unfold base_pages in omega arith)) (left_commit v s.head s.index 0 (omega arith))

  collect_begun : (b : ℕ) → every (tests (collect_needs n v s bs b)) ≡ true → Ready v (starting s (collect b))
  unfolding tests
  collect_begun b e =
      let room : pages_for (length (live s.index b)) ≤ available v s.head = leb-true (pages_for (length (live s.index b))) (available v s.head) (unfold room_for in every_at 6 _ e) in
      begun_ready (collect b) (unfold pending_well in every_at 4 _ e) (left_collect v s.head s.index b room)

  flush_begun : room_for v s.head (1 + 16) ≡ true → Ready v (starting s flush)
  flush_begun fits =
      let room : 1 + 16 ≤ available v s.head = leb-true (1 + 16) (available v s.head) (unfold room_for in fits) in
      begun_ready flush (unfold pending_well in refl) (left_flush v s.head s.index (omega arith))

-- ---- recovery's state

wholes_inside : (n : ℕ) (v : List View) → all (λ x. ltb x.at (n + length v)) (wholes n v) ≡ true
unfolding wholes all
wholes_inside n [] = refl
wholes_inside n (clean ∷ v) = let z : n + suc (length v) ≡ suc n + length v = omega arith in rw z (wholes_inside (suc n) v)
wholes_inside n (spoilt ∷ v) = let z : n + suc (length v) ≡ suc n + length v = omega arith in rw z (wholes_inside (suc n) v)
wholes_inside n (whole pg ∷ v) =
    let z : n + suc (length v) ≡ suc n + length v = omega arith in
    let first : all (λ x. ltb x.at (suc n + length v)) (wholes n (whole pg ∷ v)) ≡ true =
    rw (lt-ltb n (suc n + length v) (omega arith)) (wholes_inside (suc n) v) in
    subst (λ (k : ℕ). all (λ (x : Placed). ltb x.at k) (wholes n (whole pg ∷ v)) ≡ true) (sym z) first

pub all_last : (f : Placed → Bool) (d : Placed) (l : List Placed) → 1 ≤ length l → all f l ≡ true → f (last_of d l) ≡ true
unfolding last_of
all_last f d [] h a = absurd (omega arith)
all_last f d (x ∷ []) h a = all_head f x [] a
all_last f d (x ∷ y ∷ l) h a = all_last f x (y ∷ l) (omega arith) (all_tail f x (y ∷ l) a)

recovered_ready : {v : List View} {s : Option Held} {h : History} (c : Coupled v s h) → length v % 16 ≡ 0 → 64 ≤ length v → Ready v (outcome c.medium)
recovered_ready {v} c even low =
    unfold outcome in
    record {
      size = omega arith;
      heads = record { inside = omega (arith, newest); low = omega arith; high = omega arith; tail = λ i a b. absurd (omega arith) };
      pend = unfold pending_well in refl;
      left = unfold Left in tt;
    }
  where
    some_page : 1 ≤ length (sort (wholes 0 v))
    some_page =
        let M = c.medium in
        let p : sort (wholes 0 v) ≡ sort (upto c.b (wholes 0 v)) ++ c.ch = sort_split c.b (wholes 0 v) ∙ ap (λ (l : List Placed). sort (upto c.b (wholes 0 v)) ++ l) M.chained in
        omega (arith, ap length p, length-append (sort (upto c.b (wholes 0 v))) c.ch, M.some_page)

    newest : (last_of no_page (sort (wholes 0 v))).at < length v
    newest =
        let a = all_last (λ (x : Placed). ltb x.at (0 + length v)) no_page (sort (wholes 0 v)) some_page (all_sort (λ (x : Placed). ltb x.at (0 + length v)) (wholes 0 v) (wholes_inside 0 v)) in
        let b : (last_of no_page (sort (wholes 0 v))).at < 0 + length v = ltb-true (last_of no_page (sort (wholes 0 v))).at (0 + length v) a in
        omega arith

-- ---- where the list starts

starts_ready : (w : World) → Begins w → StateReady (views w.medium) w.state
starts_ready w B = rw B.holds (unfold StateReady in ready)
  where
    S : Sized (length w.medium)
    S = sized (length w.medium) B.upheld.size

    n : length (views w.medium) ≡ suc B.pages
    n = ap length B.sees ∙ ap suc (length-replicate {A = View} B.pages clean)

    tail_clean : (i : ℕ) → 1 ≤ i → i < suc B.pages → is_clean (seen (whole base_page ∷ replicate B.pages clean) i) ≡ true
    tail_clean zero a b = absurd (omega arith)
    tail_clean (suc i) a b = unfold seen in rw (get_or-replicate {A = View} B.pages i clean spoilt (omega arith)) (unfold is_clean in refl)

    many : (i : ℕ) → i < 16 → i < suc B.pages
    many i b = omega (arith, n, length_views w.medium, S.low)

    ready : Ready (views w.medium) (started (length w.medium / 4096) B.erased)
    ready =
        let l = length_views w.medium in
        let e = S.even in
        let o = S.low in
        record {
          size = omega arith;
          heads = record { inside = omega arith; low = omega arith; high = omega arith; tail = λ i a b. let z : 16 * 0 + i ≡ i = omega arith in rw (z, B.sees) (tail_clean i a (many i b)) };
          pend = unfold pending_well in refl;
          left = unfold Left in tt;
        }

-- ---- any event

module _ (m : List ℕ) (s : Held) (bs : List ℕ) (h : History) (U : Upheld (world m (Some s) bs) h) (r : Ready (views m) s) where
  call_ready : (t : Told) (cs : List Need) (s' : Held) → (every (tests cs) ≡ true → Ready (views m) s')
      → StateReady (views (called (world m (Some s) bs) t (checked cs s')).after.medium) (called (world m (Some s) bs) t (checked cs s')).after.state
  call_ready t cs s' f =
      checked_cases (λ (c : Answer Held). StateReady (views (called (world m (Some s) bs) t c).after.medium) (called (world m (Some s) bs) t c).after.state) cs (gives s')
      (λ n. unfold called StateReady in r) (λ e. unfold called StateReady in f e)

  buffer_ready : (t : Told) (cs : List Need) (b : List ℕ)
      → StateReady (views (filled (world m (Some s) bs) t (checked cs b)).after.medium) (filled (world m (Some s) bs) t (checked cs b)).after.state
  buffer_ready t cs b =
      checked_cases (λ (c : Answer (List ℕ)). StateReady (views (filled (world m (Some s) bs) t c).after.medium) (filled (world m (Some s) bs) t c).after.state) cs (gives b)
      (λ n. unfold filled StateReady in r) (λ e. unfold filled StateReady in r)

  abbrev SteppedReady : Answer Step → Type 0
  SteppedReady st = StateReady (views (stepped (world m (Some s) bs) st).after.medium) (stepped (world m (Some s) bs) st).after.state

  stepped_ready : (st : Answer Step) → Good (views m) s bs h st → StepReady (views m) st → SteppedReady st
  unfolding stepped medium_after Good StepReady StateReady
  stepped_ready (refused n) G R = r
  stepped_ready (gives (Step.program p pg s' finished)) G R = rw (program_views m p pg (there m s bs h U p pg s' G) G.fits_in) R
  stepped_ready (gives (Step.erase b s' finished)) G R = R (views (erased m b)) (erase_cut m s bs h U b s' G)

  -- a step that is refused, or else is the one due
  abbrev own : Answer Step
  own = erased_first (views m) s (due (views m) s (buffered_in bs) s.pending)

  step_kept : (cs : List Need) → Good (views m) s bs h (under cs own) → SteppedReady (under cs own)
  step_kept cs =
      checked_cases (λ (st : Answer Step). Good (views m) s bs h st → SteppedReady st) cs own
      (λ n G. unfold stepped StateReady in r) (λ e G. stepped_ready own G (own_ready (views m) s h U.coupled r (buffered_in bs)))

recover_ready : (m : List ℕ) (s : Option Held) (b : List ℕ) (h : History) → Upheld (world m s b) h
    → StateReady (views (recovered (world m s b) (Recovery.recover (length m) (views m))).after.medium) (recovered (world m s b) (Recovery.recover (length m) (views m))).after.state
unfolding recovered StateReady
recover_ready m s b h U = rw (accepts U.coupled.medium (length m) U.size) (recovered_ready U.coupled even low)
  where
    S : Sized (length m)
    S = sized (length m) U.size

    even : length (views m) % 16 ≡ 0
    even = omega (arith, length_views m, S.even)

    low : 64 ≤ length (views m)
    low = omega (arith, length_views m, S.low)

cut_ready : (w : World) (left : List ℕ) (st : Answer Step) → StateReady (views (cut_short w left st).after.medium) (cut_short w left st).after.state
unfolding cut_short StateReady
cut_ready w left (refused n) = tt
cut_ready w left (gives (Step.program p pg s finished)) = tt
cut_ready w left (gives (Step.erase b s finished)) = tt

event_ready : (m : List ℕ) (s : Option Held) (b : List ℕ) (h : History) (e : Event (world m s b)) → Upheld (world m s b) h → StateReady (views m) s
    → StateReady (views (happen (world m s b) e).after.medium) (happen (world m s b) e).after.state
unfolding happen with_state step_due
event_ready m None b h (Event.append ks ws x y) U r = r
event_ready m (Some s) b h (Event.append ks ws x y) U r =
    unfold append_of StateReady in call_ready m s b h U r (began_append (zip ks ws)) (append_needs (length m) (views m) s b ks ws)
    (starting s (append (zip ks ws) []))
    (λ e. append_begun (length m) (views m) s b h U.coupled r ks ws
    (unfold tests in every_at 4 _ e) (unfold tests in every_at 6 _ e) (unfold tests in every_at 7 _ e))
event_ready m None b h Event.commit U r = r
event_ready m (Some s) b h Event.commit U r =
    unfold commit_of StateReady in call_ready m s b h U r began_commit (commit_needs (length m) (views m) s b) (starting s (commit 0)) (commit_begun (length m) (views m) s b h U.coupled r)
event_ready m None b h (Event.collect k) U r = r
event_ready m (Some s) b h (Event.collect k) U r =
    unfold collect_of StateReady in call_ready m s b h U r began_collect (collect_needs (length m) (views m) s b k) (starting s (collect k)) (collect_begun (length m) (views m) s b h U.coupled r k)
event_ready m None b h (Event.buffer ks ws x y) U r = r
event_ready m (Some s) b h (Event.buffer ks ws x y) U r =
    unfold buffer_of StateReady in buffer_ready m s b h U r (put_in (zip ks ws)) (buffer_needs (length m) (views m) s b ks ws) (holding (buffered_in b ++ (zip ks ws ∷ [])))
event_ready m None b h Event.flush U r = r
event_ready m (Some s) b h Event.flush U r =
    unfold flush_of StateReady in call_ready m s b h U r began_flush (flush_needs (length m) (views m) s b) (starting s flush)
    (λ e. flush_begun (length m) (views m) s b h U.coupled r (unfold tests in every_at 6 _ e))
event_ready m None b h Event.step U r = unfold stepped in r
event_ready m (Some s) b h Event.step U r = unfold step_of StateReady in step_kept m s b h U r _ (unfold step_of in due_good m s b h U)
event_ready m s b h Event.recover U r = recover_ready m s b h U
event_ready m s b h Event.read U r = r
event_ready m s b h Event.cut U r = unfold StateReady in tt
event_ready m s b h (Event.cut_inside left c) U r = cut_ready (world m s b) left (step_due (world m s b))

-- and by one of the program before Paper 8
earlier_ready : (m : List ℕ) (s : Option Held) (b : List ℕ) (h : History) (e : Earlier (world m s b)) → Upheld (world m s b) h
    → StateReady (views m) s → StateReady (views (happened (world m s b) e).after.medium) (happened (world m s b) e).after.state
unfolding happened with_state step_due_before with11 tests
earlier_ready m s b h (Earlier.same e) U r = event_ready m s b h e U r
earlier_ready m None b h (Earlier.append ks ws x y) U r = r
earlier_ready m (Some s) b h (Earlier.append ks ws x y) U r =
    unfold append_before StateReady in
    call_ready m s b h U r (began_append (zip ks ws)) (with11 (zip ks ws) (append_needs (length m) (views m) s b ks ws)) (starting s (append (zip ks ws) []))
    (λ e. append_begun (length m) (views m) s b h U.coupled r ks ws (every_at 4 _ e) (every_at 6 _ e) (every_at 7 _ e))
earlier_ready m None b h (Earlier.buffer ks ws x y) U r = r
earlier_ready m (Some s) b h (Earlier.buffer ks ws x y) U r =
    unfold buffer_before StateReady in
    buffer_ready m s b h U r (put_in (zip ks ws)) (with11 (zip ks ws) (buffer_needs (length m) (views m) s b ks ws)) (holding (buffered_in b ++ (zip ks ws ∷ [])))
earlier_ready m None b h Earlier.flush U r = r
earlier_ready m (Some s) b h Earlier.flush U r =
    unfold flush_before StateReady in
    call_ready m s b h U r began_flush (with11 (changes_of (buffered_in b)) (flush_needs (length m) (views m) s b)) (starting s flush)
    (λ e. flush_begun (length m) (views m) s b h U.coupled r (every_at 6 _ e))
earlier_ready m None b h Earlier.step U r = unfold stepped in r
earlier_ready m (Some s) b h Earlier.step U r =
    unfold step_before StateReady in step_kept m s b h U r _ (unfold step_before in due_before m s b h U)
earlier_ready m s b h (Earlier.cut_inside left c) U r = cut_ready (world m s b) left (step_due_before (world m s b))

-- where formatting is finished
finished_ready : (v : World) → Formatting v → finishes (step_due v) ≡ true
    → StateReady (views (happen v Event.step).after.medium) (happen v Event.step).after.state
finished_ready v F e = starts_ready (lent_anew (happen v Event.step).after) (starts v.medium v.buffer v.state (in_format v F) e)

pub before_ready : (w : World) (h : History) → Before w h → StateReady (views w.medium) w.state
before_ready w h (Before.start v F e) = finished_ready v F e
before_ready w h (Before.next v g e b) = earlier_ready v.medium v.state v.buffer g e (before_upheld v g b) (before_ready v g b)

pub reached_ready : (w : World) (h : History) → Reached w h → StateReady (views w.medium) w.state
reached_ready w h (Reached.start v F e) = finished_ready v F e
reached_ready w h (Reached.next v g e r) = event_ready v.medium v.state v.buffer g e (reached_upheld v g r) (reached_ready v g r)
reached_ready w h (Reached.taken_over b) = unfold StateReady in tt

-- ---- what the calls answer

-- each of some conditions is met, or has an expected number
data Fair : List Need → Type 0 where
  end : Fair []
  met : {c : Need} {cs : List Need} → c.holds ≡ true → Fair cs → Fair (c ∷ cs)
  may : {c : Need} {cs : List Need} → expected c.number ≡ true → Fair cs → Fair (c ∷ cs)

fair : {A : Type 0} (P : Answer A → Type 0) (a : Answer A) (cs : List Need) → Fair cs → ((n : ℕ) → expected n ≡ true → P (refused n)) → P a → P (under cs a)
unfolding under
fair P a cs end f p = p
fair P a cs (met {c = c} {cs = ds} e r) f p = rw e (fair P a ds r f p)
fair P a cs (may {c = c} {cs = ds} e r) f p = by_cases c.holds (λ h. rw h (fair P a ds r f p)) (λ h. rw h (f c.number e))

call_fair : {A : Type 0} (cs : List Need) (x : A) → Fair cs → (n : ℕ) → checked cs x ≡ refused n → expected n ≡ true
call_fair {A} cs x F =
    fair (λ (c : Answer A). (n : ℕ) → c ≡ refused n → expected n ≡ true) (gives x) cs F (λ k e n q. rw (same_refusal k n q) at e) (λ n q. given_refused x n q)

-- what is filed into lent lists is refused by 17 alone
pub filed_fairly : (lists filled : List (List ℕ)) (k n : ℕ) → filed_into lists k filled ≡ refused n → n ≡ 17
unfolding filed_into under
filed_fairly lists filled k n e =
    by_cases (long_enough lists k) (λ q. given_refused (record { count = k; lists = put_into lists filled }) n (rw q at e)) (λ q. sym (same_refusal 17 n (rw q at e)))

-- a valve that is set has a place in the index
pub in_lookup : (valve : ℕ) (l : List Place) → is_some (lookup valve l) ≡ true → In (cell valve (value_or 0 (lookup valve l))) l
unfolding lookup is_some value_or
in_lookup valve [] e = absurd (true_false e refl)
in_lookup valve (x ∷ l) e =
    by_cases (ltb valve x.key) (λ a. true_false e (rw a))
    (λ a. by_cases (eqb valve x.key) (λ b. rw (a, b) (here (eqb-true valve x.key b))) (λ b. rw (a, b) (later (in_lookup valve l (rw (a, b) at e)))))
  where
    here : valve ≡ x.key → In (cell valve x.val) (x ∷ l)
    here q = rw q first

module _ (m : List ℕ) (s : Held) (bs : List ℕ) (h : History) (U : Upheld (world m (Some s) bs) h) (r : Ready (views m) s) (A : Allowed h) where
  abbrev v : List View
  v = views m

  fits : fit v s ≡ true
  fits = fit_ready v s h U.coupled A r

  L : Lent s bs h
  L = lent_of U.lending

  fits_with : fit_with v s bs ≡ true
  fits_with = with_fit v L A.gathers fits

  index_sound : sound v s.index ≡ true
  index_sound = ap (sound v) (alive_of U.coupled.memory).indices ∙ U.coupled.medium.sounds

  -- its word stands at its address
  pub has_word : (valve : ℕ) → is_some (lookup valve s.index) ≡ true → is_some (word_at v (place_of s valve)) ≡ true
  unfolding sound
  has_word valve e = all_in (λ (x : Cell). is_some (word_at v x)) index_sound (in_lookup valve s.index e)

  -- and the words are the settings
  words_shown : words v s.index ≡ h.settings
  words_shown = ap (words v) (alive_of U.coupled.memory).indices ∙ U.coupled.medium.shows

  pub standing : Stands m s h
  standing = record { size = U.size; fits = fits; sounds = index_sound; settings = words_shown }

  pub settings_filed : (lists : List (List ℕ)) → read_settings (length m) v s lists ≡ filed_settings lists h.settings
  unfolding read_settings under
  settings_filed lists = rw (U.size, fits, index_sound, words_shown)

  settings_answers : (lists : List (List ℕ)) (n : ℕ) → read_settings (length m) v s lists ≡ refused n → expected n ≡ true
  unfolding expected every filed_settings
  settings_answers lists n e = rw (filed_fairly lists _ (length h.settings) n (sym (settings_filed lists) ∙ e))

  append_answers : (ks ws : List ℕ) (n : ℕ) → append_of (length m) v s bs ks ws ≡ refused n → expected n ≡ true
  unfolding append_of expected every
  append_answers ks ws =
      call_fair (append_needs (length m) v s bs ks ws) (starting s (append (zip ks ws) []))
      (met U.size (met fits_with (may refl (may refl (may refl (may refl (may refl (may refl (may refl end)))))))))

  commit_answers : (n : ℕ) → commit_of (length m) v s bs ≡ refused n → expected n ≡ true
  unfolding commit_of expected every
  commit_answers = call_fair (commit_needs (length m) v s bs) (starting s (commit 0)) (met U.size (met fits_with (may refl (may refl (may refl (may refl end))))))

  collect_answers : (b n : ℕ) → collect_of (length m) v s bs b ≡ refused n → expected n ≡ true
  unfolding collect_of expected every
  collect_answers b =
      call_fair (collect_needs (length m) v s bs b) (starting s (collect b))
      (met U.size (met fits_with (may refl (may refl (may refl (met (sound_part v s.index (live s.index b) index_sound (λ x i. in_live s.index b i)) (may refl (may refl end))))))))

  flush_answers : (n : ℕ) → flush_of (length m) v s bs ≡ refused n → expected n ≡ true
  unfolding flush_of expected every
  flush_answers = call_fair (flush_needs (length m) v s bs) (starting s flush) (met U.size (met fits_with (may refl (may refl (may refl (may refl (may refl (may refl end))))))))

  buffer_answers : (ks ws : List ℕ) (n : ℕ) → buffer_of (length m) v s bs ks ws ≡ refused n → expected n ≡ true
  unfolding buffer_of expected every
  buffer_answers ks ws =
      call_fair (buffer_needs (length m) v s bs ks ws) (holding (buffered_in bs ++ (zip ks ws ∷ [])))
      (met U.size (met fits_with (may refl (may refl (may refl (may refl (may refl (may refl (may refl end)))))))))

  step_answers : (n : ℕ) → step_of (length m) v s bs ≡ refused n → expected n ≡ true
  step_answers = go (step_of (length m) v s bs) (step_ready v s h U.coupled r bs L A (length m) U.size)
    where
      go : (st : Answer Step) → StepReady v st → (n : ℕ) → st ≡ refused n → expected n ≡ true
      go (refused k) R n e = let q : k ≡ n = cc in let t : expected k ≡ true = unfold StepReady in R in rw q at t
      go (gives (Step.program p pg s' f)) R n e = let z : ◌≡◌ {A = ℕ} 0 1 = cc in absurd (omega arith)
      go (gives (Step.erase b s' f)) R n e = let z : ◌≡◌ {A = ℕ} 0 1 = cc in absurd (omega arith)

  -- with 1 and 7 met
  state_met : {A : Type 0} (x : A) (n : ℕ) → checked (state_needs (length m) v s) x ≡ refused n → ⊥
  unfolding under
  state_met x n e = given_refused x n (rw (U.size, fits) at e)

  opening_answers : (valve n : ℕ) → opening_of (length m) v s valve ≡ refused n → expected n ≡ true
  unfolding opening_of under expected every
  opening_answers valve n e =
      by_cases (is_some (lookup valve s.index))
      (λ q. call_fair (opening_needs (length m) v s valve) _ (met U.size (met fits (met q (met (has_word valve q) end)))) n e)
      (λ q. let z : 18 ≡ n = same_refusal 18 n (rw (U.size, fits, q) at e) in rw (← z))

  word_answers : (valve : ℕ) → expected (word_refusal m v s bs valve) ≡ true
  unfolding word_refusal sought sought_in refusal_of answer_or under expected every
  word_answers valve = go (last_naming valve 0 (changes_of (buffered_in bs)))
    where
      go : (o : Option ℕ) → expected (refusal_of (need 1 (size_ok (length m)) ∷ need 7 (fit_with v s bs) ∷ (sought_in v s bs valve o).needs)) ≡ true
      go (Some i) = by_cases (sets_at (changes_of (buffered_in bs)) i) (λ e. rw (U.size, fits_with, e)) (λ e. rw (U.size, fits_with, e))
      go None =
          by_cases (is_some (lookup valve s.index)) (λ e. rw (U.size, fits_with, e, has_word valve e)) (λ e. rw (U.size, fits_with, e))

-- ---- the theorem

pub steady : Steady
unfolding Steady
steady w h s R e = answers w.medium w.buffer w.state (reached_upheld w h R) (reached_ready w h R) (reached_allowed w h R) e
  where
    answers : (m bs : List ℕ) (o : Option Held) → Upheld (world m o bs) h → StateReady (views m) o → StateAllowed o h → o ≡ Some s → Answers m s bs
    answers m bs None U r A e = let z : ◌≡◌ {A = ℕ} 0 1 = cc in absurd (omega arith)
    answers m bs (Some t) U r A e =
        let q : t ≡ s = cc in
        let r' : Ready (views m) t = unfold StateReady in r in
        let A' : Allowed h = unfold StateAllowed in A in
        rw (← q)
        (record {
          append = append_answers m t bs h U r' A';
          commit = commit_answers m t bs h U r' A';
          collect = collect_answers m t bs h U r' A';
          buffer = buffer_answers m t bs h U r' A';
          flush = flush_answers m t bs h U r' A';
          step = step_answers m t bs h U r' A';
          opening = opening_answers m t bs h U r' A';
          word = word_answers m t bs h U r' A';
          settings = settings_answers m t bs h U r' A';
          pick = unfold pick_of in state_met m t bs h U r' A' _;
          survey = unfold survey_of in state_met m t bs h U r' A' _;
          available = unfold available_of in state_met m t bs h U r' A' _;
        })
