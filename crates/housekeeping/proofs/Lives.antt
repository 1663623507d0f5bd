-- Where pages stand, along the whole list of calls and cuts.
use mathlib.Core.Path.{◌≡◌, refl, sym, ap, subst, ◌∙◌}
use mathlib.Core.Logic.{inl, inr}
use mathlib.Core.Bool.{Bool, true, false, ◌&&◌}
use Rattle.std.proofs.Common.{Option, None, Some}
use mathlib.Core.List.{List, [], ◌∷◌, ◌++◌}
use Prim.Native.Nat.{ℕ, zero, suc, ◌+◌, ◌-◌, ◌*◌, ◌/◌, ◌≤◌, ◌<◌}
use native.Mathlib.Omega.{arith}
use native.Mathlib.Decide.{ℕ_discrete}
use lib.Dec.{eqb}
use lib.ListN.{length, set, take, replicate}
use borrow.Author.Tests.{ltb-true}
use Rattle.lists.specs.Needs.{Need, Answer, refused, gives, under, checked}
use Rattle.lists.specs.Cells.{Entry, Place}
use Rattle.lists.proofs.Laws.{by_cases, true_false, every_at, checked_cases}
use Rattle.page.specs.Pages.{Page, View, clean, whole, page, is_clean, is_whole, pages_for}
use Rattle.page.specs.Buffer.{groups_page, holding}
use Rattle.flash.specs.Medium.{views, seen, programmed, erased}
use Rattle.flash.proofs.Steps.{program_views}
use Rattle.flash.proofs.Cuts.{CutViews, cut_erase_views}
use Rattle.blocks.specs.declared.Head.{Head}
use Rattle.blocks.specs.Blocks.{available, new_head, page_due}
use Rattle.nodes.specs.Nodes.{words, live}
use Rattle.state.specs.State.{Pending, idle, append, commit, collect, format, unnamed, Held, done_fit, base_pages, flush, buffered_in}
use Rattle.recovery.specs.Recovery.{serial_of, base}
use Rattle.recovery.specs.Recovery
use Rattle.calls.specs.Calls.{starting, zip, serials_for, append_needs, append_of, commit_needs, commit_of, collect_needs, collect_of, buffer_needs, buffer_of, flush_needs, flush_of}
use Rattle.step.specs.Step.{Step, is_last, group_page, appended, committed, collected, flushed, erasing, programming, append_step, commit_step, move_step, collect_step, flush_step, due, erased_first, step_of, medium_after}
use Rattle.step.proofs.Laws.{first_cases}
use Rattle.newest_page.specs.Meeting.{base_end}
use Rattle.valve_log.specs.History.{History, Told, began_append, began_commit, began_collect, put_in, began_flush}
use Rattle.valve_log.specs.Reached.{World, world, lent_anew, with_state, step_due, CutOf, Event, called, filled, stepped, same_bytes, cut_short, recovered, happen, finishes, Formatting}
use Rattle.valve_log.specs.Reached.{step_due_before, Earlier, happened, Before, Reached}
use Rattle.valve_log.specs.ValveZero.{append_before, buffer_before, flush_before, step_before}
use Rattle.valve_log.proofs.Groups.{ends_page}
use Rattle.valve_log.proofs.Steps.{page_serial}
use Rattle.valve_log.proofs.Sound.{Sound, base_is, greatest, outcome, accepts}
use Rattle.valve_log.proofs.Views.{one_lost, thin_of}
use Rattle.valve_log.proofs.Coupling.{alive_of, Coupled}
use Rattle.valve_log.proofs.Due.{Good}
use Rattle.valve_log.proofs.Events.{Upheld, there, others, not_whole, same_true, erase_cut, due_good, cut_seen, block_there}
use Rattle.valve_log.proofs.Formats.{Begins, base_page, started, in_format, starts}
use Rattle.valve_log.proofs.ValveZero.{due_before, before_upheld}
use Rattle.valve_log.proofs.Point3.{reached_upheld}
use Rattle.valve_log.proofs.Supply.{HeadReady, Which, due_page}
use Rattle.valve_log.proofs.Ready.{Left, pending_well, Ready}
use Rattle.valve_log.proofs.Steady.{StateReady, before_ready, reached_ready}
use Rattle.housekeeping.proofs.Places.{not_spoilt, not_clean, newest_of, serial_below, newest_at, lost_base, lost_next, Fewer}
use Rattle.housekeeping.proofs.Places.{Based, Near, Stands, turned_fewer, fewer_based, fewer_stands, plain_stands, near_more, base_stands}

-- ---- the world

unfoldable pub StateStands : List View → Option Held → Type 0
StateStands v None = Unit {0}
StateStands v (Some s) = Stands v s

pub record Placing (v : List View) (o : Option Held) : Type 0 where
  pub based : Based v (base v) (suc (serial_of (newest_of v)))
  pub state : StateStands v o

-- a state that is there knows both numbers
base_held : {v : List View} {s : Held} {h : History} → Coupled v (Some s) h → base v ≡ s.head.base
base_held c = base_is c.medium ∙ sym (alive_of c.memory).bases

next_held : {v : List View} {s : Held} {h : History} → Coupled v (Some s) h → suc (serial_of (newest_of v)) ≡ s.head.serial
next_held c = greatest c.medium ∙ sym (alive_of c.memory).serials

placing : {v : List View} {s : Held} {h : History} → Coupled v (Some s) h → Stands v s → Placing v (Some s)
placing c t = record { based = rw (base_held c, next_held c) t.based; state = unfold StateStands in t }

lost_state : {v : List View} {o : Option Held} → Placing v o → Placing v None
lost_state P = record { based = P.based; state = unfold StateStands in tt }

-- ---- the step

unfoldable pub StepStands : List View → Answer Step → Type 0
StepStands v (refused n) = Unit {0}
StepStands v (gives (Step.program p pg s' finished)) = Stands (set v p (whole pg)) s'
StepStands v (gives (Step.erase b s' finished)) = (w : List View) → CutViews v (16 * b) 16 v w → Stands w s'

programming_stands : (v : List View) (h : Head) (pg : Page) (s' : Held) (finished : Bool) → HeadReady v h → 1 ≤ available v h
    → (Which v h (page_due v h) → is_clean (seen v (page_due v h)) ≡ true → Stands (set v (page_due v h) (whole pg)) s') → StepStands v (programming v h (page_due v h) pg s' finished)
unfolding programming under StepStands
programming_stands v h pg s' finished r one f =
    let d = due_page v h r one in
    by_cases (serials_for h 1) (λ e. rw (e, d.free) (f d.which d.free)) (λ e. rw e tt)

-- a base takes 8 pages at most
pub few_base : (n k : ℕ) → n ≤ 192 → k < base_pages n → k < 8
unfolding base_pages pages_for
few_base n k h l = omega arith

no_idle : (k : ℕ) → idle ≡ commit k → ⊥
no_idle k e = let z : ◌≡◌ {A = ℕ} 0 1 = cc in omega arith

no_append : (es : List Entry) (ps : List ℕ) (k : ℕ) → append es ps ≡ commit k → ⊥
no_append es ps k e = let z : ◌≡◌ {A = ℕ} 0 1 = cc in omega arith

no_flush : (k : ℕ) → flush ≡ commit k → ⊥
no_flush k e = let z : ◌≡◌ {A = ℕ} 0 1 = cc in omega arith

no_collect : (b k : ℕ) → collect b ≡ commit k → ⊥
no_collect b k e = let z : ◌≡◌ {A = ℕ} 0 1 = cc in omega arith

module _ (v : List View) (s : Held) (h : History) (c : Coupled v (Some s) h) (r : Ready v s) (t : Stands v s) where
  abbrev p : ℕ
  p = page_due v s.head

  bound : (q : ℕ) (x : Page) → seen v q ≡ whole x → x.serial < s.head.serial
  bound q x e = omega (arith, serial_below c.medium q x e, (alive_of c.memory).serials)

  append_stands : (es : List Entry) (ps : List ℕ) → s.pending ≡ append es ps → StepStands v (append_step v s es ps)
  unfolding append_step
  append_stands es ps e =
      programming_stands v s.head (group_page 1 es (length ps) s.head.serial) (appended s es ps p) (is_last (length ps) (length es)) r.heads (omega (arith, lefts, fewer)) (λ w f. after w f)
    where
      pends : pending_well v s.head s.index (append es ps) ≡ true
      pends = rw e at r.pend

      lefts : pages_for (length es) ≤ length ps + available v s.head
      lefts = unfold Left in (rw e at r.left)

      fewer : length ps < pages_for (length es)
      fewer = unfold pending_well done_fit in ltb-true (length ps) (pages_for (length es)) (every_at 1 _ (every_at 2 _ pends))

      after : Which v s.head p → is_clean (seen v p) ≡ true → Stands (set v p (whole (group_page 1 es (length ps) s.head.serial))) (appended s es ps p)
      after w f = unfold appended in
          let stands = plain_stands v s.head p (group_page 1 es (length ps) s.head.serial) bound f (page_serial 1 es (length ps) s.head.serial) s.head.base in
          by_cases (is_last (length ps) (length es))
          (λ l. rw l (stands _ idle s.erased (λ k q. absurd (no_idle k q)) (unfold base_end group_page in refl)))
          (λ l. rw l (stands _ (append es (ps ++ (p ∷ []))) s.erased (λ k q. absurd (no_append es (ps ++ (p ∷ [])) k q)) (unfold base_end group_page in refl)))

  commit_stands : (k : ℕ) → s.pending ≡ commit k → StepStands v (commit_step v s k)
  unfolding commit_step
  commit_stands k e =
      programming_stands v s.head (group_page 2 s.index k s.head.serial) (committed s k p) (is_last k (length s.index)) r.heads (omega (arith, lefts, fewer)) (λ w f. after w f)
    where
      pends : pending_well v s.head s.index (commit k) ≡ true
      pends = rw e at r.pend

      lefts : base_pages (length s.index) ≤ k + available v s.head
      lefts = unfold Left in (rw e at r.left)

      fewer : k < base_pages (length s.index)
      fewer = unfold pending_well done_fit in ltb-true k (base_pages (length s.index)) (every_at 1 _ pends)

      few : k < 16
      few = let n : length s.index ≤ 192 = omega (arith, ap length (alive_of c.memory).indices, c.medium.tidy.count) in omega (arith, few_base (length s.index) k n fewer)

      after : Which v s.head p → is_clean (seen v p) ≡ true → Stands (set v p (whole (group_page 2 s.index k s.head.serial))) (committed s k p)
      after w f = unfold committed in
          let serials = page_serial 2 s.index k s.head.serial in
          by_cases (is_last k (length s.index))
          (λ l. rw l (base_stands v s.head p (group_page 2 s.index k s.head.serial) bound f serials k s.index idle s.erased no_idle few w (t.near k e)))
          (λ l. rw l (plain_stands v s.head p (group_page 2 s.index k s.head.serial) bound f serials s.head.base s.index (commit (suc k)) s.erased
          (λ j q. near_more v s.head p (group_page 2 s.index k s.head.serial) bound f serials s.head.base k few w (t.near k e) j q) (unended l)))
        where
          unended : is_last k (length s.index) ≡ false → base_end (group_page 2 s.index k s.head.serial) ≡ false
          unended l = unfold base_end in rw (ends_page 2 s.index k s.head.serial, l) (and_false (eqb (group_page 2 s.index k s.head.serial).kind 2))
            where
              and_false : (b : Bool) → (b && false) ≡ false
              and_false true = refl
              and_false false = refl

  move_stands : (b : ℕ) (l : List Place) → s.pending ≡ collect b → live s.index b ≡ l → 1 ≤ length l → StepStands v (move_step v s b (take 24 l))
  unfolding move_step
  move_stands b l e q many =
      checked_cases (StepStands v) _ _ (λ n. unfold StepStands in tt)
      (λ z. programming_stands v s.head (page 3 3 s.head.serial (words v (take 24 l))) (collected s b (take 24 l) p) false r.heads (omega (arith, lefts, pages)) (λ w f. after w f))
    where
      lefts : pages_for (length l) ≤ available v s.head
      lefts = unfold Left in (rw (e, q) at r.left)

      pages : 1 ≤ pages_for (length l)
      pages = unfold pages_for in omega arith

      after : Which v s.head p → is_clean (seen v p) ≡ true → Stands (set v p (whole (page 3 3 s.head.serial (words v (take 24 l))))) (collected s b (take 24 l) p)
      after w f = unfold collected in
          plain_stands v s.head p (page 3 3 s.head.serial (words v (take 24 l))) bound f refl s.head.base _ (collect b) s.erased (λ k y. absurd (no_collect b k y))
          (unfold base_end in refl)

  collect_stands : (b : ℕ) → s.pending ≡ collect b → (l : List Place) → live s.index b ≡ l → StepStands v (collect_step v s b l)
  unfolding collect_step
  collect_stands b e [] q = unfold StepStands erasing in (λ w cut. fewer_stands v w s idle _ (λ k z. absurd (no_idle k z)) (turned_fewer v w (16 * b) 16 cut) t)
  collect_stands b e (x ∷ xs) q = move_stands b (x ∷ xs) e q (omega arith)

  flush_stands : (gs : List (List Entry)) → s.pending ≡ flush → StepStands v (flush_step v s gs)
  unfolding flush_step
  flush_stands gs e = programming_stands v s.head (groups_page s.head.serial gs) (flushed s gs p) true r.heads (unfold Left in (rw e at r.left)) (λ w f. after w f)
    where
      after : Which v s.head p → is_clean (seen v p) ≡ true → Stands (set v p (whole (groups_page s.head.serial gs))) (flushed s gs p)
      after w f = unfold flushed in
          plain_stands v s.head p (groups_page s.head.serial gs) bound f (unfold groups_page in refl) s.head.base _ idle s.erased (λ k q. absurd (no_idle k q))
          (unfold base_end groups_page in refl)

  due_stands : (gs : List (List Entry)) (pend : Pending) → s.pending ≡ pend → StepStands v (due v s gs pend)
  unfolding due
  due_stands gs idle e = unfold StepStands in tt
  due_stands gs (append es ps) e = append_stands es ps e
  due_stands gs (commit k) e = commit_stands k e
  due_stands gs (collect b) e = collect_stands b e (live s.index b) refl
  due_stands gs (format n) e = absurd (unfold Left in (rw e at r.left))
  due_stands gs flush e = flush_stands gs e
  due_stands gs unnamed e = absurd (unfold Left in (rw e at r.left))

  -- whatever is asked before it; the erase before a new head's first page moves no page
  step_stands : (cs : List Need) (gs : List (List Entry)) → StepStands v (under cs (erased_first v s (due v s gs s.pending)))
  step_stands cs gs =
      checked_cases (StepStands v) cs _ (λ k. unfold StepStands in tt)
      (λ z. first_cases (StepStands v) v s (due v s gs s.pending)
      (λ q. unfold StepStands erasing in (λ w cut. fewer_stands v w s s.pending _ (λ k z. z) (turned_fewer v w (16 * new_head v s.head) 16 cut) t))
      (λ q. due_stands gs s.pending refl))

-- ---- events

module _ (m : List ℕ) (s : Held) (bs : List ℕ) (h : History) (U : Upheld (world m (Some s) bs) h) (r : Ready (views m) s) (P : Placing (views m) (Some s)) where
  stands : Stands (views m) s
  stands = unfold StateStands in P.state

  steps : (cs : List Need) → StepStands (views m) (under cs (erased_first (views m) s (due (views m) s (buffered_in bs) s.pending)))
  steps cs = step_stands (views m) s h U.coupled r stands cs (buffered_in bs)

  begun_stands : (pend : Pending) → ((k : ℕ) → pend ≡ commit k → Near (views m) (s.head.serial - k) s.head k) → Placing (views m) (Some (starting s pend))
  begun_stands pend n = record { based = P.based; state = unfold StateStands in record { newest = stands.newest; near = n; based = stands.based } }

  call_stands : (t : Told) (cs : List Need) (s' : Held) → Placing (views m) (Some s')
      → Placing (views (called (world m (Some s) bs) t (checked cs s')).after.medium) (called (world m (Some s) bs) t (checked cs s')).after.state
  call_stands t cs s' p =
      checked_cases (λ (c : Answer Held). Placing (views (called (world m (Some s) bs) t c).after.medium) (called (world m (Some s) bs) t c).after.state) cs (gives s')
      (λ n. unfold called in P) (λ e. unfold called in p)

  buffer_stands : (t : Told) (cs : List Need) (b : List ℕ) → Placing (views (filled (world m (Some s) bs) t (checked cs b)).after.medium)
      (filled (world m (Some s) bs) t (checked cs b)).after.state
  buffer_stands t cs b =
      checked_cases (λ (c : Answer (List ℕ)). Placing (views (filled (world m (Some s) bs) t c).after.medium) (filled (world m (Some s) bs) t c).after.state) cs (gives b)
      (λ n. unfold filled in P) (λ e. unfold filled in P)

  -- no page of a commit is done
  near_none : (k : ℕ) → commit 0 ≡ commit k → Near (views m) (s.head.serial - k) s.head k
  near_none k e =
      let z : 0 ≡ k = cc in
      record { other = s.head.block; each = λ q pg y l. absurd (let g = bound (views m) s h U.coupled r stands q pg y in omega arith); room = inl refl }

  stepped_places : (st : Answer Step) → Good (views m) s bs h st → StepStands (views m) st
      → Placing (views (stepped (world m (Some s) bs) st).after.medium) (stepped (world m (Some s) bs) st).after.state
  unfolding stepped medium_after Good StepStands
  stepped_places (refused n) G R = P
  stepped_places (gives (Step.program p pg s' finished)) G R = rw (program_views m p pg (there m s bs h U p pg s' G) G.fits_in) (placing G.after R)
  stepped_places (gives (Step.erase b s' finished)) G R = placing (G.after (views (erased m b)) (erase_cut m s bs h U b s' G)) (R (views (erased m b)) (erase_cut m s bs h U b s' G))

  cut_places : (st : Answer Step) → Good (views m) s bs h st → StepStands (views m) st → (left : List ℕ) → CutOf m st left
      → Placing (views (cut_short (world m (Some s) bs) left st).after.medium) (cut_short (world m (Some s) bs) left st).after.state
  unfolding cut_short CutOf Good StepStands
  cut_places (refused n) G R left c = absurd c
  cut_places (gives (Step.program p pg s' finished)) G R left c =
      by_cases (same_bytes left (programmed m p pg))
      (λ e. rw (same_true left (programmed m p pg) e) (rw (program_views m p pg (there m s bs h U p pg s' G) G.fits_in) (lost_state (placing G.after R))))
      (λ e. record { based = torn_based e; state = unfold StateStands in tt })
    where
      C : Coupled (views m) (Some s) h
      C = U.coupled

      fewer : same_bytes left (programmed m p pg) ≡ false → Fewer (views m) (views left)
      fewer e = record { same = λ q x y. go q x y (ℕ_discrete q p) }
        where
          go : (q : ℕ) (x : Page) → seen (views left) q ≡ whole x → Dec (q ≡ p) → seen (views m) q ≡ whole x
          go q x y (yes k) = true_false (rw (sym k, y) (unfold is_whole in refl)) (not_whole m s bs h U p pg s' G left c e)
          go q x y (no k) = sym (others m s bs h U p pg s' G left c q k) ∙ y

      torn_based : same_bytes left (programmed m p pg) ≡ false → Based (views left) (base (views left)) (suc (serial_of (newest_of (views left))))
      torn_based e =
          let t = thin_of C.b 0 (views m) (views left) (cut_seen m s bs h U p pg s' G left c).size
          (one_lost C.b (views m) (views left) p G.cleans (not_whole m s bs h U p pg s' G left c e) (others m s bs h U p pg s' G left c)) in
          rw (lost_base C.medium (views left) t, lost_next C.medium (views left) t) (fewer_based (fewer e) (rw (base_is C.medium, greatest C.medium) at P.based))
  cut_places (gives (Step.erase b s' finished)) G R left c =
      let k = cut_erase_views m b left (block_there m s bs h U b s' G) U.guarded c in
      lost_state (placing (G.after (views left) k) (R (views left) k))

recover_places : (m : List ℕ) (s : Option Held) (bs : List ℕ) (h : History) → Upheld (world m s bs) h → Placing (views m) s
    → Placing (views (recovered (world m s bs) (Recovery.recover (length m) (views m))).after.medium) (recovered (world m s bs) (Recovery.recover (length m) (views m))).after.state
recover_places m s bs h U P = rw (accepts U.coupled.medium (length m) U.size) (unfold recovered in record { based = P.based; state = unfold StateStands in recovers })
  where
    M : Sound (views m) h.log h.settings U.coupled.b U.coupled.ch U.coupled.gs U.coupled.idx
    M = U.coupled.medium

    recovers : Stands (views m) (outcome M)
    recovers = unfold outcome in
        record {
          newest = λ q pg e n. ap (λ (t : ℕ). t / 16) (newest_at M q pg e n);
          near = λ k e. absurd (no_idle k e);
          based = rw (base_is M, greatest M) at P.based;
        }

event_places : (m : List ℕ) (s : Option Held) (bs : List ℕ) (h : History) (e : Event (world m s bs)) → Upheld (world m s bs) h → StateReady (views m) s → Placing (views m) s
    → Placing (views (happen (world m s bs) e).after.medium) (happen (world m s bs) e).after.state
unfolding happen with_state step_due
event_places m None bs h (Event.append ks ws a b) U r P = P
event_places m (Some s) bs h (Event.append ks ws a b) U r P =
    unfold append_of StateReady in
    call_stands m s bs h U r P (began_append (zip ks ws)) (append_needs (length m) (views m) s bs ks ws) (starting s (append (zip ks ws) []))
    (begun_stands m s bs h U r P (append (zip ks ws) []) (λ k q. absurd (no_append (zip ks ws) [] k q)))
event_places m None bs h Event.commit U r P = P
event_places m (Some s) bs h Event.commit U r P =
    unfold commit_of StateReady in
    call_stands m s bs h U r P began_commit (commit_needs (length m) (views m) s bs) (starting s (commit 0)) (begun_stands m s bs h U r P (commit 0) (near_none m s bs h U r P))
event_places m None bs h (Event.collect b) U r P = P
event_places m (Some s) bs h (Event.collect b) U r P =
    unfold collect_of StateReady in
    call_stands m s bs h U r P began_collect (collect_needs (length m) (views m) s bs b) (starting s (collect b)) (begun_stands m s bs h U r P (collect b) (λ k q. absurd (no_collect b k q)))
event_places m None bs h (Event.buffer ks ws a b) U r P = P
event_places m (Some s) bs h (Event.buffer ks ws a b) U r P =
    unfold buffer_of StateReady in buffer_stands m s bs h U r P (put_in (zip ks ws)) (buffer_needs (length m) (views m) s bs ks ws) (holding (buffered_in bs ++ (zip ks ws ∷ [])))
event_places m None bs h Event.flush U r P = P
event_places m (Some s) bs h Event.flush U r P =
    unfold flush_of StateReady in
    call_stands m s bs h U r P began_flush (flush_needs (length m) (views m) s bs) (starting s flush) (begun_stands m s bs h U r P flush (λ k q. absurd (no_flush k q)))
event_places m None bs h Event.step U r P = unfold stepped in P
event_places m (Some s) bs h Event.step U r P =
    unfold StateReady in
    stepped_places m s bs h U r P (step_of (length m) (views m) s bs) (due_good m s bs h U) (unfold step_of in steps m s bs h U r P _)
event_places m s bs h Event.recover U r P = recover_places m s bs h U P
event_places m s bs h Event.read U r P = P
event_places m s bs h Event.cut U r P = lost_state P
event_places m None bs h (Event.cut_inside left c) U r P = absurd (unfold CutOf in c)
event_places m (Some s) bs h (Event.cut_inside left c) U r P =
    unfold StateReady in
    cut_places m s bs h U r P (step_of (length m) (views m) s bs) (due_good m s bs h U) (unfold step_of in steps m s bs h U r P _) left c

-- and so one of the program before Paper 8
earlier_places : (m : List ℕ) (s : Option Held) (bs : List ℕ) (h : History) (e : Earlier (world m s bs)) → Upheld (world m s bs) h
    → StateReady (views m) s → Placing (views m) s → Placing (views (happened (world m s bs) e).after.medium) (happened (world m s bs) e).after.state
unfolding happened with_state step_due_before
earlier_places m s bs h (Earlier.same e) U r P = event_places m s bs h e U r P
earlier_places m None bs h (Earlier.append ks ws a b) U r P = P
earlier_places m (Some s) bs h (Earlier.append ks ws a b) U r P =
    unfold append_before StateReady in
    call_stands m s bs h U r P (began_append (zip ks ws)) _ (starting s (append (zip ks ws) []))
    (begun_stands m s bs h U r P (append (zip ks ws) []) (λ k q. absurd (no_append (zip ks ws) [] k q)))
earlier_places m None bs h (Earlier.buffer ks ws a b) U r P = P
earlier_places m (Some s) bs h (Earlier.buffer ks ws a b) U r P =
    unfold buffer_before StateReady in buffer_stands m s bs h U r P (put_in (zip ks ws)) _ (holding (buffered_in bs ++ (zip ks ws ∷ [])))
earlier_places m None bs h Earlier.flush U r P = P
earlier_places m (Some s) bs h Earlier.flush U r P =
    unfold flush_before StateReady in
    call_stands m s bs h U r P began_flush _ (starting s flush) (begun_stands m s bs h U r P flush (λ k q. absurd (no_flush k q)))
earlier_places m None bs h Earlier.step U r P = unfold stepped in P
earlier_places m (Some s) bs h Earlier.step U r P =
    unfold StateReady in
    stepped_places m s bs h U r P (step_before (length m) (views m) s bs) (due_before m s bs h U) (unfold step_before in steps m s bs h U r P _)
earlier_places m None bs h (Earlier.cut_inside left c) U r P = absurd (unfold CutOf in c)
earlier_places m (Some s) bs h (Earlier.cut_inside left c) U r P =
    unfold StateReady in
    cut_places m s bs h U r P (step_before (length m) (views m) s bs) (due_before m s bs h U) (unfold step_before in steps m s bs h U r P _) left c

-- ---- where the list starts

starts_places : (w : World) → Begins w → Placing (views w.medium) w.state
unfolding seen
starts_places w B = rw B.holds (placing (subst (λ (o : Option Held). Coupled (views w.medium) o Rattle.valve_log.specs.History.start) B.holds B.upheld.coupled) first)
  where
    only : (q : ℕ) (pg : Page) → seen (whole base_page ∷ replicate B.pages clean) q ≡ whole pg → q ≡ 0
    only zero pg e = refl
    only (suc q) pg e = absurd (go B.pages q e)
      where
        go : (n q : ℕ) → seen (replicate n clean) q ≡ whole pg → ⊥
        go zero q e = not_spoilt pg e
        go (suc n) zero e = not_clean pg e
        go (suc n) (suc q) e = go n q e

    zeroth : (q : ℕ) (pg : Page) → seen (views w.medium) q ≡ whole pg → q ≡ 0
    zeroth q pg e = only q pg (rw B.sees at e)

    first : Stands (views w.medium) (started (length w.medium / 4096) B.erased)
    first =
        record {
          newest = λ q pg e n. let z = zeroth q pg e in omega arith;
          near = λ k e. absurd (no_idle k e);
          based = record { two = λ q pg e n l. record { other = 0; each = λ q' pg' e' l'. inr (let z = zeroth q' pg' e' in omega arith) } };
        }

finished_places : (v : World) → Formatting v → finishes (step_due v) ≡ true
    → Placing (views (happen v Event.step).after.medium) (happen v Event.step).after.state
finished_places v F e = starts_places (lent_anew (happen v Event.step).after) (starts v.medium v.buffer v.state (in_format v F) e)

before_places : (w : World) (h : History) → Before w h → Placing (views w.medium) w.state
before_places w h (Before.start v F e) = finished_places v F e
before_places w h (Before.next v g e b) =
    earlier_places v.medium v.state v.buffer g e (before_upheld v g b) (before_ready v g b) (before_places v g b)

pub reached_places : (w : World) (h : History) → Reached w h → Placing (views w.medium) w.state
reached_places w h (Reached.start v F e) = finished_places v F e
reached_places w h (Reached.next v g e r) = event_places v.medium v.state v.buffer g e (reached_upheld v g r) (reached_ready v g r) (reached_places v g r)
reached_places w h (Reached.taken_over {w = v} {h = g} b) = lost_state (before_places v g b)
