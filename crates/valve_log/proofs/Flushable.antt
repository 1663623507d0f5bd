-- What is buffered can be flushed: 13 and 14 are met where a group is buffered, and nothing that is accepted until the flush takes pages or
-- serials.
use mathlib.Core.Path.{◌≡◌, refl, sym, ap, ◌∙◌}
use mathlib.Core.Bool.{Bool, true, false}
use Rattle.std.proofs.Common.{Option, None, Some}
use mathlib.Core.List.{List, [], ◌∷◌}
use Prim.Native.Nat.{ℕ, ◌+◌, ◌≤◌}
use native.Mathlib.Omega.{arith}
use lib.Dec.{eqb}
use lib.ListN.{length}
use borrow.Author.Tests.{eqb-true, eqb-false}
use Rattle.lists.specs.Lists.{every}
use Rattle.lists.specs.Needs.{Answer, refused, gives, Need, under, checked}
use Rattle.lists.specs.Cells.{Entry, Place}
use Rattle.lists.proofs.Laws.{by_cases, true_false, checked_cases, every_at, tests, same_refusal, given_refused}
use Rattle.page.specs.Pages.{Page, View, is_clean}
use Rattle.flash.specs.Medium.{views, seen}
use Rattle.blocks.specs.declared.Head.{Head}
use Rattle.blocks.specs.Blocks.{new_head, page_due}
use Rattle.nodes.specs.Nodes.{live}
use Rattle.state.specs.State.{Pending, idle, append, commit, collect, format, flush, unnamed, Held, fit_with, buffered_in, is_idle}
use Rattle.recovery.specs.Recovery.{Recovery}
use Rattle.recovery.specs.Recovery as recovery
use Rattle.calls.specs.Calls.{starting, zip, room_for, serials_for, holds_none, append_needs, append_of, commit_needs, commit_of, collect_needs, collect_of, flush_needs, flush_of, buffer_needs, buffer_of}
use Rattle.step.specs.Step.{Step, erasing, page_needs, programming, append_step, commit_step, move_step, collect_step, flush_step, due, programs_due, needs_erase, erased_first, step_of}
use Rattle.step.proofs.Laws.{first_cases}
use Rattle.valve_log.specs.History.{UnderWay, History, Told, began_append, began_commit, began_collect, put_in, began_flush, counted, tell}
use Rattle.valve_log.specs.Reached.{World, world, with_state, step_due, Event, called, filled, stepped, cut_short, recovered, happen, Reached}
use Rattle.valve_log.specs.Steady.{expected, Answers, Steady}
use Rattle.valve_log.specs.Flushable.{CanFlush, Flushable}
use Rattle.recovery.specs.Recovery.{Placed, Group}
use Rattle.valve_log.proofs.Coupling.{Pend, at_rest, in_append, in_commit, in_collect, in_flush, alive_of}
use Rattle.valve_log.proofs.Lent.{Beside, Lent, lent_of, lent_groups, with_fit, kept_append, kept_commit}
use Rattle.valve_log.proofs.Events.{Upheld}
use Rattle.valve_log.proofs.Point3.{reached_upheld}
use Rattle.valve_log.proofs.Ready.{Ready, fit_ready}
use Rattle.valve_log.proofs.Allowed.{Allowed, StateAllowed, reached_allowed}
use Rattle.valve_log.proofs.Steady.{StateReady, reached_ready, steady}

-- ---- what is kept along the list

-- 13 and 14 of the flush; once it is pending, 14 of its page
unfoldable Room : List View → Held → Pending → Type 0
Room v s idle = (room_for v s.head (1 + 16) ≡ true) × (serials_for s.head 1 ≡ true)
Room v s (append es ps) = Unit {0}
Room v s (commit k) = Unit {0}
Room v s (collect b) = Unit {0}
Room v s (format n) = Unit {0}
Room v s flush = serials_for s.head 1 ≡ true
Room v s unnamed = Unit {0}

unfoldable StateRoom : List View → List (List Entry) → Option Held → Type 0
StateRoom v gs None = Unit {0}
StateRoom v gs (Some s) = 1 ≤ length gs → Room v s s.pending

abbrev WorldRoom : World → History → Type 0
WorldRoom w h = StateRoom (views w.medium) h.buffered w.state

room_met : (v : List View) (s : Held) (p : Pending) → room_for v s.head (1 + 16) ≡ true → serials_for s.head 1 ≡ true → Room v s p
unfolding Room
room_met v s idle a b = (a, b)
room_met v s (append es ps) a b = tt
room_met v s (commit k) a b = tt
room_met v s (collect k) a b = tt
room_met v s (format n) a b = tt
room_met v s flush a b = b
room_met v s unnamed a b = tt

-- where the step programs a page, neither other pages nor a record make it less
room_busy : (index : List Place) (v x : List View) (s t : Held) (p : Pending) → programs_due index p ≡ true → t.head ≡ s.head → Room v s p → Room x t p
unfolding programs_due Room
room_busy index v x s t idle q e r = true_false q refl
room_busy index v x s t (append es ps) q e r = tt
room_busy index v x s t (commit k) q e r = tt
room_busy index v x s t (collect b) q e r = tt
room_busy index v x s t (format n) q e r = tt
room_busy index v x s t flush q e r = rw e r
room_busy index v x s t unnamed q e r = tt

nothing_in : {P : Type 0} {gs : List (List Entry)} → gs ≡ [] → 1 ≤ length gs → P
nothing_in e k = absurd (omega (arith, ap length e))

room_none : (v : List View) (gs : List (List Entry)) (o : Option Held) → gs ≡ [] → StateRoom v gs o
unfolding StateRoom
room_none v gs None e = tt
room_none v gs (Some s) e = λ k. nothing_in e k

-- ---- a step

module _ (s : Held) (h : History) where
  -- a page leaves nothing buffered, and an erase leaves what there was
  unfoldable Leaves : Answer Step → Type 0
  Leaves (refused n) = Unit {0}
  Leaves (gives (Step.program p pg t f)) = (counted h h.under_way).buffered ≡ []
  Leaves (gives (Step.erase b t f)) = 1 ≤ length h.buffered → (v : List View) → Room v t t.pending

  programming_leaves : (v : List View) (k : Head) (p : ℕ) (pg : Page) (t : Held) (f : Bool) → (counted h h.under_way).buffered ≡ [] → Leaves (programming v k p pg t f)
  unfolding programming
  programming_leaves v k p pg t f e = checked_cases Leaves (page_needs v k p) (gives (Step.program p pg t f)) (λ n. unfold Leaves in tt) (λ x. unfold Leaves in e)

  first_leaves : (v : List View) (own : Answer Step) → (1 ≤ length h.buffered → Room v s s.pending) → Leaves own → Leaves (erased_first v s own)
  unfolding erasing
  first_leaves v own r l = first_cases Leaves v s own (λ q. unfold Leaves in λ k x. room_busy s.index v x s _ s.pending q.programs refl (r k)) (λ q. l)

  collect_leaves : (v : List View) (b : ℕ) (l : List Place) → h.buffered ≡ [] → (counted h h.under_way).buffered ≡ [] → Leaves (collect_step v s b l)
  unfolding collect_step
  collect_leaves v b [] e f = unfold Leaves in λ k x. nothing_in e k
  collect_leaves v b (x ∷ xs) e f = unfold move_step in checked_cases Leaves _ _ (λ n. unfold Leaves in tt) (λ y. programming_leaves v _ _ _ _ _ f)

  abbrev after : UnderWay → List (List Entry)
  after u = (counted h u).buffered

  module _ (v : List View) {serial : ℕ} {ch : List Placed} {gs : List Group} {idx : List Place} where
    due_leaves : (p : Pending) (u : UnderWay) → Pend v serial ch gs idx p u → h.under_way ≡ u → Beside p u h.buffered → Leaves (due v s h.buffered p)
    unfolding due Beside
    due_leaves p u at_rest e B = unfold Leaves in tt
    due_leaves p u (in_append {es = es} {left = left} f a b c d g) e B = unfold append_step in programming_leaves v _ _ _ _ _ (ap after e ∙ kept_append h es left ∙ B)
    due_leaves p u (in_commit {left = left} f ps pre a b c d g o i) e B = unfold commit_step in programming_leaves v _ _ _ _ _ (ap after e ∙ kept_commit h left ∙ B)
    due_leaves p u (in_collect {b = b}) e B = collect_leaves v b (live s.index b) B (ap after e ∙ (unfold counted in B))
    due_leaves p u in_flush e B = unfold flush_step in programming_leaves v _ _ _ _ _ (ap after e ∙ (unfold counted in refl))

-- ---- any event

module _ (m : List ℕ) (s : Held) (bs : List ℕ) (h : History) (U : Upheld (world m (Some s) bs) h) (r : StateRoom (views m) h.buffered (Some s)) where
  L : Lent s bs h
  L = lent_of U.lending

  -- 24
  none_held : holds_none bs ≡ true → h.buffered ≡ []
  unfolding holds_none
  none_held e = empty h.buffered (sym (ap length (lent_groups L)) ∙ eqb-true (length (buffered_in bs)) 0 e)
    where
      empty : (l : List (List Entry)) → length l ≡ 0 → l ≡ []
      empty [] q = refl
      empty (x ∷ xs) q = absurd (omega arith)

  call_room : (t : Told) (cs : List Need) (s' : Held) → (tell h t).buffered ≡ h.buffered → (every (tests cs) ≡ true → StateRoom (views m) h.buffered (Some s'))
      → WorldRoom (called (world m (Some s) bs) t (checked cs s')).after (tell h (called (world m (Some s) bs) t (checked cs s')).told)
  call_room t cs s' e f =
      checked_cases (λ (c : Answer Held). WorldRoom (called (world m (Some s) bs) t c).after (tell h (called (world m (Some s) bs) t c).told)) cs (gives s')
      (λ n. unfold called tell in r) (λ x. unfold called in rw e (f x))

  -- 13 and 14 are asked where a group is put in
  buffer_room : (t : Told) (cs : List Need) (b : List ℕ) → (every (tests cs) ≡ true → Room (views m) s s.pending)
      → WorldRoom (filled (world m (Some s) bs) t (checked cs b)).after (tell h (filled (world m (Some s) bs) t (checked cs b)).told)
  buffer_room t cs b f =
      checked_cases (λ (c : Answer (List ℕ)). WorldRoom (filled (world m (Some s) bs) t c).after (tell h (filled (world m (Some s) bs) t c).told)) cs (gives b)
      (λ n. unfold filled tell in r) (λ x. unfold filled StateRoom in λ k. f x)

  step_room : (st : Answer Step) → Leaves s h st → WorldRoom (stepped (world m (Some s) bs) st).after (tell h (stepped (world m (Some s) bs) st).told)
  unfolding stepped tell StateRoom Leaves
  step_room (refused n) l = r
  step_room (gives (Step.program p pg t f)) l = λ x. nothing_in l x
  step_room (gives (Step.erase b t f)) l = λ x. l x _

  step_leaves : Leaves s h (step_of (length m) (views m) s bs)
  unfolding step_of
  step_leaves =
      checked_cases (Leaves s h) _ _ (λ n. unfold Leaves in tt)
      (λ e. first_leaves s h (views m) _ (unfold StateRoom in r) (rw (lent_groups L) (due_leaves s h (views m) s.pending h.under_way (alive_of U.coupled.memory).pends refl L.beside)))

recovered_room : (w : World) (h : History) (R : Answer Recovery) → WorldRoom w h → WorldRoom (recovered w R).after (tell h (recovered w R).told)
unfolding recovered tell
recovered_room w h (refused n) r = r
recovered_room w h (gives x) r = room_none _ _ (Some x.state) refl

cut_room : (w : World) (left : List ℕ) (st : Answer Step) (g : List (List Entry)) → StateRoom (views (cut_short w left st).after.medium) g (cut_short w left st).after.state
unfolding cut_short StateRoom
cut_room w left (refused n) g = tt
cut_room w left (gives (Step.program p pg s f)) g = tt
cut_room w left (gives (Step.erase b s f)) g = tt

event_room : (m : List ℕ) (s : Option Held) (b : List ℕ) (h : History) (e : Event (world m s b)) → Upheld (world m s b) h → StateRoom (views m) h.buffered s
    → WorldRoom (happen (world m s b) e).after (tell h (happen (world m s b) e).told)
unfolding happen with_state step_due
event_room m None b h (Event.append ks ws x y) U r = unfold tell in r
event_room m (Some s) b h (Event.append ks ws x y) U r =
    unfold append_of in call_room m s b h U r (began_append (zip ks ws)) (append_needs (length m) (views m) s b ks ws) _ (unfold tell in refl)
    (λ q. room_none (views m) _ (Some _) (none_held m s b h U r (unfold tests in every_at 3 _ q)))
event_room m None b h Event.commit U r = unfold tell in r
event_room m (Some s) b h Event.commit U r =
    unfold commit_of in call_room m s b h U r began_commit (commit_needs (length m) (views m) s b) _ (unfold tell in refl)
    (λ q. room_none (views m) _ (Some _) (none_held m s b h U r (unfold tests in every_at 3 _ q)))
event_room m None b h (Event.collect k) U r = unfold tell in r
event_room m (Some s) b h (Event.collect k) U r =
    unfold collect_of in call_room m s b h U r began_collect (collect_needs (length m) (views m) s b k) _ (unfold tell in refl)
    (λ q. room_none (views m) _ (Some _) (none_held m s b h U r (unfold tests in every_at 3 _ q)))
event_room m None b h (Event.buffer ks ws x y) U r = unfold tell in r
event_room m (Some s) b h (Event.buffer ks ws x y) U r =
    unfold buffer_of in buffer_room m s b h U r (put_in (zip ks ws)) (buffer_needs (length m) (views m) s b ks ws) _
    (λ q. room_met (views m) s s.pending (unfold tests in every_at 7 _ q) (unfold tests in every_at 8 _ q))
event_room m None b h Event.flush U r = unfold tell in r
event_room m (Some s) b h Event.flush U r =
    unfold flush_of in call_room m s b h U r began_flush (flush_needs (length m) (views m) s b) _ (unfold tell in refl) (λ q. unfold StateRoom Room in λ k. unfold tests in every_at 7 _ q)
event_room m None b h Event.step U r = unfold stepped tell in r
event_room m (Some s) b h Event.step U r = step_room m s b h U r (step_of (length m) (views m) s b) (step_leaves m s b h U r)
event_room m s b h Event.recover U r = recovered_room (world m s b) h (recovery.recover (length m) (views m)) r
event_room m s b h Event.read U r = unfold tell in r
event_room m s b h Event.cut U r = unfold StateRoom in tt
event_room m s b h (Event.cut_inside left c) U r = cut_room (world m s b) left (step_due (world m s b)) _

reached_room : (w : World) (h : History) → Reached w h → WorldRoom w h
reached_room w h (Reached.start v F e) = room_none _ _ _ refl
reached_room w h (Reached.next v g e R) = event_room v.medium v.state v.buffer g e (reached_upheld v g R) (reached_room v g R)
reached_room w h (Reached.taken_over b) = unfold StateRoom in tt

-- ---- the flush

module _ (m : List ℕ) (s : Held) (bs : List ℕ) (h : History) (U : Upheld (world m (Some s) bs) h) (r : Ready (views m) s)
    (A : Allowed h) (R : StateRoom (views m) h.buffered (Some s)) (some-held : holds_none bs ≡ false) where
  abbrev v : List View
  v = views m

  lends : Lent s bs h
  lends = lent_of U.lending

  fits : fit_with v s bs ≡ true
  fits = with_fit v lends A.gathers (fit_ready v s h U.coupled A r)

  some_group : 1 ≤ length h.buffered
  unfolding holds_none
  some_group = let e = eqb-false (length (buffered_in bs)) 0 some-held in let q = ap length (lent_groups lends) in some_length (length h.buffered) (λ z. e (q ∙ z))
    where
      some_length : (n : ℕ) → (n ≡ 0 → ⊥) → 1 ≤ n
      some_length n f = by_cases (eqb n 0) (λ e. absurd (f (eqb-true n 0 e))) (λ e. let k = eqb-false n 0 e in omega (arith, k))

  room : Room v s s.pending
  unfolding StateRoom
  room = R some_group

  -- nothing pending
  room_idle : (p : Pending) → is_idle p ≡ true → Room v s p → (room_for v s.head (1 + 16) ≡ true) × (serials_for s.head 1 ≡ true)
  unfolding is_idle Room
  room_idle idle e x = x
  room_idle (append es ps) e x = true_false e refl
  room_idle (commit k) e x = true_false e refl
  room_idle (collect b) e x = true_false e refl
  room_idle (format n) e x = true_false e refl
  room_idle flush e x = true_false e refl
  room_idle unnamed e x = true_false e refl

  begins : is_idle s.pending ≡ true → flush_of (length m) v s bs ≡ gives (starting s flush)
  unfolding flush_of under
  begins e =
      let k = room_idle s.pending e room in
      rw (U.size, fits, e, some-held, lent_groups lends, A.gathers, lends.count, k.0, k.1)

  -- the flush pending
  pend_flush : {serial : ℕ} {ch : List Placed} {gs : List Group} {idx : List Place} (p : Pending) (u : UnderWay) → Pend v serial ch gs idx p u → Beside p u h.buffered → is_idle p ≡ false → p ≡ flush
  unfolding is_idle Beside
  pend_flush p u at_rest B e = true_false refl e
  pend_flush p u (in_append f a b c d g) B e = nothing_in B some_group
  pend_flush p u (in_commit f ps pre a b c d g o i) B e = nothing_in B some_group
  pend_flush p u in_collect B e = nothing_in B some_group
  pend_flush p u in_flush B e = refl

  pends : is_idle s.pending ≡ false → s.pending ≡ flush
  pends e = pend_flush s.pending h.under_way (alive_of U.coupled.memory).pends lends.beside e

  room_flush : (p : Pending) → p ≡ flush → Room v s p → serials_for s.head 1 ≡ true
  unfolding Room
  room_flush p q x = rw q at x

  step_is : is_idle s.pending ≡ false → step_of (length m) v s bs ≡ erased_first v s (flush_step v s (buffered_in bs))
  unfolding step_of under
  step_is e = rw (U.size, fits, e) (ap (λ (p : Pending). erased_first v s (due v s (buffered_in bs) p)) (pends e) ∙ (unfold due in refl))

  -- its page is not refused: 14 is met, and 16 is never answered
  page_is : (c : Bool) (st : Answer Step) → is_clean (seen v (page_due v s.head)) ≡ c → serials_for s.head 1 ≡ true → flush_step v s (buffered_in bs) ≡ st → (n : ℕ) → st ≡ refused n → n ≡ 16
  unfolding flush_step programming under
  page_is true st d f x n q = given_refused (Step.program (page_due v s.head) _ _ true) n (rw (f, d) at (x ∙ q))
  page_is false st d f x n q = sym (same_refusal 16 n (rw (f, d) at (x ∙ q)))

  steps : Answers m s bs → is_idle s.pending ≡ false → (n : ℕ) → step_of (length m) v s bs ≡ refused n → ⊥
  unfolding erased_first
  steps B e n q =
      by_cases (needs_erase v s)
      (λ c. given_refused (Step.erase (new_head v s.head) (erasing s (new_head v s.head) s.pending) false) n (rw c at (sym (step_is e) ∙ q)))
      (λ c.
      let z : flush_step v s (buffered_in bs) ≡ refused n = rw c at (sym (step_is e) ∙ q) in
      let k : n ≡ 16 = page_is _ (refused n) refl (room_flush s.pending (pends e) room) z n refl in
      let x : expected 16 ≡ true = rw k at (B.step n q) in
      true_false x (unfold expected every in refl))

answers : (m : List ℕ) (o : Option Held) (bs : List ℕ) (h : History) (s : Held) → Upheld (world m o bs) h → StateReady (views m) o
    → StateAllowed o h → StateRoom (views m) h.buffered o → o ≡ Some s → holds_none bs ≡ false → Answers m s bs → CanFlush m s bs
unfolding StateReady StateAllowed
answers m None bs h s U r L R e k A = let z : ◌≡◌ {A = ℕ} 0 1 = cc in absurd (omega arith)
answers m (Some t) bs h s U r L R e k A =
    let q : t ≡ s = cc in
    rw (← q) (record { begins = begins m t bs h U r L R k; pends = pends m t bs h U r L R k; steps = steps m t bs h U r L R k (rw q A) })

pub flushable : Flushable
unfolding Flushable Steady
flushable w h s R e k = answers w.medium w.state w.buffer h s (reached_upheld w h R) (reached_ready w h R) (reached_allowed w h R) (reached_room w h R) e k (steady w h s R e)
