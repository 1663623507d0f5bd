-- No step programs a page into a weak block: where the state has the record of a block's erase, or the block is a head with pages left,
-- its last erase was finished.
use mathlib.Core.Path.{◌≡◌, refl, sym, ap, ◌∙◌}
use mathlib.Core.Logic.{◌⊎◌, inl, inr}
use mathlib.Core.Bool.{Bool, true, false, not}
use Rattle.std.proofs.Common.{Option, None, Some}
use mathlib.Core.List.{List, [], ◌∷◌}
use Prim.Native.Nat.{ℕ, suc, ◌+◌, ◌-◌, ◌*◌, ◌/◌, ◌≤◌, ◌<◌}
use native.Mathlib.Omega.{arith}
use native.Mathlib.Decide.{dec_lt, ℕ_discrete}
use lib.Dec.{ltb, eqb}
use lib.ListN.{length, take}
use borrow.Author.Tests.{ltb-false, lt-ltb, le-ltb, eq-eqb, ne_eqb}
use Rattle.lists.specs.Needs.{Answer, refused, gives, Need, need, under, checked}
use Rattle.lists.specs.Cells.{Entry, Place}
use Rattle.lists.proofs.Laws.{by_cases, true_false, every_at, tests, checked_cases}
use Rattle.page.specs.Pages.{Page, View, is_clean}
use Rattle.flash.specs.Medium.{views, seen}
use Rattle.flash.proofs.Laws.{length_views, clean_in}
use Rattle.blocks.specs.Blocks.{size_ok, new_head, page_due}
use Rattle.nodes.specs.Nodes.{live}
use Rattle.state.specs.State.{Pending, idle, append, commit, collect, format, flush, unnamed, Held, was_erased, now_erased, fit_with, buffered_in, is_idle}
use Rattle.state.proofs.Records.{none_was, none_length, others_was, now_length}
use Rattle.recovery.specs.Recovery.{Recovery, recovered_state}
use Rattle.recovery.specs.Recovery
use Rattle.calls.specs.Calls.{starting, zip, append_of, commit_of, collect_of, buffer_of, flush_of, formatting, format_of}
use Rattle.step.specs.Step.{Step, is_last, head_after, appended, committed, collected, flushed, formatted, erasing, page_needs, programming}
use Rattle.step.specs.Step.{append_step, commit_step, move_step, collect_step, format_step, flush_step, due, programs_due, needs_erase, erased_first, step_of}
use Rattle.step.proofs.Laws.{has_record, first_cases}
use Rattle.valve_log.specs.History.{History, Told, began_append, began_commit, began_collect, put_in, began_flush}
use Rattle.valve_log.specs.Reached.{World, world, with_state, step_due, Event, called, filled, stepped, cut_short, recovered, happen, Formatting, Reached}
use Rattle.valve_log.specs.Weak.{Weak, after_erase, after_step, weak_after, weak_in_format, weak_in, NeverWeak, Follows}
use Rattle.valve_log.proofs.Coupling.{Fits, fits}
use Rattle.valve_log.proofs.Lent.{state_fit}
use Rattle.valve_log.proofs.Events.{sized}

-- ---- what is followed

same_block : (weak : Weak) (b : ℕ) (cut : Bool) → after_erase b cut weak b ≡ cut
unfolding after_erase
same_block weak b cut = rw (eq-eqb b b refl)

other_block : (weak : Weak) (b c : ℕ) (cut : Bool) → (c ≡ b → ⊥) → after_erase b cut weak c ≡ weak c
unfolding after_erase
other_block weak b c cut n = rw (ne_eqb c b n)

other_step : (weak : Weak) (st : Answer Step) (cut : Bool) (c : ℕ) → ((b : ℕ) (s : Held) (finished : Bool) → st ≡ gives (Step.erase b s finished) → c ≡ b → ⊥) → after_step st cut weak c ≡ weak c
unfolding after_step
other_step weak (refused n) cut c f = refl
other_step weak (gives (Step.program p pg s finished)) cut c f = refl
other_step weak (gives (Step.erase b s finished)) cut c f = other_block weak b c cut (f b s finished refl)

other_after : (weak : Weak) (w : World) (e : Event w) (c : ℕ) → ((b : ℕ) (s : Held) (finished : Bool) → step_due w ≡ gives (Step.erase b s finished) → c ≡ b → ⊥) → weak_after w e weak c ≡ weak c
unfolding weak_after
other_after weak w (Event.append ks ws narrow small) c f = refl
other_after weak w Event.commit c f = refl
other_after weak w (Event.collect k) c f = refl
other_after weak w (Event.buffer ks ws narrow small) c f = refl
other_after weak w Event.flush c f = refl
other_after weak w Event.step c f = other_step weak (step_due w) _ c f
other_after weak w Event.recover c f = refl
other_after weak w Event.read c f = refl
other_after weak w Event.cut c f = refl
other_after weak w (Event.cut_inside left allowed) c f = other_step weak (step_due w) _ c f

pub follows : Follows
unfolding weak_after after_step
follows =
    record {
      cut_erase = λ weak w left allowed b s f e. rw e (same_block weak b true);
      finished_erase = λ weak w b s f e. rw e (same_block weak b false);
      others = other_after;
    }

-- ---- what the state knows of weak blocks: a block with a record, a head with pages left and the blocks that formatting erased are strong

pub record Guard (weak : Weak) (s : Held) : Type 0 where
  pub long : length s.erased ≡ s.head.blocks
  pub marks : (b : ℕ) → was_erased s.erased b ≡ true → weak b ≡ false
  pub heads : s.head.next < 16 → weak s.head.block ≡ false
  pub formats : (n : ℕ) → s.pending ≡ format n → (b : ℕ) → b < n → weak b ≡ false

unfoldable pub Kept : Weak → Option Held → Type 0
Kept weak None = Unit {0}
Kept weak (Some s) = Guard weak s

-- what a step may be
unfoldable pub Careful : Weak → Answer Step → Type 0
Careful weak (refused n) = Unit {0}
Careful weak (gives (Step.program p pg s finished)) = (weak (p / 16) ≡ false) × Guard weak s
Careful weak (gives (Step.erase b s finished)) = Guard (after_erase b false weak) s

refused_careful : (weak : Weak) (n : ℕ) → Careful weak (refused n)
unfolding Careful
refused_careful weak n = tt

-- ---- after an erase

strong : (weak : Weak) (b c : ℕ) → (c ≡ b) ⊎ (weak c ≡ false) → after_erase b false weak c ≡ false
unfolding after_erase
strong weak b c (inl e) = rw (eq-eqb c b e)
strong weak b c (inr e) = by_cases (eqb c b) (λ q. rw q) (λ q. rw q e)

erase_guard : (weak : Weak) (s : Held) (b : ℕ) (p : Pending) → Guard weak s → ((n : ℕ) → p ≡ format n → (c : ℕ) → c < n → (c ≡ b) ⊎ (weak c ≡ false)) → Guard (after_erase b false weak) (erasing s b p)
unfolding erasing
erase_guard weak s b p G f =
    record {
      long = now_length s.erased b ∙ G.long;
      marks = λ c h. strong weak b c (marked c h (ℕ_discrete c b));
      heads = λ h. strong weak b s.head.block (inr (G.heads h));
      formats = λ n e c h. strong weak b c (f n e c h);
    }
  where
    marked : (c : ℕ) → was_erased (now_erased s.erased b) c ≡ true → Dec (c ≡ b) → (c ≡ b) ⊎ (weak c ≡ false)
    marked c h (yes e) = inl e
    marked c h (no n) = inr (G.marks c (rw (others_was s.erased b c n) at h))

-- ---- after a page

page_guard : (weak : Weak) (s s' : Held) (p : ℕ) → Guard weak s → s'.erased ≡ s.erased → s'.head.blocks ≡ s.head.blocks
    → s'.head.block ≡ p / 16 → ((n : ℕ) → s'.pending ≡ format n → ⊥) → weak (p / 16) ≡ false → Guard weak s'
page_guard weak s s' p G e k b n w =
    record {
      long = ap length e ∙ G.long ∙ sym k;
      marks = λ c h. G.marks c (rw e at h);
      heads = λ h. rw b w;
      formats = λ i q. absurd (n i q);
    }

idle_format : (n : ℕ) → idle ≡ format n → ⊥
idle_format n e = let z : ◌≡◌ {A = ℕ} 0 1 = cc in omega arith

append_format : (es : List Entry) (ps : List ℕ) (n : ℕ) → append es ps ≡ format n → ⊥
append_format es ps n e = let z : ◌≡◌ {A = ℕ} 0 1 = cc in omega arith

commit_format : (k n : ℕ) → commit k ≡ format n → ⊥
commit_format k n e = let z : ◌≡◌ {A = ℕ} 0 1 = cc in omega arith

collect_format : (b n : ℕ) → collect b ≡ format n → ⊥
collect_format b n e = let z : ◌≡◌ {A = ℕ} 0 1 = cc in omega arith

flush_format : (n : ℕ) → flush ≡ format n → ⊥
flush_format n e = let z : ◌≡◌ {A = ℕ} 0 1 = cc in omega arith

format_same : (k n : ℕ) → format k ≡ format n → k ≡ n
format_same k n e = cc

-- ---- the step due

-- a collection with live nodes left programs the page due
moves_program : (index : List Place) (b : ℕ) (pend : Pending) (x : Place) (xs : List Place) → pend ≡ collect b → live index b ≡ x ∷ xs → programs_due index pend ≡ true
unfolding programs_due
moves_program index b pend x xs e q = rw (e, q) (lt-ltb 0 (suc (length xs)) (omega arith))

module _ (weak : Weak) (m : List ℕ) (s : Held) (size : size_ok (length m) ≡ true) (facts : Fits (views m) s) (G : Guard weak s) where
  abbrev v : List View
  v = views m

  abbrev p : ℕ
  p = page_due v s.head

  pages : length v ≡ 16 * s.head.blocks
  pages = let S = sized (length m) size in omega (arith, length_views m, facts.size, S.even)

  due_strong : needs_erase v s ≡ false → programs_due s.index s.pending ≡ true → is_clean (seen v p) ≡ true → weak (p / 16) ≡ false
  due_strong e o c = go (dec_lt s.head.next 16)
    where
      go : Dec (s.head.next < 16) → weak (p / 16) ≡ false
      go (yes h) =
          let q : p ≡ 16 * s.head.block + s.head.next = unfold page_due in rw (lt-ltb s.head.next 16 h) in
          let d : p / 16 ≡ s.head.block = omega arith in
          rw d (G.heads h)
      go (no h) =
          let q : p ≡ 16 * new_head v s.head = unfold page_due in rw (le-ltb s.head.next 16 (omega arith)) in
          let d : p / 16 ≡ new_head v s.head = omega arith in
          rw d (G.marks (new_head v s.head) (has_record v s e o (omega arith) (omega (arith, clean_in v p c, pages))))

  -- 14 and 16 passed
  programming_careful : (pg : Page) (s' : Held) (finished : Bool) → needs_erase v s ≡ false → programs_due s.index s.pending ≡ true
      → (weak (p / 16) ≡ false → Guard weak s') → Careful weak (programming v s.head p pg s' finished)
  unfolding programming
  programming_careful pg s' finished e o f =
      checked_cases (Careful weak) (page_needs v s.head p) (gives (Step.program p pg s' finished)) (refused_careful weak)
      (λ t. let w = due_strong e o (unfold tests in every_at 1 _ t) in unfold Careful in (w, f w))

  append_guard : (es : List Entry) (ps : List ℕ) → weak (p / 16) ≡ false → Guard weak (appended s es ps p)
  unfolding appended head_after
  append_guard es ps w =
      by_cases (is_last (length ps) (length es))
      (λ l. rw l (page_guard weak s _ p G refl refl refl idle_format w))
      (λ l. rw l (page_guard weak s _ p G refl refl refl (append_format es _) w))

  commit_guard : (k : ℕ) → weak (p / 16) ≡ false → Guard weak (committed s k p)
  unfolding committed head_after
  commit_guard k w =
      by_cases (is_last k (length s.index))
      (λ l. rw l (page_guard weak s _ p G refl refl refl idle_format w))
      (λ l. rw l (page_guard weak s _ p G refl refl refl (commit_format (suc k)) w))

  collect_guard : (b : ℕ) (moves : List Place) → weak (p / 16) ≡ false → Guard weak (collected s b moves p)
  unfolding collected head_after
  collect_guard b moves w = page_guard weak s _ p G refl refl refl (collect_format b) w

  flush_guard : (gs : List (List Entry)) → weak (p / 16) ≡ false → Guard weak (flushed s gs p)
  unfolding flushed head_after
  flush_guard gs w = page_guard weak s _ p G refl refl refl idle_format w

  collect_careful : (b : ℕ) (l : List Place) → needs_erase v s ≡ false → s.pending ≡ collect b → live s.index b ≡ l → Careful weak (collect_step v s b l)
  unfolding collect_step
  collect_careful b [] r e q = unfold Careful in erase_guard weak s b idle G (λ n e c h. absurd (idle_format n e))
  collect_careful b (x ∷ xs) r e q =
      unfold move_step in
      checked_cases (Careful weak) _ _ (refused_careful weak) (λ t. programming_careful _ _ false r (moves_program s.index b s.pending x xs e q) (collect_guard b (take 24 (x ∷ xs))))

  format_careful : (n : ℕ) → s.pending ≡ format n → Careful weak (format_step v s n)
  unfolding format_step
  format_careful n e =
      by_cases (ltb n s.head.blocks)
      (λ l. rw l (unfold Careful in erase_guard weak s n (format (suc n)) G (λ k q c h. below k (format_same (suc n) k q) c h)))
      (λ l. rw l (unfold programming in checked_cases (Careful weak) _ _ (refused_careful weak) (λ t. unfold Careful in (zero_strong l, base_guard l))))
    where
      below : (k : ℕ) → suc n ≡ k → (c : ℕ) → c < k → (c ≡ n) ⊎ (weak c ≡ false)
      below k q c h = go (ℕ_discrete c n)
        where
          go : Dec (c ≡ n) → (c ≡ n) ⊎ (weak c ≡ false)
          go (yes r) = inl r
          go (no r) = inr (G.formats n e c (omega arith))

      zero_strong : ltb n s.head.blocks ≡ false → weak (0 / 16) ≡ false
      zero_strong l =
          let S = sized (length m) size in
          let k : s.head.blocks ≤ n = ltb-false n s.head.blocks l in
          let z : 0 / 16 ≡ 0 = omega arith in
          rw z (G.formats n e 0 (omega (arith, S.low, S.even, pages, length_views m)))

      base_guard : ltb n s.head.blocks ≡ false → Guard weak (formatted s)
      base_guard l = unfold formatted in page_guard weak s _ 0 G refl refl refl idle_format (zero_strong l)

  due_careful : (gs : List (List Entry)) (pend : Pending) → needs_erase v s ≡ false → s.pending ≡ pend → Careful weak (due v s gs pend)
  unfolding due
  due_careful gs idle r e = refused_careful weak 9
  due_careful gs (append es ps) r e = unfold append_step in programming_careful _ _ _ r (unfold programs_due in rw e) (append_guard es ps)
  due_careful gs (commit k) r e = unfold commit_step in programming_careful _ _ _ r (unfold programs_due in rw e) (commit_guard k)
  due_careful gs (collect b) r e = collect_careful b (live s.index b) r e refl
  due_careful gs (format n) r e = format_careful n e
  due_careful gs flush r e = unfold flush_step in programming_careful _ _ _ r (unfold programs_due in rw e) (flush_guard gs)
  due_careful gs unnamed r e = refused_careful weak 7

  -- that step, or the erase before it
  first_careful : (gs : List (List Entry)) → Careful weak (erased_first v s (due v s gs s.pending))
  first_careful gs =
      first_cases (Careful weak) v s (due v s gs s.pending)
      (λ r. unfold Careful in erase_guard weak s (new_head v s.head) s.pending G (λ n e c h. inr (G.formats n e c h))) (λ r. due_careful gs s.pending r refl)

pub step_careful : (weak : Weak) (m : List ℕ) (s : Held) (bs : List ℕ) → Guard weak s → Careful weak (step_of (length m) (views m) s bs)
unfolding step_of
step_careful weak m s bs G =
    checked_cases (Careful weak) (need 1 (size_ok (length m)) ∷ need 7 (fit_with (views m) s bs) ∷ need 9 (not (is_idle s.pending)) ∷ [])
    (erased_first (views m) s (due (views m) s (buffered_in bs) s.pending)) (refused_careful weak)
    (λ t. first_careful weak m s (unfold tests in every_at 0 _ t) (fits (views m) s (state_fit (views m) s bs (unfold tests in every_at 1 _ t))) G (buffered_in bs))

-- ---- any event

stepped_kept : (weak : Weak) (m : List ℕ) (s : Held) (bs : List ℕ) (st : Answer Step) → Guard weak s → Careful weak st → Kept (after_step st false weak) (stepped (world m (Some s) bs) st).after.state
unfolding stepped after_step Careful Kept
stepped_kept weak m s bs (refused n) G C = G
stepped_kept weak m s bs (gives (Step.program p pg s' f)) G C = C.1
stepped_kept weak m s bs (gives (Step.erase b s' f)) G C = C

cut_kept : (weak : Weak) (w : World) (left : List ℕ) (st : Answer Step) → Kept weak (cut_short w left st).after.state
unfolding cut_short Kept
cut_kept weak w left (refused n) = tt
cut_kept weak w left (gives (Step.program p pg s f)) = tt
cut_kept weak w left (gives (Step.erase b s f)) = tt

call_kept : (weak : Weak) (m : List ℕ) (s : Held) (bs : List ℕ) (t : Told) (cs : List Need) (pend : Pending) → Guard weak s → ((n : ℕ) → pend ≡ format n → ⊥)
    → Kept weak (called (world m (Some s) bs) t (checked cs (starting s pend))).after.state
call_kept weak m s bs t cs pend G n =
    checked_cases (λ (c : Answer Held). Kept weak (called (world m (Some s) bs) t c).after.state) cs (gives (starting s pend))
    (λ k. unfold called Kept in G) (λ e. unfold called Kept in record { long = G.long; marks = G.marks; heads = G.heads; formats = λ k q. absurd (n k q) })

buffer_kept : (weak : Weak) (m : List ℕ) (s : Held) (bs : List ℕ) (t : Told) (cs : List Need) (b : List ℕ) → Guard weak s
    → Kept weak (filled (world m (Some s) bs) t (checked cs b)).after.state
buffer_kept weak m s bs t cs b G =
    checked_cases (λ (c : Answer (List ℕ)). Kept weak (filled (world m (Some s) bs) t c).after.state) cs (gives b)
    (λ k. unfold filled Kept in G) (λ e. unfold filled Kept in G)

recovered_guard : (weak : Weak) (v : List View) → Guard weak (recovered_state v)
unfolding recovered_state
recovered_guard weak v =
    record { long = none_length (length v / 16); marks = λ b h. true_false h (none_was (length v / 16) b); heads = λ h. absurd (omega arith); formats = λ n e. absurd (idle_format n e) }

recover_kept : (weak : Weak) (m : List ℕ) (s : Option Held) (bs : List ℕ) → Kept weak s → Kept weak (recovered (world m s bs) (Recovery.recover (length m) (views m))).after.state
unfolding Recovery.recover
recover_kept weak m s bs K =
    checked_cases (λ (r : Answer Recovery). Kept weak (recovered (world m s bs) r).after.state) _ _
    (λ n. unfold recovered in K) (λ e. unfold recovered Kept in recovered_guard weak (views m))

pub event_kept : (weak : Weak) (m : List ℕ) (s : Option Held) (bs : List ℕ) (e : Event (world m s bs)) → Kept weak s → Kept (weak_after (world m s bs) e weak) (happen (world m s bs) e).after.state
unfolding happen weak_after with_state step_due
event_kept weak m None bs (Event.append ks ws a b) K = K
event_kept weak m (Some s) bs (Event.append ks ws a b) K =
    unfold append_of in call_kept weak m s bs (began_append (zip ks ws)) _ (append (zip ks ws) []) (unfold Kept in K) (append_format (zip ks ws) [])
event_kept weak m None bs Event.commit K = K
event_kept weak m (Some s) bs Event.commit K = unfold commit_of in call_kept weak m s bs began_commit _ (commit 0) (unfold Kept in K) (commit_format 0)
event_kept weak m None bs (Event.collect b) K = K
event_kept weak m (Some s) bs (Event.collect b) K = unfold collect_of in call_kept weak m s bs began_collect _ (collect b) (unfold Kept in K) (collect_format b)
event_kept weak m None bs (Event.buffer ks ws a b) K = K
event_kept weak m (Some s) bs (Event.buffer ks ws a b) K = unfold buffer_of in buffer_kept weak m s bs (put_in (zip ks ws)) _ _ (unfold Kept in K)
event_kept weak m None bs Event.flush K = K
event_kept weak m (Some s) bs Event.flush K = unfold flush_of in call_kept weak m s bs began_flush _ flush (unfold Kept in K) flush_format
event_kept weak m None bs Event.step K = unfold stepped after_step in K
event_kept weak m (Some s) bs Event.step K = stepped_kept weak m s bs (step_of (length m) (views m) s bs) (unfold Kept in K) (step_careful weak m s bs (unfold Kept in K))
event_kept weak m s bs Event.recover K = recover_kept weak m s bs K
event_kept weak m s bs Event.read K = K
event_kept weak m s bs Event.cut K = unfold Kept in tt
event_kept weak m s bs (Event.cut_inside left c) K = cut_kept _ (world m s bs) left (step_due (world m s bs))

-- ---- along the list

formatting_guard : (weak : Weak) (blocks : ℕ) → Guard weak (formatting blocks)
unfolding formatting
formatting_guard weak blocks =
    record {
      long = none_length blocks;
      marks = λ b h. true_false h (none_was blocks b);
      heads = λ h. absurd (omega arith);
      formats = λ n e b h. let z : 0 ≡ n = format_same 0 n e in absurd (omega arith);
    }

pub begun_guard : (weak : Weak) (n : ℕ) (s : Held) → format_of n ≡ gives s → Guard weak s
unfolding format_of under
begun_guard weak n s e =
    by_cases (size_ok n)
    (λ t. let f : gives (formatting (n / 4096)) ≡ gives s = rw t at e in let q : formatting (n / 4096) ≡ s = cc in rw q at (formatting_guard weak (n / 4096)))
    (λ t. let f : refused 1 ≡ gives s = rw t at e in let z : ◌≡◌ {A = ℕ} 0 1 = cc in absurd (omega arith))

format_kept : (weak : Weak) (w : World) (F : Formatting w) → Kept (weak_in_format weak w F) w.state
unfolding weak_in_format
format_kept weak w (Formatting.begun m s bs b e) = unfold Kept in begun_guard weak (length m) s e
format_kept weak w (Formatting.next v e F k) = event_kept (weak_in_format weak v F) v.medium v.state v.buffer e (format_kept weak v F)

pub list_kept : (weak : Weak) (w : World) (h : History) (R : Reached w h) → Kept (weak_in weak w h R) w.state
unfolding weak_in
list_kept weak w h (Reached.start v F e) = event_kept (weak_in_format weak v F) v.medium v.state v.buffer Event.step (format_kept weak v F)
list_kept weak w h (Reached.next v g e R) = event_kept (weak_in weak v g R) v.medium v.state v.buffer e (list_kept weak v g R)
list_kept weak w h (Reached.taken_over b) = unfold Kept in tt

programs_strong : (weak : Weak) (m : List ℕ) (s : Option Held) (bs : List ℕ) → Kept weak s → (p : ℕ) (pg : Page) (t : Held) (f : Bool)
    → step_due (world m s bs) ≡ gives (Step.program p pg t f) → weak (p / 16) ≡ false
unfolding step_due with_state
programs_strong weak m None bs K p pg t f e = let z : ◌≡◌ {A = ℕ} 0 1 = cc in absurd (omega arith)
programs_strong weak m (Some s) bs K p pg t f e = go (step_of (length m) (views m) s bs) (step_careful weak m s bs (unfold Kept in K)) e
  where
    go : (st : Answer Step) → Careful weak st → st ≡ gives (Step.program p pg t f) → weak (p / 16) ≡ false
    go st C q = let D : (weak (p / 16) ≡ false) × Guard weak t = unfold Careful in (rw q at C) in D.0

pub never_weak : NeverWeak
never_weak =
    record {
      in_format = λ weak w F. programs_strong (weak_in_format weak w F) w.medium w.state w.buffer (format_kept weak w F);
      in_list = λ weak w h R. programs_strong (weak_in weak w h R) w.medium w.state w.buffer (list_kept weak w h R);
    }
