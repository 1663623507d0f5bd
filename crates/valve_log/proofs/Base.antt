-- What each event does to the base that recovery finds: it rises where a commit counts, to a serial that the commit's pages began with, and else it stays.
use mathlib.Core.Path.{◌≡◌, refl, sym, ap, subst, ◌∙◌}
use mathlib.Core.Bool.{Bool, true, false, cond}
use Rattle.std.proofs.Common.{Option, None, Some}
use mathlib.Core.List.{List, [], ◌∷◌, ◌++◌}
use Prim.Native.Nat.{ℕ, suc, ◌+◌, ◌-◌, ◌*◌, ◌≤◌, ◌<◌}
use native.Mathlib.Omega.{arith}
use lib.ListN.{length, length-append}
use borrow.Author.Tests.{leb-true, leb-false}
use Rattle.lists.specs.Needs.{Answer, refused, gives}
use Rattle.lists.specs.Cells.{Entry, Place, Setting}
use Rattle.lists.proofs.Laws.{by_cases, true_false, every_at, tests, checked_cases, some_same, same_given}
use Rattle.page.specs.Pages.{Page, View, pages_for}
use Rattle.flash.specs.Medium.{views, programmed, erased}
use Rattle.flash.specs.Cuts.{CutProgram}
use Rattle.flash.proofs.Steps.{program_views}
use Rattle.flash.proofs.Cuts.{CutViews, cut_erase_views}
use Rattle.index.specs.Index.{most_valves}
use Rattle.nodes.specs.Nodes.{live}
use Rattle.state.specs.State.{Pending, Held, base_pages, fit_with, buffered_in}
use Rattle.recovery.specs.Recovery.{Placed, serial_of, wholes, sort, last_of, no_page, Group, between, walk, groups_of, pages_of, enter_pages, Recovery, recovery_with, base}
use Rattle.recovery.specs.Recovery.{recover as recover_of}
use Rattle.step.specs.Step.{Step, is_last, head_after, appended, committed, collected, flushed, erasing, programming, append_step, commit_step, move_step, collect_step, flush_step, due, erased_first, step_of, medium_after}
use Rattle.step.proofs.Laws.{first_cases}
use Rattle.valve_log.specs.History.{UnderWay, committing, History, Told, unchanged, stepped_page}
use Rattle.valve_log.specs.ValveZero.{step_before}
use Rattle.valve_log.specs.Reached.{World, world, with_state, step_due, CutOf, Event, called, filled, stepped, same_bytes, cut_short, recovered, happen}
use Rattle.valve_log.specs.Reached.{step_due_before, Earlier, happened, Before, Reached}
use Rattle.valve_log.proofs.Index.{sound_keep, words_keep}
use Rattle.valve_log.proofs.Views.{one_keeps, one_lost}
use Rattle.valve_log.proofs.Groups.{lay, lay_length}
use Rattle.valve_log.proofs.Sound.{Sound, base_is, greatest, outcome, accepts, lost_sound}
use Rattle.valve_log.proofs.Coupling.{Pend, at_rest, in_append, in_commit, in_collect, in_flush, alive_of, Coupled, Awaited, awaited, pending_fit_lem}
use Rattle.valve_log.proofs.Lent.{state_fit}
use Rattle.valve_log.proofs.Due.{Programs, Erases, Good}
use Rattle.valve_log.proofs.Events.{Upheld, same_true, there, cut_seen, others, not_whole, block_there, erase_cut, due_good}
use Rattle.valve_log.proofs.ValveZero.{before_cases, due_before, before_upheld}
use Rattle.valve_log.proofs.Point3.{reached_upheld}
use Rattle.valve_log.specs.SinceCommit.{commit_ends_next, commit_counts}
use Rattle.valve_log.specs.Base.{Rises, BaseTells}

-- ---- the base of the state after a step

stays : (c : Bool) (b n b' : ℕ) → c ≡ false → b' ≡ b → Rises c b n b'
stays c b n b' f e = record { same = λ q. e; greater = λ q. true_false q f; late = λ q. true_false q f }

unfoldable StepRises : Held → UnderWay → Answer Step → Type 0
StepRises s u (refused n) = Unit {0}
StepRises s u (gives (Step.program p pg t f)) = Rises (commit_ends_next u) s.head.base s.head.serial t.head.base
StepRises s u (gives (Step.erase b t f)) = t.head.base ≡ s.head.base

refused_rises : (s : Held) (u : UnderWay) (n : ℕ) → StepRises s u (refused n)
unfolding StepRises
refused_rises s u n = tt

programming_rises : (v : List View) (s : Held) (u : UnderWay) (p : ℕ) (pg : Page) (t : Held) (f : Bool)
    → Rises (commit_ends_next u) s.head.base s.head.serial t.head.base
    → StepRises s u (programming v s.head p pg t f)
unfolding programming
programming_rises v s u p pg t f R = checked_cases (StepRises s u) _ _ (refused_rises s u) (λ e. unfold StepRises in R)

appended_base : (s : Held) (es : List Entry) (ps : List ℕ) (p : ℕ) → (appended s es ps p).head.base ≡ s.head.base
unfolding appended head_after
appended_base s es ps p = by_cases (is_last (length ps) (length es)) (λ e. rw e) (λ e. rw e)

committed_last : (s : Held) (k p : ℕ) → is_last k (length s.index) ≡ true → (committed s k p).head.base ≡ s.head.serial - k
unfolding committed head_after
committed_last s k p e = rw e

committed_more : (s : Held) (k p : ℕ) → is_last k (length s.index) ≡ false → (committed s k p).head.base ≡ s.head.base
unfolding committed head_after
committed_more s k p e = rw e

collected_base : (s : Held) (c p : ℕ) (moves : List Place) → (collected s c moves p).head.base ≡ s.head.base
unfolding collected head_after
collected_base s c p moves = refl

flushed_base : (s : Held) (small : List (List Entry)) (p : ℕ) → (flushed s small p).head.base ≡ s.head.base
unfolding flushed head_after
flushed_base s small p = refl

-- a commit's pages left, beside its pages written
ends_next : (n k left : ℕ) → left + k ≡ base_pages n → k < base_pages n → is_last k n ≡ true → commit_ends_next (committing left) ≡ true
unfolding is_last base_pages pages_for commit_ends_next
ends_next n k left a b e = let l : n ≤ 24 * suc k = leb-true n (24 * suc k) e in let z : left ≡ 1 = omega arith in rw z

goes_on : (n k left : ℕ) → left + k ≡ base_pages n → is_last k n ≡ false → commit_ends_next (committing left) ≡ false
unfolding is_last base_pages pages_for commit_ends_next
goes_on n k left a e = let l : 24 * suc k < n = leb-false n (24 * suc k) e in let z : left ≡ suc (suc (left - 2)) = omega arith in rw z

no_index : (gs : List Group) → gs ≡ [] → enter_pages (Some []) (pages_of gs) ≡ Some []
unfolding pages_of enter_pages
no_index gs e = rw e

one_page : (n : ℕ) → n ≡ 0 → base_pages n ≡ 1
unfolding base_pages pages_for
one_page n e = rw e

-- a base has at most 8 pages
few_pages : (n : ℕ) → n ≤ most_valves → base_pages n ≤ 8
unfolding base_pages pages_for
few_pages n l = omega arith

-- a base's first serial is greater than that of the base before it: where its pages alone were the chain there would be no index, and no page yet
greater : {v : List View} {log : List (List Entry)} {settings : List Setting} {b : ℕ} {ch : List Placed} {gs : List Group} {idx : List Place} → Sound v log settings b ch gs idx
    → (f k serial : ℕ) (ps : List ℕ) (pre : List Placed) → serial ≡ b + length ch → length ps ≡ k → f + k ≡ serial → ch ≡ pre ++ lay 2 idx 0 f ps
    → groups_of (walk (between []) (lay 2 idx 0 f ps)) ≡ Some [] → k < base_pages (length idx) → b < serial - k
greater {b = b} {ch = ch} {gs = gs} {idx = idx} S f k serial ps [] ser n a split alone fewer =
    let g : gs ≡ [] = some_same (sym S.walks ∙ ap (λ (c : List Placed). groups_of (walk (between []) c)) split ∙ alone) in
    let i : idx ≡ [] = some_same (sym S.replays ∙ no_index gs g) in
    let one : base_pages (length idx) ≡ 1 = one_page (length idx) (ap length i) in
    let c : length ch ≡ length ps = ap length split ∙ lay_length 2 idx 0 f ps in
    absurd (omega (arith, S.some_page, c, one, fewer, n))
greater {b = b} {ch = ch} {gs = gs} {idx = idx} S f k serial ps (x ∷ pre) ser n a split alone fewer =
    omega (arith, ser, n, ap length split, length-append (x ∷ pre) (lay 2 idx 0 f ps), lay_length 2 idx 0 f ps)

module _ (v : List View) (s : Held) {log : List (List Entry)} {settings : List Setting} {b : ℕ} {ch : List Placed} {gs : List Group} {idx : List Place} (S : Sound v log settings b ch gs idx)
    (serials : s.head.serial ≡ b + length ch) (bases : s.head.base ≡ b) (indices : s.index ≡ idx) where
  collect_rises : (u : UnderWay) (c : ℕ) (l : List Place) → commit_ends_next u ≡ false → StepRises s u (collect_step v s c l)
  unfolding collect_step
  collect_rises u c [] e = unfold StepRises erasing in refl
  collect_rises u c (x ∷ xs) e =
      unfold move_step in checked_cases (StepRises s u) _ _ (refused_rises s u) (λ t. programming_rises v s u _ _ _ _ (stays _ _ _ _ e (collected_base s c _ _)))

  commit_rises : (k left : ℕ) → left + k ≡ base_pages (length s.index) → k < base_pages (length s.index) → b < s.head.serial - k → StepRises s (committing left) (commit_step v s k)
  unfolding commit_step
  commit_rises k left a fewer g =
      let most = few_pages (length s.index) (rw indices S.tidy.count) in
      programming_rises v s (committing left) _ _ _ _
      (by_cases (is_last k (length s.index))
      (λ z.
      record {
        same = λ q. true_false (ends_next (length s.index) k left a fewer z) q;
        greater = λ q. rw (committed_last s k _ z, bases) g;
        late = λ q. rw (committed_last s k _ z) (omega (arith, most, fewer));
      })
      (λ z. stays _ _ _ _ (goes_on (length s.index) k left a z) (committed_more s k _ z)))

  due_rises : (small : List (List Entry)) (pend : Pending) (u : UnderWay) → Pend v s.head.serial ch gs idx pend u → Awaited v s pend
      → StepRises s u (due v s small pend)
  unfolding due Awaited
  due_rises small pend u at_rest q = refused_rises s u 9
  due_rises small pend u in_flush q =
      unfold flush_step in programming_rises v s u _ _ _ _ (stays _ _ _ _ (unfold commit_ends_next in refl) (flushed_base s small _))
  due_rises small pend u (in_append {es = es} {ps = ps} f t a c op pr) q =
      unfold append_step in programming_rises v s u _ _ _ _ (stays _ _ _ _ (unfold commit_ends_next in refl) (appended_base s es ps _))
  due_rises small pend u (in_commit {k = k} {left = left} f ps pre n a c sp op al ag) q =
      commit_rises k left (rw indices a) q (greater S f k s.head.serial ps pre serials n c sp ag (rw indices at q))
  due_rises small pend u (in_collect {b = c}) q = collect_rises u c (live s.index c) (unfold commit_ends_next in refl)

first_rises : (v : List View) (s : Held) (gs : List (List Entry)) (h : History) → Coupled v (Some s) h → Awaited v s s.pending
    → StepRises s h.under_way (erased_first v s (due v s gs s.pending))
first_rises v s gs h c q =
    let A = alive_of c.memory in
    first_cases (StepRises s h.under_way) v s (due v s gs s.pending) (λ r. unfold StepRises erasing in refl)
    (λ r. due_rises v s c.medium A.serials A.bases A.indices gs s.pending h.under_way A.pends q)

step_rises : (n : ℕ) (v : List View) (s : Held) (bs : List ℕ) (h : History) → Coupled v (Some s) h → StepRises s h.under_way (step_of n v s bs)
unfolding step_of tests
step_rises n v s bs h c =
    checked_cases (StepRises s h.under_way) _ _ (refused_rises s h.under_way)
    (λ e. let w : fit_with v s bs ≡ true = every_at 1 _ e in
    first_rises v s (buffered_in bs) h c (awaited v s s.pending (pending_fit_lem v s (state_fit v s bs w))))

-- and the step of the program as it was before Paper 8
before_rises : (n : ℕ) (v : List View) (s : Held) (bs : List ℕ) (h : History) → Coupled v (Some s) h
    → StepRises s h.under_way (step_before n v s bs)
before_rises n v s bs h c =
    before_cases (StepRises s h.under_way) n v s bs (refused_rises s h.under_way) (λ F A. first_rises v s (buffered_in bs) h c A)

-- ---- the base that recovery finds

-- with a state it is the state's
base_held : {v : List View} {s : Held} {h : History} → Coupled v (Some s) h → base v ≡ s.head.base
base_held c = base_is c.medium ∙ sym (alive_of c.memory).bases

-- the next serial: one more than the greatest of the whole pages
abbrev pub next_after : List View → ℕ
next_after v = suc (serial_of (last_of no_page (sort (wholes 0 v))))

next_held : {v : List View} {s : Held} {h : History} → Coupled v (Some s) h → next_after v ≡ s.head.serial
next_held c = greatest c.medium ∙ sym (alive_of c.memory).serials

abbrev From : List ℕ → Bool → List ℕ → Type 0
From m c u = Rises c (base (views m)) (next_after (views m)) (base (views u))

kept : (m u : List ℕ) (c : Bool) → c ≡ false → u ≡ m → From m c u
kept m u c f e = stays _ _ _ _ f (ap (λ (l : List ℕ). base (views l)) e)

module _ (m : List ℕ) (s : Held) (bs : List ℕ) (h : History) (U : Upheld (world m (Some s) bs) h) where
  module _ (p : ℕ) (pg : Page) (s' : Held) (P : Programs (views m) s bs h p pg s') (R : Rises (commit_ends_next h.under_way) s.head.base s.head.serial s'.head.base) where
    program_rises : From m (commit_ends_next h.under_way) (programmed m p pg)
    program_rises = rw (base_held U.coupled, next_held U.coupled, program_views m p pg (there m s bs h U p pg s' P) P.fits_in, base_held P.after) R

    -- a cut leaves the page complete, or the medium's whole pages as they were
    cut_program_rises : (left : List ℕ) → CutProgram m p pg left → (b : Bool) → same_bytes left (programmed m p pg) ≡ b → From m (commit_counts h (cond b stepped_page unchanged)) left
    unfolding commit_counts
    cut_program_rises left c true e = rw (same_true left (programmed m p pg) e) program_rises
    cut_program_rises left c false e = stays _ _ _ _ refl (base_is sound ∙ sym (base_is C.medium))
      where
        C : Coupled (views m) (Some s) h
        C = U.coupled

        sound : Sound (views left) h.log h.settings C.b C.ch C.gs C.idx
        sound =
            let o = others m s bs h U p pg s' P left c in
            let k = one_keeps (views m) (views left) p P.cleans o in
            lost_sound C.medium (views left) (cut_seen m s bs h U p pg s' P left c).size
            (one_lost C.b (views m) (views left) p P.cleans (not_whole m s bs h U p pg s' P left c e) o)
            (sound_keep (views m) (views left) C.idx k C.medium.sounds) (words_keep (views m) (views left) C.idx k C.medium.sounds)

  erase_stays : (b : ℕ) (s' : Held) → Erases (views m) bs h b s' → s'.head.base ≡ s.head.base → (u : List ℕ) → CutViews (views m) (16 * b) 16 (views m) (views u)
      → base (views u) ≡ base (views m)
  erase_stays b s' E e u c = base_held (E.after (views u) c) ∙ e ∙ sym (base_held U.coupled)

  stepped_rises : (st : Answer Step) → Good (views m) s bs h st → StepRises s h.under_way st
      → From m (commit_counts h (stepped (world m (Some s) bs) st).told) (stepped (world m (Some s) bs) st).after.medium
  unfolding stepped medium_after Good StepRises commit_counts
  stepped_rises (refused n) G R = kept m m false refl refl
  stepped_rises (gives (Step.program p pg s' finished)) G R = program_rises p pg s' G R
  stepped_rises (gives (Step.erase b s' finished)) G R = stays _ _ _ _ refl (erase_stays b s' G R (erased m b) (erase_cut m s bs h U b s' G))

  cut_rises : (st : Answer Step) → Good (views m) s bs h st → StepRises s h.under_way st → (left : List ℕ) → CutOf m st left
      → From m (commit_counts h (cut_short (world m (Some s) bs) left st).told) (cut_short (world m (Some s) bs) left st).after.medium
  unfolding cut_short CutOf Good StepRises
  cut_rises (refused n) G R left c = absurd c
  cut_rises (gives (Step.program p pg s' finished)) G R left c = cut_program_rises p pg s' G R left c (same_bytes left (programmed m p pg)) refl
  cut_rises (gives (Step.erase b s' finished)) G R left c =
      unfold commit_counts in stays _ _ _ _ refl (erase_stays b s' G R left (cut_erase_views m b left (block_there m s bs h U b s' G) U.guarded c))

-- a call, and a recovery, touches no page
called_rises : (w : World) (h : History) (t : Told) (c : Answer Held) → commit_counts h t ≡ false → From w.medium (commit_counts h (called w t c).told) (called w t c).after.medium
unfolding called
called_rises w h t (refused n) e = kept _ _ _ (unfold commit_counts in refl) refl
called_rises w h t (gives s) e = kept _ _ _ e refl

filled_rises : (w : World) (h : History) (t : Told) (c : Answer (List ℕ)) → commit_counts h t ≡ false → From w.medium (commit_counts h (filled w t c).told) (filled w t c).after.medium
unfolding filled
filled_rises w h t (refused n) e = kept _ _ _ (unfold commit_counts in refl) refl
filled_rises w h t (gives b) e = kept _ _ _ e refl

recovered_rises : (w : World) (h : History) (r : Answer Recovery) → From w.medium (commit_counts h (recovered w r).told) (recovered w r).after.medium
unfolding recovered commit_counts
recovered_rises w h (refused n) = kept _ _ _ refl refl
recovered_rises w h (gives r) = kept _ _ _ refl refl

happen_rises : (m : List ℕ) (s : Option Held) (bs : List ℕ) (h : History) (e : Event (world m s bs)) → Upheld (world m s bs) h
    → From m (commit_counts h (happen (world m s bs) e).told) (happen (world m s bs) e).after.medium
unfolding happen with_state step_due commit_counts
happen_rises m None bs h (Event.append ks ws a b) U = kept m m _ refl refl
happen_rises m (Some s) bs h (Event.append ks ws a b) U = called_rises (world m (Some s) bs) h _ _ refl
happen_rises m None bs h Event.commit U = kept m m _ refl refl
happen_rises m (Some s) bs h Event.commit U = called_rises (world m (Some s) bs) h _ _ refl
happen_rises m None bs h (Event.collect b) U = kept m m _ refl refl
happen_rises m (Some s) bs h (Event.collect b) U = called_rises (world m (Some s) bs) h _ _ refl
happen_rises m None bs h (Event.buffer ks ws a b) U = kept m m _ refl refl
happen_rises m (Some s) bs h (Event.buffer ks ws a b) U = filled_rises (world m (Some s) bs) h _ _ refl
happen_rises m None bs h Event.flush U = kept m m _ refl refl
happen_rises m (Some s) bs h Event.flush U = called_rises (world m (Some s) bs) h _ _ refl
happen_rises m None bs h Event.step U = unfold stepped in kept m m _ refl refl
happen_rises m (Some s) bs h Event.step U = stepped_rises m s bs h U (step_of (length m) (views m) s bs) (due_good m s bs h U) (step_rises (length m) (views m) s bs h U.coupled)
happen_rises m s bs h Event.recover U = recovered_rises (world m s bs) h _
happen_rises m s bs h Event.read U = kept m m _ refl refl
happen_rises m s bs h Event.cut U = kept m m _ refl refl
happen_rises m None bs h (Event.cut_inside left c) U = absurd (unfold CutOf in c)
happen_rises m (Some s) bs h (Event.cut_inside left c) U =
    cut_rises m s bs h U (step_of (length m) (views m) s bs) (due_good m s bs h U) (step_rises (length m) (views m) s bs h U.coupled) left c

pub base_rises : (w : World) (h : History) → Reached w h → (e : Event w) → From w.medium (commit_counts h (happen w e).told) (happen w e).after.medium
base_rises w h r e = happen_rises w.medium w.state w.buffer h e (reached_upheld w h r)

-- the same of the program as it was before Paper 8
happened_rises : (m : List ℕ) (s : Option Held) (bs : List ℕ) (h : History) (e : Earlier (world m s bs)) → Upheld (world m s bs) h
    → From m (commit_counts h (happened (world m s bs) e).told) (happened (world m s bs) e).after.medium
unfolding happened with_state step_due_before commit_counts
happened_rises m s bs h (Earlier.same e) U = happen_rises m s bs h e U
happened_rises m None bs h (Earlier.append ks ws a b) U = kept m m _ refl refl
happened_rises m (Some s) bs h (Earlier.append ks ws a b) U = called_rises (world m (Some s) bs) h _ _ refl
happened_rises m None bs h (Earlier.buffer ks ws a b) U = kept m m _ refl refl
happened_rises m (Some s) bs h (Earlier.buffer ks ws a b) U = filled_rises (world m (Some s) bs) h _ _ refl
happened_rises m None bs h Earlier.flush U = kept m m _ refl refl
happened_rises m (Some s) bs h Earlier.flush U = called_rises (world m (Some s) bs) h _ _ refl
happened_rises m None bs h Earlier.step U = unfold stepped in kept m m _ refl refl
happened_rises m (Some s) bs h Earlier.step U =
    stepped_rises m s bs h U (step_before (length m) (views m) s bs) (due_before m s bs h U)
    (before_rises (length m) (views m) s bs h U.coupled)
happened_rises m None bs h (Earlier.cut_inside left c) U = absurd (unfold CutOf in c)
happened_rises m (Some s) bs h (Earlier.cut_inside left c) U =
    cut_rises m s bs h U (step_before (length m) (views m) s bs) (due_before m s bs h U)
    (before_rises (length m) (views m) s bs h U.coupled) left c

pub base_rises_before : (w : World) (h : History) → Before w h → (e : Earlier w)
    → From w.medium (commit_counts h (happened w e).told) (happened w e).after.medium
base_rises_before w h b e = happened_rises w.medium w.state w.buffer h e (before_upheld w h b)

-- the head of the state that recovery gives
record HeadFound (v : List View) (s : Held) : Type 0 where
  pub bases : s.head.base ≡ base v
  pub serials : s.head.serial ≡ next_after v

outcome_head : {v : List View} {log : List (List Entry)} {settings : List Setting} {b : ℕ} {ch : List Placed} {gs : List Group} {idx : List Place} (S : Sound v log settings b ch gs idx)
    → HeadFound v (outcome S)
unfolding outcome
outcome_head S = record { bases = sym (base_is S); serials = sym (greatest S) }

head_found : (w : World) (h : History) → Reached w h → (log : List (List Entry)) (s : Held)
    → recover_of (length w.medium) (views w.medium) ≡ gives (recovery_with log s) → HeadFound (views w.medium) s
head_found w h r log s a =
    let U = reached_upheld w h r in
    let M = U.coupled.medium in
    let g : recovery_with h.log (outcome M) ≡ recovery_with log s = same_given (sym (accepts M (length w.medium) U.size) ∙ a) in
    let e : outcome M ≡ s = ap (λ (x : Recovery). x.state) g in
    subst (HeadFound (views w.medium)) e (outcome_head M)

pub base_tells : BaseTells
unfolding BaseTells
base_tells w h r e log log' s s' a b =
    let F = head_found w h r log s a in
    let G = head_found (happen w e).after _ (Reached.next w h e r) log' s' b in
    rw (F.bases, F.serials, G.bases) (base_rises w h r e)
