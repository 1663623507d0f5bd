-- Every call's conditions stand in the order of the papers.
use mathlib.Core.Path.{◌≡◌, refl, sym, ap, ◌∙◌}
use mathlib.Core.Bool.{Bool, true, false, not, cond, ◌&&◌}
use Rattle.std.proofs.Common.{Option, None, Some}
use mathlib.Core.List.{List, [], ◌∷◌, ◌++◌}
use Prim.Native.Nat.{ℕ}
use native.Mathlib.Omega.{arith}
use lib.Dec.{leb, ltb, eqb}
use lib.ListN.{length, take}
use borrow.Author.Tests.{lt-ltb}
use Rattle.lists.specs.Needs.{Answer, refused, gives, Need, need, under, checked, answer_or, and_then, refusal_of}
use Rattle.lists.specs.Cells.{Entry, Place}
use Rattle.lists.specs.Lists.{every}
use Rattle.lists.proofs.Laws.{by_cases, true_false, every_at}
use Rattle.page.specs.Pages.{Page, View, changes_of}
use Rattle.blocks.specs.Blocks.{size_ok, page_due}
use Rattle.nodes.specs.Nodes.{sound, live, pick_below}
use Rattle.state.specs.State.{Pending, idle, append, commit, collect, format, flush, unnamed, Held, pending_fit, fit, is_idle, fit_with, buffered_in}
use Rattle.flash.specs.Medium.{views}
use Rattle.recovery.specs.Recovery.{Recovery, recover_needs, recovery_with, recovered_state, recover}
use Rattle.news.specs.declared.Mark.{Mark}
use Rattle.news.specs.News.{mark_of, comes_after, news_needs, compared, news_after}
use Rattle.readings.specs.Readings.{opening_of, last_naming, sought, sought_in, word_needs, word_refusal, pick_of, survey_of, available_of, filed_into, filed_log, read_log, filed_settings, read_settings}
use Rattle.calls.specs.Calls.{append_needs, append_of, commit_of, collect_of}
use Rattle.calls.specs.Orders.{numbers_of, refusal_in, InPapersOrder}
use Rattle.calls.proofs.Orders.{checked_refusal, ordered}
use Rattle.step.specs.Step.{Step, page_needs, programming, append_step, commit_step, move_step, collect_step, format_step, flush_step, due, programs_due, needs_erase, erased_first, step_of}
use Rattle.log_reader.specs.Reader.{start_place, start_of}
use Rattle.spans.specs.Spans.{span_effect, effect_of}
use Rattle.mattered.specs.Mattered.{listed_in, read_mattered}
use Rattle.wanted.specs.Wanted.{wanted_of}
use Rattle.newest_page.specs.Newer.{newer}
use Rattle.dispatcher.specs.Dispatch.{naming, answers13, collection, room_maker, next_of}
use Rattle.journal.specs.Orders.{log_in, own_needs, step_needs, collection_refusal, next_refusal, StepOrders, AllOrders, AllInPapersOrder}

-- ---- an answer under conditions

under_refusal : {A : Type 0} (cs ds : List Need) (a : Answer A) → refusal_in a ≡ refusal_of ds → refusal_in (under cs a) ≡ refusal_of (cs ++ ds)
unfolding refusal_in refusal_of under and_then answer_or
under_refusal [] ds a h = h
under_refusal (c ∷ cs) ds a h = by_cases c.holds (λ e. rw e (under_refusal cs ds a h)) (λ e. rw e)

then_refusal : {A B : Type 0} (cs ds : List Need) (x : A) (f : A → Answer B) → refusal_in (f x) ≡ refusal_of ds
    → refusal_in (and_then (checked cs x) f) ≡ refusal_of (cs ++ ds)
unfolding refusal_in refusal_of under and_then answer_or
then_refusal [] ds x f h = h
then_refusal (c ∷ cs) ds x f h = by_cases c.holds (λ e. rw e (then_refusal cs ds x f h)) (λ e. rw e)

same_refusal_in : {A B : Type 0} (a : Answer A) (y : B) → refusal_in (and_then a (λ x. gives y)) ≡ refusal_in a
unfolding refusal_in and_then answer_or
same_refusal_in (refused n) y = refl
same_refusal_in (gives x) y = refl

-- ---- the step

module _ (v : List View) (s : Held) (gs : List (List Entry)) where
  page_refusal : (p : ℕ) (pg : Page) (after : Held) (finished : Bool)
      → refusal_in (programming v s.head p pg after finished) ≡ refusal_of (page_needs v s.head p)
  unfolding programming
  page_refusal p pg after finished = checked_refusal _ _

  collect_refusal : (b : ℕ) (l : List Place)
      → refusal_in (collect_step v s b l) ≡ refusal_of
      (cond (ltb 0 (length l)) (need 6 (sound v (take 24 l)) ∷ page_needs v s.head (page_due v s.head)) [])
  unfolding collect_step
  collect_refusal b [] = unfold refusal_in refusal_of under and_then answer_or in refl
  collect_refusal b (x ∷ xs) =
      let l : ltb 0 (length (x ∷ xs)) ≡ true = lt-ltb 0 (length (x ∷ xs)) (omega arith) in
      rw l (unfold move_step in under_refusal (need 6 (sound v (take 24 (x ∷ xs))) ∷ []) _ _ (page_refusal _ _ _ _))

  append_refusal : (es : List Entry) (ps : List ℕ)
      → refusal_in (append_step v s es ps) ≡ refusal_of (page_needs v s.head (page_due v s.head))
  unfolding append_step
  append_refusal es ps = page_refusal _ _ _ _

  commit_refusal : (k : ℕ) → refusal_in (commit_step v s k) ≡ refusal_of (page_needs v s.head (page_due v s.head))
  unfolding commit_step
  commit_refusal k = page_refusal _ _ _ _

  flush_refusal : refusal_in (flush_step v s gs) ≡ refusal_of (page_needs v s.head (page_due v s.head))
  unfolding flush_step
  flush_refusal = page_refusal _ _ _ _

  format_refusal : (n : ℕ) → refusal_in (format_step v s n) ≡ refusal_of (cond (ltb n s.head.blocks) [] (page_needs v s.head 0))
  unfolding format_step
  format_refusal n = by_cases (ltb n s.head.blocks) (λ e. rw e (unfold refusal_in refusal_of under and_then answer_or in refl))
      (λ e. rw e (page_refusal _ _ _ _))

  first_refusal : (p : Pending) (own : Answer Step) → refusal_in own ≡ refusal_of (own_needs v s p)
      → refusal_in (erased_first v s own) ≡ refusal_of (cond (needs_erase v s) [] (own_needs v s p))
  unfolding erased_first
  first_refusal p own h = by_cases (needs_erase v s) (λ e. rw e (unfold refusal_in refusal_of under and_then answer_or in refl)) (λ e. rw e h)

fit_pending : (v : List View) (s : Held) (b : List ℕ) → fit_with v s b ≡ true → pending_fit v s.head s.index s.pending ≡ true
unfolding fit_with fit
fit_pending v s b f = every_at 2 _ (every_at 0 _ f)

unfit_unnamed : (v : List View) (s : Held) (b : List ℕ) → s.pending ≡ unnamed → fit_with v s b ≡ false
unfit_unnamed v s b e = by_cases (fit_with v s b)
    (λ f. true_false (fit_pending v s b f) (ap (pending_fit v s.head s.index) e ∙ (unfold pending_fit in refl))) (λ f. f)

stops_at_9 : {A : Type 0} (x y : Bool) (a : Answer A) (ds : List Need)
    → refusal_in (under (need 1 x ∷ need 7 y ∷ need 9 false ∷ []) a) ≡ refusal_of (need 1 x ∷ need 7 y ∷ need 9 false ∷ ds)
unfolding refusal_in refusal_of under and_then answer_or
stops_at_9 true true a ds = refl
stops_at_9 true false a ds = refl
stops_at_9 false true a ds = refl
stops_at_9 false false a ds = refl

stops_at_7 : {A : Type 0} (x z : Bool) (a : Answer A) (ds : List Need)
    → refusal_in (under (need 1 x ∷ need 7 false ∷ need 9 z ∷ []) a) ≡ refusal_of (need 1 x ∷ need 7 false ∷ need 9 z ∷ ds)
unfolding refusal_in refusal_of under and_then answer_or
stops_at_7 true z a ds = refl
stops_at_7 false z a ds = refl

step_refusal : (n : ℕ) (v : List View) (s : Held) (b : List ℕ) (p : Pending) → s.pending ≡ p
    → refusal_in (under (need 1 (size_ok n) ∷ need 7 (fit_with v s b) ∷ need 9 (not (is_idle p)) ∷ [])
    (erased_first v s (due v s (buffered_in b) p)))
    ≡ refusal_of (need 1 (size_ok n) ∷ need 7 (fit_with v s b) ∷ need 9 (not (is_idle p)) ∷ cond (needs_erase v s) [] (own_needs v s p))
unfolding due own_needs
step_refusal n v s b idle e = unfold is_idle in stops_at_9 (size_ok n) (fit_with v s b) _ _
step_refusal n v s b (append es ps) e = under_refusal (need 1 (size_ok n) ∷ need 7 (fit_with v s b) ∷ need 9 _ ∷ []) _ _
    (first_refusal v s (buffered_in b) (append es ps) _ (append_refusal v s (buffered_in b) es ps))
step_refusal n v s b (commit k) e = under_refusal (need 1 (size_ok n) ∷ need 7 (fit_with v s b) ∷ need 9 _ ∷ []) _ _
    (first_refusal v s (buffered_in b) (commit k) _ (commit_refusal v s (buffered_in b) k))
step_refusal n v s b (collect k) e = under_refusal (need 1 (size_ok n) ∷ need 7 (fit_with v s b) ∷ need 9 _ ∷ []) _ _
    (first_refusal v s (buffered_in b) (collect k) _ (collect_refusal v s (buffered_in b) k (live s.index k)))
step_refusal n v s b (format k) e = under_refusal (need 1 (size_ok n) ∷ need 7 (fit_with v s b) ∷ need 9 _ ∷ []) _ _
    (first_refusal v s (buffered_in b) (format k) _ (format_refusal v s (buffered_in b) k))
step_refusal n v s b flush e = under_refusal (need 1 (size_ok n) ∷ need 7 (fit_with v s b) ∷ need 9 _ ∷ []) _ _
    (first_refusal v s (buffered_in b) flush _ (flush_refusal v s (buffered_in b)))
step_refusal n v s b unnamed e = rw (unfit_unnamed v s b e) (stops_at_7 (size_ok n) _ _ _)

-- ---- the dispatcher

thirteen : (cs : List Need) (x : Held) → answers13 (checked cs x) ≡ eqb (refusal_of cs) 13
unfolding answers13 refusal_of under answer_or
thirteen [] x = refl
thirteen (c ∷ cs) x = by_cases c.holds (λ e. rw e (thirteen cs x)) (λ e. rw e)

next_refusal_lem : (n : ℕ) (v : List View) (s : Held) (b ks ws : List ℕ) (read : Bool)
    → refusal_in (next_of n v s b ks ws read) ≡ next_refusal n v s b ks ws read
unfolding next_of next_refusal room_maker append_of naming
next_refusal_lem n v s b ks ws read =
    rw (thirteen (append_needs n v s b ks ws) _)
    (by_cases (eqb (refusal_of (append_needs n v s b ks ws)) 13)
    (λ e. rw e (by_cases (newer v && read) (λ f. rw f (unfold commit_of in same_refusal_in (checked _ _) _ ∙ checked_refusal _ _))
    (λ f. rw f (picked (pick_below v s.head s.index s.head.blocks)))))
    (λ e. rw e (same_refusal_in (checked (append_needs n v s b ks ws) _) _ ∙ checked_refusal _ _)))
  where
    picked : (o : Option ℕ) → refusal_in (collection n v s b o) ≡ collection_refusal n v s b o
    picked None = unfold collection collection_refusal refusal_in and_then answer_or in refl
    picked (Some block) = unfold collection collection_refusal naming collect_of in (same_refusal_in (checked _ _) _ ∙ checked_refusal _ _)

-- ---- all

word_orders : (m : List ℕ) (v : List View) (s : Held) (b : List ℕ) (valve : ℕ) (o : Option ℕ)
    → last_naming valve 0 (changes_of (buffered_in b)) ≡ o → numbers_of (word_needs m v s b valve) ≡ numbers_of
    (need 1 true ∷ need 7 true ∷ (sought_in v s b valve o).needs)
unfolding sought numbers_of
word_orders m v s b valve o e = rw e

-- the numbers of the step's conditions, by what is pending and whether a new head is erased first
module _ (n : ℕ) (v : List View) (s : Held) (b : List ℕ) where
  numbers : (p : Pending) (e : Bool) → s.pending ≡ p → needs_erase v s ≡ e
      → numbers_of (step_needs n v s b) ≡ 1 ∷ 7 ∷ 9 ∷ numbers_of (cond e [] (own_needs v s p))
  unfolding numbers_of
  numbers p e q r =
      ap (λ (x : Pending). 1 ∷ 7 ∷ 9 ∷ numbers_of (cond (needs_erase v s) [] (own_needs v s x))) q
      ∙ ap (λ (x : Bool). 1 ∷ 7 ∷ 9 ∷ numbers_of (cond x [] (own_needs v s p))) r

  -- an operation whose step does not program the page due erases no new head
  no_head : (p : Pending) → s.pending ≡ p → programs_due s.index p ≡ false → needs_erase v s ≡ false
  unfolding needs_erase every
  no_head p q e = let z : programs_due s.index s.pending ≡ false = ap (programs_due s.index) q ∙ e in rw z

  step_orders : StepOrders n v s b
  unfolding numbers_of
  step_orders =
      record {
        first = unfold step_of in step_refusal n v s b s.pending refl;
        none_due = λ q. numbers idle false q (no_head idle q (unfold programs_due in refl)) ∙ (unfold own_needs in refl);
        first_erase = λ e. numbers s.pending true refl e;
        collection_ends = λ block q l. numbers (collect block) false q (no_head (collect block) q (unfold programs_due in rw l))
            ∙ (unfold own_needs in rw l);
        format_erases = λ k q l. numbers (format k) false q (no_head (format k) q (unfold programs_due in refl)) ∙ (unfold own_needs in rw l);
        append_page = λ es ps e q. numbers (append es ps) false q e ∙ (unfold own_needs in refl);
        commit_page_lem = λ k e q. numbers (commit k) false q e ∙ (unfold own_needs in refl);
        flush_page_lem = λ e q. numbers flush false q e ∙ (unfold own_needs in refl);
        moved_page = λ block x xs e q l. numbers (collect block) false q e
            ∙ (unfold own_needs in rw (l, lt-ltb 0 (length (x ∷ xs)) (omega arith)));
        format_page_lem = λ k q l. numbers (format k) false q (no_head (format k) q (unfold programs_due in refl)) ∙ (unfold own_needs in rw l);
      }

-- ---- a log reader made

made_refusal : (m : List ℕ) (a : Answer Recovery) → (start_place m a).number ≡ refusal_in a
unfolding start_place refusal_in and_then answer_or
made_refusal m (refused n) = refl
made_refusal m (gives r) = refl

-- after recovery's conditions the call asks its own two
news_refusal : (filed : Mark) (R : Recovery) (cs : List Need) → (news_after filed (under cs (gives R))).number ≡ refusal_of (cs ++ news_needs filed (mark_of R))
unfolding news_after compared under refusal_of answer_or
news_refusal filed R [] =
    let k = mark_of R in
    by_cases (leb filed.serial k.serial)
    (λ e. by_cases (comes_after filed k) (λ f. rw (e, f) refl) (λ f. rw (e, f) refl))
    (λ e. rw e refl)
news_refusal filed R (c ∷ cs) = by_cases c.holds (λ e. rw e (news_refusal filed R cs)) (λ e. rw e refl)

pub all_ordered : AllInPapersOrder
unfolding AllInPapersOrder numbers_of
all_ordered n v s b lists =
    record {
      begins = λ ks ws block. unfold InPapersOrder in ordered n v s b ks ws block;
      step = step_orders n v s b;
      next = λ ks ws read. next_refusal_lem n v s b ks ws read;
      recovery = record { first = unfold recover in checked_refusal _ _; order = refl };
      reader = λ m. unfold start_of in made_refusal m (recover (length m) (views m));
      log = record {
        first = unfold read_log recover filed_log filed_into log_in in then_refusal (recover_needs n v) _ _ _
            (checked_refusal _ _);
        order = refl;
      };
      span = λ first second. record {
        first = unfold effect_of recover span_effect log_in in then_refusal (recover_needs n v) _ _ _
            (checked_refusal _ _);
        order = refl;
      };
      news = λ filed. unfold recover log_in in news_refusal filed _ (recover_needs n v);
      news_order = λ filed. refl;
      mattered = λ out. record {
        first = unfold read_mattered recover listed_in log_in in then_refusal (recover_needs n v) _ _ _
            (checked_refusal _ _);
        order = refl;
      };
      opening = λ valve. record { first = unfold opening_of in checked_refusal _ _; order = refl };
      settings = record { first = unfold read_settings filed_settings filed_into in under_refusal _ _ _ (checked_refusal _ _); order = refl };
      wanted = λ w. record { first = unfold wanted_of in checked_refusal _ _; order = refl };
      picker = record { first = unfold pick_of in checked_refusal _ _; order = refl };
      survey = record { first = unfold survey_of in checked_refusal _ _; order = refl };
      available = record { first = unfold available_of in checked_refusal _ _; order = refl };
      word = λ m valve. unfold word_refusal in refl;
      word_in_buffer = λ m valve i e. word_orders m v s b valve (Some i) e ∙ (unfold sought_in in refl);
      word_in_medium = λ m valve e. word_orders m v s b valve None e ∙ (unfold sought_in in refl);
    }
