-- The chain from the promises of the code to point 3: the machine moves exactly as the world of the theorem does, so each run of the code is
-- one of the theorem's lists, and what the theorem says of recovery is what the program is handed.
use mathlib.Core.Path.{◌≡◌, refl, sym, ap, ap₂, ◌∙◌, subst}
use mathlib.Core.Bool.{Bool, true, false, not}
use Rattle.std.proofs.Common.{Option, None, Some}
use mathlib.Core.List.{List, [], ◌∷◌}
use Prim.Native.Nat.{ℕ}
use native.Mathlib.Omega.{arith}
use lib.Dec.{ltb, eqb}
use lib.ListN.{length}
use borrow.Author.Tests.{eqb-true, eq-eqb, not-true}
use Rattle.lists.specs.declared.Cell.{Cell}
use Rattle.lists.specs.Lists.{all, is_some, value_or}
use Rattle.lists.specs.Needs.{Answer, refused, gives, answered, and_then, Need, under}
use Rattle.lists.specs.Cells.{cell, Entry}
use Rattle.lists.proofs.Laws.{by_cases, true_false, and_both, all_head, all_tail, answered_gives, gave_number, gave_value, refused_with}
use Rattle.page.specs.Pages.{View}
use Rattle.flash.specs.Medium.{views}
use Rattle.index.specs.Index.{lookup}
use Rattle.blocks.specs.Blocks.{size_ok}
use Rattle.nodes.specs.Nodes.{word_at, sound, words}
use Rattle.state.specs.declared.State.{State}
use Rattle.state.specs.State.{Held, meaning, fit}
use Rattle.recovery.specs.Recovery.{Recovery, recovery_with, recover as recover_of}
use Rattle.recover.specs.declared.Recovered.{Recovered}
use Rattle.recover.specs.Recovers.{Recovers}
use Rattle.readings.specs.Readings.{filed_log, read_log, filed_settings, read_settings, opening_of, pick_of}
use Rattle.filing.specs.Filed.{leaving}
use Rattle.read.specs.Answers.{opened, word_or6}
use Rattle.calls.specs.Calls.{format_of, buffer_needs, buffer_of}
use Rattle.step.specs.Step.{Step, medium_after, buffer_after}
use Rattle.begin.specs.declared.Begun.{Begun}
use Rattle.begin.specs.Begun as begun
use Rattle.operations.specs.declared.Stepped.{Stepped}
use Rattle.operations.specs.Answers as outcomes
use Rattle.operations.specs.Answers.{Outcome, touched_by, done_of, outcome, done, performed}
use Rattle.valve_log.specs.History.{History, start as no_history, Told, unchanged, stepped_page, stepped_block, tell}
use Rattle.valve_log.specs.Reached as reached
use Rattle.valve_log.specs.Reached.{World, world, with_state, step_due, Event, fresh, lent_anew, called, filled, stepped, recovered, cut_short}
use Rattle.valve_log.specs.Reached.{happen, accepted, finishes, meanwhile, Words, end, more, Shows, Point3}
use Rattle.valve_log.specs.Steady.{Steady, Answers}
use Rattle.valve_log.proofs.Point3.{point3, words_are}
use Rattle.valve_log.proofs.Steady.{steady}
use Rattle.journal.specs.Run.{Machine, meant, world_of, going_on, lent_on, Moves, begun_by, stepped_by, recovered_by, told_by, says_finished}
use Rattle.journal.specs.Run.{finished_by, meanwhile_by, Formatting, Run, opening_in, Handed, Point3OfCode}

-- ---- one event

-- a number that is none
pub none_such : {P : Type 0} (n : ℕ) → eqb n 0 ≡ false → n ≡ 0 → P
none_such n q z = true_false (eq-eqb n 0 z) q

-- a call that begins an operation
pub begins : (m : List ℕ) (s : State) (b : List ℕ) (t : Told) (c : Answer Held) (r : Begun) → begun.Begins s c r
    → world m (Some (meaning r.state)) b ≡ (called (world m (Some (meaning s)) b) t c).after
unfolding called
begins m s b t (refused n) r p = ap (λ (x : State). world m (Some (meaning x)) b) (p.back (none_such r.number (refused_with r.number (meaning r.state) n p.is)))
begins m s b t (gives h) r p = ap (λ (x : Held). world m (Some x) b) (gave_value r.number (meaning r.state) h p.is)

-- a group put into the buffer
pub fills : (m : List ℕ) (s : State) (b : List ℕ) (t : Told) (c : Answer (List ℕ)) (r : ℕ) (b' : List ℕ) → begun.filled r b' ≡ begun.filled_by b c
    → world m (Some (meaning s)) b' ≡ (filled (world m (Some (meaning s)) b) t c).after
unfolding filled
fills m s b t (refused n) r b' e = ap (λ (x : begun.Filled). world m (Some (meaning s)) x.buffer) e
fills m s b t (gives c) r b' e = ap (λ (x : begun.Filled). world m (Some (meaning s)) x.buffer) e

-- what the state holds after what a step's answer says
unfoldable held_after : Held → Option outcomes.Done → Held
held_after h None = h
held_after h (Some (outcomes.Done.refused x)) = meaning x.state
held_after h (Some (outcomes.page p finished after)) = after
held_after h (Some (outcomes.block b finished after)) = after

-- an answer that says something says what the state handed back holds
said : (h : Held) (r : Stepped) (d : outcomes.Done) → done_of r ≡ Some d → held_after h (done_of r) ≡ meaning r.state
unfolding done_of touched_by held_after
said h r d e =
    by_cases (eqb r.number 0)
    (λ q. by_cases (eqb r.touched 1) (λ k. rw (q, k))
    (λ k. by_cases (eqb r.touched 2) (λ l. rw (q, k, l))
    (λ l. let y = rw (q, k, l) at e in let z : ◌≡◌ {A = ℕ} 0 1 = cc in absurd (omega arith))))
    (λ q. rw q)

-- a step leaves what its definition says
left : (m : List ℕ) (s : State) (b : List ℕ) (t : Answer Step)
    → world (medium_after m t) (Some (held_after (meaning s) (Some (done s t)))) (buffer_after b t) ≡ (stepped (world m (Some (meaning s)) b) t).after
unfolding stepped done medium_after buffer_after held_after
left m s b (refused n) = refl
left m s b (gives (Step.program p pg x finished)) = refl
left m s b (gives (Step.erase c x finished)) = refl

pub steps : (m m' : List ℕ) (s : State) (b b' : List ℕ) (t : Answer Step) (r : Stepped) → outcome r m' ≡ performed m s t → b' ≡ buffer_after b t
    → world m' (Some (meaning r.state)) b' ≡ (stepped (world m (Some (meaning s)) b) t).after
unfolding performed
steps m m' s b b' t r e f =
    let d : done_of r ≡ Some (done s t) = ap (λ (o : Outcome). o.done) e in
    let y : m' ≡ medium_after m t = ap (λ (o : Outcome). o.medium) e in
    let z : meaning r.state ≡ held_after (meaning s) (Some (done s t)) = sym (said (meaning s) r (done s t) d) ∙ ap (held_after (meaning s)) d in
    ap (λ (l : List ℕ). world l (Some (meaning r.state)) b') y ∙ ap (λ (x : Held). world (medium_after m t) (Some x) b') z
    ∙ ap (λ (l : List ℕ). world (medium_after m t) (Some (held_after (meaning s) (Some (done s t)))) l) f ∙ left m s b t

-- a recovery
recovers : (m : List ℕ) (s : Option State) (b : List ℕ) (R : Answer Recovery) (r : Recovered) → answered r.number (meaning r.state) ≡ and_then R (λ x. gives x.state)
    → world m (meant (going_on r s)) (lent_on r b) ≡ (recovered (world m (meant s) b) R).after
unfolding recovered and_then going_on lent_on meant
recovers m s b (refused n) r e = rw (refused_with r.number (meaning r.state) n e)
recovers m s b (gives x) r e = rw (eq-eqb r.number 0 (gave_number r.number (meaning r.state) x.state e), gave_value r.number (meaning r.state) x.state e)

-- a cut inside a step
cuts : (w : World) (left : List ℕ) (t : Answer Step) → reached.CutOf w.medium t left → world left None fresh ≡ (cut_short w left t).after
unfolding cut_short reached.CutOf
cuts w left (refused n) a = absurd a
cuts w left (gives (Step.program p pg after finished)) a = refl
cuts w left (gives (Step.erase b after finished)) a = refl

-- the machine moves as the world does
pub moves : (x y : Machine) (e : Event (world_of x)) → Moves x e y → world_of y ≡ (happen (world_of x) e).after
unfolding happen with_state meant step_due
moves x y e (Moves.append m s b ks ws narrow small r p) = begins m s b _ _ r p
moves x y e (Moves.commit m s b r p) = begins m s b _ _ r p
moves x y e (Moves.collect m s b k r p) = begins m s b _ _ r p
moves x y e (Moves.buffer m s b ks ws narrow small r b' p) = fills m s b _ _ r b' p
moves x y e (Moves.flush m s b r p) = begins m s b _ _ r p
moves x y e (Moves.step m m' s b b' r p) = steps m m' s b b' _ r p.does p.leaves
moves x y e (Moves.recover m s b r p) = recovers m s b _ r p
moves x y e (Moves.read z) = refl
moves x y e (Moves.cut m s b) = refl
moves x y e (Moves.cut_inside m left s b allowed) = cuts (world m (Some (meaning s)) b) left _ allowed

-- ---- what the answers say

-- a refusal of the buffer's call has a number
unfoldable pub numbered : Answer (List ℕ) → Bool
numbered (refused n) = not (eqb n 0)
numbered (gives b) = true

all_numbered : (cs : List Need) (c : Answer (List ℕ)) → numbered c ≡ true → all (λ x. not (eqb x.number 0)) cs ≡ true → numbered (under cs c) ≡ true
unfolding under
all_numbered [] c k a = k
all_numbered (x ∷ xs) c k a =
    by_cases x.holds (λ q. rw q (all_numbered xs c k (all_tail (λ (y : Need). not (eqb y.number 0)) x xs a)))
    (λ q. rw q (unfold numbered in all_head (λ (y : Need). not (eqb y.number 0)) x xs a))

pub buffer_numbered : (n : ℕ) (v : List View) (s : Held) (b ks ws : List ℕ) → numbered (buffer_of n v s b ks ws) ≡ true
unfolding buffer_of
buffer_numbered n v s b ks ws = all_numbered (buffer_needs n v s b ks ws) _ (unfold numbered in refl) (unfold all in refl)

-- what a call that begins an operation says
begins_told : (w : World) (s : State) (t : Told) (c : Answer Held) (r : Begun) → begun.Begins s c r → begun_by r.number t ≡ (called w t c).told
unfolding called begun_by
begins_told w s t (refused n) r p = rw (refused_with r.number (meaning r.state) n p.is)
begins_told w s t (gives h) r p = rw (eq-eqb r.number 0 (gave_number r.number (meaning r.state) h p.is))

-- what a call that puts a group into the buffer says: a refusal's number is not 0
fills_told : (w : World) (b : List ℕ) (t : Told) (c : Answer (List ℕ)) (r : ℕ) (b' : List ℕ) → numbered c ≡ true → begun.filled r b' ≡ begun.filled_by b c → begun_by r t ≡ (filled w t c).told
unfolding filled begun_by numbered
fills_told w b t (refused n) r b' k e = let z : r ≡ n = ap (λ (x : begun.Filled). x.number) e in rw (z, not-true (eqb n 0) k)
fills_told w b t (gives c) r b' k e = let z : r ≡ 0 = ap (λ (x : begun.Filled). x.number) e in rw z

-- what a step's answer says, of what was touched and whether it finished
unfoldable told_done : Option outcomes.Done → Told
told_done None = unchanged
told_done (Some (outcomes.Done.refused x)) = unchanged
told_done (Some (outcomes.page p finished after)) = stepped_page
told_done (Some (outcomes.block b finished after)) = stepped_block

unfoldable finished_done : Option outcomes.Done → Bool
finished_done None = false
finished_done (Some (outcomes.Done.refused x)) = false
finished_done (Some (outcomes.page p finished after)) = finished
finished_done (Some (outcomes.block b finished after)) = finished

module _ (r : Stepped) where
  done_told : stepped_by r ≡ told_done (done_of r)
  unfolding stepped_by told_done done_of touched_by
  done_told =
      by_cases (eqb r.number 0)
      (λ q. by_cases (eqb r.touched 1) (λ k. rw (q, k)) (λ k. by_cases (eqb r.touched 2) (λ l. rw (q, k, l)) (λ l. rw (q, k, l))))
      (λ q. rw q)

  done_finished : (d : outcomes.Done) → done_of r ≡ Some d → says_finished r ≡ finished_done (done_of r)
  unfolding says_finished finished_done done_of touched_by
  done_finished d e =
      by_cases (eqb r.number 0)
      (λ q. by_cases (eqb r.touched 1) (λ k. rw (q, k))
      (λ k. by_cases (eqb r.touched 2) (λ l. rw (q, k, l))
      (λ l. let y = rw (q, k, l) at e in let z : ◌≡◌ {A = ℕ} 0 1 = cc in absurd (omega arith))))
      (λ q. rw q)

due_told : (w : World) (s : State) (t : Answer Step) → told_done (Some (done s t)) ≡ (stepped w t).told
unfolding stepped done told_done
due_told w s (refused n) = refl
due_told w s (gives (Step.program p pg x finished)) = refl
due_told w s (gives (Step.erase b x finished)) = refl

due_finished : (s : State) (t : Answer Step) → finished_done (Some (done s t)) ≡ finishes t
unfolding finishes done finished_done
due_finished s (refused n) = refl
due_finished s (gives (Step.program p pg x finished)) = refl
due_finished s (gives (Step.erase b x finished)) = refl

module _ (m m' : List ℕ) (s : State) (t : Answer Step) (r : Stepped) (e : outcome r m' ≡ performed m s t) where
  pub done_is : done_of r ≡ Some (done s t)
  unfolding performed
  done_is = ap (λ (o : Outcome). o.done) e

  steps_told : (w : World) → stepped_by r ≡ (stepped w t).told
  steps_told w = done_told r ∙ ap told_done done_is ∙ due_told w s t

  steps_finished : says_finished r ≡ finishes t
  steps_finished = done_finished r (done s t) done_is ∙ ap finished_done done_is ∙ due_finished s t

-- what a recovery says
recovers_accepted : (R : Answer Recovery) (r : Recovered) → answered r.number (meaning r.state) ≡ and_then R (λ x. gives x.state) → eqb r.number 0 ≡ accepted R
unfolding accepted and_then
recovers_accepted (refused n) r e = refused_with r.number (meaning r.state) n e
recovers_accepted (gives x) r e = eq-eqb r.number 0 (gave_number r.number (meaning r.state) x.state e)

recovers_told : (w : World) (R : Answer Recovery) (r : Recovered) → answered r.number (meaning r.state) ≡ and_then R (λ x. gives x.state) → recovered_by r ≡ (recovered w R).told
unfolding recovered recovered_by accepted
recovers_told w (refused n) r e = rw (recovers_accepted (refused n) r e)
recovers_told w (gives x) r e = rw (recovers_accepted (gives x) r e)

-- what the history is told by the answers is what it is told by the definitions
pub answers_told : (x y : Machine) (e : Event (world_of x)) (v : Moves x e y) → told_by x y e v ≡ (happen (world_of x) e).told
unfolding happen with_state meant step_due told_by
answers_told x y e (Moves.append m s b ks ws narrow small r p) = begins_told _ s _ _ r p
answers_told x y e (Moves.commit m s b r p) = begins_told _ s _ _ r p
answers_told x y e (Moves.collect m s b k r p) = begins_told _ s _ _ r p
answers_told x y e (Moves.buffer m s b ks ws narrow small r b' p) = fills_told _ b _ _ r b' (buffer_numbered (length m) (views m) (meaning s) b ks ws) p
answers_told x y e (Moves.flush m s b r p) = begins_told _ s _ _ r p
answers_told x y e (Moves.step m m' s b b' r p) = steps_told m m' s _ r p.does _
answers_told x y e (Moves.recover m s b r p) = recovers_told _ _ r p
answers_told x y e (Moves.read z) = refl
answers_told x y e (Moves.cut m s b) = refl
answers_told x y e (Moves.cut_inside m left s b allowed) = refl

-- and so for what may stand in formatting, and for the step that finishes it
pub answers_meanwhile : (x y : Machine) (e : Event (world_of x)) (v : Moves x e y) → meanwhile_by x y e v ≡ meanwhile (world_of x) e
unfolding meanwhile with_state meant step_due meanwhile_by
answers_meanwhile x y e (Moves.append m s b ks ws narrow small r p) = refl
answers_meanwhile x y e (Moves.commit m s b r p) = refl
answers_meanwhile x y e (Moves.collect m s b k r p) = refl
answers_meanwhile x y e (Moves.buffer m s b ks ws narrow small r b' p) = refl
answers_meanwhile x y e (Moves.flush m s b r p) = refl
answers_meanwhile x y e (Moves.step m m' s b b' r p) = ap not (steps_finished m m' s _ r p.does)
answers_meanwhile x y e (Moves.recover m s b r p) = ap not (recovers_accepted _ r p)
answers_meanwhile x y e (Moves.read z) = refl
answers_meanwhile x y e (Moves.cut m s b) = refl
answers_meanwhile x y e (Moves.cut_inside m left s b allowed) = refl

pub answers_finished : (x y : Machine) (v : Moves x Event.step y) → finished_by x y v ≡ finishes (step_due (world_of x))
unfolding with_state meant step_due finished_by
answers_finished x y (Moves.step m m' s b b' r p) = steps_finished m m' s _ r p.does

-- ---- lists of events

pub formats : (m : List ℕ) (r : Begun) → begun.Formats m r → r.number ≡ 0 → format_of (length m) ≡ gives (meaning r.state)
formats m r e q = sym e.is ∙ answered_gives r.number (meaning r.state) q

-- what the world comes to, the machine comes to
there : (P : World → Type 0) (x y : Machine) (e : Event (world_of x)) → Moves x e y → P (happen (world_of x) e).after → P (world_of y)
there P x y e v p = subst P (sym (moves x y e v)) p

pub formatting : (x : Machine) → Formatting x → reached.Formatting (world_of x)
unfolding meant
formatting x (Formatting.begun m r bs b f q) = reached.begun m (meaning r.state) bs b (formats m r f q)
formatting x (Formatting.next z y e f v ok) =
    there reached.Formatting z y e v (reached.next (world_of z) e (formatting z f) (sym (answers_meanwhile z y e v) ∙ ok))

pub runs : (x : Machine) (h : History) → Run x h → reached.Reached (world_of x) h
runs x h (Run.start z y f v last) =
    there (λ w. reached.Reached (lent_anew w) no_history) z y Event.step v (reached.start (world_of z) (formatting z f) (sym (answers_finished z y v) ∙ last))
runs x h (Run.next z y k e r v) =
    subst (λ t. reached.Reached (world_of y) (tell k t)) (sym (answers_told z y e v))
    (there (λ w. reached.Reached w (tell k (happen (world_of z) e).told)) z y e v (reached.next (world_of z) k e (runs z k r)))
runs x h (Run.taken_over b) = unfold meant in reached.taken_over b

-- ---- what the program is handed

-- a reached medium and the state recovered from it pass 1 and 7
module _ (m : List ℕ) (s : Held) (bs : List ℕ) (a : Answers m s bs) where
  size_met : size_ok (length m) ≡ true
  unfolding pick_of under
  size_met = by_cases (size_ok (length m)) (λ q. q) (λ q. absurd (a.pick 1 (rw q)))

  fit_met : fit (views m) s ≡ true
  unfolding pick_of under
  fit_met = by_cases (fit (views m) s) (λ q. q) (λ q. absurd (a.pick 7 (rw (size_met, q))))

-- the opening of a valve whose place of the index is given
unfoldable open_at : List View → ℕ → Option ℕ → Answer ℕ
open_at v valve None = refused 18
open_at v valve (Some a) = word_or6 (word_at v (cell valve a))

opens : (n : ℕ) (v : List View) (s : Held) (valve : ℕ) (o : Option ℕ) (w : Option ℕ) → size_ok n ≡ true → fit v s ≡ true → lookup valve s.index ≡ o → word_at v (cell valve (value_or 0 o)) ≡ w
    → opening_of n v s valve ≡ open_at v valve o
unfolding opening_of under open_at word_or6 is_some value_or
opens n v s valve None w z f e q = rw (z, f, e)
opens n v s valve (Some a) None z f e q = rw (z, f, e, q)
opens n v s valve (Some a) (Some x) z f e q = rw (z, f, e, q)

-- place by place the index opens as the settings have it
words_open : (v : List View) (valve : ℕ) {index settings : List Cell} → Words v index settings → open_at v valve (lookup valve index) ≡ opening_in (lookup valve settings)
unfolding lookup open_at opening_in word_or6
words_open v valve end = refl
words_open v valve (more {k} {a} {w} {index} {settings} q t) =
    by_cases (ltb valve k) (λ e. rw e)
    (λ e. by_cases (eqb valve k)
    (λ f. let z : word_at v (cell valve a) ≡ Some w = rw (eqb-true valve k f) q in rw (e, f, z))
    (λ f. rw (e, f) (words_open v valve t)))

-- recovery's answer where the definition accepts
module _ (m : List ℕ) (log : List (List Entry)) (s : Held) (a : recover_of (length m) (views m) ≡ gives (recovery_with log s)) (r : Recovered) (p : Recovers m r) where
  says : answered r.number (meaning r.state) ≡ gives s
  unfolding and_then
  says = p ∙ ap (λ R. and_then R (λ x. gives x.state)) a

  found_number : r.number ≡ 0
  found_number = gave_number r.number (meaning r.state) s says

  pub found_state : meaning r.state ≡ s
  found_state = gave_value r.number (meaning r.state) s says

-- place by place an index that has these words is sound
words_sound : (v : List View) {index settings : List Cell} → Words v index settings → sound v index ≡ true
unfolding sound all
words_sound v end = refl
words_sound v (more {k} {a} q t) = and_both (ap is_some q ∙ (unfold is_some in refl)) (words_sound v t)

-- a medium that shows a history, and the state recovered from it passes 1 and 7
module _ (m : List ℕ) (h : History) (S : Shows m h) (size : size_ok (length m) ≡ true) (fits : fit (views m) S.state ≡ true) where
  log_shown : (lists : List (List ℕ)) → read_log (length m) (views m) lists ≡ filed_log lists h.log
  unfolding read_log and_then
  log_shown lists = ap (λ R. and_then R (λ r. filed_log lists r.log)) S.accepts ∙ ap (filed_log lists) S.same_log

  valve_shown : (valve : ℕ) → opening_of (length m) (views m) S.state valve ≡ opening_in (lookup valve h.settings)
  valve_shown valve = opens (length m) (views m) S.state valve (lookup valve S.state.index) _ size fits refl refl ∙ words_open (views m) valve S.same_settings

  list_shown : (lists : List (List ℕ)) → read_settings (length m) (views m) S.state lists ≡ filed_settings lists h.settings
  unfolding read_settings under
  list_shown lists = rw (size, fits, words_sound (views m) S.same_settings, words_are (views m) S.same_settings)

  pub handed : Handed m h
  handed =
      record {
        accepted = found_number m S.log S.state S.accepts;
        log = λ ks ws ns ks' ws' ns' a p. p ∙ ap (leaving (ks ∷ ws ∷ ns ∷ [])) (log_shown (ks ∷ ws ∷ ns ∷ []));
        settings = λ r p. subst (λ l. Words (views m) l h.settings) (sym (ap (λ (x : Held). x.index) (state_is r p))) S.same_settings;
        opening = λ r valve a p q. q ∙ ap opened (ap (λ (x : Held). opening_of (length m) (views m) x valve) (state_is r p) ∙ valve_shown valve);
        list = λ r valves ws valves' ws' a p q. q ∙ ap (leaving (valves ∷ ws ∷ [])) (list_is r p (valves ∷ ws ∷ []));
      }
    where
      state_is : (r : Recovered) → Recovers m r → meaning r.state ≡ S.state
      state_is r p = found_state m S.log S.state S.accepts r p

      list_is : (r : Recovered) → Recovers m r → (lists : List (List ℕ)) → read_settings (length m) (views m) (meaning r.state) lists ≡ filed_settings lists h.settings
      list_is r p lists = ap (λ (x : Held). read_settings (length m) (views m) x lists) (state_is r p) ∙ list_shown lists

-- so is one that a list reaches
module _ (w : World) (h : History) (R : reached.Reached w h) (S : Shows w.medium h) where
  -- the list with this recovery is one more
  after : (happen w Event.recover).after ≡ world w.medium (Some S.state) fresh
  unfolding happen recovered
  after = ap (λ (t : Answer Recovery). (recovered w t).after) S.accepts

  answers : Answers w.medium S.state fresh
  unfolding Steady
  answers =
      steady (world w.medium (Some S.state) fresh) (tell h (happen w Event.recover).told) S.state
      (subst (λ x. reached.Reached x (tell h (happen w Event.recover).told)) after (reached.next w h Event.recover R)) refl

  pub size_reached : size_ok (length w.medium) ≡ true
  size_reached = size_met w.medium S.state fresh answers

  pub fit_reached : fit (views w.medium) S.state ≡ true
  fit_reached = fit_met w.medium S.state fresh answers

-- Point 3, of the code.
pub point3_of_code : Point3OfCode
unfolding Point3OfCode Point3
point3_of_code x h r =
    let R = runs x h r in
    let S = point3 (world_of x) h R in
    handed x.medium h S (size_reached (world_of x) h R S) (fit_reached (world_of x) h R S)
