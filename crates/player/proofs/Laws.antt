-- What the calls that are played promise of the world, the lines and the end of a run.
use mathlib.Core.Path.{◌≡◌, refl, sym, ap, ◌∙◌, subst}
use mathlib.Core.Bool.{true, false}
use Rattle.std.proofs.Common.{Option, None, Some, Result, Ok, Err, Bor}
use mathlib.Core.List.{List, [], ◌∷◌}
use Prim.Native.Nat.{ℕ, ◌≤◌}
use native.Mathlib.Omega.{arith}
use lib.Dec.{eqb}
use lib.ListN.{length, take}
use borrow.Author.Tests.{eqb-true, not-true}
use Rattle.lists.specs.Lists.{value_or}
use Rattle.refusal.specs.declared.Refusal.{Refusal}
use Rattle.refusal.specs.Refusal.{number}
use Rattle.lists.specs.Needs.{Answer, refused, gives, answered, and_then}
use Rattle.lists.specs.Cells.{Setting, Place}
use Rattle.lists.proofs.Laws.{by_cases, answered_refused, answered_gives, same_refusal}
use Rattle.page.specs.Pages.{changes_of}
use Rattle.page.specs.Buffer.{empty_buffer}
use Rattle.flash.specs.Medium.{views, most_pages}
use Rattle.nodes.specs.Nodes.{words}
use Rattle.state.specs.declared.State.{State}
use Rattle.state.specs.State.{Held, meaning}
use Rattle.recovery.specs.Recovery.{Recovery, each, log_of, groups, recover as recover_of}
use Rattle.walks.specs.Walks.{logged}
use Rattle.recover.specs.declared.Restored.{Restored}
use Rattle.recover.specs.Recovers.{state_found, Restores}
use Rattle.recover.proofs.Accepted.{accepted, accepted_state, recovered_few}
use Rattle.changes.specs.Changes.{most_kept}
use Rattle.filing.proofs.Laws.{refused_then, log_pages_lem, kept_short}
use Rattle.calls.specs.Calls.{format_of, append_of, commit_of, collect_of, flush_of, zip}
use Rattle.step.specs.Step.{Step}
use Rattle.begin.specs.declared.Begun.{Begun}
use Rattle.begin.specs.Begun as begun
use Rattle.begin.specs.Begun.{Begins}
use Rattle.operations.specs.declared.Stepped.{Stepped}
use Rattle.operations.specs.Answers as outcomes
use Rattle.operations.specs.Answers.{touched_by, done_of, done}
use Rattle.advance.specs.Outcomes.{Steps}
use Rattle.valve_log.specs.History.{Told, began_append, began_commit, began_collect, began_flush}
use Rattle.valve_log.specs.Reached.{World, world, with_state, step_due, called, filled, stepped, recovered, still}
use Rattle.journal.proofs.Chain.{begins, fills, steps, numbered, buffer_numbered, done_is}
use Rattle.trace.specs.Trace.{Recorded}
use Rattle.trace.specs.Calls.{is_cut}
use Rattle.cut_patterns.specs.Struck.{most_bytes}
use Rattle.player.specs.declared.RecordedCall.{RecordedCall}
use Rattle.player.specs.declared.RecordedCall.TheVariants as call
use Rattle.player.specs.declared.Told.TheVariants.{Nothing, Refused, Recovered}
use Rattle.player.specs.declared.Reply.{Reply}
use Rattle.player.specs.Lines.{Line, setting_lines, summary, refusal_lines, recovery_lines}
use Rattle.player.specs.Run as run
use Rattle.player.specs.Run.{with_held, run_goes_on, run_ends_with, played}
use Rattle.player.specs.Played.{LastState, held_by, world_by, settings_in, lines_told, lines_by, FewSet, Plays, recorded_by, call_of, CutFits}
use Rattle.player.specs.Played.{told_by, answered_by, refused_by, restarted_by, Restart, restart, restart_of}

-- ---- replies

-- a world with a state
abbrev pub holds : List ℕ → State → List ℕ → World
holds m s b = world m (Some (meaning s)) b

-- where no cut lost it, the state last handed back is there
pub held_world : (m b : List ℕ) (l : LastState) (s : State) → l ≡ Some s → world_by m l b ≡ holds m s b
unfolding world_by held_by
held_world m b l s q = rw q

pub lost_world : (m b : List ℕ) (l : LastState) → l ≡ None → world_by m l b ≡ world m None b
unfolding world_by held_by
lost_world m b l q = rw q

-- a reply that is no recovery's
pub none_set : (r : Reply) → ((log : ℕ) → r.told ≡ Recovered log → ⊥) → FewSet r
none_set r q = record { most = λ log s h k. absurd (q log h) }

told_none : (n log : ℕ) → told_by n ≡ Recovered log → ⊥
told_none n log h = by_cases (eqb n 0) (λ q. let e : Nothing ≡ Recovered log = rw q at h in cc) (λ q. let e : Refused n ≡ Recovered log = rw q at h in cc)

-- the lines of a reply that is an answer
answer_lines : {A : Type 0} (m : List ℕ) (s : State) (n : ℕ) (x : A) → lines_by m (answered_by n s) ≡ refusal_lines (answered n x)
unfolding lines_told refusal_lines answered
answer_lines m s n x = by_cases (eqb n 0) (λ q. rw q) (λ q. rw q)

-- ---- refusals that change nothing

-- a call that is so answered in a world
module _ (m b : List ℕ) (l : LastState) (c : Recorded) (r : Reply) (n : ℕ) where
  refused_plays : played (world_by m l b) c ≡ run_goes_on (still (world_by m l b)) (Line.refusal n ∷ []) → r ≡ refused_by n false l → Plays (world_by m l b) c r m b
  unfolding lines_told
  refused_plays e f =
      subst (λ (x : Reply). Plays (world_by m l b) c x m b) (sym f)
      (record {
        after = ap (λ (x : run.Turn). x.moment.after) (sym e);
        lines = ap (λ (x : run.Turn). x.lines) (sym e);
        ends = ap (λ (x : run.Turn). x.ends) (sym e);
        few = none_set _ (λ log h. cc);
      })

  pub ended_plays : played (world_by m l b) c ≡ run_ends_with (world_by m l b) n → r ≡ refused_by n true l → Plays (world_by m l b) c r m b
  unfolding lines_told
  ended_plays e f =
      subst (λ (x : Reply). Plays (world_by m l b) c x m b) (sym f)
      (record {
        after = ap (λ (x : run.Turn). x.moment.after) (sym e);
        lines = ap (λ (x : run.Turn). x.lines) (sym e);
        ends = ap (λ (x : run.Turn). x.ends) (sym e);
        few = none_set _ (λ log h. cc);
      })

-- a call without a state
lost_plays : (m b : List ℕ) (l : LastState) (c : Recorded) (r : Reply) → played (world m None b) c ≡ run_goes_on (still (world m None b)) (Line.refusal 9 ∷ [])
    → l ≡ None → r ≡ refused_by 9 false None → Plays (world_by m l b) c r m b
lost_plays m b l c r e q f =
    refused_plays m b l c r 9
    (subst (λ (w : World). played w c ≡ run_goes_on (still w) (Line.refusal 9 ∷ [])) (sym (lost_world m b l q)) e)
    (f ∙ ap (refused_by 9 false) (sym q))

-- and with one
pub held_plays : (m b m' b' : List ℕ) (l : LastState) (s : State) (c : Recorded) (r x : Reply) → Plays (holds m s b) c x m' b' → l ≡ Some s → r ≡ x → Plays (world_by m l b) c r m' b'
held_plays m b m' b' l s c r x p q f =
    subst (λ (w : World). Plays w c r m' b') (sym (held_world m b l s q)) (subst (λ (y : Reply). Plays (holds m s b) c y m' b') (sym f) p)

-- ---- calls that begin an operation

module _ (m b : List ℕ) (s : State) (f : Begun) where
  begun_plays : (c : Recorded) (t : Told) (a : Answer Held) → played (holds m s b) c ≡ run_goes_on (called (holds m s b) t a) (refusal_lines a)
      → Begins s a f → Plays (holds m s b) c (answered_by f.number f.state) m b
  unfolding world_by held_by
  begun_plays c t a e p =
      record {
        after = begins m s b t a f p ∙ ap (λ (x : run.Turn). x.moment.after) (sym e);
        lines = answer_lines m f.state f.number (meaning f.state) ∙ ap refusal_lines p.is ∙ ap (λ (x : run.Turn). x.lines) (sym e);
        ends = ap (λ (x : run.Turn). x.ends) (sym e);
        few = none_set _ (told_none f.number);
      }

-- what is printed of a step
unfoldable lines_done : Option outcomes.Done → List Line
lines_done None = []
lines_done (Some (outcomes.Done.refused x)) = Line.refusal x.number ∷ []
lines_done (Some (outcomes.page p finished after)) = []
lines_done (Some (outcomes.block b finished after)) = []

told_lines_lem : (m : List ℕ) (s : State) (x : Stepped) → lines_by m (answered_by x.number s) ≡ lines_done (done_of x)
unfolding lines_told lines_done done_of touched_by
told_lines_lem m s x =
    by_cases (eqb x.number 0)
    (λ q. by_cases (eqb x.touched 1) (λ k. rw (q, k)) (λ k. by_cases (eqb x.touched 2) (λ j. rw (q, k, j)) (λ j. rw (q, k, j))))
    (λ q. rw q)

due_lines : (s : State) (a : Answer Step) → lines_done (Some (done s a)) ≡ refusal_lines a
unfolding lines_done done refusal_lines
due_lines s (refused n) = refl
due_lines s (gives (Step.program p pg h finished)) = refl
due_lines s (gives (Step.erase c h finished)) = refl

-- ---- the calls of the code

module _ (m b : List ℕ) (l : LastState) (r : Reply) where
  pub append_lost : (ks ws : List ℕ) → l ≡ None → r ≡ refused_by 9 false None → Plays (world_by m l b) (Recorded.append ks ws) r m b
  unfolding played with_held with_state called refusal_lines
  append_lost ks ws = lost_plays m b l (Recorded.append ks ws) r refl

  pub append_held : (ks ws : List ℕ) → (s : State) (f : Begun) → l ≡ Some s → Begins s (append_of (length m) (views m) (meaning s) b ks ws) f → r ≡ answered_by f.number f.state → Plays (world_by m l b) (Recorded.append ks ws) r m b
  unfolding played with_held with_state
  append_held ks ws s f q p e = held_plays m b m b l s (Recorded.append ks ws) r _ (begun_plays m b s f (Recorded.append ks ws) (began_append (zip ks ws)) _ refl p) q e

  pub commit_lost : l ≡ None → r ≡ refused_by 9 false None → Plays (world_by m l b) Recorded.commit r m b
  unfolding played with_held with_state called refusal_lines
  commit_lost = lost_plays m b l Recorded.commit r refl

  pub commit_held : (s : State) (f : Begun) → l ≡ Some s → Begins s (commit_of (length m) (views m) (meaning s) b) f → r ≡ answered_by f.number f.state → Plays (world_by m l b) Recorded.commit r m b
  unfolding played with_held with_state
  commit_held s f q p e = held_plays m b m b l s Recorded.commit r _ (begun_plays m b s f Recorded.commit began_commit _ refl p) q e

  pub collect_lost : (n : ℕ) → l ≡ None → r ≡ refused_by 9 false None → Plays (world_by m l b) (Recorded.collect n) r m b
  unfolding played with_held with_state called refusal_lines
  collect_lost n = lost_plays m b l (Recorded.collect n) r refl

  pub collect_held : (n : ℕ) → (s : State) (f : Begun) → l ≡ Some s → Begins s (collect_of (length m) (views m) (meaning s) b n) f → r ≡ answered_by f.number f.state → Plays (world_by m l b) (Recorded.collect n) r m b
  unfolding played with_held with_state
  collect_held n s f q p e = held_plays m b m b l s (Recorded.collect n) r _ (begun_plays m b s f (Recorded.collect n) began_collect _ refl p) q e

  pub flush_lost : l ≡ None → r ≡ refused_by 9 false None → Plays (world_by m l b) Recorded.flush r m b
  unfolding played with_held with_state called refusal_lines
  flush_lost = lost_plays m b l Recorded.flush r refl

  pub flush_held : (s : State) (f : Begun) → l ≡ Some s → Begins s (flush_of (length m) (views m) (meaning s) b) f → r ≡ answered_by f.number f.state → Plays (world_by m l b) Recorded.flush r m b
  unfolding played with_held with_state
  flush_held s f q p e = held_plays m b m b l s Recorded.flush r _ (begun_plays m b s f Recorded.flush began_flush _ refl p) q e

  -- formatting
  module _ (n : ℕ) (f : Begun) (p : begun.Formats m f) where
    pub format_refused : (f.number ≡ 0 → ⊥) → r ≡ refused_by f.number false l → Plays (world_by m l b) (Recorded.format n) r m b
    unfolding played run.begun_format refusal_lines world_by
    format_refused h e =
        refused_plays m b l (Recorded.format n) r f.number (rw (sym p.is ∙ answered_refused f.number (meaning f.state) h)) e

    pub format_begun : (b' : List ℕ) → f.number ≡ 0 → b' ≡ empty_buffer → r ≡ answered_by f.number f.state → Plays (world_by m l b) (Recorded.format n) r m b'
    unfolding played run.begun_format refusal_lines world_by held_by lines_told
    format_begun b' z y e =
        let a : format_of (length m) ≡ gives (meaning f.state) = sym p.is ∙ answered_gives f.number (meaning f.state) z in
        subst (λ (x : Reply). Plays (world_by m l b) (Recorded.format n) x m b') (sym (e ∙ ap (λ (k : ℕ). answered_by k f.state) z))
        (record { after = rw (a, y); lines = rw a; ends = refl; few = none_set _ (told_none 0) })

  -- a group buffered
  pub buffer_lost : (ks ws : List ℕ) → l ≡ None → r ≡ refused_by 9 false None → Plays (world_by m l b) (Recorded.buffer ks ws) r m b
  unfolding played with_held with_state filled refusal_lines
  buffer_lost ks ws = lost_plays m b l (Recorded.buffer ks ws) r refl

  fill_lines : (s : State) (n : ℕ) (b' : List ℕ) (a : Answer (List ℕ)) → numbered a ≡ true → begun.filled n b' ≡ begun.filled_by b a → lines_by m (answered_by n s) ≡ refusal_lines a
  unfolding lines_told refusal_lines numbered
  fill_lines s n b' (refused k) q e = let z : n ≡ k = ap (λ (x : begun.Filled). x.number) e in rw (z, not-true (eqb k 0) q)
  fill_lines s n b' (gives c) q e = let z : n ≡ 0 = ap (λ (x : begun.Filled). x.number) e in rw z

  pub buffer_held : (ks ws b' : List ℕ) (s : State) (n : ℕ) → l ≡ Some s → begun.Fills m s b ks ws n b' → r ≡ answered_by n s
      → Plays (world_by m l b) (Recorded.buffer ks ws) r m b'
  unfolding world_by held_by played with_held with_state
  buffer_held ks ws b' s n q p e =
      held_plays m b m b' l s (Recorded.buffer ks ws) r (answered_by n s)
      (record {
        after = fills m s b _ _ n b' p;
        lines = fill_lines s n b' _ (buffer_numbered (length m) (views m) (meaning s) b ks ws) p;
        ends = refl;
        few = none_set _ (told_none n);
      })
      q e

  -- a step
  pub step_lost : l ≡ None → r ≡ refused_by 9 false None → Plays (world_by m l b) Recorded.step r m b
  unfolding played with_state step_due stepped refusal_lines
  step_lost = lost_plays m b l Recorded.step r refl

  pub step_held : (m' b' : List ℕ) (s : State) (x : Stepped) → l ≡ Some s → Steps m s b x m' b' → r ≡ answered_by x.number x.state
      → Plays (world_by m l b) Recorded.step r m' b'
  unfolding world_by held_by played with_state step_due
  step_held m' b' s x q p e =
      held_plays m b m' b' l s Recorded.step r (answered_by x.number x.state)
      (record {
        after = steps m m' s b b' _ x p.does p.leaves;
        lines = told_lines_lem m' x.state x ∙ ap lines_done (done_is m m' s _ x p.does) ∙ due_lines s _;
        ends = refl;
        few = none_set _ (told_none x.number);
      })
      q e

-- ---- recovery

some_same : (x y : State) → Some x ≡ Some y → x ≡ y
some_same x y e = cc

given : (x y : Restart) → gives x ≡ gives y → x ≡ y
given x y e = cc

not_given : (n : ℕ) (x : Restart) → refused n ≡ gives x → ⊥
not_given n x e = cc

-- what the recovery of a medium gives a run: how long the log is and the state, or what refuses it
abbrev pub restarts : List ℕ → Answer Restart
restarts m = and_then (recover_of (length m) (views m)) (λ x. gives (restart_of x))

pub recall_refused : (m kept : List ℕ) (r : Result Restored Refusal) (e : Refusal) → Restores m r kept → r ≡ Err e
    → refused (number e) ≡ restarts m
recall_refused m kept r e t q = refused_then (λ x. x.state) _ (number e) (recover_of (length m) (views m)) (rw q at t.is)

module _ (m kept : List ℕ) (x : Restored) (t : Restores m (Ok x) kept) where
  pub recall_log : (n : ℕ) → n ≡ length (logged (each m (take x.done kept))) → gives (restart n (meaning x.state)) ≡ restarts m
  unfolding and_then restart_of
  recall_log n e =
      let y : state_found (length m) (views m) ≡ gives (meaning x.state) = sym t.is in
      let p : n ≡ length (changes_of (log_of (value_or [] (groups (views m))))) = e ∙ ap length (ap logged (t.pages refl) ∙ sym (log_pages_lem (views m))) in
      ap gives (ap (λ (k : ℕ). restart k (meaning x.state)) p ∙ ap (restart _) (accepted_state (length m) (views m) (meaning x.state) y))
      ∙ sym (ap (λ R. and_then R (λ r. gives (restart_of r))) (accepted (length m) (views m) (meaning x.state) y))

  pub restart_few : x.state.index.count ≤ 192
  restart_few = recovered_few m (record { number = 0; state = x.state }) (answered_gives 0 (meaning x.state) refl ∙ t.is) refl

  -- the list of the kept pages, within 16 bits
  pub kept_within : length kept ≡ most_pages → length (take x.done kept) ≤ most_kept
  kept_within e = let k = kept_short m kept x t e in omega arith

-- a recovery played, by what the medium's recovery gives
module _ (m b : List ℕ) (l : LastState) (r : Reply) where
  recovery_ends : (n : ℕ) (R : Answer Recovery) → refused n ≡ and_then R (λ x. gives (restart_of x)) → run.played_recovery (world_by m l b) R ≡ run_ends_with (world_by m l b) n
  unfolding run.played_recovery and_then
  recovery_ends n (refused k) e = rw (same_refusal n k e)
  recovery_ends n (gives x) e = absurd (not_given n (restart_of x) e)

  pub recovery_refused : (n : ℕ) → refused n ≡ restarts m → r ≡ refused_by n true l → Plays (world_by m l b) Recorded.recover r m b
  unfolding played world_by
  recovery_refused n k e = ended_plays m b l Recorded.recover r n (recovery_ends n (recover_of (length m) (views m)) k) e

  module _ (b' : List ℕ) (n : ℕ) (s : State) (few : s.index.count ≤ 192) where
    recovery_goes : (R : Answer Recovery) → gives (restart n (meaning s)) ≡ and_then R (λ r. gives (restart_of r)) → b' ≡ empty_buffer
        → played (world_by m l b) Recorded.recover ≡ run.played_recovery (world_by m l b) R → Plays (world_by m l b) Recorded.recover (restarted_by n s) m b'
    unfolding run.played_recovery and_then recovered recovery_lines summary world_by held_by lines_told settings_in restart_of
    recovery_goes (refused k) e z w = absurd (not_given k (restart n (meaning s)) (sym e))
    recovery_goes (gives y) e z w =
        let g : restart n (meaning s) ≡ restart_of y = given (restart n (meaning s)) (restart_of y) e in
        let set : List Place → List Setting = words (views m) in
        record {
          after =
              ap (λ (u : Restart). world m (Some u.state) b') g ∙ ap (λ (k : List ℕ). world m (Some y.state) k) z
              ∙ ap (λ (t : run.Turn). t.moment.after) (sym w);
          lines =
              ap (λ (u : Restart). Line.log_length u.log ∷ Line.valves_set (length (set u.state.index)) ∷ setting_lines (set u.state.index)) g
              ∙ ap (λ (t : run.Turn). t.lines) (sym w);
          ends = ap (λ (t : run.Turn). t.ends) (sym w);
          few = record { most = λ log u q k. subst (λ (v : State). v.index.count ≤ 192) (some_same s u k) few };
        }

    pub recovery_accepted : gives (restart n (meaning s)) ≡ restarts m → b' ≡ empty_buffer → r ≡ restarted_by n s
        → Plays (world_by m l b) Recorded.recover r m b'
    unfolding played world_by
    recovery_accepted k z e =
        subst (λ (v : Reply). Plays (world_by m l b) Recorded.recover v m b') (sym e) (recovery_goes (recover_of (length m) (views m)) k z refl)

  -- the same of a medium that the code recovered
  pub restored_refused : (kept : List ℕ) (f : Result Restored Refusal) (e : Refusal) (n : ℕ) → Restores m f kept → f ≡ Err e → n ≡ number e → r ≡ refused_by n true l
      → Plays (world_by m l b) Recorded.recover r m b
  restored_refused kept f x n t h k e = recovery_refused n (ap refused k ∙ recall_refused m kept f x t h) e

  module _ (b' kept : List ℕ) (f : Result Restored Refusal) (p : Restores m f kept) (x : Restored) (h : f ≡ Ok x) (n : ℕ)
      (c : n ≡ length (logged (each m (take x.done kept)))) where
    restored_ok : Restores m (Ok x) kept
    restored_ok = subst (λ (v : Result Restored Refusal). Restores m v kept) h p

    pub restored_accepted : b' ≡ empty_buffer → r ≡ restarted_by n x.state → Plays (world_by m l b) Recorded.recover r m b'
    restored_accepted z e =
        recovery_accepted b' n x.state (restart_few m kept x restored_ok) (recall_log m kept x restored_ok n c) z e

-- a medium on which a cut is played
pub cut_small : (c : RecordedCall) (n : ℕ) (pattern : Bor (List ℕ)) (m : List ℕ) → c ≡ call.Cut n pattern → CutFits c m → length m ≤ most_bytes
cut_small c n pattern m e h = rw e at h

-- ---- a call by its code

-- it is a cut where its code is that of one
cut_of : (code n : ℕ) (ks ws pattern : List ℕ) → is_cut (call_of code n ks ws pattern) ≡ eqb code 6
unfolding call_of is_cut
cut_of code n ks ws pattern =
    by_cases (eqb code 1) (λ q. rw (eqb-true code 1 q) refl) (λ q1. rw q1
    (by_cases (eqb code 2) (λ q. rw (eqb-true code 2 q) refl) (λ q2. rw q2
    (by_cases (eqb code 3) (λ q. rw (eqb-true code 3 q) refl) (λ q3. rw q3
    (by_cases (eqb code 4) (λ q. rw (eqb-true code 4 q) refl) (λ q4. rw q4
    (by_cases (eqb code 5) (λ q. rw (eqb-true code 5 q) refl) (λ q5. rw q5
    (by_cases (eqb code 6) (λ q. rw q refl) (λ q6. rw q6
    (by_cases (eqb code 7) (λ q. rw q refl) (λ q7. rw q7
    (by_cases (eqb code 8) (λ q. rw q refl) (λ q8. rw q8 refl)))))))))))))))

-- a medium on which it is played
pub code_fits : (c : RecordedCall) (code n : ℕ) (ks ws pattern m : List ℕ) → recorded_by c ≡ call_of code n ks ws pattern
    → (code ≡ 6 → length m ≤ most_bytes) → CutFits c m
unfolding is_cut
code_fits (call.Format x) code n ks ws pattern m e h = tt
code_fits (call.Append x y) code n ks ws pattern m e h = tt
code_fits call.Commit code n ks ws pattern m e h = tt
code_fits (call.Collect x) code n ks ws pattern m e h = tt
code_fits call.Step code n ks ws pattern m e h = tt
code_fits (call.Cut name p) code n ks ws pattern m e h =
    h (eqb-true code 6 (sym (cut_of code n ks ws pattern) ∙ sym (ap is_cut e)))
code_fits call.Recover code n ks ws pattern m e h = tt
code_fits (call.Buffer x y) code n ks ws pattern m e h = tt
code_fits call.Flush code n ks ws pattern m e h = tt

-- and what is played of it
pub code_plays : (w : World) (c : RecordedCall) (d : Recorded) (r : Reply) (m b : List ℕ) → recorded_by c ≡ d
    → Plays w (recorded_by c) r m b → Plays w d r m b
code_plays w c d r m b e p = subst (λ (x : Recorded). Plays w x r m b) e p
