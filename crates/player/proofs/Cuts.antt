-- A recorded cut: the step due found on a copy of the medium, and the cut played.
use mathlib.Core.Path.{◌≡◌, refl, sym, ap, ◌∙◌, subst}
use mathlib.Core.Bool.{Bool, true, false, not, cond}
use Rattle.std.proofs.Common.{Option, None, Some}
use mathlib.Core.List.{List, []}
use Prim.Native.Nat.{ℕ, ◌+◌, ◌-◌, ◌*◌, ◌≤◌, ◌<◌}
use native.Mathlib.Nat.{zero-add}
use native.Mathlib.Omega.{arith}
use lib.Dec.{eqb}
use lib.ListN.{length, take, set}
use lib.Seq.{length-take-le}
use borrow.Author.Tests.{eqb-true, ne_eqb, not-true, not-false}
use Rattle.lists.specs.Needs.{Answer, refused, gives}
use Rattle.lists.proofs.Laws.{by_cases, true_false}
use Rattle.codec.specs.Codec.{put_at, blank}
use Rattle.codec.proofs.Put.{Putting, put_start, blank_next, blank_end, length_blank}
use Rattle.flash.specs.Medium.{views}
use Rattle.page.specs.Buffer.{buffer_bytes, empty_buffer}
use Rattle.state.specs.declared.State.{State}
use Rattle.state.specs.State.{meaning}
use Rattle.step.specs.Step.{Step, program, erase, step_of, medium_after}
use Rattle.operations.specs.declared.Stepped.{Stepped}
use Rattle.operations.specs.Answers as outcomes
use Rattle.operations.specs.Answers.{Outcome, touched_by, done_of, done, outcome, performed}
use Rattle.advance.specs.Outcomes.{Performs, Steps}
use Rattle.journal.proofs.Chain.{done_is}
use Rattle.valve_log.specs.Reached.{World, world, with_state, step_due, cut_short, fresh}
use Rattle.trace.specs.Trace.{Recorded}
use Rattle.player.specs.declared.Told.TheVariants.{Nothing}
use Rattle.player.specs.declared.Reply.{Reply}
use Rattle.cut_patterns.specs.Cuts.{raised_at, left_by_cut}
use Rattle.cut_patterns.specs.Struck.{most_bytes, Struck, struck, struck_after}
use Rattle.cut_patterns.proofs.Cuts.{put_all}
use Rattle.player.specs.Run as run
use Rattle.player.specs.Run.{run_goes_on, run_ends_with, name_of, played_cut, played}
use Rattle.player.specs.Played.{LastState, world_by, held_by, lines_told, Plays, refused_by, lost_by, struck_by}
use Rattle.player.proofs.Laws.{none_set, held_world, lost_world, ended_plays, held_plays, holds}

-- ---- what a cut leaves

-- by what the answer of a step says
unfoldable struck_done : List ℕ → List ℕ → ℕ → List ℕ → Option outcomes.Done → Struck
struck_done m copy name pattern None = struck false m
struck_done m copy name pattern (Some (outcomes.Done.refused x)) = struck false m
struck_done m copy name pattern (Some (outcomes.page p finished after)) = cond (eqb name p) (struck true (raised_at copy (256 * p) pattern)) (struck false m)
struck_done m copy name pattern (Some (outcomes.block b finished after)) = cond (eqb name (256 + b)) (struck true (raised_at m (4096 * b) pattern)) (struck false m)

module _ (m copy : List ℕ) (name : ℕ) (pattern : List ℕ) where
  after_done : (x : Stepped) (d : outcomes.Done) → done_of x ≡ Some d → struck_after m copy x.number x.touched x.at name pattern ≡ struck_done m copy name pattern (done_of x)
  unfolding struck_after struck_done done_of touched_by
  after_done x d e =
      by_cases (eqb x.number 0)
      (λ q. by_cases (eqb x.touched 1)
      (λ k. let t : x.touched ≡ 1 = eqb-true x.touched 1 k in let j : eqb x.touched 2 ≡ false = ne_eqb x.touched 2 (λ u. omega arith) in rw (q, k, j))
      (λ k. by_cases (eqb x.touched 2) (λ j. rw (q, k, j))
      (λ j. let y = rw (q, k, j) at e in let z : ◌≡◌ {A = ℕ} 0 1 = cc in absurd (omega arith))))
      (λ q. rw q)

  -- and by the definitions' step
  due_struck : (s : State) (a : Answer Step) → copy ≡ medium_after m a → struck_done m copy name pattern (Some (done s a)) ≡ struck_by m name pattern a
  unfolding struck_done struck_by done medium_after name_of left_by_cut
  due_struck s (refused n) e = refl
  due_struck s (gives (program p pg h finished)) e = rw e
  due_struck s (gives (erase b h finished)) e = refl

  after_is : (s : State) (x : Stepped) (a : Answer Step) → outcome x copy ≡ performed m s a → struck_after m copy x.number x.touched x.at name pattern ≡ struck_by m name pattern a
  unfolding performed
  after_is s x a e =
      let d = done_is m copy s a x e in
      after_done x (done s a) d ∙ ap (struck_done m copy name pattern) d ∙ due_struck s a (ap (λ (o : Outcome). o.medium) e)

-- ---- the step on a copy

-- a buffer copied
pub rehearse_is : (m m' b lent lent' : List ℕ) (s : State) (r : Stepped) → lent ≡ b → Steps m s lent r m' lent' → Performs m s b r m'
rehearse_is m m' b lent lent' s r q p = p.does ∙ ap (λ (x : List ℕ). performed m s (step_of (length m) (views m) (meaning s) x)) q

-- a medium copied
pub room_long : (z m : List ℕ) → length z ≡ most_bytes → length m ≤ most_bytes → length m ≡ length (take (length m) z)
room_long z m e h = sym (length-take-le (length m) z (omega arith))

pub room_same : (z m : List ℕ) → length z ≡ most_bytes → length m ≤ most_bytes → length (take (length m) z) ≡ length m
room_same z m e h = sym (room_long z m e h)

module _ (m : List ℕ) (b : List ℕ) (s : State) (name : ℕ) (pattern : List ℕ) where
  pub strike_is : (c copy m' : List ℕ) (x : Stepped) (r : Bool) → c ≡ m → Performs c s b x copy
      → struck r m' ≡ struck_after m copy x.number x.touched x.at name pattern → struck r m' ≡ struck_by m name pattern (step_of (length m) (views m) (meaning s) b)
  strike_is c copy m' x r e p f =
      let q : Performs m s b x copy = subst (λ (y : List ℕ). Performs y s b x copy) e p in
      f ∙ after_is m copy name pattern s x _ q

-- ---- the cut played

cut_after : (w : World) (left : List ℕ) (d : Step) → (cut_short w left (gives d)).after ≡ world left None fresh
unfolding cut_short
cut_after w left (program p pg s finished) = refl
cut_after w left (erase b s finished) = refl

module _ (m b : List ℕ) (s : State) (name : ℕ) (pattern m' : List ℕ) where
  missed_medium : (a : Answer Step) → struck false m' ≡ struck_by m name pattern a → m' ≡ m
  unfolding struck_by
  missed_medium (refused n) e = ap (λ (x : Struck). x.medium) e
  missed_medium (gives d) e =
      by_cases (eqb name (name_of d)) (λ q. true_false (ap (λ (x : Struck). x.so) (rw q at e)) refl) (λ q. ap (λ (x : Struck). x.medium) (rw q at e))

  missed_ends : (a : Answer Step) → struck false m' ≡ struck_by m name pattern a → played_cut (holds m s b) name pattern a ≡ run_ends_with (holds m s b) 27
  unfolding struck_by played_cut
  missed_ends (refused n) e = refl
  missed_ends (gives d) e = by_cases (eqb name (name_of d)) (λ q. true_false (ap (λ (x : Struck). x.so) (rw q at e)) refl) (λ q. rw q)

  cut_goes : (b' : List ℕ) (a : Answer Step) → played (holds m s b) (Recorded.cut name pattern) ≡ played_cut (holds m s b) name pattern a → struck true m' ≡ struck_by m name pattern a
      → b' ≡ empty_buffer → Plays (holds m s b) (Recorded.cut name pattern) lost_by m' b'
  unfolding struck_by played_cut world_by held_by lines_told
  cut_goes b' (refused n) f e y = true_false refl (ap (λ (x : Struck). x.so) e)
  cut_goes b' (gives d) f e y =
      by_cases (eqb name (name_of d))
      (λ q.
      let k : m' ≡ left_by_cut m d pattern = ap (λ (x : Struck). x.medium) (rw q at e) in
      let g : played (holds m s b) (Recorded.cut name pattern) ≡ run_goes_on (cut_short (holds m s b) (left_by_cut m d pattern) (gives d)) [] = f ∙ rw q in
      record {
        after =
            ap (λ (x : List ℕ). world x None b') k ∙ ap (λ (x : List ℕ). world (left_by_cut m d pattern) None x) y ∙ sym (cut_after (holds m s b) (left_by_cut m d pattern) d)
            ∙ ap (λ (t : run.Turn). t.moment.after) (sym g);
        lines = ap (λ (t : run.Turn). t.lines) (sym g);
        ends = ap (λ (t : run.Turn). t.ends) (sym g);
        few = none_set _ (λ log h. cc);
      })
      (λ q. true_false refl (ap (λ (x : Struck). x.so) (rw q at e)))

module _ (m b : List ℕ) (l : LastState) (r : Reply) (name : ℕ) (pattern : List ℕ) where
  pub cut_lost : l ≡ None → r ≡ refused_by 27 true None → Plays (world_by m l b) (Recorded.cut name pattern) r m b
  unfolding played played_cut step_due with_state
  cut_lost q e =
      ended_plays m b l (Recorded.cut name pattern) r 27
      (subst (λ (w : World). played w (Recorded.cut name pattern) ≡ run_ends_with w 27) (sym (lost_world m b l q)) refl) (e ∙ ap (refused_by 27 true) (sym q))

  module _ (m' : List ℕ) (s : State) (x : Bool) (q : l ≡ Some s) (p : struck x m' ≡ struck_by m name pattern (step_of (length m) (views m) (meaning s) b)) where
    pub cut_missed : not x ≡ true → r ≡ refused_by 27 true (Some s) → Plays (world_by m l b) (Recorded.cut name pattern) r m' b
    unfolding played step_due with_state
    cut_missed h e =
        let f : struck false m' ≡ struck_by m name pattern (step_of (length m) (views m) (meaning s) b) = ap (λ (y : Bool). struck y m') (sym (not-true x h)) ∙ p in
        let g : played (world_by m l b) (Recorded.cut name pattern) ≡ run_ends_with (world_by m l b) 27 =
        subst (λ (w : World). played w (Recorded.cut name pattern) ≡ run_ends_with w 27) (sym (held_world m b l s q)) (missed_ends m b s name pattern m' _ f) in
        subst (λ (y : List ℕ). Plays (world_by m l b) (Recorded.cut name pattern) r y b) (sym (missed_medium m b s name pattern m' _ f))
        (ended_plays m b l (Recorded.cut name pattern) r 27 g (e ∙ ap (refused_by 27 true) (sym q)))

    pub cut_played : (b' : List ℕ) → not x ≡ false → b' ≡ empty_buffer → r ≡ lost_by → Plays (world_by m l b) (Recorded.cut name pattern) r m' b'
    unfolding played step_due with_state
    cut_played b' h y e =
        let f : struck true m' ≡ struck_by m name pattern (step_of (length m) (views m) (meaning s) b) = ap (λ (z : Bool). struck z m') (sym (not-false x h)) ∙ p in
        held_plays m b m' b' l s (Recorded.cut name pattern) r lost_by (cut_goes m b s name pattern m' b' _ refl f y) q e
