-- Paper 4's bound, of the code: the machine goes the way of the world, whatever the calls answer.
use mathlib.Core.Path.{◌≡◌, refl, sym, ap, subst, ◌∙◌}
use mathlib.Core.Bool.{true, false}
use Rattle.std.proofs.Common.{Option, Some}
use mathlib.Core.List.{List}
use Prim.Native.Nat.{ℕ, ◌^◌}
use native.Mathlib.Omega.{arith}
use lib.Dec.{eqb}
use lib.ListN.{length}
use borrow.Author.Tests.{eqb-true, not-true}
use Rattle.lists.specs.Lists.{Below}
use Rattle.lists.specs.Needs.{Answer, refused, gives}
use Rattle.lists.proofs.Laws.{by_cases, true_false, checked_cases, same_given, given_refused, answered_refused, answered_gives, gave_number, gave_value}
use Rattle.flash.specs.Medium.{views}
use Rattle.blocks.specs.Blocks.{available}
use Rattle.state.specs.declared.State.{State}
use Rattle.state.specs.State.{Held, pending_of, meaning}
use Rattle.recovery.specs.Recovery.{Recovery}
use Rattle.calls.specs.Calls.{zip, append_of, commit_of, collect_of}
use Rattle.step.specs.Step.{Step, step_of}
use Rattle.readings.specs.Readings.{available_of}
use Rattle.read.specs.declared.Supplied.{Supplied}
use Rattle.read.specs.Answers.{Supplies}
use Rattle.read.proofs.Laws.{supplies_answered}
use Rattle.begin.specs.declared.Begun.{Begun}
use Rattle.begin.specs.Begun.{Begins}
use Rattle.operations.specs.declared.Stepped.{Stepped}
use Rattle.operations.specs.Answers.{Outcome, Done, done_of, done, performed}
use Rattle.advance.specs.Outcomes.{Steps}
use Rattle.dispatcher.specs.declared.NextOperation.{NextOperation}
use Rattle.dispatcher.specs.Dispatch.{Next, next_of, written, Names}
use Rattle.dispatcher.specs.Named.{call_of, is_begun, NamedBegins}
use Rattle.dispatcher.proofs.Named.{named_begins}
use Rattle.valve_log.specs.History.{History, tell}
use Rattle.valve_log.specs.Reached.{World, world, with_state, Event, step_due, happen, finishes, Reached, Point3}
use Rattle.valve_log.proofs.Point3.{point3}
use Rattle.housekeeping.specs.Bound.{is_unfinished, Finishes, named_in, append_in, Leads, here, commits, collects, Admits, commits_in, collections_in, EndsWith, Bounded, Meets13, Bound, Sharper, ByPages, Sixteen}
use Rattle.housekeeping.proofs.Bound.{bound, sharper, by_pages, sixteen}
use Rattle.journal.specs.Run.{Machine, machine, meant, world_of, Moves, told_by, Run, says_finished, finished_by}
use Rattle.journal.specs.Housekeeping.{asking, stepping, in_log, Stage, LetsIn, Answers13, LetsInBy, BoundOfCode, SharperOfCode, ByPagesOfCode, SixteenOfCode}
use Rattle.journal.proofs.Chain.{moves, runs, answers_finished}

-- ---- what the answers of the calls say

begun_number : (s : State) (c : Answer Held) (r : Begun) → Begins s c r → is_begun c ≡ true → r.number ≡ 0
unfolding is_begun
begun_number s (refused n) r B q = true_false q refl
begun_number s (gives h) r B q = gave_number r.number (meaning r.state) h B.is

refused_13 : (s : State) (c : Answer Held) (r : Begun) → Begins s c r → r.number ≡ 13 → c ≡ refused 13
refused_13 s c r B q = sym B.is ∙ answered_refused r.number (meaning r.state) (λ z. omega arith) ∙ ap refused q

pub pages_supplied : (m : List ℕ) (s : State) (r : Supplied) → Supplies m s r → r.number ≡ 0 → r.pages ≡ available (views m) s.head
unfolding available_of
pages_supplied m s r e q =
    checked_cases (λ (x : Answer ℕ). gives r.pages ≡ x → r.pages ≡ available (views m) s.head) _ _ (λ n y. given_refused r.pages n y) (λ k y. same_given y)
    (sym (answered_gives r.number r.pages q) ∙ supplies_answered m s r e)

-- ---- a step

says_last : (r : Stepped) → says_finished r ≡ true → (r.number ≡ 0) × (r.finished ≡ true)
unfolding says_finished
says_last r e = by_cases (eqb r.number 0) (λ q. (eqb-true r.number 0 q, rw q at e)) (λ q. let f : false ≡ true = rw q at e in true_false f refl)

unfinished : (t : Answer Step) → is_unfinished t ≡ true → finishes t ≡ false
unfolding is_unfinished finishes
unfinished (refused n) e = refl
unfinished (gives (Step.program p pg s f)) e = not-true f e
unfinished (gives (Step.erase b s f)) e = not-true f e

not_refused : {P : Type 0} (s : State) (x : Stepped) (t : Answer Step) → is_unfinished t ≡ true → Some (Done.refused x) ≡ Some (done s t) → P
unfolding is_unfinished done
not_refused s x (refused k) u e = true_false u refl
not_refused s x (gives (Step.program p pg h f)) u e = let y : ◌≡◌ {A = ℕ} 0 1 = cc in absurd (omega arith)
not_refused s x (gives (Step.erase b h f)) u e = let y : ◌≡◌ {A = ℕ} 0 1 = cc in absurd (omega arith)

says_more : (s : State) (t : Answer Step) (r : Stepped) → done_of r ≡ Some (done s t) → says_finished r ≡ finishes t → is_unfinished t ≡ true → (r.number ≡ 0) × (r.finished ≡ false)
unfolding says_finished done_of
says_more s t r e f u =
    by_cases (eqb r.number 0) (λ q. (eqb-true r.number 0 q, (rw q at f) ∙ unfinished t u))
    (λ q. not_refused s r t u (rw q at e))

module _ (m : List ℕ) (s : State) (b : List ℕ) (r : Stepped) (m' b' : List ℕ) (q : Steps m s b r m' b') where
  step_after : world_of (machine m' (Some r.state) b') ≡ (happen (world_of (machine m (Some s) b)) Event.step).after
  step_after = moves (machine m (Some s) b) (machine m' (Some r.state) b') Event.step (Moves.step m m' s b b' r q)

  step_finishes : says_finished r ≡ finishes (step_due (world_of (machine m (Some s) b)))
  unfolding finished_by
  step_finishes = answers_finished (machine m (Some s) b) (machine m' (Some r.state) b') (Moves.step m m' s b b' r q)

  step_more : is_unfinished (step_due (world_of (machine m (Some s) b))) ≡ true → (r.number ≡ 0) × (r.finished ≡ false)
  unfolding step_due with_state meant performed
  step_more u = says_more s (step_of (length m) (views m) (meaning s) b) r (ap (λ (o : Outcome). o.done) q.does) step_finishes u

-- ---- the way

-- a machine that a run leads to, and its world
record Stands (x : Machine) (w : World) : Type 0 where
  is : world_of x ≡ w
  history : History
  run : Run x history

-- the run goes on
on : {x y : Machine} {w w' : World} (e : Event (world_of x)) → Stands x w → Moves x e y → world_of y ≡ w' → Stands y w'
on {x} {y} e P v q = record { is = q; history = tell P.history (told_by x y e v); run = Run.next x y P.history e P.run v }

module _ (ks ws : List ℕ) (narrow : Below (2 ^ 16) ks) (small : Below (2 ^ 64) ws) where
  -- an operation pending is carried to its end
  carried : (i j : ℕ) (then : Stage) (w w' : World) → Finishes w w' → (m : List ℕ) (s : State) (b : List ℕ)
      → Stands (machine m (Some s) b) w
      → ((m : List ℕ) (s : State) (b : List ℕ) → Stands (machine m (Some s) b) w' → LetsIn ks ws i j then (machine m (Some s) b))
      → LetsIn ks ws i j (stepping then) (machine m (Some s) b)
  carried i j then w w' (Finishes.last w₁ e) m s b P k =
      LetsIn.last m s b (λ r m' b' q. says_last r (step_finishes m s b r m' b' q ∙ ap (λ (z : World). finishes (step_due z)) P.is ∙ e))
      (λ r m' b' q. k m' r.state b'
      (on Event.step P (Moves.step m m' s b b' r q) (step_after m s b r m' b' q ∙ ap (λ (z : World). (happen z Event.step).after) P.is)))
  carried i j then w w' (Finishes.more w₁ w₂ u F) m s b P k =
      LetsIn.step m s b (λ r m' b' q. step_more m s b r m' b' q (ap (λ (z : World). is_unfinished (step_due z)) P.is ∙ u))
      (λ r m' b' q. carried i j then (happen w Event.step).after w' F m' r.state b'
      (on Event.step P (Moves.step m m' s b b' r q)
      (step_after m s b r m' b' q ∙ ap (λ (z : World). (happen z Event.step).after) P.is)) k)

  module _ (m : List ℕ) (s : State) (b : List ℕ) (w : World) (p : world_of (machine m (Some s) b) ≡ w) (op : Next) (n : named_in w ks ws ≡ gives op) where
    named_so : next_of (length m) (views m) (meaning s) b ks ws true ≡ gives op
    unfolding named_in with_state meant
    named_so = ap (λ (z : World). named_in z ks ws) p ∙ n

    answered_so : (r : NextOperation) → Names m s b ks ws true r → r ≡ written (gives op)
    answered_so r q = q ∙ ap written named_so

    begins_so : is_begun (call_of (length m) (views m) (meaning s) b ks ws op) ≡ true
    unfolding NamedBegins
    begins_so = named_begins (length m) (views m) (meaning s) b ks ws true op named_so

  -- the append begun
  append_after : (m : List ℕ) (s : State) (b : List ℕ) (w : World) → world_of (machine m (Some s) b) ≡ w → (s' : Held) → append_in w ks ws ≡ gives s' → (r : Begun)
      → Begins s (append_of (length m) (views m) (meaning s) b ks ws) r → world_of (machine m (Some r.state) b) ≡ world w.medium (Some s') w.buffer
  unfolding append_in with_state meant
  append_after m s b w p s' o r q =
      let e = q.is ∙ ap (λ (z : World). append_in z ks ws) p ∙ o in
      ap (λ (k : Held). world m (Some k) b) (gave_value r.number (meaning r.state) s' e) ∙ ap (λ (z : World). world z.medium (Some s') z.buffer) p

  -- of a world that two lists lead to there is one log
  same_log : (end : World) (x : Machine) → world_of x ≡ end → (g h : History) → Reached end g → Run x h → g.log ≡ h.log
  unfolding Point3
  same_log end x e g h R T =
      let a = point3 end g R in
      let b = point3 end h (rw e at (runs x h T)) in
      sym a.same_log ∙ ap (λ (r : Recovery). r.log) (same_given (sym a.accepts ∙ b.accepts)) ∙ b.same_log

  -- the append named where the way ends
  append_way : (w end : World) (s' : Held) → named_in w ks ws ≡ gives Next.append → append_in w ks ws ≡ gives s'
      → Finishes (world w.medium (Some s') w.buffer) end
      → (g : History) → Reached end g → EndsWith (zip ks ws) g.log → (m : List ℕ) (s : State) (b : List ℕ)
      → Stands (machine m (Some s) b) w → LetsIn ks ws 0 0 asking (machine m (Some s) b)
  unfolding written call_of
  append_way w end s' n o F g R E m s b P =
      LetsIn.append m s b (answered_so m s b w P.is Next.append n)
      (λ r q. begun_number s (append_of (length m) (views m) (meaning s) b ks ws) r q (begins_so m s b w P.is Next.append n))
      (λ r q. carried 0 0 in_log (world w.medium (Some s') w.buffer) end F m r.state b
      (on (Event.append ks ws narrow small) P (Moves.append m s b ks ws narrow small r q) (append_after m s b w P.is s' o r q))
      (λ m' t b' Q. LetsIn.appended (machine m' (Some t) b') Q.history Q.run
      (subst (EndsWith (zip ks ws)) (same_log end (machine m' (Some t) b') Q.is g Q.history R Q.run) E)))

  ways : (ops : List Next) (w end : World) → Leads ks ws ops w end
      → ((m : List ℕ) (s : State) (b : List ℕ) → Stands (machine m (Some s) b) end → LetsIn ks ws 0 0 asking (machine m (Some s) b))
      → (m : List ℕ) (s : State) (b : List ℕ) → Stands (machine m (Some s) b) w
      → LetsIn ks ws (commits_in ops) (collections_in ops) asking (machine m (Some s) b)
  unfolding written call_of commits_in collections_in
  ways ops w end (here w₁) z m s b P = z m s b P
  ways ops w end (commits {ops = l} w₁ w' end₁ n F A) z m s b P =
      LetsIn.commit m s b (answered_so m s b w P.is Next.commit n)
      (λ r q. begun_number s (commit_of (length m) (views m) (meaning s) b) r q (begins_so m s b w P.is Next.commit n))
      (λ r q. carried (commits_in l) (collections_in l) asking (happen w Event.commit).after w' F m r.state b
      (on Event.commit P (Moves.commit m s b r q)
      (moves (machine m (Some s) b) (machine m (Some r.state) b) Event.commit (Moves.commit m s b r q)
      ∙ ap (λ (z : World). (happen z Event.commit).after) P.is)) (ways l w' end A z))
  ways ops w end (collects {ops = l} w₁ w' end₁ x n F A) z m s b P =
      LetsIn.collect m s b x (answered_so m s b w P.is (Next.collect x) n)
      (λ r q. begun_number s (collect_of (length m) (views m) (meaning s) b x) r q (begins_so m s b w P.is (Next.collect x) n))
      (λ r q. carried (commits_in l) (collections_in l) asking (happen w (Event.collect x)).after w' F m r.state b
      (on (Event.collect x) P (Moves.collect m s b x r q)
      (moves (machine m (Some s) b) (machine m (Some r.state) b) (Event.collect x) (Moves.collect m s b x r q)
      ∙ ap (λ (z : World). (happen z (Event.collect x)).after) P.is)) (ways l w' end A z))

  way_in : (ops : List Next) (end : World) (g h : History) (x : Machine) (s : State) → x.state ≡ Some s → Run x h
      → Admits ks ws ops (world_of x) end → Reached end g
      → EndsWith (zip ks ws) g.log → LetsIn ks ws (commits_in ops) (collections_in ops) asking x
  way_in ops end g h x s e T A R E =
      let q : x ≡ machine x.medium (Some s) x.buffer = ap (λ (o : Option State). machine x.medium o x.buffer) e in
      subst (LetsIn ks ws (commits_in ops) (collections_in ops) asking) (sym q)
      (ways ops (world_of x) A.before A.leads (append_way A.before end A.begun A.named A.begins A.finishes g R E)
      x.medium s x.buffer
      (record { is = ap world_of (sym q); history = h; run = subst (λ (y : Machine). Run y h) q T }))

-- ---- the bound

module _ (x : Machine) (h : History) (s : State) (ks ws : List ℕ) (M : Answers13 x h s ks ws) where
  meets : Meets13 (world_of x) h (meaning s) ks ws
  unfolding meant
  meets =
      record {
        reached = runs x h M.run;
        state = ap meant M.state;
        empty = M.empty;
        rests = ap (λ (k : ℕ). pending_of k s.progress s.group s.pages) M.rests ∙ (unfold pending_of in refl);
        met13 = refused_13 s (append_of (length x.medium) (views x.medium) (meaning s) x.buffer ks ws) M.answer M.appends M.met13;
        pages = omega (arith, M.pages, pages_supplied x.medium s M.supply M.supplies M.accepted);
        narrow = M.narrow;
        small = M.small;
      }

lets_in_by : {ks ws : List ℕ} {a b : ℕ} (x : Machine) (h : History) (s : State) → Answers13 x h s ks ws → Bounded ks ws a b (world_of x)
    → LetsInBy ks ws a b x
lets_in_by {ks} {ws} x h s M B =
    record {
      commits = commits_in B.operations;
      collections = collections_in B.operations;
      few_commits = B.few_commits;
      few_collections = B.few_collections;
      way = way_in ks ws M.narrow M.small B.operations B.end B.history h x s M.state M.run B.admits B.reached
          B.in_log_lem;
    }

pub bound_of_code : BoundOfCode
unfolding BoundOfCode Bound
bound_of_code x h s ks ws M S = lets_in_by x h s M (bound (world_of x) h (meaning s) ks ws (meets x h s ks ws M) S)

pub sharper_of_code : SharperOfCode
unfolding SharperOfCode Sharper
sharper_of_code x h s ks ws M S = lets_in_by x h s M (sharper (world_of x) h (meaning s) ks ws (meets x h s ks ws M) S)

pub by_pages_of_code : ByPagesOfCode
unfolding ByPagesOfCode ByPages
by_pages_of_code x h s ks ws M k = by_pages (world_of x) h (meaning s) ks ws (meets x h s ks ws M) k

pub sixteen_of_code : SixteenOfCode
unfolding SixteenOfCode Sixteen
sixteen_of_code x h s ks ws M k = sixteen (world_of x) h (meaning s) ks ws (meets x h s ks ws M) k
