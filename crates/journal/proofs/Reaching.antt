-- Every world reached is one that some run of the code leads to, so that the premise of the bound of the code can be met.
use mathlib.Core.Path.{◌≡◌, refl, sym, ap, subst, ◌∙◌}
use mathlib.Core.Bool.{true, false}
use Rattle.std.proofs.Common.{Option, None, Some}
use mathlib.Core.List.{List}
use Prim.Native.Nat.{ℕ}
use native.Mathlib.Omega.{arith}
use lib.Dec.{eqb}
use lib.ListN.{length}
use borrow.Author.Tests.{eqb-true}
use Rattle.lists.specs.declared.Cells.{Cells}
use Rattle.lists.specs.Needs.{Answer, refused, gives, and_then}
use Rattle.lists.proofs.Laws.{by_cases, true_false, answered_refused, answered_gives, given_refused}
use Rattle.flash.specs.Medium.{views}
use Rattle.blocks.specs.Blocks.{available}
use Rattle.state.specs.declared.State.{State}
use Rattle.state.specs.State.{idle, Held, is_idle, pending_of, meaning}
use Rattle.recovery.specs.Recovery.{Recovery, recover as recover_of}
use Rattle.calls.specs.Calls.{append_of, commit_of, collect_of, buffer_of, flush_of, zip}
use Rattle.step.specs.Step.{Step, step_of, medium_after, buffer_after}
use Rattle.readings.specs.Readings.{available_of}
use Rattle.read.specs.declared.Supplied.{Supplied}
use Rattle.read.specs.Answers.{supplied, Supplies}
use Rattle.begin.specs.declared.Begun.{Begun}
use Rattle.begin.specs.Begun.{Begins, filled_by}
use Rattle.operations.specs.Answers.{performed}
use Rattle.valve_log.specs.History.{History, start as no_history, Told, began_append, began_commit, began_collect, began_flush, tell}
use Rattle.valve_log.specs.Reached as reached
use Rattle.valve_log.specs.Reached.{World, world, fresh, lent_anew, Moment, still, called, with_state, step_due, stepped, recovered, CutOf, Event, happen, finishes, meanwhile, Reached}
use Rattle.valve_log.specs.Weak.{Weak, weak_after}
use Rattle.valve_log.specs.Steady.{Steady}
use Rattle.valve_log.proofs.Steady.{steady}
use Rattle.valve_log.proofs.Weak.{Guard, Kept, Careful, step_careful, event_kept, begun_guard}
use Rattle.housekeeping.specs.Bound.{Suffice, Meets13, Possible}
use Rattle.housekeeping.proofs.Possible.{possible}
use Rattle.journal.specs.Run.{Machine, machine, meant, world_of, Moves, Formatting, starting_on, Run}
use Rattle.journal.specs.Housekeeping.{Answers13, ArisesInRun, PossibleOfCode}
use Rattle.journal.proofs.Chain.{moves, answers_told, answers_meanwhile, answers_finished}
use Rattle.journal.proofs.Started.{state_of, state_same, answered}
use Rattle.journal.proofs.Housekeeping.{pages_supplied}
use Rattle.journal.proofs.Weak.{moves_kept}

-- ---- an event has an answer, or changes nothing

data Goes (x : Machine) (e : Event (world_of x)) : Type 0 where
  moves_to : (y : Machine) → Moves x e y → Goes x e
  stays : happen (world_of x) e ≡ still (world_of x) → Goes x e

data Begin (s : State) (c : Answer Held) : Type 0 where
  turned : (n : ℕ) → c ≡ refused n → Begin s c
  begins : (r : Begun) → Begins s c r → Begin s c

begin : (weak : Weak) (w : World) (t : Told) (s : State) (c : Answer Held) → Kept weak (called w t c).after.state → Begin s c
unfolding called Kept
begin weak w t s (refused n) K = turned n refl
begin weak w t s (gives h) K =
    begins (record { number = 0; state = state_of h }) (record { is = answered_gives 0 (meaning (state_of h)) refl ∙ ap gives (state_same h K.long); back = λ z. absurd (z refl) })

call_goes : (weak : Weak) (m : List ℕ) (s : State) (b : List ℕ) (e : Event (world_of (machine m (Some s) b))) (t : Told) (c : Answer Held)
    → happen (world_of (machine m (Some s) b)) e ≡ called (world_of (machine m (Some s) b)) t c → Kept weak (meant (Some s))
    → ((r : Begun) → Begins s c r → Moves (machine m (Some s) b) e (machine m (Some r.state) b)) → Goes (machine m (Some s) b) e
call_goes weak m s b e t c q K f =
    go (begin W (world_of (machine m (Some s) b)) t s c (subst (λ (x : Moment). Kept W x.after.state) q (event_kept weak m (meant (Some s)) b e K)))
  where
    W : Weak
    W = weak_after (world_of (machine m (Some s) b)) e weak

    go : Begin s c → Goes (machine m (Some s) b) e
    go (turned n z) = stays (q ∙ ap (called (world_of (machine m (Some s) b)) t) z ∙ (unfold called in refl))
    go (begins r p) = moves_to (machine m (Some r.state) b) (f r p)

data StepGoes (x : Machine) : Type 0 where
  steps_to : (y : Machine) → Moves x Event.step y → StepGoes x
  refuses : (n : ℕ) → step_due (world_of x) ≡ refused n → StepGoes x

step_goes : (weak : Weak) (m : List ℕ) (o : Option State) (b : List ℕ) → Kept weak (meant o) → StepGoes (machine m o b)
unfolding meant step_due with_state Kept
step_goes weak m None b K = refuses 9 refl
step_goes weak m (Some s) b K = go (step_of (length m) (views m) (meaning s) b) refl (step_careful weak m (meaning s) b K)
  where
    go : (t : Answer Step) → step_of (length m) (views m) (meaning s) b ≡ t → Careful weak t → StepGoes (machine m (Some s) b)
    go (refused n) q C = refuses n q
    go (gives st) q C =
        let A = answered m s (gives st) weak C (λ k z. given_refused st k z) in
        steps_to (machine (medium_after m (gives st)) (Some A.answer.state) (buffer_after b (gives st)))
        (Moves.step m (medium_after m (gives st)) s b (buffer_after b (gives st)) A.answer (record { does = A.meets ∙ ap (performed m s) (sym q); leaves = ap (buffer_after b) (sym q) }))

recover_goes : (weak : Weak) (m : List ℕ) (o : Option State) (b : List ℕ) → Kept weak (meant o) → Goes (machine m o b) Event.recover
unfolding happen recovered Kept and_then
recover_goes weak m o b K = go (recover_of (length m) (views m)) refl
  where
    go : (c : Answer Recovery) → recover_of (length m) (views m) ≡ c → Goes (machine m o b) Event.recover
    go (refused n) q = stays (rw q)
    go (gives r) q =
        let G = event_kept weak m (meant o) b Event.recover K in
        let long : length r.state.erased ≡ r.state.head.blocks = (rw q at G).long in
        moves_to _ (Moves.recover m o b (record { number = 0; state = state_of r.state }) (answered_gives 0 (meaning (state_of r.state)) refl ∙ ap gives (state_same r.state long) ∙ rw q))

goes : (weak : Weak) (m : List ℕ) (o : Option State) (b : List ℕ) (e : Event (world_of (machine m o b))) → Kept weak (meant o) → Goes (machine m o b) e
unfolding happen meant with_state stepped step_due CutOf
goes weak m o b Event.read K = stays refl
goes weak m o b Event.cut K = moves_to (machine m None fresh) (Moves.cut m o b)
goes weak m o b Event.recover K = recover_goes weak m o b K
goes weak m o b Event.step K = go (step_goes weak m o b K)
  where
    go : StepGoes (machine m o b) → Goes (machine m o b) Event.step
    go (steps_to y v) = moves_to y v
    go (refuses n q) = stays (ap (stepped (world_of (machine m o b))) q)
goes weak m None b (Event.append ks ws narrow small) K = stays refl
goes weak m None b Event.commit K = stays refl
goes weak m None b (Event.collect block) K = stays refl
goes weak m None b (Event.buffer ks ws narrow small) K = stays refl
goes weak m None b Event.flush K = stays refl
goes weak m None b (Event.cut_inside left allowed) K = absurd allowed
goes weak m (Some s) b (Event.append ks ws narrow small) K =
    call_goes weak m s b (Event.append ks ws narrow small) (began_append (zip ks ws)) (append_of (length m) (views m) (meaning s) b ks ws) refl K (Moves.append m s b ks ws narrow small)
goes weak m (Some s) b Event.commit K = call_goes weak m s b Event.commit began_commit (commit_of (length m) (views m) (meaning s) b) refl K (Moves.commit m s b)
goes weak m (Some s) b (Event.collect block) K = call_goes weak m s b (Event.collect block) began_collect (collect_of (length m) (views m) (meaning s) b block) refl K (Moves.collect m s b block)
goes weak m (Some s) b Event.flush K = call_goes weak m s b Event.flush began_flush (flush_of (length m) (views m) (meaning s) b) refl K (Moves.flush m s b)
goes weak m (Some s) b (Event.buffer ks ws narrow small) K = go (buffer_of (length m) (views m) (meaning s) b ks ws) refl
  where
    go : (c : Answer (List ℕ)) → buffer_of (length m) (views m) (meaning s) b ks ws ≡ c → Goes (machine m (Some s) b) (Event.buffer ks ws narrow small)
    go (refused n) q = moves_to (machine m (Some s) b) (Moves.buffer m s b ks ws narrow small n b (ap (filled_by b) (sym q)))
    go (gives b') q = moves_to (machine m (Some s) b') (Moves.buffer m s b ks ws narrow small 0 b' (ap (filled_by b) (sym q)))
goes weak m (Some s) b (Event.cut_inside left allowed) K = moves_to (machine left None fresh) (Moves.cut_inside m left s b allowed)

-- ---- formatting

record FormattingTo (w : World) : Type 0 where
  x : Machine
  is : world_of x ≡ w
  under_way_lem : Formatting x
  weak : Weak
  kept : Kept weak (meant x.state)

-- what is known of the state after a move
format_on : (x : Machine) → Formatting x → (weak : Weak) → Kept weak (meant x.state) → (e : Event (world_of x)) → meanwhile (world_of x) e ≡ true → FormattingTo (happen (world_of x) e).after
format_on x U weak K e k = go (goes weak x.medium x.state x.buffer e K)
  where
    go : Goes x e → FormattingTo (happen (world_of x) e).after
    go (moves_to y v) = record { x = y; is = moves x y e v; under_way_lem = Formatting.next x y e U v (answers_meanwhile x y e v ∙ k); weak = weak_after (world_of x) e weak; kept = moves_kept weak x y e v K }
    go (stays q) = subst (λ (t : Moment). FormattingTo t.after) (sym q) (record { x = x; is = refl; under_way_lem = U; weak = weak; kept = K })

formats_to : (w : World) → reached.Formatting w → FormattingTo w
unfolding meant Kept
formats_to w (reached.Formatting.begun m s b bytes e) =
    let G = begun_guard (λ k. true) (length m) s e in
    let same = state_same s G.long in
    record {
      x = machine m (Some (state_of s)) b;
      is = ap (λ (h : Held). world m (Some h) b) same;
      under_way_lem =
          Formatting.begun m (record { number = 0; state = state_of s }) b bytes
          (record { is = answered_gives 0 (meaning (state_of s)) refl ∙ ap gives same ∙ sym e; back = λ z. absurd (z refl) }) refl;
      weak = λ k. true;
      kept = subst (Guard (λ k. true)) (sym same) G;
    }
formats_to w (reached.Formatting.next w₀ e F k) =
    let T = formats_to w₀ F in
    subst (λ (z : World). (e : Event z) → meanwhile z e ≡ true → FormattingTo (happen z e).after) T.is (format_on T.x T.under_way_lem T.weak T.kept) e k

-- ---- the run

record RunTo (w : World) (h : History) : Type 0 where
  x : Machine
  is : world_of x ≡ w
  run : Run x h
  weak : Weak
  kept : Kept weak (meant x.state)

start_on : (x : Machine) → Formatting x → (weak : Weak) → Kept weak (meant x.state) → finishes (step_due (world_of x)) ≡ true → RunTo (lent_anew (happen (world_of x) Event.step).after) no_history
unfolding finishes
start_on x U weak K f = go (step_goes weak x.medium x.state x.buffer K)
  where
    go : StepGoes x → RunTo (lent_anew (happen (world_of x) Event.step).after) no_history
    go (steps_to y v) =
        record {
          x = machine y.medium y.state fresh;
          is = ap lent_anew (moves x y Event.step v);
          run = Run.start x y U v (answers_finished x y v ∙ f);
          weak = weak_after (world_of x) Event.step weak;
          kept = moves_kept weak x y Event.step v K;
        }
    go (refuses n q) = true_false f (ap finishes q)

run_on : (x : Machine) (h : History) → Run x h → (weak : Weak) → Kept weak (meant x.state) → (e : Event (world_of x)) → RunTo (happen (world_of x) e).after (tell h (happen (world_of x) e).told)
unfolding tell
run_on x h R weak K e = go (goes weak x.medium x.state x.buffer e K)
  where
    go : Goes x e → RunTo (happen (world_of x) e).after (tell h (happen (world_of x) e).told)
    go (moves_to y v) =
        let R' = subst (λ (t : Told). Run y (tell h t)) (answers_told x y e v) (Run.next x y h e R v) in
        record { x = y; is = moves x y e v; run = R'; weak = weak_after (world_of x) e weak; kept = moves_kept weak x y e v K }
    go (stays q) = subst (λ (t : Moment). RunTo t.after (tell h t.told)) (sym q) (record { x = x; is = refl; run = R; weak = weak; kept = K })

runs_to : (w : World) (h : History) → Reached w h → RunTo w h
runs_to w h (Reached.start w₀ F f) =
    let T = formats_to w₀ F in
    subst (λ (z : World). finishes (step_due z) ≡ true → RunTo (lent_anew (happen z Event.step).after) no_history) T.is (start_on T.x T.under_way_lem T.weak T.kept) f
runs_to w h (Reached.next w₀ h₀ e R) =
    let T = runs_to w₀ h₀ R in
    subst (λ (z : World). (e : Event z) → RunTo (happen z e).after (tell h₀ (happen z e).told)) T.is (run_on T.x h₀ T.run T.weak T.kept) e
runs_to w h (Reached.taken_over {w = w₀} b) =
    record { x = starting_on w₀; is = unfold meant in refl; run = Run.taken_over b; weak = λ k. false; kept = unfold meant Kept in tt }

-- ---- the premise of the bound

-- nothing is pending only where the number is 0
rests_at : (k p : ℕ) (g : Cells) (ps : List ℕ) → pending_of k p g ps ≡ idle → k ≡ 0
unfolding pending_of is_idle
rests_at k p g ps e = by_cases (eqb k 0) (λ q. eqb-true k 0 q) (λ q. true_false (ap is_idle e) (busy q))
  where
    busy : eqb k 0 ≡ false → is_idle (pending_of k p g ps) ≡ false
    busy a =
        by_cases (eqb k 1) (λ b. rw (a, b))
        (λ b. by_cases (eqb k 2) (λ c. rw (a, b, c))
        (λ c. by_cases (eqb k 3) (λ d. rw (a, b, c, d))
        (λ d. by_cases (eqb k 4) (λ f. rw (a, b, c, d, f)) (λ f. by_cases (eqb k 5) (λ z. rw (a, b, c, d, f, z)) (λ z. rw (a, b, c, d, f, z))))))

-- the answer of `available`
record Supply (m : List ℕ) (s : State) : Type 0 where
  supply : Supplied
  supplies : Supplies m s supply
  accepted : supply.number ≡ 0

supply_of : (m : List ℕ) (s : State) (c : Answer ℕ) → available_of (length m) (views m) (meaning s) ≡ c → ((n : ℕ) → c ≡ refused n → ⊥) → Supply m s
supply_of m s (refused n) q f = absurd (f n refl)
supply_of m s (gives k) q f = record { supply = record { number = 0; pages = k }; supplies = (unfold supplied in ap supplied (sym q)); accepted = refl }

module _ (m : List ℕ) (s : State) (b : List ℕ) (h : History) (R : Run (machine m (Some s) b) h) (t : Held) (ks ws : List ℕ) (M : Meets13 (world_of (machine m (Some s) b)) h t ks ws) where
  holds : meaning s ≡ t
  unfolding meant
  holds = let z : Some (meaning s) ≡ Some t = M.state in cc

  never : (n : ℕ) → available_of (length m) (views m) (meaning s) ≡ refused n → ⊥
  unfolding Steady meant
  never = (steady (world_of (machine m (Some s) b)) h (meaning s) M.reached refl).available

  abbrev supplied_by : Supply m s
  supplied_by = supply_of m s (available_of (length m) (views m) (meaning s)) refl never

  meets_code : Answers13 (machine m (Some s) b) h s ks ws
  meets_code =
      record {
        run = R;
        state = refl;
        empty = M.empty;
        rests = rests_at s.operation s.progress s.group s.pages (ap (λ (k : Held). k.pending) holds ∙ M.rests);
        answer = record { number = 13; state = s };
        appends =
            record {
              is = answered_refused 13 (meaning s) (λ z. omega arith) ∙ sym (ap (λ (k : Held). append_of (length m) (views m) k b ks ws) holds ∙ M.met13);
              back = λ z. refl;
            };
        met13 = refl;
        supply = supplied_by.supply;
        supplies = supplied_by.supplies;
        accepted = supplied_by.accepted;
        pages =
            let a : available (views m) s.head ≡ available (views m) t.head = ap (λ (k : Held). available (views m) k.head) holds in
            omega (arith, a, M.pages, pages_supplied m s supplied_by.supply supplied_by.supplies supplied_by.accepted);
        narrow = M.narrow;
        small = M.small;
      }

arises_in_run : (n : ℕ) (m : List ℕ) (o : Option State) (b : List ℕ) (h : History) (t : Held) (ks ws : List ℕ) → Run (machine m o b) h → length m ≡ n
    → Meets13 (world_of (machine m o b)) h t ks ws → Suffice ks ws (world_of (machine m o b)) → ArisesInRun n
unfolding meant
arises_in_run n m None b h t ks ws R l M S = let z : None ≡ Some t = M.state in let y : ◌≡◌ {A = ℕ} 0 1 = cc in absurd (omega arith)
arises_in_run n m (Some s) b h t ks ws R l M S = record { x = machine m (Some s) b; h = h; s = s; ks = ks; ws = ws; size = l; met = meets_code m s b h R t ks ws M; serials = S }

pub possible_of_code : PossibleOfCode
unfolding PossibleOfCode Possible
possible_of_code n size =
    let A = possible n size in
    let T = runs_to A.w A.h A.met.reached in
    arises_in_run n T.x.medium T.x.state T.x.buffer A.h A.s A.ks A.ws T.run (ap (λ (w : World). length w.medium) T.is ∙ A.size)
    (subst (λ (w : World). Meets13 w A.h A.s A.ks A.ws) (sym T.is) A.met) (subst (Suffice A.ks A.ws) (sym T.is) A.serials)
