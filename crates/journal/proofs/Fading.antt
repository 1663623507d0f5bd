-- Paper 14 of the code, from the same of the definitions: the moments of a run are those of its list.
use mathlib.Core.Path.{◌≡◌, refl, sym, ap, subst, ◌∙◌}
use mathlib.Core.Bool.{true}
use mathlib.Core.List.{List, [], ◌∷◌}
use Prim.Native.Nat.{ℕ, ◌/◌, ◌≤◌}
use native.Mathlib.Omega.{arith}
use lib.ListN.{length}
use denote.Ref.{Bor}
use Rattle.lists.specs.Lists.{every}
use Rattle.lists.specs.Needs.{Answer, refused, gives, answered, and_then}
use Rattle.lists.specs.Cells.{Entry, Setting}
use Rattle.lists.proofs.Laws.{tests, refused_with}
use Rattle.page.specs.Pages.{View}
use Rattle.flash.specs.Medium.{views}
use Rattle.flash.proofs.Laws.{length_views}
use Rattle.state.specs.State.{Held, idle, meaning, head_fit, pending_fit, fit}
use Rattle.recovery.specs.Recovery.{Recovery, recovery_with, recovered_state, recover_needs, recover}
use Rattle.recover.specs.declared.Recovered.{Recovered}
use Rattle.recover.specs.Recovers.{Recovers}
use Rattle.readings.specs.Readings.{filed_log, read_log}
use Rattle.filing.specs.Filed.{leaving}
use Rattle.log_reader.specs.declared.LogPlace.{LogPlace}
use Rattle.log_reader.specs.Reader.{start_of, refused_place, over, AskedInTurn}
use Rattle.log_reader.proofs.FirstToLast.{first_to_last}
use Rattle.log_reader.proofs.Form.{answers, form_first_to_last}
use Rattle.spans.specs.Spans.{span_effect, effect_of}
use Rattle.spans.specs.Along.{effected}
use Rattle.mattered.specs.Mattered.{mattered, listed_in, read_mattered}
use Rattle.valve_log.specs.History.{History, history, nothing}
use Rattle.valve_log.specs.Reached.{World, Event, happen, Earlier, happened, Before, Reached, Shows, Point3}
use Rattle.valve_log.proofs.Point3.{reached_upheld, point3}
use Rattle.fading.specs.Fading.{Faded, AsThen, RefusedWith4To6}
use Rattle.valve_log.specs.Made.{groups_counting, groups_made_before, Tallied}
use Rattle.valve_log.proofs.Made.{tell_tallied, start_tallied, before_tallied}
use Rattle.fading.proofs.Standing.{Within, next_serial, next_within}
use Rattle.fading.proofs.Same.{accepted, recovers, recover_cases, state_found_lem, serial_found}
use Rattle.fading.proofs.Moments.{PageChange, happen_change, changed_before, OlderStand, older_apart, Along, along_now, along_next, AtSerial, at_now, at_next, start_next}
use Rattle.fading.proofs.Fading.{faded_within, next_two, as_since, refused_with_4_to_6}
use Rattle.fading.proofs.Made.{MadeSince, none_since, more_since, log_among, settings_then}
use Rattle.journal.specs.Run.{Machine, world_of, Moves, told_by, starting_on, Run, Handed}
use Rattle.journal.specs.Reader.{ReadOut}
use Rattle.journal.specs.Fading.{RunAtOrBefore, now, earlier, older, MomentOfRun, TurnedBack, HandedAsThen, TurnedBackOrHanded, refuses, hands, FadesOfCode}
use Rattle.journal.specs.Fading.{groups_made_by, HandedAsMade, OnlyMadeOfCode, SerialTellsOfCode}
use Rattle.journal.proofs.Chain.{moves, answers_finished, formatting, runs, found_state, handed, size_reached, fit_reached}
use Rattle.journal.proofs.Reader.{out}
use Rattle.journal.proofs.SinceCommit.{effect_shown}
use Rattle.journal.proofs.Mattered.{mattered_shown}

-- ---- the moments of a run

abbrev now_of : {x : Machine} {h : History} (r : Run x h) → MomentOfRun r
now_of {x} {h} r = record { machine = x; history = h; run = r; passed = now }

abbrev onward_of : {x z : Machine} {h : History} (r : Run x h) (e : Event (world_of x)) (v : Moves x e z) → MomentOfRun r → MomentOfRun (Run.next x z h e r v)
onward_of r e v t = record { machine = t.machine; history = t.history; run = t.run; passed = earlier e v t.passed }

abbrev older_of : {w : World} {h : History} (b : Before w h) (e : Earlier w) → MomentOfRun (Run.taken_over b)
    → MomentOfRun (Run.taken_over (Before.next w h e b))
older_of b e t = record { machine = t.machine; history = t.history; run = t.run; passed = older e t.passed }

abbrev medium_then : {x : Machine} {h : History} (r : Run x h) → MomentOfRun r → List ℕ
medium_then r t = t.machine.medium

-- a move does to the medium what the event does
moved : (x y : Machine) (h : History) (e : Event (world_of x)) → Run x h → Moves x e y → PageChange x.medium y.medium
moved x y h e r v =
    let m : y.medium ≡ (happen (world_of x) e).after.medium = ap (λ (w : World). w.medium) (moves x y e v) in
    rw m (happen_change x.medium (world_of x).state x.buffer h e (reached_upheld (world_of x) h (runs x h r)))

moment_before : (w : World) (h : History) (b : Before w h) (n : ℕ) → 2 ≤ n → n ≤ next_serial (views w.medium)
    → AtSerial (MomentOfRun (Run.taken_over b)) (medium_then (Run.taken_over b)) w.medium n
moment_before w h (Before.start v F f) n lo hi =
    at_now (now_of (Run.taken_over (Before.start v F f))) n (let b = start_next v F f in omega arith)
moment_before w h (Before.next v g e b) n lo hi =
    at_next v.medium (now_of (Run.taken_over (Before.next v g e b))) (older_of b e) (λ x. refl) (changed_before v g e b) n
    (λ k. moment_before v g b n lo k) hi

moment_of : (x : Machine) (h : History) (r : Run x h) (n : ℕ) → 2 ≤ n → n ≤ next_serial (views x.medium) → AtSerial (MomentOfRun r) (medium_then r) x.medium n
moment_of x h (Run.start z y f v last) n lo hi =
    let m : y.medium ≡ (happen (world_of z) Event.step).after.medium = ap (λ (w : World). w.medium) (moves z y Event.step v) in
    let a : next_serial (views y.medium) ≤ 2 = rw m (start_next (world_of z) (formatting z f) (sym (answers_finished z y v) ∙ last)) in
    at_now (now_of (Run.start z y f v last)) n (omega arith)
moment_of x h (Run.next z y k e r v) n lo hi =
    at_next z.medium (now_of (Run.next z y k e r v)) (onward_of r e v) (λ t. refl) (moved z y k e r v) n (λ l. moment_of z k r n lo l) hi
moment_of x h (Run.taken_over {w = w} {h = k} b) n lo hi = moment_before w k b n lo hi

-- ---- what is handed

-- a state with nothing pending is fit by the number of pages alone
fit_same : (u v : List View) (s : Held) → length u ≡ length v → s.pending ≡ idle → fit u s ≡ fit v s
unfolding fit head_fit pending_fit
fit_same u v s l p = rw (l, p)

-- and such is the state that recovery gives
idle_found : (v : List View) → (recovered_state v).pending ≡ idle
unfolding recovered_state
idle_found v = refl

module _ (m : List ℕ) (w : World) (g : History) (R : Reached w g) (long : length m ≡ length w.medium)
    (e : every (tests (recover_needs (length m) (views m))) ≡ true) (A : AsThen m w.medium g) where
  S : Shows m g
  S = A.shows

  same_state : S.state ≡ A.showed.state
  same_state =
      let q : gives (recovery_with S.log S.state) ≡ gives (recovery_with A.showed.log A.showed.state) = sym S.accepts ∙ A.same ∙ A.showed.accepts in
      let p : recovery_with S.log S.state ≡ recovery_with A.showed.log A.showed.state = cc in
      ap (λ (x : Recovery). x.state) p

  still_fit : fit (views m) S.state ≡ true
  still_fit =
      fit_same (views m) (views w.medium) S.state (length_views m ∙ ap (λ (k : ℕ). k / 256) long ∙ sym (length_views w.medium))
      (ap (λ (s : Held). s.pending) (sym (state_found_lem (length m) (views m) S.log S.state e S.accepts)) ∙ idle_found (views m))
      ∙ ap (fit (views w.medium)) same_state ∙ fit_reached w g R A.showed

  handed_then : HandedAsThen m w.medium g
  handed_then =
      record {
        same = λ a b p q. p ∙ ap (λ (x : Answer Recovery). and_then x (λ y. gives y.state)) A.same ∙ sym q;
        handed = handed m g S (rw long (size_reached w g R A.showed)) still_fit;
        read = out m g S;
        effect = effect_shown m g S;
        groups = mattered_shown m g S;
      }

-- ---- what is turned back

module _ (m : List ℕ) (n : ℕ) (among : (4 ≤ n) × (n ≤ 6)) (e : recover (length m) (views m) ≡ refused n) where
  same_number : (r : Recovered) → Recovers m r → r.number ≡ n
  unfolding and_then answered
  same_number r p =
      let q : answered r.number (meaning r.state) ≡ refused n = p ∙ ap (λ (x : Answer Recovery). and_then x (λ y. gives y.state)) e in
      let k : refused r.number ≡ refused n = rw (refused_with r.number (meaning r.state) n q) at q in
      cc

  no_log : (lists : List (List ℕ)) → read_log (length m) (views m) lists ≡ refused n
  unfolding read_log and_then
  no_log lists = ap (λ (x : Answer Recovery). and_then x (λ r. filed_log lists r.log)) e

  at_none : (p : LogPlace) → p ≡ start_of m → p ≡ refused_place n
  at_none p q = q ∙ first_to_last.refusal m n e

  -- the medium behind a lent slice
  lent : (l : Bor (List ℕ)) → l.now ≡ m → recover (length l.now) (views l.now) ≡ refused n
  lent l q = subst (λ (x : List ℕ). recover (length x) (views x) ≡ refused n) (sym q) e

  turned_back : TurnedBack m n
  turned_back =
      record {
        number = among;
        recovery = same_number;
        log = λ ks ws ns ks' ws' ns' a p. p ∙ ap (leaving (ks ∷ ws ∷ ns ∷ [])) (no_log (ks ∷ ws ∷ ns ∷ []));
        effect = λ first second a p. p ∙ (unfold effect_of and_then in ap (λ (x : Answer Recovery). effected (and_then x (λ r. span_effect first second r.log))) e);
        groups = λ lent lent' a p. p ∙ ap (leaving (lent ∷ [])) (unfold read_mattered and_then in ap (λ (x : Answer Recovery). and_then x (λ r. listed_in lent (mattered r.log))) e);
        reader = λ p q. ap (λ (x : LogPlace). x.number) (at_none p q);
        nothing = λ p cs q a. answers (over (first_to_last.none_refused m n (λ z. let k = among.0 in omega arith))) (subst (λ (x : LogPlace). AskedInTurn m x cs) (at_none p q) a);
        form = λ l r q p. form_first_to_last.refusal l n (lent l q) r p;
        form_nothing = λ l r cs q p a. form_first_to_last.nothing l n (lent l q) r cs p a;
      }

-- ---- the claim

module _ (x : Machine) (h : History) (r : Run x h) (m : List ℕ) (f : Faded x.medium m) where
  within_run : Within (views m) (views x.medium)
  within_run = faded_within (world_of x) h (reached_upheld (world_of x) h (runs x h r)) m f

  -- at a moment at which the next serial was the faded medium's
  handed_at : every (tests (recover_needs (length m) (views m))) ≡ true → (y : Machine) (g : History) → Run y g
      → OlderStand y.medium x.medium (next_serial (views m)) → HandedAsThen m y.medium g
  handed_at e y g q A =
      let R = runs y g q in
      handed_then m (world_of y) g R (f.size ∙ sym A.size) e (as_since (world_of x) (world_of y) g R m f.size within_run A e)

pub fades_of_code : FadesOfCode
unfolding FadesOfCode RefusedWith4To6
fades_of_code x h r m f = recover_cases (length m) (views m) (λ n e. refuses n (turned_back m n (refused_with_4_to_6 (world_of x) h (runs x h r) m f n e) e)) found
  where
    found : every (tests (recover_needs (length m) (views m))) ≡ true → TurnedBackOrHanded r m
    found e =
        let A = moment_of x h r (next_serial (views m)) (next_two (views m) (accepted (length m) (views m) e)) (next_within (views m) (views x.medium) (within_run x h r m f)) in
        let t = A.moment in
        hands t (handed_at x h r m f e t.machine t.history t.run A.stand)

-- ---- what is handed was made

run_tallied : (x : Machine) (h : History) (r : Run x h) → Tallied (groups_made_by r) h
unfolding groups_made_by
run_tallied x h (Run.start z y f v last) = start_tallied
run_tallied x h (Run.next z y k e r v) = tell_tallied (groups_made_by r) k (run_tallied z k r) (told_by z y e v)
run_tallied x h (Run.taken_over {w = w} {h = k} b) = before_tallied w k b

made_since : {y : Machine} {g : History} (q : Run y g) (x : Machine) (h : History) (r : Run x h) → RunAtOrBefore q x h r → MadeSince (groups_made_by q) (groups_made_by r)
unfolding groups_made_by groups_made_before
made_since q x h r now = none_since (groups_made_by q)
made_since q x h r (earlier {x = x'} {z = z} {h = h'} {r = r'} e v p) = more_since (groups_counting h' (told_by x' z e v)) (made_since q x' h' r' p)
made_since q x h r (older {w = w} {h = h'} {b = b} e p) =
    more_since (groups_counting h' (happened w e).told) (made_since q (starting_on w) h' (Run.taken_over b) p)

-- what is handed depends on log and settings alone
module _ (m : List ℕ) (g : History) where
  handed_alone : Handed m g → Handed m (history g.settings g.log nothing [])
  handed_alone H = record { accepted = H.accepted; log = H.log; settings = H.settings; opening = H.opening; list = H.list }

  read_alone : ReadOut m g → ReadOut m (history g.settings g.log nothing [])
  read_alone H = record { accepted = H.accepted; log = H.log; form_accepted = H.form_accepted; form_log = H.form_log }

pub only_made_of_code : OnlyMadeOfCode
unfolding OnlyMadeOfCode FadesOfCode
only_made_of_code x h r m f a p z = go (fades_of_code x h r m f)
  where
    go : TurnedBackOrHanded r m → HandedAsMade (groups_made_by r) m
    go (refuses n T) = let k = T.number.0 in let e = T.recovery a p in absurd (omega arith)
    go (hands t A) =
        let g = t.history in
        let T = run_tallied t.machine g t.run in
        let S = made_since t.run x h r t.passed in
        let e = settings_then T S in
        record {
          before = T.before;
          log = g.log;
          after = S.after;
          order = log_among T S;
          handed = subst (λ (s : List Setting). Handed m (history s g.log nothing [])) e (handed_alone m g A.handed);
          read = subst (λ (s : List Setting). ReadOut m (history s g.log nothing [])) e (read_alone m g A.read);
        }

-- ---- the next serial

along_run : {y : Machine} {g : History} (q : Run y g) (x : Machine) (h : History) (r : Run x h) → RunAtOrBefore q x h r → Along y.medium x.medium
along_run {y} q x h r now = along_now y.medium
along_run {y} q x h r (earlier {x = x'} {z = z} {h = h'} {r = r'} e v p) = along_next y.medium x'.medium z.medium (moved x' z h' e r' v) (along_run q x' h' r' p)
along_run {y} q x h r (older {w = w} {h = h'} {b = b} e p) =
    along_next y.medium w.medium (happened w e).after.medium (changed_before w h' e b)
    (along_run q (starting_on w) h' (Run.taken_over b) p)

-- a moment at which the run had passed the moment q
record From {y : Machine} {g : History} (q : Run y g) (x : Machine) (h : History) (r : Run x h) : Type 0 where
  moment : MomentOfRun r
  passed : RunAtOrBefore q moment.machine moment.history moment.run

abbrev medium_from : {y : Machine} {g : History} (q : Run y g) (x : Machine) (h : History) (r : Run x h) → From q x h r → List ℕ
medium_from q x h r t = t.moment.machine.medium

moment_from : {y : Machine} {g : History} (q : Run y g) (x : Machine) (h : History) (r : Run x h) → RunAtOrBefore q x h r
    → (n : ℕ) → next_serial (views y.medium) ≤ n → n ≤ next_serial (views x.medium) → AtSerial (From q x h r) (medium_from q x h r) x.medium n
moment_from q x h r now n lo hi = at_now {f = medium_from q x h r} (record { moment = now_of q; passed = now }) n (omega arith)
moment_from q x h r (earlier {x = x'} {z = z} {h = h'} {r = r'} e v p) n lo hi =
    at_next {f = medium_from q x' h' r'} {g = medium_from q x h r} x'.medium (record { moment = now_of (Run.next x' z h' e r' v); passed = earlier e v p })
    (λ t. record { moment = onward_of r' e v t.moment; passed = t.passed }) (λ t. refl) (moved x' z h' e r' v) n (λ k. moment_from q x' h' r' p n lo k) hi
moment_from q x h r (older {w = w} {h = h'} {b = b} e p) n lo hi =
    at_next {f = medium_from q (starting_on w) h' (Run.taken_over b)} {g = medium_from q x h r} w.medium
    (record { moment = now_of (Run.taken_over (Before.next w h' e b)); passed = older e p })
    (λ t. record { moment = older_of b e t.moment; passed = t.passed }) (λ t. refl) (changed_before w h' e b) n
    (λ k. moment_from q (starting_on w) h' (Run.taken_over b) p n lo k) hi

-- the next serial of a state recovered
serial_recovered : (m : List ℕ) (log : List (List Entry)) (s : Held) → recover (length m) (views m) ≡ gives (recovery_with log s) → (a : Recovered) → Recovers m a
    → a.state.head.serial ≡ next_serial (views m)
serial_recovered m log s e a p =
    ap (λ (t : Held). t.head.serial) (found_state m log s e a p) ∙ serial_found (length m) (views m) log s e

pub serial_tells_of_code : SerialTellsOfCode
unfolding SerialTellsOfCode RefusedWith4To6 Point3
serial_tells_of_code x h r p m f a b pa pb z =
    record {
      same = λ k. handed_at x h r m f e p.machine p.history p.run (subst (OlderStand then x.medium) (omega (arith, i, j, k)) L.stand);
      lower = λ k.
          let A = moment_of p.machine p.history p.run (next_serial (views m)) (next_two (views m) (accepted (length m) (views m) e)) (omega (arith, i, j, k)) in
          let t = A.moment in
          record {
            moment = t;
            as_then = handed_at x h r m f e t.machine t.history t.run
                (older_apart t.machine.medium then x.medium (next_serial (views m)) (next_serial (views then)) (omega (arith, i, j, k)) A.stand L.stand);
          };
      greater = λ k.
          let A = moment_from p.run x h r p.passed (next_serial (views m)) (omega (arith, i, j, k)) (next_within (views m) (views x.medium) (within_run x h r m f)) in
          let t = A.moment.moment in
          record { moment = t; passed = A.moment.passed; as_then = handed_at x h r m f e t.machine t.history t.run A.stand };
    }
  where
    then : List ℕ
    then = p.machine.medium

    L : Along then x.medium
    L = along_run p.run x h r p.passed

    S : Shows then p.history
    S = point3 (world_of p.machine) p.history (runs p.machine p.history p.run)

    none_refused : (n : ℕ) → recover (length m) (views m) ≡ refused n → every (tests (recover_needs (length m) (views m))) ≡ true
    none_refused n e = let k = refused_with_4_to_6 (world_of x) h (runs x h r) m f n e in let i = same_number m n k e b pb in let l = k.0 in absurd (omega arith)

    e : every (tests (recover_needs (length m) (views m))) ≡ true
    e = recover_cases (length m) (views m) none_refused (λ t. t)

    i : b.state.head.serial ≡ next_serial (views m)
    i = serial_recovered m _ (recovered_state (views m)) (recovers (length m) (views m) e) b pb

    j : a.state.head.serial ≡ next_serial (views then)
    j = serial_recovered then S.log S.state S.accepts a pa
