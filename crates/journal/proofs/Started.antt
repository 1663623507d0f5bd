-- A run of the code can start on every medium of allowed length.
use mathlib.Core.Path.{◌≡◌, refl, sym, ap, subst, ◌∙◌}
use mathlib.Core.Bool.{Bool, true, false}
use Rattle.std.proofs.Common.{Some}
use mathlib.Core.List.{List, []}
use Prim.Native.Nat.{ℕ, zero, suc, ◌/◌, ◌≤◌, ◌<◌}
use native.Mathlib.Omega.{arith}
use lib.ListN.{length, get_or}
use lib.Seq.{ext_get_or}
use Rattle.lists.specs.declared.Cell.{Cell}
use Rattle.lists.specs.declared.Cells.{Cells}
use Rattle.lists.specs.Lists.{Bytes, first, table, one_if}
use Rattle.lists.specs.Needs.{Answer, refused, gives}
use Rattle.lists.specs.Cells.{cell, pairs, listed, keys_of, words_of}
use Rattle.lists.proofs.Laws.{by_cases, answered_gives, gave_number, gave_value, length_table, get_table, length_first, get_first, key_at_lem, word_at_lem}
use Rattle.flash.specs.Medium.{views}
use Rattle.state.specs.declared.State.{State}
use Rattle.state.specs.State.{Pending, idle, append, commit, collect, format, flush, unnamed, Held, held, was_erased, pending_of, records_of, meaning}
use Rattle.state.proofs.Records.{records_length, record_is}
use Rattle.step.specs.Step.{Step, step_of, medium_after, buffer_after}
use Rattle.begin.specs.declared.Begun.{Begun}
use Rattle.begin.specs.Begun as begun
use Rattle.operations.specs.declared.Stepped.{Stepped}
use Rattle.operations.specs.Answers.{page, block, page_done, done_of, touched_by, outcome, done, performed}
use Rattle.valve_log.specs.History.{start as no_history}
use Rattle.valve_log.specs.Reached.{World, world, fresh, with_state, step_due, Event, happen, finishes, meanwhile}
use Rattle.valve_log.specs.Finished.{steps_on, Finished, FormattingFinishes}
use Rattle.valve_log.specs.Weak.{Weak, after_erase}
use Rattle.valve_log.proofs.Finished.{formatting_finishes}
use Rattle.valve_log.proofs.Weak.{Guard, Careful, step_careful, begun_guard}
use Rattle.journal.specs.Run.{Machine, machine, meant, world_of, Moves, Formatting, Run}
use Rattle.journal.specs.Started.{Formatted, RunsStart}
use Rattle.journal.proofs.Chain.{moves, answers_meanwhile, answers_finished}

-- ---- whatever the answers are

module _ (m : List ℕ) (bytes : Bytes m) (F : Finished m) where
  abbrev world_at : ℕ → World
  world_at n = steps_on n (world m (Some F.state) fresh)

  -- after n steps formatting is under way, in the world that the definitions lead to
  record Way (n : ℕ) (x : Machine) : Type 0 where
    pub under_way_lem : Formatting x
    pub is : world_of x ≡ world_at n

  stands : (n : ℕ) (x : Machine) → world_of x ≡ world_at n → n < length m / 4096 → meanwhile (world_of x) Event.step ≡ true
  unfolding meanwhile
  stands n x e h = ap (λ (w : World). meanwhile w Event.step) e ∙ rw (F.before n h)

  way : (n : ℕ) (x : Machine) → Formatted m n x → n ≤ length m / 4096 → Way n x
  unfolding steps_on meant
  way n x (Formatted.begun r p) h =
      let e = p.is ∙ F.begun in
      record {
        under_way_lem = Formatting.begun m r fresh bytes p (gave_number r.number (meaning r.state) F.state e);
        is = ap (λ (s : Held). world m (Some s) fresh) (gave_value r.number (meaning r.state) F.state e);
      }
  way n x (Formatted.step k now after b b' s r G p) h =
      let W = way k (machine now (Some s) b) G (omega arith) in
      let v : Moves (machine now (Some s) b) Event.step (machine after (Some r.state) b') = Moves.step now after s b b' r p in
      record {
        under_way_lem =
            Formatting.next (machine now (Some s) b) (machine after (Some r.state) b') Event.step W.under_way_lem v
            (answers_meanwhile (machine now (Some s) b) (machine after (Some r.state) b') Event.step v ∙ stands k (machine now (Some s) b) W.is (omega arith));
        is =
            moves (machine now (Some s) b) (machine after (Some r.state) b') Event.step v
            ∙ ap (λ (w : World). (happen w Event.step).after) W.is;
      }

  runs_then : (n : ℕ) (x : Machine) → Formatted m n x → n ≡ suc (length m / 4096) → Run (machine x.medium x.state fresh) no_history
  runs_then n x (Formatted.begun r p) e = absurd (omega arith)
  runs_then n x (Formatted.step k now after b b' s r G p) e =
      let q : k ≡ length m / 4096 = omega arith in
      let W = way k (machine now (Some s) b) G (omega arith) in
      let v : Moves (machine now (Some s) b) Event.step (machine after (Some r.state) b') = Moves.step now after s b b' r p in
      Run.start (machine now (Some s) b) (machine after (Some r.state) b') W.under_way_lem v
      (answers_finished (machine now (Some s) b) (machine after (Some r.state) b') v
      ∙ ap (λ (w : World). finishes (step_due w)) (W.is ∙ ap world_at q) ∙ F.last)

-- ---- answers that meet the promises

-- each list of cells is what some struct stands for
abbrev cells_of : List Cell → Cells
cells_of l = record { count = length l; keys = keys_of l; vals = words_of l }

listed_cells : (l : List Cell) → listed (cells_of l) ≡ l
unfolding pairs
listed_cells l =
    let n = length_table (λ (j : ℕ). cell (get_or (keys_of l) j 0) (get_or (words_of l) j 0)) (cell 0 0) (length l) in
    ext_get_or (cell 0 0) (pairs (length l) (keys_of l) (words_of l)) l n
    (λ i h. get_table (λ (j : ℕ). cell (get_or (keys_of l) j 0) (get_or (words_of l) j 0)) (cell 0 0) (length l) i (omega (arith, n)) ∙ rw (key_at_lem l i, word_at_lem l i))

first_all : (ps : List ℕ) → first 0 (length ps) ps ≡ ps
first_all ps =
    let n = length_first {A = ℕ} 0 (length ps) ps in
    ext_get_or 0 (first 0 (length ps) ps) ps n (λ i h. get_first {A = ℕ} 0 (length ps) i ps (omega (arith, n)))

-- what is pending, in a struct's numbers and lists
unfoldable pub operation_of : Pending → ℕ
operation_of idle = 0
operation_of (append es ps) = 1
operation_of (commit k) = 2
operation_of (collect b) = 3
operation_of (format n) = 4
operation_of flush = 5
operation_of unnamed = 6

unfoldable pub progress_of : Pending → ℕ
progress_of idle = 0
progress_of (append es ps) = length ps
progress_of (commit k) = k
progress_of (collect b) = b
progress_of (format n) = n
progress_of flush = 0
progress_of unnamed = 0

unfoldable pub group_of : Pending → List Cell
group_of idle = []
group_of (append es ps) = es
group_of (commit k) = []
group_of (collect b) = []
group_of (format n) = []
group_of flush = []
group_of unnamed = []

unfoldable pub pages_of : Pending → List ℕ
pages_of idle = []
pages_of (append es ps) = ps
pages_of (commit k) = []
pages_of (collect b) = []
pages_of (format n) = []
pages_of flush = []
pages_of unnamed = []

pending_same : (p : Pending) → pending_of (operation_of p) (progress_of p) (cells_of (group_of p)) (pages_of p) ≡ p
unfolding pending_of operation_of progress_of group_of pages_of
pending_same idle = refl
pending_same (append es ps) = ap (λ (l : List Cell). append l (first 0 (length ps) ps)) (listed_cells es) ∙ ap (append es) (first_all ps)
pending_same (commit k) = refl
pending_same (collect b) = refl
pending_same (format n) = refl
pending_same flush = refl
pending_same unnamed = refl

-- records of erased blocks, in numbers
unfoldable pub numbers_of : List Bool → List ℕ
numbers_of e = table (length e) (λ b. one_if (get_or e b false))

records_same : (e : List Bool) (blocks : ℕ) → length e ≡ blocks → records_of blocks (numbers_of e) ≡ e
unfolding numbers_of was_erased one_if
records_same e blocks l =
    ext_get_or false (records_of blocks (numbers_of e)) e (records_length blocks (numbers_of e) ∙ sym l) (λ b h.
    let i : b < blocks = omega (arith, records_length blocks (numbers_of e)) in
    let g : get_or (numbers_of e) b 0 ≡ one_if (get_or e b false) = get_table (λ (c : ℕ). one_if (get_or e c false)) 0 (length e) b (omega arith) in
    record_is blocks (numbers_of e) b i ∙ by_cases (get_or e b false) (λ q. rw (g, q)) (λ q. rw (g, q)))

-- whatever a state may hold, with a record for each block, some struct holds it
abbrev pub state_of : Held → State
state_of h =
    record {
      head = h.head;
      index = cells_of h.index;
      group = cells_of (group_of h.pending);
      pages = pages_of h.pending;
      operation = operation_of h.pending;
      progress = progress_of h.pending;
      erased = numbers_of h.erased;
    }

pub state_same : (h : Held) → length h.erased ≡ h.head.blocks → meaning (state_of h) ≡ h
state_same h l =
    ap (λ (x : List Cell). held h.head x (meaning (state_of h)).pending (meaning (state_of h)).erased) (listed_cells h.index)
    ∙ ap (λ (x : Pending). held h.head h.index x (meaning (state_of h)).erased) (pending_same h.pending)
    ∙ ap (held h.head h.index h.pending) (records_same h.erased h.head.blocks l)

-- a struct that holds what a state of formatting does, which has a record for each block
record Standing (h : Held) : Type 0 where
  pub is : meaning (state_of h) ≡ h
  pub weak : Weak
  pub guard : Guard weak (meaning (state_of h))

standing : (weak : Weak) (h : Held) → Guard weak h → Standing h
standing weak h G =
    let e = state_same h G.long in
    record { is = e; weak = weak; guard = subst (Guard weak) (sym e) G }

-- a step that is not refused has an answer
pub record Answered (m : List ℕ) (s : State) (t : Answer Step) : Type 0 where
  pub answer : Stepped
  pub weak : Weak
  pub guard : Guard weak (meaning answer.state)
  pub meets : outcome answer (medium_after m t) ≡ performed m s t

pub answered : (m : List ℕ) (s : State) (t : Answer Step) (weak : Weak) → Careful weak t → ((k : ℕ) → t ≡ refused k → ⊥) → Answered m s t
unfolding performed done done_of touched_by Careful
answered m s (refused n) weak C f = absurd (f n refl)
answered m s (gives (Step.program p pg h finished)) weak C f =
    let S = standing weak h C.1 in
    record {
      answer = page_done p finished (state_of h);
      weak = S.weak;
      guard = S.guard;
      meets = ap (λ (x : Held). record { done = Some (page p finished x); medium = medium_after m (gives (Step.program p pg h finished)) }) S.is;
    }
answered m s (gives (Step.erase b h finished)) weak C f =
    let S = standing (after_erase b false weak) h C in
    record {
      answer = record { number = 0; touched = 2; finished = finished; at = b; state = state_of h };
      weak = S.weak;
      guard = S.guard;
      meets = ap (λ (x : Held). record { done = Some (block b finished x); medium = medium_after m (gives (Step.erase b h finished)) }) S.is;
    }

module _ (m : List ℕ) (bytes : Bytes m) (F : Finished m) where
  record There (n : ℕ) : Type 0 where
    pub now : List ℕ
    pub buffer : List ℕ
    pub state : State
    pub weak : Weak
    pub guard : Guard weak (meaning state)
    pub formatted : Formatted m n (machine now (Some state) buffer)

  begun_there : There 0
  begun_there =
      let S = standing (λ b. true) F.state (begun_guard (λ b. true) (length m) F.state F.begun) in
      record {
        now = m;
        buffer = fresh;
        state = state_of F.state;
        weak = S.weak;
        guard = S.guard;
        formatted =
            Formatted.begun (record { number = 0; state = state_of F.state })
            (record { is = answered_gives 0 (meaning (state_of F.state)) refl ∙ ap gives S.is ∙ sym F.begun; back = λ z. absurd (z refl) });
      }

  due_accepted : (n : ℕ) (now b : List ℕ) (s : State) → world_of (machine now (Some s) b) ≡ world_at m bytes F n → n ≤ length m / 4096
      → (k : ℕ) → step_of (length now) (views now) (meaning s) b ≡ refused k → ⊥
  unfolding step_due with_state meant
  due_accepted n now b s e h k q = F.accepted n k h (sym (ap step_due e) ∙ q)

  there : (n : ℕ) → n ≤ suc (length m / 4096) → There n
  there zero h = begun_there
  there (suc n) h =
      let T = there n (omega arith) in
      let W = way m bytes F n (machine T.now (Some T.state) T.buffer) T.formatted (omega arith) in
      let t = step_of (length T.now) (views T.now) (meaning T.state) T.buffer in
      let C = step_careful T.weak T.now (meaning T.state) T.buffer T.guard in
      let A = answered T.now T.state t T.weak C (due_accepted n T.now T.buffer T.state W.is (omega arith)) in
      record {
        now = medium_after T.now t;
        buffer = buffer_after T.buffer t;
        state = A.answer.state;
        weak = A.weak;
        guard = A.guard;
        formatted = Formatted.step n T.now (medium_after T.now t) T.buffer (buffer_after T.buffer t) T.state A.answer T.formatted (record { does = A.meets; leaves = refl });
      }

pub runs_start : RunsStart
unfolding RunsStart FormattingFinishes
runs_start m bytes size =
    let F = formatting_finishes m bytes size in
    let T = there m bytes F (suc (length m / 4096)) (omega arith) in
    record {
      whatever = λ x G. runs_then m bytes F (suc (length m / 4096)) x G refl;
      then = machine T.now (Some T.state) T.buffer;
      answered = T.formatted;
    }
