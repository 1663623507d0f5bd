-- Every trace has a run of a program.
use mathlib.Core.Path.{◌≡◌, refl, sym, ap, ◌∙◌}
use mathlib.Core.Bool.{true, not}
use mathlib.Core.List.{List, [], ◌∷◌, ◌++◌}
use Prim.Native.Nat.{ℕ, zero, suc, ◌+◌, ◌*◌, ◌<◌}
use native.Mathlib.Omega.{arith}
use lib.Dec.{eqb}
use lib.ListN.{length, get_or}
use borrow.Author.Tests.{eqb-true, eqb-false}
use Rattle.lists.specs.declared.Cells.{Cells}
use Rattle.lists.proofs.Laws.{by_cases}
use Rattle.codec.specs.Codec.{blank}
use Rattle.codec.proofs.Put.{length_blank}
use Rattle.page.specs.Buffer.{buffer_bytes}
use Rattle.valve_log.specs.Reached.{fresh}
use Rattle.trace.specs.Trace.{call_count, number_at, well_formed}
use Rattle.std.proofs.Common.{None}
use Rattle.player.specs.declared.Told.{Told}
use Rattle.player.specs.declared.Told.TheVariants.{Nothing, Refused, Recovered}
use Rattle.player.specs.declared.Reply.{Reply}
use Rattle.reply_lines.specs.declared.PrintedLine.{PrintedLine}
use Rattle.reply_lines.specs.declared.PrintedLine.TheVariants as printed
use Rattle.player.specs.Lines.{Line}
use Rattle.player.specs.Played.{LastState, lines_by, Starts}
use Rattle.reply_lines.specs.Printed.{many_set, line_of, CountsLines}
use Rattle.reply_lines.proofs.Laws.{count_refused, count_none, count_summary}
use Rattle.recorded_runs.specs.OfCode.{no_line, HandedLines, lines_printed, PlaysOn, Reruns, ComesTo, PlayAnswers, Rerun, RunsOfCode}

-- ---- lines as they are handed over

unfoldable handed_as : Line → PrintedLine
handed_as (Line.refusal n) = printed.Refusal n
handed_as (Line.log_length n) = printed.LogLength n
handed_as (Line.valves_set n) = printed.ValvesSet n
handed_as (Line.setting k w) = printed.Setting k w

handed_back : (l : Line) → line_of (handed_as l) ≡ l
unfolding handed_as
handed_back (Line.refusal n) = refl
handed_back (Line.log_length n) = refl
handed_back (Line.valves_set n) = refl
handed_back (Line.setting k w) = refl

unfoldable all_handed : List Line → List PrintedLine
all_handed [] = []
all_handed (l ∷ ls) = handed_as l ∷ all_handed ls

length_handed : (ls : List Line) → length (all_handed ls) ≡ length ls
unfolding all_handed
length_handed [] = refl
length_handed (l ∷ ls) = ap suc (length_handed ls)

get_handed : (ls : List Line) (k : ℕ) → k < length ls → line_of (get_or (all_handed ls) k no_line) ≡ get_or ls k (Line.refusal 0)
unfolding all_handed
get_handed [] k h = absurd (omega arith)
get_handed (l ∷ ls) zero h = handed_back l
get_handed (l ∷ ls) (suc k) h = get_handed ls k (omega arith)

-- how many there are does not depend on the medium
same_count : (r : Reply) (n : ℕ) (m : List ℕ) → CountsLines n r → CountsLines (length (lines_by m r)) r
same_count r n m C = record { is = λ x. sym (C.is m) ∙ C.is x }

counts : (r : Reply) (m : List ℕ) → CountsLines (length (lines_by m r)) r
counts r m = go r.told refl
  where
    go : (t : Told) → r.told ≡ t → CountsLines (length (lines_by m r)) r
    go Nothing e = same_count r 0 m (count_none r e)
    go (Refused n) e = same_count r 1 m (count_refused r n e)
    go (Recovered log) e = same_count r (2 + many_set r.last) m (count_summary r log e (many_set r.last) refl)

handed : (m : List ℕ) (r : Reply) → HandedLines m r (all_handed (lines_by m r))
handed m r =
    record {
      count = λ few. rw (length_handed (lines_by m r)) (counts r m);
      each = λ few k h. record { is = get_handed (lines_by m r) k (omega (arith, length_handed (lines_by m r))) };
    }

-- ---- the calls from a place on

module _ (t : List ℕ) (A : PlayAnswers t) where
  record Onward (i : ℕ) (m : List ℕ) (l : LastState) (b : List ℕ) : Type 0 where
    pub lines : List Line
    pub plays : PlaysOn t i m l b lines

  onward : (n i : ℕ) (m : List ℕ) (l : LastState) (b : List ℕ) → n + i ≡ call_count t → ComesTo t i m l b → Onward i m l b
  unfolding PlayAnswers
  onward zero i m l b e C = record { lines = []; plays = PlaysOn.over i m l b (omega arith) }
  onward (suc n) i m l b e C =
      let a = A i m l b C (omega arith) in
      let ls = all_handed (lines_by a.medium a.reply) in
      let H = handed a.medium a.reply in
      by_cases a.reply.ends
      (λ q. record { lines = lines_printed ls; plays = PlaysOn.ended i m l b a.reply a.medium a.buffer ls a.meets H q })
      (λ q.
      let N = onward n (suc i) a.medium a.reply.last a.buffer (omega arith) (ComesTo.later i m l b a.reply a.medium a.buffer C a.meets q) in
      record {
        lines = lines_printed ls ++ N.lines;
        plays = PlaysOn.next i m l b a.reply a.medium a.buffer ls N.lines a.meets H q N.plays;
      })

-- ---- where it starts

-- no state
abbrev no_state : LastState
no_state = None

starts : (n : ℕ) → Starts (blank n) no_state (blank n) fresh
starts n = record { medium = ap blank (sym (length_blank n)); stateless = refl; buffer = refl }

runs : (t : List ℕ) → PlayAnswers t → Rerun t
runs t A =
    by_cases (well_formed t)
    (λ q.
    let n = 4096 * number_at t 0 in
    let O = onward t A (call_count t) 0 (blank n) no_state fresh (omega arith) (ComesTo.first (blank n) fresh no_state (blank n) fresh (length_blank n) (length_blank buffer_bytes) (starts n)) in
    record {
      lines = O.lines;
      run = Reruns.plays (well_formed t) (blank n) fresh no_state (blank n) fresh O.lines refl q (length_blank n) (length_blank buffer_bytes) (starts n) O.plays;
    })
    (λ q. record { lines = Line.refusal 26 ∷ []; run = Reruns.broken (well_formed t) refl q })

pub runs_of_code : RunsOfCode
runs_of_code = record { breaks = λ t e. Reruns.broken (well_formed t) refl e; runs = runs }
