-- A program that plays a trace by the promises of the library prints the lines of the trace.
use mathlib.Core.Path.{◌≡◌, refl, sym, ap, ◌∙◌}
use mathlib.Core.Bool.{true, cond}
use mathlib.Core.List.{List, [], ◌∷◌, ◌++◌, append-nil}
use Prim.Native.Nat.{ℕ, zero, suc, ◌*◌, ◌≤◌, ◌<◌}
use native.Mathlib.Omega.{arith}
use lib.ListN.{length, get_or, drop, drop_of_length-le}
use lib.Seq.{drop-cons, ext_get_or}
use Rattle.lists.specs.Lists.{table}
use Rattle.lists.proofs.Laws.{length_table, get_table}
use Rattle.codec.specs.Codec.{blank}
use Rattle.codec.proofs.Put.{length_blank}
use Rattle.page.specs.Buffer.{buffer_bytes}
use Rattle.trace.proofs.Form.{formed_call, blocks_high}
use Rattle.valve_log.specs.Reached.{World}
use Rattle.trace.specs.Trace.{Recorded, call_count, number_at, recorded_at, recorded, well_formed}
use Rattle.player.specs.declared.Reply.{Reply}
use Rattle.reply_lines.specs.declared.PrintedLine.{PrintedLine}
use Rattle.player.specs.Lines.{Line}
use Rattle.player.specs.Run.{start_world, lines_from, lines_of}
use Rattle.cut_patterns.specs.Struck.{most_bytes}
use Rattle.player.specs.Played.{LastState, held_by, world_by, lines_by, FewSet, Plays, Starts, PlaysAt}
use Rattle.reply_lines.specs.Printed.{line_of}
use Rattle.recorded_runs.specs.Recorded.{PrintsHistory}
use Rattle.recorded_runs.specs.OfCode.{no_line, HandedLines, lines_printed, CallPlayed, PlaysOn, Reruns, PrintsOfCode}
use Rattle.recorded_runs.proofs.Whole.{prints_history}

-- ---- the lines of a call

length_printed : (ls : List PrintedLine) → length (lines_printed ls) ≡ length ls
unfolding lines_printed
length_printed [] = refl
length_printed (l ∷ ls) = ap suc (length_printed ls)

get_printed : (ls : List PrintedLine) (k : ℕ) → k < length ls → get_or (lines_printed ls) k (Line.refusal 0) ≡ line_of (get_or ls k no_line)
unfolding lines_printed
get_printed [] k h = absurd (omega arith)
get_printed (l ∷ ls) zero h = refl
get_printed (l ∷ ls) (suc k) h = get_printed ls k (omega arith)

handed_lines : (m : List ℕ) (r : Reply) (ls : List PrintedLine) → FewSet r → HandedLines m r ls → lines_printed ls ≡ lines_by m r
handed_lines m r ls few H =
    ext_get_or (Line.refusal 0) (lines_printed ls) (lines_by m r) (length_printed ls ∙ (H.count few).is m)
    (λ k h. let x : k < length ls = omega (arith, length_printed ls) in get_printed ls k x ∙ (H.each few k x).is)

-- ---- the calls that are left

module _ (t : List ℕ) where
  none_left : drop (call_count t) (recorded t) ≡ []
  unfolding recorded
  none_left = drop_of_length-le (table (call_count t) (recorded_at t)) {i = call_count t} (omega (arith, length_table (recorded_at t) Recorded.step (call_count t)))

  next_left : (i : ℕ) → i < call_count t → drop i (recorded t) ≡ recorded_at t i ∷ drop (suc i) (recorded t)
  unfolding recorded
  next_left i h =
      drop-cons (table (call_count t) (recorded_at t)) i Recorded.step (omega (arith, length_table (recorded_at t) Recorded.step (call_count t)))
      ∙ ap (λ (c : Recorded). c ∷ drop (suc i) (table (call_count t) (recorded_at t))) (get_table (recorded_at t) Recorded.step (call_count t) i h)

  -- ---- the run

  one : (w : World) (c : Recorded) (cs : List Recorded) (r : Reply) (m b : List ℕ) (ls : List PrintedLine) → Plays w c r m b → HandedLines m r ls
      → lines_from w (c ∷ cs) ≡ lines_printed ls ++ cond r.ends [] (lines_from (world_by m r.last b) cs)
  unfolding lines_from
  one w c cs r m b ls P H = rw (P.ends, P.after, handed_lines m r ls P.few H, P.lines) refl

  module _ (formed : well_formed t ≡ true) where
    -- what `play` asks is met
    met : (i : ℕ) (m : List ℕ) (l : LastState) (b : List ℕ) (r : Reply) (m' b' : List ℕ) → CallPlayed t i m l b r m' b' → length m ≤ most_bytes → length b ≡ buffer_bytes → PlaysAt t i m l b r m' b'
    met i m l b r m' b' C small lent = C.promise (record { has = formed_call t formed i C.there; start = refl; small = small; lent = lent })

    on : (i : ℕ) (m : List ℕ) (l : LastState) (b : List ℕ) (lines : List Line) → PlaysOn t i m l b lines → length m ≤ most_bytes → length b ≡ buffer_bytes
        → lines ≡ lines_from (world_by m l b) (drop i (recorded t))
    on i₀ m₀ l₀ b₀ lines (PlaysOn.over i m l b e) small lent = rw (e, none_left) (unfold lines_from in refl)
    on i₀ m₀ l₀ b₀ lines (PlaysOn.ended i m l b r m' b' ls C H e) small lent =
        sym (rw (next_left i C.there, one (world_by m l b) (recorded_at t i) (drop (suc i) (recorded t)) r m' b' ls (met i m l b r m' b' C small lent) H, e) (append-nil (lines_printed ls)))
    on i₀ m₀ l₀ b₀ lines (PlaysOn.next i m l b r m' b' ls rest C H e R) small lent =
        rw (
          next_left i C.there,
          one (world_by m l b) (recorded_at t i) (drop (suc i) (recorded t)) r m' b' ls (met i m l b r m' b' C small lent) H,
          e,
          ← on (suc i) m' r.last b' rest R (omega (arith, C.same_medium)) (C.same_buffer ∙ lent),
        ) refl

-- ---- where it starts

module _ (t : List ℕ) (m : List ℕ) (l : LastState) (m' b' : List ℕ) (long : length m ≡ 4096 * number_at t 0) (S : Starts m l m' b') where
  medium : m' ≡ blank (4096 * number_at t 0)
  medium = S.medium ∙ ap blank long

  first_world : world_by m' l b' ≡ start_world t
  unfolding world_by held_by start_world
  first_world = rw (S.stateless, medium, S.buffer) refl

  small : well_formed t ≡ true → length m' ≤ most_bytes
  small e = let z = ap length medium ∙ length_blank (4096 * number_at t 0) in omega (arith, blocks_high t e)

  lent : length b' ≡ buffer_bytes
  lent = ap length S.buffer ∙ length_blank buffer_bytes

reruns_lines : (t : List ℕ) (lines : List Line) → Reruns t lines → lines ≡ lines_of t
unfolding lines_of
reruns_lines t lines (Reruns.broken said e f) = rw (← e, f) refl
reruns_lines t lines (Reruns.plays said m b l m' b' ls e f long bytes S P) =
    rw (← e, f)
    (on t (sym e ∙ f) 0 m' l b' ls P (small t m l m' b' long S (sym e ∙ f)) (lent t m l m' b' long S)
    ∙ ap (λ (w : World). lines_from w (recorded t)) (first_world t m l m' b' long S))

pub prints_of_code : PrintsOfCode
unfolding PrintsOfCode PrintsHistory
prints_of_code t b lines R = record { all = reruns_lines t lines R; told = λ e. reruns_lines t lines R ∙ prints_history t b e }
