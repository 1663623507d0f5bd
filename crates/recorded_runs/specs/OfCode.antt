-- Paper 13, of the code: a program asks whether a trace has the form, plays its calls in turn, and prints the lines that it is handed. Each answer is
-- known by its promise alone, the very text of its function's `ensures`, and only where what the function asks, its `requires`, is met: `PlaysOn` and
-- `Reruns` say what such a program does. Reading standard input stands outside of this statement; the loop of `rerun` over the calls and the text that it
-- prints have promises of their own (`run_text::window`).
use Rattle.std.specs.Prelude.{◌≡◌, Bool, true, false, List, [], ◌∷◌, ◌++◌, ℕ, suc, ◌*◌, ◌<◌, length, get_or}
use Rattle.lists.specs.Lists.{Bytes}
use Rattle.page.specs.Buffer.{buffer_bytes}
use Rattle.trace.specs.Trace.{call_count, number_at, data_start, well_formed, recorded}
use Rattle.player.specs.declared.Reply.{Reply}
use Rattle.reply_lines.specs.declared.PrintedLine.{PrintedLine}
use Rattle.reply_lines.specs.declared.PrintedLine.TheVariants as printed
use Rattle.player.specs.Lines.{Line}
use Rattle.player.specs.Run.{start_world, lines_of}
use Rattle.player.specs.Played.{LastState, FewSet, Starts, Playable, PlaysAt}
use Rattle.reply_lines.specs.Printed.{line_of, CountsLines, GivesLine}
use Rattle.recorded_runs.specs.Recorded.{Phase, told_from}

-- ---- the lines of a call

-- what stands past the end of a list of lines
abbrev pub no_line : PrintedLine
no_line = printed.Refusal 0

-- the lines that are handed over for a reply, with medium m as the call left it: as many as `line_count` says, each by `line`
pub record HandedLines (m : List ℕ) (r : Reply) (ls : List PrintedLine) : Type 0 where
  pub count : FewSet r → CountsLines (length ls) r
  pub each : FewSet r → (k : ℕ) → k < length ls → GivesLine m r k (get_or ls k no_line)

-- and as they are printed
unfoldable pub lines_printed : List PrintedLine → List Line
lines_printed [] = []
lines_printed (l ∷ ls) = line_of l ∷ lines_printed ls

-- ---- the run

-- call i of trace t handed to `play` with medium m, the state l last handed back and buffer b: its reply, and medium and buffer as it leaves them, which
-- are as long as they were lent
pub record CallPlayed (t : List ℕ) (i : ℕ) (m : List ℕ) (l : LastState) (b : List ℕ) (r : Reply) (m' b' : List ℕ) : Type 0 where
  pub there : i < call_count t
  pub promise : Playable t i (data_start t i) m b → PlaysAt t i m l b r m' b'
  pub same_medium : length m' ≡ length m
  pub same_buffer : length b' ≡ length b

-- the calls of a trace from call i on, one after the other: to the last call, or to a reply that ends the run; with all the lines printed
pub data PlaysOn (t : List ℕ) : ℕ → List ℕ → LastState → List ℕ → List Line → Type 0 where
  over : (i : ℕ) (m : List ℕ) (l : LastState) (b : List ℕ) → i ≡ call_count t → PlaysOn t i m l b []
  ended : (i : ℕ) (m : List ℕ) (l : LastState) (b : List ℕ) (r : Reply) (m' b' : List ℕ) (ls : List PrintedLine)
      → CallPlayed t i m l b r m' b' → HandedLines m' r ls → r.ends ≡ true → PlaysOn t i m l b (lines_printed ls)
  next : (i : ℕ) (m : List ℕ) (l : LastState) (b : List ℕ) (r : Reply) (m' b' : List ℕ) (ls : List PrintedLine) (rest : List Line)
      → CallPlayed t i m l b r m' b' → HandedLines m' r ls → r.ends ≡ false → PlaysOn t (suc i) m' r.last b' rest → PlaysOn t i m l b (lines_printed ls ++ rest)

-- a program's run of trace t, with the lines printed: 26 alone where `is_well_formed` says no; else the calls from the first on, where `start` made the
-- medium m of the blocks that the first call names, and the buffer b, all FFh
pub data Reruns (t : List ℕ) : List Line → Type 0 where
  broken : (said : Bool) → said ≡ well_formed t → said ≡ false → Reruns t (Line.refusal 26 ∷ [])
  plays : (said : Bool) (m b : List ℕ) (l : LastState) (m' b' : List ℕ) (lines : List Line) → said ≡ well_formed t → said ≡ true
      → length m ≡ 4096 * number_at t 0 → length b ≡ buffer_bytes → Starts m l m' b' → PlaysOn t 0 m' l b' lines → Reruns t lines

-- ---- the claim

-- What such a program prints are the lines of the trace, and where the trace has the form they are what the history defines.
pub record PrintsLines (t : List ℕ) (lines : List Line) : Type 0 where
  pub all : lines ≡ lines_of t
  pub told : well_formed t ≡ true → lines ≡ told_from Phase.formatting (start_world t) (recorded t)

unfoldable pub PrintsOfCode : Type 0
PrintsOfCode = (t : List ℕ) → Bytes t → (lines : List Line) → Reruns t lines → PrintsLines t lines

-- ---- such runs are there

-- the places that a run comes to: before call i, with medium m, state l and buffer b, when each answer up to it met its promise
pub data ComesTo (t : List ℕ) : ℕ → List ℕ → LastState → List ℕ → Type 0 where
  first : (m b : List ℕ) (l : LastState) (m' b' : List ℕ) → length m ≡ 4096 * number_at t 0 → length b ≡ buffer_bytes → Starts m l m' b' → ComesTo t 0 m' l b'
  later : (i : ℕ) (m : List ℕ) (l : LastState) (b : List ℕ) (r : Reply) (m' b' : List ℕ) → ComesTo t i m l b → CallPlayed t i m l b r m' b' → r.ends ≡ false
      → ComesTo t (suc i) m' r.last b'

-- what `play` hands back there
pub record CallAnswer (t : List ℕ) (i : ℕ) (m : List ℕ) (l : LastState) (b : List ℕ) : Type 0 where
  pub reply : Reply
  pub medium : List ℕ
  pub buffer : List ℕ
  pub meets : CallPlayed t i m l b reply medium buffer

unfoldable pub PlayAnswers : List ℕ → Type 0
PlayAnswers t = (i : ℕ) (m : List ℕ) (l : LastState) (b : List ℕ) → ComesTo t i m l b → i < call_count t → CallAnswer t i m l b

pub record Rerun (t : List ℕ) : Type 0 where
  pub lines : List Line
  pub run : Reruns t lines

-- Every trace has a run, so that the claim above speaks of something: 26 alone where it breaks the form; else from a start that is as promised, through
-- lines that are as promised, to the last call or to one that ends it. For a trace of the form this rests on `play` to hand something back that meets its
-- promise, at the places that the run comes to. That it does is what the check of its code shows, and is not claimed here once more.
pub record RunsOfCode : Type 0 where
  pub breaks : (t : List ℕ) → well_formed t ≡ false → Reruns t (Line.refusal 26 ∷ [])
  pub runs : (t : List ℕ) → PlayAnswers t → Rerun t
