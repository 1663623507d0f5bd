-- What the code promises of a recorded call: the world that it leaves, the lines that are printed of it, and whether the run ends with it.
use Rattle.std.specs.Prelude.{◌≡◌, Bool, true, false, cond, List, [], ◌∷◌, ℕ, ◌≤◌, length, eqb}
use Rattle.std.specs.Prelude.{Option, None, Some}
use Rattle.lists.specs.Needs.{Answer, refused, gives}
use Rattle.lists.specs.Cells.{Setting, listed}
use Rattle.codec.specs.Codec.{blank}
use Rattle.page.specs.Pages.{changes_of}
use Rattle.page.specs.Buffer.{buffer_bytes}
use Rattle.flash.specs.Medium.{views}
use Rattle.nodes.specs.Nodes.{words}
use Rattle.state.specs.declared.State.{State}
use Rattle.state.specs.State.{Held, meaning}
use Rattle.recovery.specs.Recovery.{Recovery}
use Rattle.step.specs.Step.{Step}
use Rattle.valve_log.specs.Reached.{World, world, fresh}
use Rattle.trace.specs.Trace.{Recorded, data_start, recorded_at}
use Rattle.trace.specs.Read.{HasCall}
use Rattle.cut_patterns.specs.Cuts.{left_by_cut}
use Rattle.cut_patterns.specs.Struck.{most_bytes, Struck, struck}
use Rattle.player.specs.Lines.{Line, setting_lines}
use Rattle.player.specs.Run.{name_of, played}
use Rattle.player.specs.declared.RecordedCall.{RecordedCall}
use Rattle.player.specs.declared.RecordedCall.TheVariants as recorded
use Rattle.player.specs.declared.Told.{Told}
use Rattle.player.specs.declared.Told.TheVariants.{Nothing, Refused, Recovered}
use Rattle.player.specs.declared.Reply.{Reply}

-- ---- the code's structs

-- the state last handed back, unless a cut lost it
abbrev pub LastState : Type 0
LastState = Option State

unfoldable pub held_by : LastState → Option Held
held_by None = None
held_by (Some s) = Some (meaning s)

-- the world: a medium, the state last handed back, and the buffer as it will be lent
unfoldable pub world_by : List ℕ → LastState → List ℕ → World
world_by m l b = world m (held_by l) b

-- the valves that are set in the state of a reply, each with its word on medium m
unfoldable pub settings_in : List ℕ → LastState → List Setting
settings_in m None = []
settings_in m (Some s) = words (views m) (listed s.index)

abbrev pub settings_by : List ℕ → Reply → List Setting
settings_by m r = settings_in m r.last

-- the lines of a reply, of which m is the medium that was left: a refusal's; an accepted recovery's; no line of any other call
unfoldable pub lines_told : Told → List Setting → List Line
lines_told Nothing settings = []
lines_told (Refused n) settings = Line.refusal n ∷ []
lines_told (Recovered log) settings = Line.log_length log ∷ Line.valves_set (length settings) ∷ setting_lines settings

abbrev pub lines_by : List ℕ → Reply → List Line
lines_by m r = lines_told r.told (settings_by m r)

-- ---- promises

-- at most so many valves are set after a recovery, so that its lines can be counted
pub record FewSet (r : Reply) : Type 0 where
  pub most : (log : ℕ) (s : State) → r.told ≡ Recovered log → r.last ≡ Some s → s.index.count ≤ 192

-- what is promised of call c, made in world w, with a reply r and with medium m and buffer b as they were left
pub record Plays (w : World) (c : Recorded) (r : Reply) (m b : List ℕ) : Type 0 where
  pub after : world_by m r.last b ≡ (played w c).moment.after
  pub lines : lines_by m r ≡ (played w c).lines
  pub ends : r.ends ≡ (played w c).ends
  pub few : FewSet r

-- the call that the code's is
abbrev pub recorded_by : RecordedCall → Recorded
recorded_by (recorded.Format n) = Recorded.format n
recorded_by (recorded.Append ks ws) = Recorded.append ks.now ws.now
recorded_by recorded.Commit = Recorded.commit
recorded_by (recorded.Collect b) = Recorded.collect b
recorded_by recorded.Step = Recorded.step
recorded_by (recorded.Cut name pattern) = Recorded.cut name pattern.now
recorded_by recorded.Recover = Recorded.recover
recorded_by (recorded.Buffer ks ws) = Recorded.buffer ks.now ws.now
recorded_by recorded.Flush = Recorded.flush

-- a medium on which a cut is played is not too long
abbrev pub CutFits : RecordedCall → List ℕ → Type 0
CutFits (recorded.Format n) m = Unit
CutFits (recorded.Append ks ws) m = Unit
CutFits recorded.Commit m = Unit
CutFits (recorded.Collect b) m = Unit
CutFits recorded.Step m = Unit
CutFits (recorded.Cut name pattern) m = length m ≤ most_bytes
CutFits recorded.Recover m = Unit
CutFits (recorded.Buffer ks ws) m = Unit
CutFits recorded.Flush m = Unit

-- the call with this code and these arguments, of which it takes those that it has; a code that is none of the first eight stands for 9
unfoldable pub call_of : ℕ → ℕ → List ℕ → List ℕ → List ℕ → Recorded
call_of code n ks ws pattern =
    cond (eqb code 1) (Recorded.format n)
    (cond (eqb code 2) (Recorded.append ks ws)
    (cond (eqb code 3) Recorded.commit
    (cond (eqb code 4) (Recorded.collect n)
    (cond (eqb code 5) Recorded.step
    (cond (eqb code 6) (Recorded.cut n pattern)
    (cond (eqb code 7) Recorded.recover
    (cond (eqb code 8) (Recorded.buffer ks ws)
    Recorded.flush)))))))

-- what `start` promises of a medium m, which it leaves as m', and of the buffer b' that it leaves: "The medium starts all FFh", and there is no state
pub record Starts (m : List ℕ) (l : LastState) (m' b' : List ℕ) : Type 0 where
  pub medium : m' ≡ blank (length m)
  pub stateless : l ≡ None
  pub buffer : b' ≡ fresh

-- what `play` asks: the trace has call i, whose bytes start at this place; a medium that is not too long, and a buffer's bytes
pub record Playable (t : List ℕ) (i at : ℕ) (m b : List ℕ) : Type 0 where
  pub has : HasCall t i
  pub start : at ≡ data_start t i
  pub small : length m ≤ most_bytes
  pub lent : length b ≡ buffer_bytes

-- what `play` promises of call i of a trace t, on medium m and buffer b, which it leaves as m' and b'
abbrev pub PlaysAt : List ℕ → ℕ → List ℕ → LastState → List ℕ → Reply → List ℕ → List ℕ → Type 0
PlaysAt t i m l b r m' b' = Plays (world_by m l b) (recorded_at t i) r m' b'

-- ---- parts

-- what is printed of a call that was refused with this number, or 0
abbrev pub told_by : ℕ → Told
told_by n = cond (eqb n 0) Nothing (Refused n)

-- the reply of a call that begins an operation, of a group buffered and of a step: the number it was refused with or 0, and the state
abbrev pub answered_by : ℕ → State → Reply
answered_by n s = record { told = told_by n; ends = false; last = Some s }

-- a refusal that leaves the state as it was
abbrev pub refused_by : ℕ → Bool → LastState → Reply
refused_by n ends l = record { told = Refused n; ends = ends; last = l }

-- a cut played: nothing is printed, and the state is lost
abbrev pub lost_by : Reply
lost_by = record { told = Nothing; ends = false; last = None }

-- a recovery that was accepted
abbrev pub restarted_by : ℕ → State → Reply
restarted_by log s = record { told = Recovered log; ends = false; last = Some s }

-- what is kept of a recovery: the length of its log, and the state
pub record Restart : Type 0 where
  pub log : ℕ
  pub state : Held

abbrev pub restart : ℕ → Held → Restart
restart n s = record { log = n; state = s }

unfoldable pub restart_of : Recovery → Restart
restart_of r = restart (length (changes_of r.log)) r.state

-- a cut in the step due, if there is one and the cut names what it touches
unfoldable pub struck_by : List ℕ → ℕ → List ℕ → Answer Step → Struck
struck_by m name pattern (refused n) = struck false m
struck_by m name pattern (gives due) = cond (eqb name (name_of due)) (struck true (left_by_cut m due pattern)) (struck false m)
