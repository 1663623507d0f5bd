-- Paper 13's calls are those of the valve log's list: "we replay its recorded calls". Each recorded call played is that event of the list, with what the
-- history is told of it; so what is said of `played` elsewhere is said of the journal's calls and of power cuts.
use Rattle.std.specs.Prelude.{◌≡◌, true, false, List, [], ◌∷◌, ℕ, ◌^◌, ◌≤◌, length}
use Rattle.std.specs.Prelude.{Some}
use Rattle.lists.specs.Lists.{Below}
use Rattle.lists.specs.Needs.{Answer, refused, gives}
use Rattle.flash.specs.Medium.{views}
use Rattle.nodes.specs.Nodes.{words}
use Rattle.state.specs.State.{Held}
use Rattle.recovery.specs.Recovery.{Recovery}
use Rattle.calls.specs.Calls.{append_of, commit_of, collect_of, buffer_of, flush_of}
use Rattle.step.specs.Step.{Step, step_of}
use Rattle.valve_log.specs.History.{History}
use Rattle.valve_log.specs.Reached.{World, world, step_due, CutOf, Event, still, happen, Reached}
use Rattle.trace.specs.Trace.{Recorded, pattern_size}
use Rattle.cut_patterns.specs.Cuts.{left_by_cut}
use Rattle.player.specs.Lines.{Line, refusal_lines, summary}
use Rattle.player.specs.Run.{recover_in, name_of, played}

-- ---- a call played

-- call c in world w is event e; of the call's answer a its refusal is printed, and nothing of any other; "after a call the journal refuses the trace goes
-- on"
pub record PlayedAs {A : Type 0} (w : World) (c : Recorded) (e : Event w) (a : Answer A) : Type 0 where
  pub moment : (played w c).moment ≡ happen w e
  pub lines : (played w c).lines ≡ refusal_lines a
  pub ends : (played w c).ends ≡ false

-- call c ends the run with refusal n: the world stays as it is, and the history is told nothing
pub record EndsRun (w : World) (c : Recorded) (n : ℕ) : Type 0 where
  pub moment : (played w c).moment ≡ still w
  pub lines : (played w c).lines ≡ Line.refusal n ∷ []
  pub ends : (played w c).ends ≡ true

-- ---- each call

-- the calls that are made with a state s, on medium m and with buffer b: codes 2, 3, 4, 5, 8 and 9
pub record CallsAsEvents (m : List ℕ) (s : Held) (b : List ℕ) : Type 0 where
  pub append : (ks ws : List ℕ) (narrow : Below (2 ^ 16) ks) (small : Below (2 ^ 64) ws)
      → PlayedAs (world m (Some s) b) (Recorded.append ks ws) (Event.append ks ws narrow small) (append_of (length m) (views m) s b ks ws)
  pub commit : PlayedAs (world m (Some s) b) Recorded.commit Event.commit (commit_of (length m) (views m) s b)
  pub collect : (n : ℕ) → PlayedAs (world m (Some s) b) (Recorded.collect n) (Event.collect n) (collect_of (length m) (views m) s b n)
  pub step : PlayedAs (world m (Some s) b) Recorded.step Event.step (step_of (length m) (views m) s b)
  pub buffer : (ks ws : List ℕ) (narrow : Below (2 ^ 16) ks) (small : Below (2 ^ 64) ws)
      → PlayedAs (world m (Some s) b) (Recorded.buffer ks ws) (Event.buffer ks ws narrow small) (buffer_of (length m) (views m) s b ks ws)
  pub flush : PlayedAs (world m (Some s) b) Recorded.flush Event.flush (flush_of (length m) (views m) s b)

-- a recovery, with or without a state: "after each recovery the log length and settings, or its refusal"; "a refused recovery [..] ends it"
pub record RecoversAsEvent (w : World) (r : Recovery) : Type 0 where
  pub moment : (played w Recorded.recover).moment ≡ happen w Event.recover
  pub lines : (played w Recorded.recover).lines ≡ summary r.log (words (views w.medium) r.state.index)
  pub ends : (played w Recorded.recover).ends ≡ false

pub record RecoveriesAsEvents (w : World) : Type 0 where
  pub accepted : (r : Recovery) → recover_in w ≡ gives r → RecoversAsEvent w r
  pub refuses : (n : ℕ) → recover_in w ≡ refused n → EndsRun w Recorded.recover n

-- a cut that names what the step due touches: the list allows what its pattern leaves, it is that event, and nothing is printed
pub record CutAsEvent (w : World) (name : ℕ) (pattern : List ℕ) (due : Step) : Type 0 where
  pub allowed : CutOf w.medium (step_due w) (left_by_cut w.medium due pattern)
  pub moment : (played w (Recorded.cut name pattern)).moment ≡ happen w (Event.cut_inside (left_by_cut w.medium due pattern) allowed)
  pub lines : (played w (Recorded.cut name pattern)).lines ≡ []
  pub ends : (played w (Recorded.cut name pattern)).ends ≡ false

-- "27 if no step is due at a cut or the cut names another page or block"; any other is an event, once formatting has finished, on media of the form's
-- lengths and with a pattern of the size that the form asks
pub record CutsAsEvents (w : World) (name : ℕ) (pattern : List ℕ) : Type 0 where
  pub none_due : (n : ℕ) → step_due w ≡ refused n → EndsRun w (Recorded.cut name pattern) 27
  pub another : (due : Step) → step_due w ≡ gives due → (name ≡ name_of due → ⊥) → EndsRun w (Recorded.cut name pattern) 27
  pub named : (h : History) → Reached w h → length w.medium ≤ 65536 → length pattern ≡ pattern_size name
      → (due : Step) → step_due w ≡ gives due → name ≡ name_of due → CutAsEvent w name pattern due

-- ---- the claim

pub record PlayedAsEvents : Type 0 where
  pub calls : (m : List ℕ) (s : Held) (b : List ℕ) → CallsAsEvents m s b
  pub recoveries : (w : World) → RecoveriesAsEvents w
  pub cuts : (w : World) (name : ℕ) (pattern : List ℕ) → CutsAsEvents w name pattern
