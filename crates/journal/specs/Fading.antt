-- Paper 14 of the code: what a program is handed of a medium some of whose bits have turned from 0 to 1 after its run. Each call is known by its
-- promise alone.
use Rattle.std.specs.Prelude.{◌≡◌, List, [], ◌∷◌, ◌++◌, ℕ, ◌≤◌}
use Rattle.std.specs.Borrow.{Bor}
use Rattle.lists.specs.Needs.{refused, answered}
use Rattle.lists.specs.Cells.{Entry}
use Rattle.state.specs.State.{meaning}
use Rattle.recover.specs.declared.Recovered.{Recovered}
use Rattle.recover.specs.Recovers.{Recovers}
use Rattle.filing.specs.declared.Counted.{Counted}
use Rattle.filing.specs.Filed.{left_by, leaving, Logs}
use Rattle.log_reader.specs.declared.LogPlace.{LogPlace}
use Rattle.log_reader.specs.declared.ReadChange.{ReadChange}
use Rattle.log_reader.specs.declared.LogReader.{LogReader}
use Rattle.log_reader.specs.Reader.{start_of, MakesReader, NextInTurn, AskedInTurn, GivesLog}
use Rattle.spans.specs.declared.SpanEffect.{SpanEffect}
use Rattle.spans.specs.Spans.{span_effect}
use Rattle.spans.specs.Along.{effected, effected_by, Effects}
use Rattle.mattered.specs.Mattered.{mattered, listed_in}
use Rattle.mattered.specs.Listed.{ListsMattered}
use Rattle.valve_log.specs.History.{History, history, nothing, assign_groups, tell}
use Rattle.valve_log.specs.Reached.{World, Event, Earlier, happened, Before}
use Rattle.fading.specs.Fading.{Faded}
use Rattle.valve_log.specs.Made.{groups_counting, groups_made_before}
use Rattle.journal.specs.Run.{Machine, world_of, Moves, told_by, starting_on, Run, Handed}
use Rattle.journal.specs.Reader.{ReadOut}

-- ---- the moments of a run

-- q is the run r as it is now, or as it was before its last move or moves: r begins with q. A moment of the program as it was before
-- Paper 8 is the medium as it then stood.
pub data RunAtOrBefore {y : Machine} {g : History} (q : Run y g) : (x : Machine) (h : History) → Run x h → Type 0 where
  now : RunAtOrBefore q y g q
  earlier : {x z : Machine} {h : History} {r : Run x h} (e : Event (world_of x)) (v : Moves x e z) → RunAtOrBefore q x h r
      → RunAtOrBefore q z (tell h (told_by x z e v)) (Run.next x z h e r v)
  older : {w : World} {h : History} {b : Before w h} (e : Earlier w) → RunAtOrBefore q (starting_on w) h (Run.taken_over b)
      → RunAtOrBefore q (starting_on (happened w e).after) (tell h (happened w e).told) (Run.taken_over (Before.next w h e b))

-- "that or an earlier moment since formatting ended": the run as it was then, with the machine and the plain history that it had led to
pub record MomentOfRun {x : Machine} {h : History} (r : Run x h) : Type 0 where
  pub machine : Machine
  pub history : History
  pub run : Run machine history
  pub passed : RunAtOrBefore run x h r

-- ---- what is handed

-- Recovery refuses m with the number n, 4, 5 or 6, whatever it answers; so do the log and the groups that mattered, and leave the lent lists as they are;
-- so does the effect of a span; and so does the log reader, by its calls and as the form that holds the medium, and gives no change however often it is asked.
pub record TurnedBack (m : List ℕ) (n : ℕ) : Type 0 where
  pub number : (4 ≤ n) × (n ≤ 6)
  pub recovery : (r : Recovered) → Recovers m r → r.number ≡ n
  pub log : (ks ws ns ks' ws' ns' : List ℕ) (a : Counted) → Logs m ks ws ns a ks' ws' ns'
      → left_by a (ks' ∷ ws' ∷ ns' ∷ []) ≡ leaving (ks ∷ ws ∷ ns ∷ []) (refused n)
  pub effect : (first second : ℕ) (a : SpanEffect) → Effects m first second a → effected_by a ≡ effected (refused n)
  pub groups : (out out' : List ℕ) (a : Counted) → ListsMattered m out a out' → left_by a (out' ∷ []) ≡ leaving (out ∷ []) (refused n)
  pub reader : (p : LogPlace) → p ≡ start_of m → p.number ≡ n
  pub nothing : (p : LogPlace) (cs : List ReadChange) → p ≡ start_of m → AskedInTurn m p cs → GivesLog [] [] cs
  pub form : (l : Bor (List ℕ)) (r : LogReader) → l.now ≡ m → MakesReader l r → r.place.number ≡ n
  pub form_nothing : (l : Bor (List ℕ)) (r : LogReader) (cs : List ReadChange) → l.now ≡ m → MakesReader l r → NextInTurn r cs → GivesLog [] [] cs

-- Whatever recovery answers of m and of the medium `then`, it is the same: accepted, with states of the same meaning. The log, the settings and each
-- opening, with the state recovered from m, the log reader's changes, the effects of spans and the groups that mattered are those of the history g, all of
-- one moment.
pub record HandedAsThen (m then : List ℕ) (g : History) : Type 0 where
  pub same : (a b : Recovered) → Recovers m a → Recovers then b → answered a.number (meaning a.state) ≡ answered b.number (meaning b.state)
  pub handed : Handed m g
  pub read : ReadOut m g
  pub effect : (first second : ℕ) (a : SpanEffect) → Effects m first second a → effected_by a ≡ effected (span_effect first second g.log)
  pub groups : (out out' : List ℕ) (a : Counted) → ListsMattered m out a out' → left_by a (out' ∷ []) ≡ leaving (out ∷ []) (listed_in out (mattered g.log))

-- "recovery refuses, or it gives the settings and log that recovery gave or would have given at that or an earlier moment since formatting ended"
pub data TurnedBackOrHanded {x : Machine} {h : History} (r : Run x h) (m : List ℕ) : Type 0 where
  refuses : (n : ℕ) → TurnedBack m n → TurnedBackOrHanded r m
  hands : (t : MomentOfRun r) → HandedAsThen m t.machine.medium t.history → TurnedBackOrHanded r m

unfoldable pub FadesOfCode : Type 0
FadesOfCode = (x : Machine) (h : History) (r : Run x h) (m : List ℕ) → Faded x.medium m → TurnedBackOrHanded r m

-- ---- "It never shows a change that was not made, or an order that did not occur."

-- all groups that have counted along a run, by the answers of its calls, the first to count first
unfoldable pub groups_made_by : {x : Machine} {h : History} → Run x h → List (List Entry)
groups_made_by (Run.start x y f v last) = []
groups_made_by (Run.next x y h e r v) = groups_made_by r ++ groups_counting h (told_by x y e v)
groups_made_by (Run.taken_over b) = groups_made_before b

-- Of the groups made, those before the log, the log, and those that are not shown. What is handed of m is this log, and the settings that the groups
-- up to its end lead to, none being set at first.
pub record HandedAsMade (made : List (List Entry)) (m : List ℕ) : Type 0 where
  pub before : List (List Entry)
  pub log : List (List Entry)
  pub after : List (List Entry)
  pub order : made ≡ before ++ log ++ after
  pub handed : Handed m (history (assign_groups [] (before ++ log)) log nothing [])
  pub read : ReadOut m (history (assign_groups [] (before ++ log)) log nothing [])

-- where recovery accepts a faded medium
unfoldable pub OnlyMadeOfCode : Type 0
OnlyMadeOfCode =
    (x : Machine) (h : History) (r : Run x h) (m : List ℕ) → Faded x.medium m
    → (a : Recovered) → Recovers m a → a.number ≡ 0 → HandedAsMade (groups_made_by r) m

-- ---- how a program can tell

-- what is handed of m is of a moment of the run q
pub record HandedOf {y : Machine} {g : History} (q : Run y g) (m : List ℕ) : Type 0 where
  pub moment : MomentOfRun q
  pub as_then : HandedAsThen m moment.machine.medium moment.history

-- what is handed of m is of a moment of the run r at which it had passed the moment p
pub record HandedSince {x : Machine} {h : History} (r : Run x h) (p : MomentOfRun r) (m : List ℕ) : Type 0 where
  pub moment : MomentOfRun r
  pub passed : RunAtOrBefore p.run moment.machine moment.history moment.run
  pub as_then : HandedAsThen m moment.machine.medium moment.history

-- The next serial of the state recovered tells the moment, to a program that has noted it at a moment p of its run. The same next serial: that moment
-- is handed. A lower one: that moment or one before it. A greater one: that moment or one after it.
pub record MomentTold {x : Machine} {h : History} (r : Run x h) (m : List ℕ) (p : MomentOfRun r) (noted found : ℕ) : Type 0 where
  pub same : found ≡ noted → HandedAsThen m p.machine.medium p.history
  pub lower : found ≤ noted → HandedOf p.run m
  pub greater : noted ≤ found → HandedSince r p m

unfoldable pub SerialTellsOfCode : Type 0
SerialTellsOfCode =
    (x : Machine) (h : History) (r : Run x h) (p : MomentOfRun r) (m : List ℕ) → Faded x.medium m
    → (a b : Recovered) → Recovers p.machine.medium a → Recovers m b → b.number ≡ 0 → MomentTold r m p a.state.head.serial b.state.head.serial
