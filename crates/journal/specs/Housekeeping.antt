-- Housekeeping as a program does it: it asks `next`, says that the log has been read, makes the call named and its steps, and asks again, until
-- the append of its group is finished.
use Rattle.std.specs.Prelude.{◌≡◌, true, false, List, ℕ, suc, ◌+◌, ◌-◌, ◌^◌, ◌≤◌, length}
use Rattle.std.specs.Prelude.{Some}
use Rattle.lists.specs.Lists.{Below}
use Rattle.blocks.specs.Blocks.{size_ok}
use Rattle.page.specs.Pages.{pages_for}
use Rattle.flash.specs.Medium.{views}
use Rattle.state.specs.declared.State.{State}
use Rattle.state.specs.State.{meaning}
use Rattle.read.specs.declared.Supplied.{Supplied}
use Rattle.read.specs.Answers.{Supplies}
use Rattle.begin.specs.declared.Begun.{Begun}
use Rattle.begin.specs.Begun.{Appends, Commits, Collects}
use Rattle.operations.specs.declared.Stepped.{Stepped}
use Rattle.advance.specs.Outcomes.{Steps}
use Rattle.calls.specs.Calls.{zip}
use Rattle.dispatcher.specs.declared.NextOperation.{NextOperation}
use Rattle.dispatcher.specs.Dispatch.{Names}
use Rattle.valve_log.specs.History.{History}
use Rattle.valve_log.specs.Reached.{fresh}
use Rattle.housekeeping.specs.Bound.{EndsWith, Suffice, pages_before}
use Rattle.journal.specs.Run.{Machine, machine, world_of, Run}

-- an answer of `next` that refuses nothing
abbrev pub operation_named : ℕ → ℕ → NextOperation
operation_named operation block = record { number = 0; operation = operation; block = block }

-- where a program is on its way: it asks `next`; it makes the steps of the operation pending, and after them is at another stage; its group is in the log
pub data Stage : Type 0 where
  asking : Stage
  stepping : Stage → Stage
  in_log : Stage

-- Whatever the calls answer on the way, of which nothing is known but the promise: `next` names the append (1), a commit (2) or a collection (3),
-- the call named is accepted, and so is each of its steps until one says that it is finished; then `next` is asked again, unless it was the append
-- of the group ks ws. Then the log of the run's plain history ends with that very group; by point 3 of the code every history of a run that leads there has
-- this log. The numbers count the commits and the collections.
pub data LetsIn (ks ws : List ℕ) : ℕ → ℕ → Stage → Machine → Type 0 where
  append : (m : List ℕ) (s : State) (b : List ℕ) → ((r : NextOperation) → Names m s b ks ws true r → r ≡ operation_named 1 0)
      → ((r : Begun) → Appends m s b ks ws r → r.number ≡ 0) → ((r : Begun) → Appends m s b ks ws r → LetsIn ks ws 0 0 (stepping in_log) (machine m (Some r.state) b))
      → LetsIn ks ws 0 0 asking (machine m (Some s) b)
  commit : {i j : ℕ} (m : List ℕ) (s : State) (b : List ℕ) → ((r : NextOperation) → Names m s b ks ws true r → r ≡ operation_named 2 0)
      → ((r : Begun) → Commits m s b r → r.number ≡ 0) → ((r : Begun) → Commits m s b r → LetsIn ks ws i j (stepping asking) (machine m (Some r.state) b))
      → LetsIn ks ws (suc i) j asking (machine m (Some s) b)
  collect : {i j : ℕ} (m : List ℕ) (s : State) (b : List ℕ) (block : ℕ) → ((r : NextOperation) → Names m s b ks ws true r → r ≡ operation_named 3 block)
      → ((r : Begun) → Collects m s b block r → r.number ≡ 0) → ((r : Begun) → Collects m s b block r → LetsIn ks ws i j (stepping asking) (machine m (Some r.state) b))
      → LetsIn ks ws i (suc j) asking (machine m (Some s) b)
  step : {i j : ℕ} {then : Stage} (m : List ℕ) (s : State) (b : List ℕ) → ((r : Stepped) (m' b' : List ℕ) → Steps m s b r m' b' → (r.number ≡ 0) × (r.finished ≡ false))
      → ((r : Stepped) (m' b' : List ℕ) → Steps m s b r m' b' → LetsIn ks ws i j (stepping then) (machine m' (Some r.state) b')) → LetsIn ks ws i j (stepping then) (machine m (Some s) b)
  last : {i j : ℕ} {then : Stage} (m : List ℕ) (s : State) (b : List ℕ) → ((r : Stepped) (m' b' : List ℕ) → Steps m s b r m' b' → (r.number ≡ 0) × (r.finished ≡ true))
      → ((r : Stepped) (m' b' : List ℕ) → Steps m s b r m' b' → LetsIn ks ws i j then (machine m' (Some r.state) b')) → LetsIn ks ws i j (stepping then) (machine m (Some s) b)
  appended : (x : Machine) (h : History) → Run x h → EndsWith (zip ks ws) h.log → LetsIn ks ws 0 0 in_log x

-- Along a program's run, with the state last handed back and an empty buffer: "an append met 13 with at least 16 pages available", as the answers of
-- `append` and `available` say, "no operation is pending". Keys have 16 bits and words 64.
pub record Answers13 (x : Machine) (h : History) (s : State) (ks ws : List ℕ) : Type 0 where
  pub run : Run x h
  pub state : x.state ≡ Some s
  pub empty : x.buffer ≡ fresh
  pub rests : s.operation ≡ 0
  pub answer : Begun
  pub appends : Appends x.medium s x.buffer ks ws answer
  pub met13 : answer.number ≡ 13
  pub supply : Supplied
  pub supplies : Supplies x.medium s supply
  pub accepted : supply.number ≡ 0
  pub pages : 16 ≤ supply.pages
  pub narrow : Below (2 ^ 16) ks
  pub small : Below (2 ^ 64) ws

-- so few commits and collections let the group in
pub record LetsInBy (ks ws : List ℕ) (most-commits most-collections : ℕ) (x : Machine) : Type 0 where
  pub commits : ℕ
  pub collections : ℕ
  pub few_commits : commits ≤ most-commits
  pub few_collections : collections ≤ most-collections
  pub way : LetsIn ks ws commits collections asking x

-- "at most one commit and at most two collections let that same group in", of the code. "serials suffice" is `housekeeping` Bound:
-- `Suffice`, of the world that the machine stands for: on the way `next` does not answer 14.
unfoldable pub BoundOfCode : Type 0
BoundOfCode = (x : Machine) (h : History) (s : State) (ks ws : List ℕ) → Answers13 x h s ks ws → Suffice ks ws (world_of x)
    → LetsInBy ks ws 1 2 x

-- one collection is enough
unfoldable pub SharperOfCode : Type 0
SharperOfCode = (x : Machine) (h : History) (s : State) (ks ws : List ℕ) → Answers13 x h s ks ws → Suffice ks ws (world_of x)
    → LetsInBy ks ws 1 1 x

-- a serial for each page that the way takes suffices
unfoldable pub ByPagesOfCode : Type 0
ByPagesOfCode =
    (x : Machine) (h : History) (s : State) (ks ws : List ℕ) → Answers13 x h s ks ws
    → s.head.serial + (pages_before (views x.medium) (meaning s) + pages_for (length ks)) ≤ 2 ^ 64 - 1 → Suffice ks ws (world_of x)

-- so 16 serials suffice
unfoldable pub SixteenOfCode : Type 0
SixteenOfCode = (x : Machine) (h : History) (s : State) (ks ws : List ℕ) → Answers13 x h s ks ws → s.head.serial + 16 ≤ 2 ^ 64 - 1
    → Suffice ks ws (world_of x)

-- the premises are met along some run of the code, on a medium of n bytes
pub record ArisesInRun (n : ℕ) : Type 0 where
  pub x : Machine
  pub h : History
  pub s : State
  pub ks : List ℕ
  pub ws : List ℕ
  pub size : length x.medium ≡ n
  pub met : Answers13 x h s ks ws
  pub serials : Suffice ks ws (world_of x)

-- and so on media of every allowed length: there are structs that meet the promises of the calls on the way
unfoldable pub PossibleOfCode : Type 0
PossibleOfCode = (n : ℕ) → size_ok n ≡ true → ArisesInRun n
