-- The numbers that the papers give to the conditions of calls, and answers of the code as answers of the definitions.
use Rattle.std.specs.Prelude.{Result, Ok, Err, ℕ}
use Rattle.lists.specs.Needs.{Answer, refused, gives}
use Rattle.refusal.specs.declared.Refusal.{Refusal}
use Rattle.refusal.specs.declared.Refusal.TheVariants.{Length, PageRules, SameSerial, NoBase, Sequence, Index, State, Pending, NonePending, Lists, Entry, Valves, Pages, Serials, Block, PageDue, ShortList, NotSet, Record, Records, Span, Touched, BufferFull, BufferHolds, ShortGroups, Trace, Cut, Earlier, Other}

-- the number of a condition
abbrev pub number : Refusal → ℕ
number Length = 1
number PageRules = 2
number SameSerial = 3
number NoBase = 4
number Sequence = 5
number Index = 6
number State = 7
number Pending = 8
number NonePending = 9
number Lists = 10
number Entry = 11
number Valves = 12
number Pages = 13
number Serials = 14
number Block = 15
number PageDue = 16
number ShortList = 17
number NotSet = 18
number Record = 19
number Records = 20
number Span = 21
number Touched = 22
number BufferFull = 23
number BufferHolds = 24
number ShortGroups = 25
number Trace = 26
number Cut = 27
number Earlier = 28
number Other = 29

-- the number in an answer: the refusal's, or 0 where there is none
abbrev pub number_of : {A : Type 0} → Result A Refusal → ℕ
number_of (Ok x) = 0
number_of (Err r) = number r

-- the answer of the definitions that an answer of the code is
abbrev pub answer_of : {A : Type 0} → Result A Refusal → Answer A
answer_of (Ok x) = gives x
answer_of (Err r) = refused (number r)
