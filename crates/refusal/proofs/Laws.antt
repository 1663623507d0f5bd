-- Laws of the numbers of refusals.
use mathlib.Core.Path.{◌≡◌}
use Rattle.refusal.specs.declared.Refusal.{Refusal}
use Rattle.refusal.specs.declared.Refusal.TheVariants.{Length, PageRules, SameSerial, NoBase, Sequence, Index, State, Pending, NonePending, Lists, Entry, Valves, Pages, Serials, Block, PageDue, ShortList, NotSet, Record, Records, Span, Touched, BufferFull, BufferHolds, ShortGroups, Trace, Cut, Earlier, Other}
use Rattle.refusal.specs.Refusal.{number}

-- 0 is the number of no refusal
pub number_some : (e : Refusal) → number e ≡ 0 → ⊥
number_some Length z = cc
number_some PageRules z = cc
number_some SameSerial z = cc
number_some NoBase z = cc
number_some Sequence z = cc
number_some Index z = cc
number_some State z = cc
number_some Pending z = cc
number_some NonePending z = cc
number_some Lists z = cc
number_some Entry z = cc
number_some Valves z = cc
number_some Pages z = cc
number_some Serials z = cc
number_some Block z = cc
number_some PageDue z = cc
number_some ShortList z = cc
number_some NotSet z = cc
number_some Record z = cc
number_some Records z = cc
number_some Span z = cc
number_some Touched z = cc
number_some BufferFull z = cc
number_some BufferHolds z = cc
number_some ShortGroups z = cc
number_some Trace z = cc
number_some Cut z = cc
number_some Earlier z = cc
number_some Other z = cc
