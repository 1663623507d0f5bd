-- The call as the code has it, which walks the list of records twice: what 1, 7, 19, 20 and 6 say comes first, and then the records are
-- compared with the present settings one by one. `proofs/InTurn` shows that it comes to the answer of `Wanted`.
use Rattle.std.specs.Prelude.{◌≡◌, Bool, true, cond, List, [], ◌∷◌, ℕ, leb, Result, Ok, Err, IfOk}
use Rattle.std.specs.Prelude.{Option, None, Some}
use Rattle.lists.specs.Lists.{all}
use Rattle.lists.specs.Needs.{Answer, refused, gives, Need, need, under, checked}
use Rattle.lists.specs.declared.Cells.{Cells}
use Rattle.lists.specs.Cells.{Entry, Place, Setting, listed}
use Rattle.refusal.specs.declared.Refusal.{Refusal}
use Rattle.refusal.specs.Refusal.{number}
use Rattle.page.specs.Pages.{View}
use Rattle.index.specs.Lent.{Lent}
use Rattle.nodes.specs.Nodes.{sound, words}
use Rattle.state.specs.State.{Held, state_needs}
use Rattle.records.specs.declared.Notes.{Notes}
use Rattle.wanted_group.specs.Group.{is_valve}
use Rattle.wanted_group.specs.Limited.{LimitedGroup}
use Rattle.wanted_group.specs.Compare.{SoFar, group_of}

-- ---- before the records are compared

-- 19 and 20, where the valves of so many records rise as they must or do not
abbrev pub record_needs : Bool → ℕ → List Need
record_needs rises count = need 19 rises ∷ need 20 (leb count 192) ∷ []

-- what follows 20: 6, and then the present settings, the words of an index
unfoldable pub after_records : List View → List Place → Answer (List Setting)
after_records v l = checked (need 6 (sound v l) ∷ []) (words v l)

-- from what was noted of the records
unfoldable pub beginning : ℕ → List View → Held → Notes → Answer (List Setting)
beginning n v s notes = under (state_needs n v s) (under (record_needs notes.rises notes.count) (after_records v s.index))

-- the settings are those of valves, and rise
pub record Ready (c : Cells) : Type 0 where
  pub lent : Lent c.count c.keys c.vals
  pub valves : all is_valve (listed c) ≡ true

-- what an answer of the code says of the present settings
abbrev pub settings_told : Result Cells Refusal → Answer (List Setting)
settings_told (Ok c) = gives (listed c)
settings_told (Err r) = refused (number r)

pub record Begins (t : Answer (List Setting)) (r : Result Cells Refusal) : Type 0 where
  pub ready : IfOk r (λ c. Ready c)
  pub so : settings_told r ≡ t

-- ---- when they have been compared

-- the group, or 'none'
abbrev pub group_given : LimitedGroup → Option (List Entry)
group_given g = cond g.found (Some g.entries) None

-- the answer, of the present settings and what the comparison has found: 11, or the group, or 'none'
unfoldable pub closing : List Setting → SoFar → Answer (Option (List Entry))
closing s t = checked (need 11 t.allowed ∷ []) (group_given (group_of s t))

-- what an answer of the code says
abbrev pub group_told : Result (Option Cells) Refusal → Answer (Option (List Entry))
group_told (Ok None) = gives None
group_told (Ok (Some c)) = gives (Some (listed c))
group_told (Err r) = refused (number r)
