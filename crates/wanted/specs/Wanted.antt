-- Paper 2, a group for wanted openings: "At a grade change the control room has a list of wanted records, each a valve and its word, and
-- wants the group that leads there." n is the medium's length in bytes, v its pages, s what the state holds, w the wanted settings.
use Rattle.std.specs.Prelude.{◌≡◌, Bool, true, false, cond, List, [], ◌∷◌, ℕ, length, leb}
use Rattle.std.specs.Prelude.{Option, None, Some}
use Rattle.lists.specs.Lists.{all, every}
use Rattle.lists.specs.Needs.{Answer, refused, gives, Need, need, checked}
use Rattle.lists.specs.Cells.{Entry, Setting, listed}
use Rattle.page.specs.Pages.{View}
use Rattle.flash.specs.Medium.{views}
use Rattle.index.specs.Index.{rising, most_valves, entries_allowed}
use Rattle.blocks.specs.Blocks.{size_ok}
use Rattle.nodes.specs.Nodes.{sound, words}
use Rattle.state.specs.declared.State.{State}
use Rattle.state.specs.State.{Held, fit, meaning}
use Rattle.records.specs.declared.Record.{Record}
use Rattle.records.specs.Records.{wanted_settings}
use Rattle.wanted_group.specs.Group.{is_valve, group_for, differing}
use Rattle.wanted.specs.declared.WantedAnswer.{WantedAnswer}

-- "the present settings": the valves of the lent state's index, each with the word at its address
abbrev pub present : List View → Held → List Setting
present v s = words v s.index

-- Condition 19 is the negation: "if the wanted valves are not strictly rising or one is above 32767".
unfoldable pub valves_ok : List Setting → Bool
valves_ok w = every (rising w ∷ all is_valve w ∷ [])

-- Condition 20 is the negation: "if there are more than 192 records".
unfoldable pub few_records : List Setting → Bool
few_records w = leb (length w) most_valves

-- "Both follow 7, in this order, before 6, whose last clause is here taken over the whole index." Paper 8: "condition 11 also covers an entry that
-- sets valve 0, in an append or as what Paper 2's wanted list would need (there after 6 and before 'none')". So it is asked of the group that would
-- lead there, also where that has more than 96 entries.
abbrev pub wanted_needs : ℕ → List View → Held → List Setting → List Need
wanted_needs n v s w =
    need 1 (size_ok n)
    ∷ need 7 (fit v s)
    ∷ need 19 (valves_ok w)
    ∷ need 20 (few_records w)
    ∷ need 6 (sound v s.index)
    ∷ need 11 (entries_allowed (group_for (present v s) w))
    ∷ []

-- "The answer is 'none' exactly if more than 96 valves differ, and an empty group if none does."
unfoldable pub wanted_for : List Setting → List Setting → Option (List Entry)
wanted_for now w = cond (leb (differing now w) 96) (Some (group_for now w)) None

unfoldable pub wanted_of : ℕ → List View → Held → List Setting → Answer (Option (List Entry))
wanted_of n v s w = checked (wanted_needs n v s w) (wanted_for (present v s) w)

-- ---- the call

-- what an answer says: the refusal's number or 0, whether there is a group, and its entries. "A refusal gives its number alone": beside it, and
-- beside 'none', there is no entry.
pub record Reply : Type 0 where
  pub number : ℕ
  pub found : Bool
  pub entries : List Entry

unfoldable pub reply : Answer (Option (List Entry)) → Reply
reply (refused n) = record { number = n; found = false; entries = [] }
reply (gives None) = record { number = 0; found = false; entries = [] }
reply (gives (Some es)) = record { number = 0; found = true; entries = es }

-- what the code's struct says: the group's entries are those below its count; what its arrays hold past that is open and means nothing
abbrev pub reply_by : WantedAnswer → Reply
reply_by r = record { number = r.number; found = r.found; entries = listed r.group }

-- what the call promises of a medium m, a state s and a lent list of records
abbrev pub AnswersWanted : List ℕ → State → List Record → WantedAnswer → Type 0
AnswersWanted m s records r = reply_by r ≡ reply (wanted_of (length m) (views m) (meaning s) (wanted_settings records))
