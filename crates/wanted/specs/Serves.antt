-- What the control room relies on: the group leads to the wanted settings, nothing shorter does, an append takes it, and 'none' means that
-- no group of 96 entries or fewer leads there.
use Rattle.std.specs.Prelude.{◌≡◌, Bool, true, false, cond, not, List, [], ◌++◌, ℕ, ◌≤◌, ◌<◌, length, leb, eqb}
use Rattle.std.specs.Prelude.{Option, None, Some}
use Rattle.lists.specs.Lists.{all}
use Rattle.lists.specs.Needs.{Answer, refused, gives, answered}
use Rattle.lists.specs.Cells.{Entry, Place, Setting, listed, keys_of, words_of}
use Rattle.page.specs.Pages.{View}
use Rattle.flash.specs.Medium.{views}
use Rattle.index.specs.Index.{rising, assign_all, within}
use Rattle.state.specs.declared.State.{State}
use Rattle.state.specs.State.{Held, meaning}
use Rattle.calls.specs.Calls.{append_of}
use Rattle.records.specs.declared.Record.{Record}
use Rattle.records.specs.Records.{wanted_settings}
use Rattle.wanted_group.specs.Group.{is_valve}
use Rattle.wanted.specs.declared.WantedAnswer.{WantedAnswer}
use Rattle.wanted.specs.Wanted.{present, wanted_of, AnswersWanted}

-- entries that, in order, make the wanted settings w of the settings s
unfoldable pub LeadsTo : List Setting → List Setting → List Entry → Type 0
LeadsTo s w es = assign_all s es ≡ w

-- they leave "exactly the wanted settings", are "the fewest entries", and keep within 192 valves
pub record Fewest (s w : List Setting) (es : List Entry) : Type 0 where
  pub leads : LeadsTo s w es
  pub fewest : (fs : List Entry) → LeadsTo s w fs → length es ≤ length fs
  -- "At most 192 valves are set, counted after each entry in order."
  pub most : within s es ≡ true

-- "key = valve + 32768 removes it"
unfoldable pub removes : Entry → Bool
removes e = leb 32768 e.key

-- "Removals come first, ascending, then settings, ascending."
pub record InOrder (es : List Entry) : Type 0 where
  pub removals : List Entry
  pub settings : List Entry
  pub parts : es ≡ removals ++ settings
  pub all_remove : all removes removals ≡ true
  pub all_set : all is_valve settings ≡ true
  pub removals_ascend : rising removals ≡ true
  pub settings_ascend : rising settings ≡ true

-- an append of these entries, as two lists, in a state with this index, is not refused with this number, whatever the medium, the buffer and
-- all else of the state
unfoldable pub NeverRefused : List Place → List Entry → ℕ → Type 0
NeverRefused index es k =
    (n : ℕ) (v : List View) (s : Held) (b : List ℕ) → s.index ≡ index → append_of n v s b (keys_of es) (words_of es) ≡ refused k → ⊥

pub record Appendable (index : List Place) (es : List Entry) : Type 0 where
  pub ten : NeverRefused index es 10
  pub eleven : NeverRefused index es 11
  pub twelve : NeverRefused index es 12

-- no list of at most 96 entries leads there
unfoldable pub Far : List Setting → List Setting → Type 0
Far s w = (fs : List Entry) → LeadsTo s w fs → 96 < length fs

-- an answer that is no refusal
abbrev pub NotRefused : Answer (Option (List Entry)) → Type 0
NotRefused answer = (n : ℕ) → answer ≡ refused n → ⊥

-- what holds of an answer, for the pages v, what the state holds and the wanted settings
pub record Serves (v : List View) (s : Held) (w : List Setting) (answer : Answer (Option (List Entry))) : Type 0 where
  pub shortest : (es : List Entry) → answer ≡ gives (Some es) → Fewest (present v s) w es
  pub ordered : (es : List Entry) → answer ≡ gives (Some es) → InOrder es
  pub appends : (es : List Entry) → answer ≡ gives (Some es) → 1 ≤ length es → Appendable s.index es
  -- 'none' exactly if every list that leads there has more than 96 entries
  pub none_far : answer ≡ gives None → Far (present v s) w
  pub far_none : NotRefused answer → Far (present v s) w → answer ≡ gives None
  -- "an empty group if none does"
  pub nothing_differs : NotRefused answer → present v s ≡ w → answer ≡ gives (Some [])

-- ---- of which answers it is shown

-- of those of the definition
unfoldable pub Served : Type 0
Served = (n : ℕ) (v : List View) (s : Held) (w : List Setting) → Serves v s w (wanted_of n v s w)

-- "what Paper 2's wanted list would need": where the answer of the definition is 11, every list that leads there has an entry that sets valve 0
unfoldable pub ZeroNeeded : Type 0
ZeroNeeded =
    (n : ℕ) (v : List View) (s : Held) (w : List Setting) (fs : List Entry)
    → wanted_of n v s w ≡ refused 11
    → LeadsTo (present v s) w fs
    → all (λ e. not (eqb e.key 0)) fs ≡ false

-- the answer that the code's struct stands for
unfoldable pub answer_in : WantedAnswer → Answer (Option (List Entry))
answer_in r = answered r.number (cond r.found (Some (listed r.group)) None)

-- of whatever the call answers, by its promise
unfoldable pub ServedByCall : Type 0
ServedByCall =
    (m : List ℕ) (s : State) (records : List Record) (r : WantedAnswer) → AnswersWanted m s records r → Serves (views m) (meaning s) (wanted_settings records) (answer_in r)
