-- The group for wanted openings on a medium reached, with the state last handed back: it leads from the history's settings, and only what is asked
-- of the wanted list itself refuses it.
use Rattle.std.specs.Prelude.{◌≡◌, List, [], ◌∷◌, length}
use Rattle.std.specs.Prelude.{Some}
use Rattle.lists.specs.Needs.{Need, need, checked}
use Rattle.lists.specs.Cells.{Setting}
use Rattle.flash.specs.Medium.{views}
use Rattle.index.specs.Index.{entries_allowed}
use Rattle.state.specs.declared.State.{State}
use Rattle.state.specs.State.{Held}
use Rattle.wanted_group.specs.Group.{group_for}
use Rattle.wanted.specs.Wanted.{valves_ok, few_records, wanted_for, wanted_of, reply, reply_by, AnswersWanted}
use Rattle.records.specs.declared.Record.{Record}
use Rattle.records.specs.Records.{wanted_settings}
use Rattle.wanted.specs.declared.WantedAnswer.{WantedAnswer}
use Rattle.valve_log.specs.History.{History}
use Rattle.valve_log.specs.Reached.{World, Reached}
use Rattle.journal.specs.Run.{Machine, Run}

-- what is asked of the wanted list itself: 19, 20 and 11
abbrev pub wanted_list_needs : List Setting → List Setting → List Need
wanted_list_needs s w = need 19 (valves_ok w) ∷ need 20 (few_records w) ∷ need 11 (entries_allowed (group_for s w)) ∷ []

unfoldable pub WantedTold : Type 0
WantedTold =
    (x : World) (h : History) (s : Held) (w : List Setting) → Reached x h → x.state ≡ Some s
    → wanted_of (length x.medium) (views x.medium) s w ≡ checked (wanted_list_needs h.settings w) (wanted_for h.settings w)

-- and along a program's run, of whatever the call answers, of which nothing is known but the promise
unfoldable pub WantedToldOfCode : Type 0
WantedToldOfCode =
    (x : Machine) (h : History) (s : State) (records : List Record) (r : WantedAnswer) → Run x h → x.state ≡ Some s → AnswersWanted x.medium s records r
    → reply_by r ≡ reply (checked (wanted_list_needs h.settings (wanted_settings records)) (wanted_for h.settings (wanted_settings records)))
