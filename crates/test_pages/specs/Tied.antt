-- The journals of the table and the worlds of the valve log's statement: what the table makes of views is what `happen` makes of the
-- medium's bytes.
use Rattle.std.specs.Prelude.{◌≡◌, Bool, true, List, ℕ, ◌^◌, length}
use Rattle.std.specs.Prelude.{Some}
use Rattle.lists.specs.Lists.{Below}
use Rattle.lists.specs.Needs.{gives}
use Rattle.lists.specs.Cells.{Entry, keys_of, words_of}
use Rattle.page.specs.Pages.{Page}
use Rattle.flash.specs.Medium.{views}
use Rattle.state.specs.State.{Held}
use Rattle.step.specs.Step.{Step}
use Rattle.valve_log.specs.History.{History}
use Rattle.valve_log.specs.Reached.{World, Event, step_due as step_of_world, CutOf, happen, finishes, Formatting, lent_anew, Earlier, happened, Before, switched_off, Reached}
use Rattle.test_pages.specs.Table.{Agree, lines, Journal, size, fresh, begin, begin_commit, buffered, begin_flush, step_due, stepped, resumed, torn, begin_before, step_due_before}

-- the journal is the world's: the views of its medium, its state and its buffer
pub record Tells (w : World) (j : Journal) : Type 0 where
  pub pages : views w.medium ≡ j.pages
  pub long : length w.medium ≡ size j
  pub state : w.state ≡ Some j.state
  pub buffer : w.buffer ≡ j.buffer

-- The table's first journal is a world where a list of the valve log's statement starts: formatting is under way, and its next step
-- finishes it.
pub record Starts : Type 0 where
  pub before : World
  pub under_way_lem : Formatting before
  pub last : finishes (step_of_world before) ≡ true
  pub tells : Tells (lent_anew (happen before Event.step).after) fresh

-- a cut that is allowed inside the step due leaves the medium that the table has for it, and recovery goes on from there
pub record TornSo (w : World) (j : Journal) : Type 0 where
  pub left : List ℕ
  pub allowed : CutOf w.medium (step_of_world w) left
  pub goes_on : Tells (happen (happen w (Event.cut_inside left allowed)).after Event.recover).after (resumed (torn j))

-- The journal after each of the table's calls, steps, cuts and recoveries is that of the world after the same event. After a cut a
-- recovery comes next.
pub record GoesWith (w : World) (j : Journal) : Type 0 where
  pub append : (es : List Entry) (narrow : Below (2 ^ 16) (keys_of es)) (small : Below (2 ^ 64) (words_of es))
      → Tells (happen w (Event.append (keys_of es) (words_of es) narrow small)).after (begin j es)
  pub commit : Tells (happen w Event.commit).after (begin_commit j)
  pub buffering : (es : List Entry) (narrow : Below (2 ^ 16) (keys_of es)) (small : Below (2 ^ 64) (words_of es))
      → Tells (happen w (Event.buffer (keys_of es) (words_of es) narrow small)).after (buffered j es)
  pub flush : Tells (happen w Event.flush).after (begin_flush j)
  pub step : Tells (happen w Event.step).after (stepped j (step_due j))
  pub cut_between : Tells (happen (happen w Event.cut).after Event.recover).after (resumed j)
  pub cut_inside : (p : ℕ) (pg : Page) (s : Held) (finished : Bool) → step_due j ≡ gives (Step.program p pg s finished) → TornSo w j

unfoldable pub Tied : Type 0
Tied = (w : World) (h : History) (j : Journal) → Reached w h → Tells w j → GoesWith w j

-- The same of the program as it was before Paper 8, by which the table sets valve 0: its append and its step, and today's recovery of
-- what it left.
pub record WentWith (w : World) (j : Journal) : Type 0 where
  pub append : (es : List Entry) (narrow : Below (2 ^ 16) (keys_of es)) (small : Below (2 ^ 64) (words_of es))
      → Tells (happened w (Earlier.append (keys_of es) (words_of es) narrow small)).after (begin_before j es)
  pub step : Tells (happened w Earlier.step).after (stepped j (step_due_before j))
  pub taken_over_lem : Tells (happen (switched_off w) Event.recover).after (resumed j)

unfoldable pub TiedBefore : Type 0
TiedBefore = (w : World) (h : History) (j : Journal) → Before w h → Tells w j → WentWith w j

-- the one statement over the table: each line agrees, and its journals start and go as the valve log's worlds do
pub record Shown : Type 0 where
  pub agrees : Agree lines
  pub starts : Starts
  pub goes : Tied
  pub went : TiedBefore
