-- A group as the code has it.
use Rattle.std.specs.Prelude.{Bool, true, false, cond, List, [], ℕ, length, leb, Option, None, Some}
use Rattle.lists.specs.Cells.{Entry, listed}
use Rattle.lists.specs.declared.Cells.{Cells}

-- whether there are at most as many as a group may have, and then the entries
pub record LimitedGroup : Type 0 where
  pub found : Bool
  pub entries : List Entry

-- more than that
abbrev pub too_many : LimitedGroup
too_many = record { found = false; entries = [] }

-- entries, or none where they are more than 96
unfoldable pub limited : List Entry → LimitedGroup
limited es = cond (leb (length es) 96) (record { found = true; entries = es }) too_many

-- what the code's answer says
abbrev pub limited_by : Option Cells → LimitedGroup
limited_by None = too_many
limited_by (Some c) = record { found = true; entries = listed c }

-- how many cells there are in it
abbrev pub cells_in : Option Cells → ℕ
cells_in None = 0
cells_in (Some c) = c.count
