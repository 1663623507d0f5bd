-- What the program prints, line by line: "in lines like those of `morning`, after each recovery the log length and settings, or its refusal".
use Rattle.std.specs.Prelude.{List, [], ◌∷◌, ℕ, length}
use Rattle.lists.specs.Needs.{Answer, refused, gives}
use Rattle.lists.specs.Cells.{Entry, Setting}
use Rattle.page.specs.Pages.{View, changes_of}
use Rattle.nodes.specs.Nodes.{words}
use Rattle.recovery.specs.Recovery.{Recovery}

-- `refused n`, `log n`, `set n`, and a valve with its word
pub data Line : Type 0 where
  refusal : ℕ → Line
  log_length : ℕ → Line
  valves_set : ℕ → Line
  setting : ℕ → ℕ → Line

-- a line for each valve that is set
unfoldable pub setting_lines : List Setting → List Line
setting_lines [] = []
setting_lines (x ∷ xs) = Line.setting x.key x.val ∷ setting_lines xs

-- the log's length, then the number of valves set and each with its word
unfoldable pub summary : List (List Entry) → List Setting → List Line
summary log settings = Line.log_length (length (changes_of log)) ∷ Line.valves_set (length settings) ∷ setting_lines settings

-- what is printed of a call: its refusal alone
unfoldable pub refusal_lines : {A : Type 0} → Answer A → List Line
refusal_lines (refused n) = Line.refusal n ∷ []
refusal_lines (gives x) = []

-- what is printed of an accepted recovery of a medium with these pages
unfoldable pub recovery_lines : List View → Recovery → List Line
recovery_lines v r = summary r.log (words v r.state.index)
