-- What the code promises of the lines that it prints of a reply.
use Rattle.std.specs.Prelude.{◌≡◌, None, Some, List, ℕ, length, get_or}
use Rattle.lists.specs.Cells.{Setting}
use Rattle.player.specs.declared.Told.TheVariants.{Recovered}
use Rattle.player.specs.declared.Reply.{Reply}
use Rattle.player.specs.Lines.{Line, setting_lines}
use Rattle.player.specs.Played.{LastState, settings_in, lines_told, lines_by}
use Rattle.reply_lines.specs.declared.PrintedLine.{PrintedLine}
use Rattle.reply_lines.specs.declared.PrintedLine.TheVariants as printed

-- a line as the code hands it over
abbrev pub line_of : PrintedLine → Line
line_of (printed.Refusal n) = Line.refusal n
line_of (printed.LogLength n) = Line.log_length n
line_of (printed.ValvesSet n) = Line.valves_set n
line_of (printed.Setting valve word) = Line.setting valve word

-- how many valves are set
unfoldable pub many_set : LastState → ℕ
many_set None = 0
many_set (Some s) = s.index.count

-- the lines of a recovery with a log of this length, which left this state
unfoldable pub summary_told : List ℕ → ℕ → LastState → List Line
summary_told m log l = lines_told (Recovered log) (settings_in m l)

-- what `line_count` promises: so many lines, whatever medium was left
pub record CountsLines (n : ℕ) (r : Reply) : Type 0 where
  pub is : (m : List ℕ) → n ≡ length (lines_by m r)

-- line k of some lines
pub record GivesLineOf (lines : List Line) (k : ℕ) (l : PrintedLine) : Type 0 where
  pub is : line_of l ≡ get_or lines k (Line.refusal 0)

-- what `line` promises of line k
pub record GivesLine (m : List ℕ) (r : Reply) (k : ℕ) (l : PrintedLine) : Type 0 where
  pub is : line_of l ≡ get_or (lines_by m r) k (Line.refusal 0)

-- the line of setting i
pub record GivesSetting (settings : List Setting) (i : ℕ) (l : PrintedLine) : Type 0 where
  pub is : line_of l ≡ get_or (setting_lines settings) i (Line.refusal 0)
