-- What the program `rerun` prints, byte by byte: "in lines like those of `morning`".
use Rattle.std.specs.Prelude.{◌≡◌, List, [], ◌∷◌, ◌++◌, ℕ, take}
use Rattle.listing.specs.Listing.{refusal_line, log_line, set_line, setting_line}
use Rattle.player.specs.Lines.{Line}
use Rattle.player.specs.Run.{lines_of}

-- a line, as `morning` prints it
unfoldable pub line_text : Line → List ℕ
line_text (Line.refusal n) = refusal_line n
line_text (Line.log_length n) = log_line n
line_text (Line.valves_set n) = set_line n
line_text (Line.setting valve word) = setting_line valve word

-- lines in turn
unfoldable pub lines_text : List Line → List ℕ
lines_text [] = []
lines_text (l ∷ ls) = line_text l ++ lines_text ls

-- the text of a trace, from its bytes to the bytes printed: `refused 26` alone if it breaks the form, else the lines of its calls up to one that ends
-- the run
unfoldable pub run_text : List ℕ → List ℕ
run_text t = lines_text (lines_of t)

-- "A trace is at most 65536 bytes": the program reads one byte more, and what it prints of those bytes is what is to be printed of the input, however
-- long that is.
unfoldable pub ReadsEnough : Type 0
ReadsEnough = (t : List ℕ) → run_text (take 65537 t) ≡ run_text t
