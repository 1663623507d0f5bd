-- A run told call by call: what is still to be told, and what is promised of each part.
use Rattle.std.specs.Prelude.{◌≡◌, true, List, ◌++◌, ℕ, ◌+◌, ◌≤◌, ◌<◌, length, take, drop}
use Rattle.page.specs.Buffer.{buffer_bytes}
use Rattle.trace.specs.Trace.{call_count, well_formed, recorded, data_start}
use Rattle.player.specs.Run.{lines_from}
use Rattle.player.specs.Played.{LastState, world_by}
use Rattle.text.specs.Filled.{Filled}
use Rattle.text.specs.Text.{PutsBehind}
use Rattle.run_text.specs.declared.Run.{Run}
use Rattle.run_text.specs.RunText.{lines_text, run_text}

-- so many bytes hold the lines of one call: two of at most 25 bytes and 192 of at most 42
abbrev pub most_of_call : ℕ
most_of_call = 8192

-- ---- the run

-- the text of k calls of a trace from call i on, in the world of medium m, the state l last handed back, and buffer b
unfoldable pub left_in : List ℕ → ℕ → ℕ → LastState → List ℕ → List ℕ → List ℕ
left_in t i k l m b = lines_text (lines_from (world_by m l b) (take k (drop i (recorded t))))

-- where calls are left, the trace has the form, they are its last, and the bytes of the first of them start at this place
pub record Stands (t : List ℕ) (i k at : ℕ) : Type 0 where
  pub formed : well_formed t ≡ true
  pub calls : i + k ≡ call_count t
  pub start : at ≡ data_start t i

pub record Standing (t : List ℕ) (r : Run) : Type 0 where
  pub on : 0 < r.left → Stands t r.call r.left r.at

-- a run before its first call
pub record StartsRun (t : List ℕ) (r : Run) (m b : List ℕ) : Type 0 where
  pub stands : Standing t r
  pub first : r.call ≡ 0
  pub small : length m ≤ 65536
  pub lent : length b ≡ buffer_bytes
  pub so : run_text t ≡ left_in t r.call r.left r.last m b

-- what `turn` asks
pub record Ready (t : List ℕ) (r : Run) (m b : List ℕ) : Type 0 where
  pub on : 0 < r.left
  pub stands : Standing t r
  pub small : length m ≤ 65536
  pub lent : length b ≡ buffer_bytes

-- what it promises of a run r, which it leaves as r': of what is left to be told, the text of one call was put behind what is there
pub record Turns (t : List ℕ) (r : Run) (m b : List ℕ) (out : Filled) (r' : Run) (m' b' : List ℕ) (out' : Filled) : Type 0 where
  pub fewer : r'.left < r.left
  pub next : r'.call ≡ r.call + 1
  pub stands : Standing t r'
  pub piece : List ℕ
  pub short : length piece ≤ most_of_call
  pub so : left_in t r.call r.left r.last m b ≡ piece ++ left_in t r'.call r'.left r'.last m' b'
  pub puts : PutsBehind out piece out'
