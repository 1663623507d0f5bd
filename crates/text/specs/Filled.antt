-- A text in a lent list, as promises see it.
use Rattle.std.specs.Prelude.{List, [], ℕ, length, take}
use Rattle.std.specs.Borrow.{GName}
use Rattle.text.specs.declared.Text.{Text}

-- which list it is, how many bytes that is long, those that are there, and how many bytes of the text are still to be left out
pub record Filled : Type 0 where
  pub list : GName
  pub room : ℕ
  pub text : List ℕ
  pub skip : ℕ

-- a text of the code
abbrev pub filled : Text → Filled
filled t = record { list = t.bytes.ghost_name; room = length t.bytes.now; text = take t.len t.bytes.now; skip = t.skip }

-- no text yet, of which the list will show the bytes from this one on
abbrev pub starting : GName → ℕ → ℕ → Filled
starting list room from = record { list = list; room = room; text = []; skip = from }

-- the first n bytes of a list, all of them where it has fewer, and so many bytes of what comes behind them still to be left out
abbrev pub resuming : GName → List ℕ → ℕ → ℕ → Filled
resuming list bytes n skip = record { list = list; room = length bytes; text = take n bytes; skip = skip }
