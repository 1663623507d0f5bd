-- A text that is longer than the list it is made in is printed part by part: what is promised of the list that holds a part, of the part
-- that is handed over, and of the loop that hands over one after the other.
use Rattle.std.specs.Prelude.{◌≡◌, List, ℕ, ◌+◌, ◌≤◌, max, length, Option, Some}
use Rattle.text.specs.declared.Text.{Text}
use Rattle.text.specs.Filled.{Filled, filled}
use Rattle.text.specs.Window.{window}

-- so many bytes hold every text that is printed so: the longest is that of a trace, which has fewer than 4096 calls, each of at most 8192
-- bytes of text
abbrev pub most_printed : ℕ
most_printed = 33554432

-- What is promised of a function that makes a part of a text: it is the same list, which shows the text from this byte on, and no window
-- reaches past the longest text.
pub record SeesIn (text : List ℕ) (from : ℕ) (old new : Filled) : Type 0 where
  pub list : new.list ≡ old.list
  pub room : new.room ≡ old.room
  pub is : new.text ≡ window from new.room text
  pub low : from + length new.text ≤ max from most_printed

-- the same of a text of the code, which the function leaves as another
abbrev pub Sees : List ℕ → ℕ → Text → Text → Type 0
Sees text from old new = SeesIn text from (filled old) (filled new)

-- these bytes are the text's from this one on
pub record PartAt (text : List ℕ) (from : ℕ) (part : List ℕ) : Type 0 where
  pub is : part ≡ window from (length part) text

-- unless a write failed, the last part written ends where the text ends
pub record PrintsAll (text : List ℕ) (r : Option ℕ) : Type 0 where
  pub all : (n : ℕ) → r ≡ Some n → n ≡ length text
