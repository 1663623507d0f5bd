-- A window on a text that is longer than the list it goes into: the text from one of its bytes on, as far as the list is long.
use Rattle.std.specs.Prelude.{List, ℕ, take, drop}

-- of a text, at most so many bytes from this one on
unfoldable pub window : ℕ → ℕ → List ℕ → List ℕ
window from size text = take size (drop from text)
