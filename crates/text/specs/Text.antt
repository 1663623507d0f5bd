-- Text as bytes: quoted words, numbers in decimal, and what is promised of code that puts text into a lent list.
use Rattle.std.specs.Prelude.{◌≡◌, cond, List, [], ◌∷◌, ◌++◌, ℕ, zero, suc, ◌+◌, ◌-◌, ◌/◌, ◌%◌, ◌≤◌, length, take, drop, ltb}
use Prim.Native.Char.{code}
use Prim.Native.String.{String, [] as end, ◌∷◌ as ◌then◌}
use Rattle.text.specs.declared.Text.{Text}
use Rattle.text.specs.Filled.{Filled, filled}

-- the bytes of a quoted text, whose characters are of ASCII
unfoldable pub ascii : String → List ℕ
ascii end = []
ascii (c then s) = code c ∷ ascii s

-- a number in decimal, with as many digits as it takes and at most k of them: the digits of n / 10, then that of n % 10; 48 is `0`
unfoldable pub decimal_within : ℕ → ℕ → List ℕ
decimal_within zero n = []
decimal_within (suc k) n = cond (ltb n 10) ((48 + n) ∷ []) (decimal_within k (n / 10) ++ ((48 + n % 10) ∷ []))

-- A number of 64 bits, as every number that a program prints, has at most 20 digits: none is left out (Decimal: `ReadsBack`).
unfoldable pub decimal : ℕ → List ℕ
decimal n = decimal_within 20 n

-- What is promised of a function that puts a text behind that of a lent list: it is the same list, the bytes of the text that are to be
-- left out are fewer by its length, and of those behind them as many are put there as there is room for.
pub record PutsBehind (old : Filled) (text : List ℕ) (new : Filled) : Type 0 where
  pub list : new.list ≡ old.list
  pub room : new.room ≡ old.room
  pub skip : new.skip ≡ old.skip - length text
  pub so : new.text ≡ old.text ++ take (old.room - length old.text) (drop old.skip text)

-- the same of a text of the code, which the function leaves as another
abbrev pub Puts : Text → List ℕ → Text → Type 0
Puts old text new = PutsBehind (filled old) text (filled new)

-- a lent list holds a text in its first r bytes; `part` follows from `within`, and is what the code asks for the part `&out[..r]`
pub record Holds (out : List ℕ) (r : ℕ) (text : List ℕ) : Type 0 where
  pub within : r ≤ length out
  pub part : r ≡ length (take r out)
  pub is : take r out ≡ text
