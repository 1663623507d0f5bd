-- A number under a key, and its three names.
use Rattle.std.specs.Prelude.{List, [], ◌∷◌, ℕ, get_or}
use Rattle.lists.specs.declared.Cell.{Cell}
use Rattle.lists.specs.declared.Cells.{Cells}
use Rattle.lists.specs.Lists.{table}

-- a number under a key
abbrev pub cell : ℕ → ℕ → Cell
cell k a = record { key = k; val = a }

-- an entry of a page: a key and a word
abbrev pub Entry : Type 0
Entry = Cell

-- a valve that is set and its word
abbrev pub Setting : Type 0
Setting = Cell

-- a place of the index: a valve that is set and the address of its node
abbrev pub Place : Type 0
Place = Cell

-- the cells that two lists hold in their first n places, the keys in one and the numbers under them in the other
unfoldable pub pairs : ℕ → List ℕ → List ℕ → List Cell
pairs n ks vs = table n (λ i. cell (get_or ks i 0) (get_or vs i 0))

-- the list that a Cells stands for
abbrev pub listed : Cells → List Cell
listed c = pairs c.count c.keys c.vals

-- the keys of a list
unfoldable pub keys_of : List Cell → List ℕ
keys_of [] = []
keys_of (x ∷ xs) = x.key ∷ keys_of xs

-- the words of a list
unfoldable pub words_of : List Cell → List ℕ
words_of [] = []
words_of (x ∷ xs) = x.val ∷ words_of xs
