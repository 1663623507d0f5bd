-- An example, from its bytes; and that it is enough to read one byte more than 1048576.
use Rattle.std.specs.Prelude.{◌≡◌, List, [], ◌∷◌, ◌++◌, ℕ, take, replicate}
use Rattle.text.specs.Text.{ascii}
use Rattle.codec.specs.Codec.{blank}
use Rattle.page_text.specs.PageText.{pages_text}

-- The 256 bytes of the page of kind 1 that is worked out in docs/FORMAT.md, {5→1000, 7→20}: check, kind, flags, n, marks, serial, keys,
-- words.
unfoldable pub example_page : List ℕ
example_page =
    (238 ∷ 0 ∷ 1 ∷ 3 ∷ 2 ∷ 0 ∷ 255 ∷ 255 ∷ 2 ∷ [])
    ++ replicate 7 0
    ++ (5 ∷ 0 ∷ 7 ∷ 0 ∷ [])
    ++ blank 44
    ++ (232 ∷ 3 ∷ 0 ∷ 0 ∷ 0 ∷ 0 ∷ 0 ∷ 0 ∷ 20 ∷ [])
    ++ replicate 7 0
    ++ blank 176

-- as a whole medium, with a clean page after it and some bytes that are no page; recovery refuses its length
unfoldable pub ExampleText : Type 0
ExampleText =
    pages_text (example_page ++ blank 300)
    ≡ ascii "page 0: whole, kind 1 (nodes), flags 3 (begins and ends), serial 2, entries 2, keeps the rules\n"
    ++ ascii "  entry 0: key 5, word 1000\n  entry 1: key 7, word 20\npage 1: clean\nrefused 1\n"

unfoldable pub ReadsEnough : Type 0
ReadsEnough = (m : List ℕ) → pages_text (take 1048577 m) ≡ pages_text m
