-- A set of valve numbers, kept as bits: 64 of them in each word.
use Rattle.std.specs.Prelude.{◌≡◌, Bool, true, false, not, List, ℕ, ◌+◌, ◌/◌, ◌%◌, ◌^◌, ◌≤◌, ◌<◌, eqb, length, get_or}
use Rattle.lists.specs.Lists.{all_below, count_below}
use Rattle.arrays.specs.Arrays.{Ascending}

-- bit j of a word is 1
unfoldable pub bit_set : ℕ → ℕ → Bool
bit_set w j = eqb (w / 2 ^ j % 2) 1

-- v is in the set: bit v % 64 of word v / 64 is 1
unfoldable pub member : List ℕ → ℕ → Bool
member ws v = bit_set (get_or ws (v / 64) 0) (v % 64)

-- eight words, from word i on, are all 0
unfoldable pub eight_zero : List ℕ → ℕ → Bool
eight_zero ws i = all_below 8 (λ j. eqb (get_or ws (i + j) 0) 0)

-- us is the set ws with v taken in or out, whichever it was not
pub record Flipped (v : ℕ) (ws us : List ℕ) : Type 0 where
  pub long : length us ≡ length ws
  pub it : member us v ≡ not (member ws v)
  pub others : (u : ℕ) → (u ≡ v → ⊥) → member us u ≡ member ws u

-- the set has no valve
pub record Cleared (us : List ℕ) : Type 0 where
  pub long : length us ≡ 512
  pub none_in : (v : ℕ) → v < 32768 → member us v ≡ false

-- v is one of the first n numbers
pub record StandsAt (v n : ℕ) (keys : List ℕ) : Type 0 where
  pub place : ℕ
  pub early : place < n
  pub there : get_or keys place 0 ≡ v

-- the first n of 192 places hold the members below a bound, ascending
pub record ListsBelow (bound : ℕ) (ws : List ℕ) (n : ℕ) (keys : List ℕ) : Type 0 where
  pub few : n ≤ 192
  pub long : length keys ≡ 192
  pub count : n ≡ count_below bound (member ws)
  pub rise : Ascending n keys
  pub low : (i : ℕ) → i < n → get_or keys i 0 < bound
  pub each : (i : ℕ) → i < n → member ws (get_or keys i 0) ≡ true
  pub all : (v : ℕ) → v < bound → member ws v ≡ true → StandsAt v n keys

-- they hold all members
abbrev pub Lists : List ℕ → ℕ → List ℕ → Type 0
Lists ws n keys = ListsBelow 32768 ws n keys
