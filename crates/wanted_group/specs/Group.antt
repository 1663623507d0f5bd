-- Paper 2: "find the fewest entries that leave exactly the wanted settings. Removals come first, ascending, then settings, ascending." Both
-- lists, the present settings s and the wanted ones w, ascend.
use Rattle.std.specs.Prelude.{Bool, true, false, cond, not, List, [], ◌∷◌, ◌++◌, ℕ, ◌+◌, ltb, eqb}
use Rattle.std.specs.Prelude.{Option, None, Some}
use Rattle.lists.specs.Lists.{is_some, count_below}
use Rattle.lists.specs.Cells.{cell, Entry, Setting}
use Rattle.index.specs.Index.{lookup}

-- a key that is not "above 32767" (condition 19), so that an entry with it sets a valve
unfoldable pub is_valve : Setting → Bool
is_valve x = ltb x.key 32768

-- a valve has no word, or the same word, in two lists
unfoldable pub same : Option ℕ → Option ℕ → Bool
same None None = true
same None (Some y) = false
same (Some x) None = false
same (Some x) (Some y) = eqb x y

-- the removals: of each valve of s that is not wanted
unfoldable pub removals_for : List Setting → List Setting → List Entry
removals_for [] w = []
removals_for (x ∷ xs) w = cond (is_some (lookup x.key w)) (removals_for xs w) (cell (x.key + 32768) 0 ∷ removals_for xs w)

-- the settings: those of w that do not stand so in s
unfoldable pub settings_for : List Setting → List Setting → List Entry
settings_for s [] = []
settings_for s (y ∷ ys) = cond (same (lookup y.key s) (Some y.val)) (settings_for s ys) (y ∷ settings_for s ys)

-- "Removals come first, ascending, then settings, ascending."
unfoldable pub group_for : List Setting → List Setting → List Entry
group_for s w = removals_for s w ++ settings_for s w

-- how many valves differ
unfoldable pub differing : List Setting → List Setting → ℕ
differing s w = count_below 32768 (λ valve. not (same (lookup valve s) (lookup valve w)))
