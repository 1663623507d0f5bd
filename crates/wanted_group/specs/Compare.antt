-- Wanted records compared with the present settings, which rise by valve, one by one: which of these a record has named, and which records
-- do not stand so. As the code has it; `proofs/Together` shows that it comes to the group of `Group`.
use Rattle.std.specs.Prelude.{◌≡◌, Bool, true, false, cond, ◌&&◌, List, [], ◌∷◌, ◌++◌, ℕ, suc, ◌+◌, ◌≤◌, ◌<◌, length, get_or, set, replicate, leb, ltb, eqb}
use Rattle.std.specs.Prelude.{Some}
use Rattle.lists.specs.Cells.{cell, Entry, Setting, pairs}
use Rattle.index.specs.Index.{lookup}
use Rattle.wanted_group.specs.declared.Compared.{Compared}
use Rattle.wanted_group.specs.Group.{same}
use Rattle.wanted_group.specs.Limited.{LimitedGroup, too_many, limited}

-- For each place of the present settings a flag, 0 until a record has named the valve there; whether no record sets valve 0 anew; whether
-- more than 96 do not stand so; and the first 96 of those.
pub record SoFar : Type 0 where
  pub named : List ℕ
  pub allowed : Bool
  pub more : Bool
  pub sets : List Entry

unfoldable pub not_compared : SoFar
not_compared = record { named = replicate 193 0; allowed = true; more = false; sets = [] }

-- the place of a valve in a list, the list's length where it stands at none
unfoldable pub place_of : ℕ → List Setting → ℕ
place_of k [] = 0
place_of k (x ∷ xs) = cond (eqb x.key k) 0 (suc (place_of k xs))

-- its flag set
unfoldable pub naming : List Setting → ℕ → SoFar → SoFar
naming s k t = record { named = set t.named (place_of k s) 1; allowed = t.allowed; more = t.more; sets = t.sets }

-- one setting more
unfoldable pub with_setting : SoFar → Entry → SoFar
with_setting t y =
    cond (ltb (length t.sets) 96)
    (record { named = t.named; allowed = t.allowed && leb 1 y.key; more = t.more; sets = t.sets ++ (y ∷ []) })
    (record { named = t.named; allowed = t.allowed && leb 1 y.key; more = true; sets = t.sets })

-- one record more: its valve is named, and where it does not stand so, it is one setting more
unfoldable pub compared_with : List Setting → SoFar → Setting → SoFar
compared_with s t y = cond (same (lookup y.key s) (Some y.val)) (naming s y.key t) (with_setting (naming s y.key t) y)

-- records in order
unfoldable pub compared_all : List Setting → SoFar → List Setting → SoFar
compared_all s t [] = t
compared_all s t (y ∷ ys) = compared_all s (compared_with s t y) ys

-- the removals of the settings whose flag is 0
unfoldable pub unnamed : List ℕ → List Setting → List Entry
unnamed fs [] = []
unnamed [] (x ∷ xs) = []
unnamed (f ∷ fs) (x ∷ xs) = cond (eqb f 0) (cell (x.key + 32768) 0 ∷ unnamed fs xs) (unnamed fs xs)

-- the group, at most 96 entries: removals, then settings
unfoldable pub group_of : List Setting → SoFar → LimitedGroup
group_of s t = cond t.more too_many (limited (unnamed t.named s ++ t.sets))

-- ---- the code's struct

abbrev pub so_far : Compared → SoFar
so_far c = record { named = c.named; allowed = c.allowed; more = c.more; sets = pairs c.count c.keys c.vals }

pub record Comparing (c : Compared) : Type 0 where
  pub few : c.count ≤ 96

-- a struct that stands for what was found so far
pub record ComesTo (t : SoFar) (c : Compared) : Type 0 where
  pub few : c.count ≤ 96
  pub so : so_far c ≡ t

-- what `place_of` promises: the first place of k among the first n keys, or n
pub record PlaceIn (k n : ℕ) (ks : List ℕ) (r : ℕ) : Type 0 where
  pub low : r ≤ n
  pub there : r < n → get_or ks r 0 ≡ k
  pub first : (i : ℕ) → i < r → get_or ks i 0 ≡ k → ⊥
