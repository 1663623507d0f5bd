-- What a cut leaves of the step due, found by what the step does to a copy of the medium.
use Rattle.std.specs.Prelude.{Bool, true, false, cond, List, ℕ, ◌+◌, ◌*◌, eqb}
use Rattle.cut_patterns.specs.Cuts.{raised_at}

-- the most bytes of a medium that a trace is played on: "blocks, 4 to 16"
abbrev pub most_bytes : ℕ
most_bytes = 16 * 4096

-- whether a cut is played, and the medium it leaves
pub record Struck : Type 0 where
  pub so : Bool
  pub medium : List ℕ

abbrev pub struck : Bool → List ℕ → Struck
struck r m = record { so = r; medium = m }

-- a cut by what the step due did to a copy of the medium: the number it was refused with or 0, what it touched, and where
unfoldable pub struck_after : List ℕ → List ℕ → ℕ → ℕ → ℕ → ℕ → List ℕ → Struck
struck_after m copy number touched at name pattern =
    cond (eqb number 0)
    (cond (eqb touched 2)
    (cond (eqb name (256 + at)) (struck true (raised_at m (4096 * at) pattern)) (struck false m))
    (cond (eqb name at) (struck true (raised_at copy (256 * at) pattern)) (struck false m)))
    (struck false m)
