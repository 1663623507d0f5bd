-- What playing a list of calls promises: not what the calls do, which each call of the library says itself, but what keeps the two programs in bounds.
use Rattle.std.specs.Prelude.{◌≡◌, List, ℕ, length}
use Rattle.trials.specs.declared.Trial.{Trial}

-- the medium keeps its length; a list of no calls leaves every byte, and answers as a format of nothing does: 1
pub record Played (m calls : List ℕ) (r : Trial) (m' : List ℕ) : Type 0 where
  pub long : length m' ≡ length m
  pub kept : length calls ≡ 0 → m' ≡ m
  pub answered : length calls ≡ 0 → r.number ≡ 1
