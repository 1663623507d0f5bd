-- The groups that mattered, on a medium reached: those of the history's log.
use Rattle.std.specs.Prelude.{◌≡◌, List, [], ◌∷◌, ℕ}
use Rattle.filing.specs.declared.Counted.{Counted}
use Rattle.filing.specs.Filed.{left_by, leaving}
use Rattle.mattered.specs.Mattered.{mattered, listed_in}
use Rattle.mattered.specs.Listed.{ListsMattered}
use Rattle.valve_log.specs.History.{History}
use Rattle.valve_log.specs.Reached.{World, Reached}

-- Whatever answer `mattered` gives, of which nothing is known but the promise: only 25 refuses, and what is listed is `mattered` of the history's log.
unfoldable pub MatteredTold : Type 0
MatteredTold =
    (x : World) (h : History) (out out' : List ℕ) (a : Counted) → Reached x h → ListsMattered x.medium out a out'
    → left_by a (out' ∷ []) ≡ leaving (out ∷ []) (listed_in out (mattered h.log))
