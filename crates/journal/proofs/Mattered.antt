-- What `mattered` answers on a medium reached is told by the history's log.
use mathlib.Core.Path.{◌≡◌, ap, ◌∙◌}
use mathlib.Core.List.{List, [], ◌∷◌}
use Prim.Native.Nat.{ℕ}
use Rattle.lists.specs.Needs.{and_then}
use Rattle.filing.specs.declared.Counted.{Counted}
use Rattle.filing.specs.Filed.{left_by, leaving}
use Rattle.valve_log.specs.History.{History}
use Rattle.valve_log.specs.Reached.{Shows, Point3}
use Rattle.valve_log.proofs.Point3.{point3}
use Rattle.mattered.specs.Mattered.{mattered, listed_in, read_mattered}
use Rattle.mattered.specs.Listed.{ListsMattered}
use Rattle.journal.specs.Mattered.{MatteredTold}

-- on every medium that shows a history
pub mattered_shown : (m : List ℕ) (h : History) → Shows m h → (out out' : List ℕ) (a : Counted) → ListsMattered m out a out'
    → left_by a (out' ∷ []) ≡ leaving (out ∷ []) (listed_in out (mattered h.log))
unfolding read_mattered and_then
mattered_shown m h S out out' a p =
    p ∙ ap (leaving (out ∷ [])) (ap (λ R. and_then R (λ r. listed_in out (mattered r.log))) S.accepts ∙ ap (λ l. listed_in out (mattered l)) S.same_log)

pub mattered_told : MatteredTold
unfolding MatteredTold Point3
mattered_told x h out out' a R p = mattered_shown x.medium h (point3 x h R) out out' a p
