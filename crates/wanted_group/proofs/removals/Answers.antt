use Prim.Native.Nat.{◌-◌}
use native.Mathlib.Omega.{arith}
use Rattle.wanted_group.proofs.Turns.{Removing, removing_start, removing_skip, removing_push, removing_end, removing_low}
use borrow.Author.Rules.{rules}
use Rattle.wanted_group.proofs.removals.Goals as goal

pub loop-i-init : goal.loop-i-init
loop-i-init c = search (removing_start, rules)

pub loop-i-preserved-then-c-i-ne0 : goal.loop-i-preserved-then-c-i-ne0
loop-i-preserved-then-c-i-ne0 c = search (removing_skip, rules)

pub overflow_add-keys : goal.overflow_add-keys
overflow_add-keys c = record { fits = omega (arith, removing_low _ _ _ _ _ _ _ _ c.loop-i-test.true c.loop-i.invariant) }

pub loop-i-preserved : goal.loop-i-preserved
loop-i-preserved c = search (removing_push, rules)

pub returns : goal.returns
returns c = search (removing_end, rules)
