use mathlib.Core.Path.{◌≡◌}
use Prim.Native.Nat.{◌-◌, ◌≤◌}
use lib.ListN.{length}
use borrow.Author.Rules.{rules}
use Rattle.trials.proofs.finish.Given as goal

abbrev pub invariant-loop-n : goal.invariant-loop-n
invariant-loop-n l = (length l.m ≡ length l.initial.m) × (length l.b ≡ length l.initial.b) × (length l.m ≤ 65536) × (length l.b ≡ 256)
