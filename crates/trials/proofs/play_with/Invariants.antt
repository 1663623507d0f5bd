use mathlib.Core.Path.{◌≡◌}
use Prim.Native.Nat.{◌-◌, ◌≤◌}
use lib.ListN.{length}
use borrow.Author.Rules.{rules}
use Rattle.trials.proofs.Laws.{Playing, play_starts, play_goes_on, play_none, play_ends}
use Rattle.trials.proofs.play_with.Given as goal

abbrev pub invariant-loop-i : goal.invariant-loop-i
invariant-loop-i l = Playing l.initial.m l.calls l.m l.t.number l.i × (length l.b ≡ length l.initial.b) × (length l.m ≤ 65536) × (length l.b ≡ 256)

abbrev pub decreases-loop-i : goal.decreases-loop-i
decreases-loop-i l = length l.calls - l.i
