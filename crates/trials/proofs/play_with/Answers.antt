use mathlib.Core.Path.{◌≡◌}
use Prim.Native.Nat.{◌-◌, ◌≤◌}
use lib.ListN.{length}
use borrow.Author.Rules.{rules}
use Rattle.trials.proofs.Laws.{Playing, play_starts, play_goes_on, play_none, play_ends}
use Rattle.trials.proofs.play_with.Goals as goal

pub returns-then-m-gt-BYTES : goal.returns-then-m-gt-BYTES
returns-then-m-gt-BYTES c = search (play_none, rules)

pub loop-i-init : goal.loop-i-init
loop-i-init c = (search (play_starts, rules), search rules, search rules, search rules)

pub loop-i-preserved : goal.loop-i-preserved
loop-i-preserved c = (search (play_goes_on, rules), search rules, search rules, search rules)

pub returns : goal.returns
returns c = search (play_ends, rules)
