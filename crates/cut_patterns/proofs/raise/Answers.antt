use Rattle.cut_patterns.proofs.Cuts.{raise_nowhere, raise_or, raise_end}
use native.Mathlib.Omega.{arith}
use borrow.Author.Rules.{rules}
use Rattle.cut_patterns.proofs.raise.Goals as goal

pub returns-then-m-at : goal.returns-then-m-at
returns-then-m-at c = search (raise_nowhere, rules)

pub loop-i-preserved : goal.loop-i-preserved
loop-i-preserved c = raise_or _ _ _ _ _ c.loop-i.invariant (omega arith) (omega arith) (omega arith)

pub returns : goal.returns
returns c = search (raise_end, rules)
