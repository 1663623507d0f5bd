use Rattle.run_text.proofs.Laws.{running_start, running_next, running_ready, running_end, running_full}
use borrow.Author.Rules.{rules}
use Rattle.run_text.proofs.calls.Goals as goal

pub loop-run-init : goal.loop-run-init
loop-run-init c = search (running_start, rules)

pub turn-run-requires : goal.turn-run-requires
turn-run-requires c = running_ready _ _ _ _ _ c.loop-run.run _ _ _ c.loop-run.invariant c.loop-run-test.true

pub returns-then-is_full : goal.returns-then-is_full
returns-then-is_full c = search (running_full, rules)

pub loop-run-preserved : goal.loop-run-preserved
loop-run-preserved c = search (running_next, rules)

pub returns : goal.returns
returns c = search (running_end, rules)
