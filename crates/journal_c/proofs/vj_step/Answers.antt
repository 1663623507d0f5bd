use Rattle.advance.proofs.Kinded.{step_done, step_back}
use Rattle.journal_c.proofs.vj_step.Goals as goal

pub returns-in-Ok : goal.returns-in-Ok
returns-in-Ok c = search (step_done, c.in-Ok.is)

pub returns-in-Err : goal.returns-in-Err
returns-in-Err c = search (step_back, c.in-Err.is)
