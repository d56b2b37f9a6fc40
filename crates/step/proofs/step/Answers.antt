use Rattle.design.proofs.Told.{handed_on}
use Rattle.step.proofs.States.{step_refused}
use Rattle.step.proofs.step.Goals as goal

pub returns-in_err-check : goal.returns-in_err-check
returns-in_err-check c = handed_on _ _ c.from_residual.ensures.1 _ (step_refused _ _ _ _ _ _ c.in_err-check.ensures)
