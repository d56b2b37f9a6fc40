use Rattle.design.proofs.Told.{handed_on}
use Rattle.step.proofs.States.{start_refused}
use Rattle.step.proofs.start.Goals as goal

pub returns-in_err-check : goal.returns-in_err-check
returns-in_err-check c = handed_on _ _ c.from_residual.ensures.1 _ (start_refused _ _ c.in_err-check.ensures)
