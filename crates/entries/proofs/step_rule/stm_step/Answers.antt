use mathlib.Core.Path.{ap}
use Rattle.entries.specs.Step.{step_return, step_entry}
use Rattle.step.proofs.Counts.{bit_from}
use Rattle.entries.proofs.step_rule.stm_step.Goals as goal

pub returns-in-Err : goal.returns-in-Err
unfolding step_entry
returns-in-Err c = rw c.code_of.ensures (ap (step_return _ _ _ _) c.in-Err.ensures)

pub returns-in-Ok : goal.returns-in-Ok
unfolding step_entry
returns-in-Ok c = rw bit_from (ap (step_return _ _ _ _) c.in-Ok.ensures)
