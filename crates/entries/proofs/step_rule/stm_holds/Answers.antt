use mathlib.Core.Path.{ap}
use Rattle.entries.specs.Step.{holds_return, holds_entry}
use Rattle.step.proofs.Counts.{bit_from}
use Rattle.entries.proofs.step_rule.stm_holds.Goals as goal

pub returns-in-Err : goal.returns-in-Err
unfolding holds_entry
returns-in-Err c = rw c.code_of.ensures (ap (holds_return _) c.in-Err.ensures)

pub returns-in-Ok : goal.returns-in-Ok
unfolding holds_entry
returns-in-Ok c = rw bit_from (ap (holds_return _) c.in-Ok.ensures)
