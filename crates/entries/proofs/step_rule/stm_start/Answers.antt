use mathlib.Core.Path.{ap}
use Rattle.entries.specs.Step.{start_return, start_entry}
use Rattle.entries.proofs.step_rule.stm_start.Goals as goal

pub returns-in-Err : goal.returns-in-Err
unfolding start_entry
returns-in-Err c = rw c.code_of.ensures (ap (start_return _ _ _) c.in-Err.ensures)

pub returns-in-Ok : goal.returns-in-Ok
unfolding start_entry
returns-in-Ok c = ap (start_return _ _ _) c.in-Ok.ensures
