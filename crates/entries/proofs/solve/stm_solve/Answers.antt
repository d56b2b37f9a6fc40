use mathlib.Core.Path.{ap}
use Rattle.entries.specs.Solve.{solve_return, solve_entry}
use Rattle.entries.proofs.solve.stm_solve.Goals as goal

pub returns-in-Err : goal.returns-in-Err
unfolding solve_entry
returns-in-Err c = rw c.code_of.ensures (ap (solve_return _) c.in-Err.ensures)

pub returns-in-Ok : goal.returns-in-Ok
unfolding solve_entry
returns-in-Ok c = rw c.answer_number.ensures (ap (solve_return _) c.in-Ok.ensures)
