use mathlib.Core.Path.{ap}
use Rattle.entries.specs.Clauses.{size_return, size_entry}
use Rattle.entries.proofs.clause_writer.stm_size.Goals as goal

pub returns-in-Err : goal.returns-in-Err
unfolding size_entry
returns-in-Err c = rw c.code_of.ensures (ap (size_return _) c.in-Err.ensures)

pub returns-in-Ok : goal.returns-in-Ok
unfolding size_entry
returns-in-Ok c = ap (size_return _) c.in-Ok.ensures
