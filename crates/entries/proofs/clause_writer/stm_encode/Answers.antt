use mathlib.Core.Path.{ap}
use Rattle.entries.specs.Clauses.{encode_return, encode_entry}
use Rattle.entries.proofs.clause_writer.stm_encode.Goals as goal

pub returns-in-Err : goal.returns-in-Err
unfolding encode_entry
returns-in-Err c = rw c.code_of.ensures (ap (encode_return _) c.in-Err.ensures)

pub returns-in-Ok : goal.returns-in-Ok
unfolding encode_entry
returns-in-Ok c = ap (encode_return _) c.in-Ok.ensures
