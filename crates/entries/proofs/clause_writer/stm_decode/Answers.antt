use mathlib.Core.Path.{ap}
use Rattle.entries.specs.Clauses.{decode_return, decode_entry}
use Rattle.entries.proofs.Coding.{code_by}
use Rattle.entries.proofs.clause_writer.stm_decode.Goals as goal

pub returns : goal.returns
unfolding decode_entry
returns c = rw (c.code_alone.ensures, code_by) (ap decode_return c.decode.ensures)
