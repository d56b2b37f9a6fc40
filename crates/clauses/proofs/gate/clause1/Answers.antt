use Rattle.clauses.proofs.EmitWords.{puts_then}
use Rattle.clauses.proofs.gate.clause1.Goals as goal

pub returns : goal.returns
returns c = puts_then c.put_literal-p.ensures c.put_end.ensures
