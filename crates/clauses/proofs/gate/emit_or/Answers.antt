use Rattle.clauses.proofs.EmitBuilds.{or_emits}
use Rattle.clauses.proofs.gate.emit_or.Goals as goal

pub returns : goal.returns
returns c =
    or_emits _ _ _ _ _ _ _ c.negate-na.ensures c.negate-nb.ensures c.negate.ensures c.emit_and-x.ensures
