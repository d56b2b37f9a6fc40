use Rattle.clauses.proofs.EmitBuilds.{and_emits}
use Rattle.clauses.proofs.gate.emit_and.Goals as goal

pub returns : goal.returns
returns c =
    and_emits _ _ _ _ _ _ _ c.positive-g.ensures c.next.ensures c.negate-ng.ensures c.negate-na.ensures c.negate-nb.ensures c.clause2-p.ensures c.clause2-q.ensures c.clause3-s.ensures
