use Rattle.clauses.proofs.EmitBuilds.{xor_emits}
use Rattle.clauses.proofs.gate.emit_xor.Goals as goal

pub returns : goal.returns
returns c =
    xor_emits _ _ _ _ _ _ _ c.positive-g.ensures c.next.ensures c.negate-ng.ensures c.negate-na.ensures c.negate-nb.ensures c.clause3-p.ensures c.clause3-q.ensures c.clause3-s.ensures c.clause3-t.ensures
