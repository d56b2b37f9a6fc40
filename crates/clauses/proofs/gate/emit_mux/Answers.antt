use Rattle.clauses.proofs.EmitBuilds.{mux_emits}
use Rattle.clauses.proofs.gate.emit_mux.Goals as goal

pub returns : goal.returns
returns c =
    mux_emits _ _ _ _ _ _ _ _ _ c.positive-g.ensures c.next.ensures c.negate-ng.ensures c.negate-nc.ensures
    c.negate-na.ensures c.negate-nb.ensures c.clause3-p.ensures c.clause3-q.ensures c.clause3-s.ensures c.clause3-t.ensures
