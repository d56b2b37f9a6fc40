use Rattle.clauses.proofs.EmitCircuits.{less_emits}
use Rattle.clauses.proofs.circuit.less.Goals as goal

pub returns : goal.returns
returns c =
    less_emits _ _ _ _ _ _ _ c.negate_top-x.ensures c.negate_top-y.ensures c.negate.ensures c.difference-w.ensures
