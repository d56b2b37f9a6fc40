use Rattle.clauses.proofs.EmitWords.{code_yes}
use Rattle.clauses.proofs.EmitCircuits.{difference_emits}
use Rattle.clauses.proofs.circuit.difference.Goals as goal

pub returns : goal.returns
returns c = difference_emits _ _ _ _ _ c.negate_all.ensures code_yes c.sum.ensures
