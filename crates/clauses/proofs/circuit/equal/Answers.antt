use Rattle.clauses.proofs.EmitWords.{code_yes}
use Rattle.clauses.proofs.EmitCircuits.{equal_emits}
use Rattle.clauses.proofs.circuit.equal.Goals as goal

pub returns : goal.returns
returns c = equal_emits _ _ _ _ _ _ code_yes c.xors-x.ensures c.chain.ensures
