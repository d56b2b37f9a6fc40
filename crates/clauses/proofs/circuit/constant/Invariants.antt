use Rattle.clauses.proofs.EmitSlots.{Counting}
use Rattle.clauses.proofs.circuit.constant.Given as goal

abbrev pub invariant-loop-lit : goal.invariant-loop-lit
invariant-loop-lit l = Counting l.x l.lit-items l.n l.lit-index
