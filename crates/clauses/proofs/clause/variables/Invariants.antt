use Rattle.clauses.proofs.EmitClauses.{Listing}
use Rattle.clauses.proofs.clause.variables.Given as goal

abbrev pub invariant-loop-i : goal.invariant-loop-i
invariant-loop-i l = Listing l.v l.n l.out l.x l.i
