use Rattle.clauses.proofs.EmitClauses.{TwoRuns}
use Rattle.clauses.proofs.clause.two_states.Given as goal

abbrev pub invariant-loop-i : goal.invariant-loop-i
invariant-loop-i l = TwoRuns l.v l.w l.n l.out l.x l.y l.i
