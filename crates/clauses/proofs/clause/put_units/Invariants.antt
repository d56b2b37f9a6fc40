use Rattle.std.proofs.Common.{◌≡◌, length}
use Rattle.clauses.proofs.EmitClauses.{Giving}
use Rattle.clauses.proofs.clause.put_units.Given as goal

abbrev pub invariant-loop : goal.invariant-loop
invariant-loop l = Giving l.v l.n l.value l.initial.buf l.cur l.buf l.at l.x l.y l.counter × (length l.buf ≡ length l.initial.buf)
