use Rattle.std.proofs.Common.{◌≡◌, length}
use Rattle.clauses.specs.Words.{clause_words}
use Rattle.clauses.proofs.EmitClauses.{Putting}
use Rattle.clauses.proofs.clause.put_any.Given as goal

abbrev pub invariant-loop : goal.invariant-loop
invariant-loop l = Putting clause_words l.v l.n l.initial.buf l.cur l.buf l.at l.x l.counter × (length l.buf ≡ length l.initial.buf)
