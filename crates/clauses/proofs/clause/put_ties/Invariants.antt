use Rattle.std.proofs.Common.{◌≡◌, ◌+◌, ◌≤◌, length}
use Rattle.clauses.specs.Writing.{variable_limit}
use Rattle.clauses.specs.Literal.{positive}
use Rattle.clauses.proofs.EmitClauses.{Tying}
use Rattle.clauses.proofs.clause.put_ties.Given as goal

abbrev pub invariant-loop : goal.invariant-loop
invariant-loop l = (l.f + 1 ≤ variable_limit → Tying (positive l.f) l.r l.b l.n l.initial.buf l.cur l.buf l.at l.x l.y l.counter) × (length l.buf ≡ length l.initial.buf)
