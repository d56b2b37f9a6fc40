use Rattle.std.proofs.Common.{◌≡◌, ◌+◌, ◌≤◌, length}
use Rattle.clauses.specs.Writing.{variable_limit}
use Rattle.clauses.specs.Literal.{positive}
use Rattle.clauses.specs.Words.{words}
use Rattle.clauses.specs.Circuit.{Bits}
use Rattle.clauses.specs.Formula.{against}
use Rattle.clauses.proofs.EmitClauses.{Putting}
use Rattle.clauses.proofs.clause.put_against.Given as goal

abbrev pub invariant-loop : goal.invariant-loop
invariant-loop l = (l.f + 1 ≤ variable_limit → Putting (λ (bs : Bits). words (against (positive l.f) bs)) l.v l.n l.initial.buf l.cur l.buf l.at l.x l.counter) × (length l.buf ≡ length l.initial.buf)
