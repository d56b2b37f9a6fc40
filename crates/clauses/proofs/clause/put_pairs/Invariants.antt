use Rattle.std.proofs.Common.{◌≡◌, length}
use Rattle.clauses.proofs.EmitClauses.{Pairing}
use Rattle.clauses.proofs.clause.put_pairs.Given as goal

abbrev pub invariant-loop-left : goal.invariant-loop-left
invariant-loop-left l = Pairing l.v l.n l.initial.buf l.cur l.buf l.at l.x l.left × (length l.buf ≡ length l.initial.buf)
