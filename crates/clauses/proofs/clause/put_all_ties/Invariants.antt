use Rattle.std.proofs.Common.{◌≡◌, length}
use Rattle.clauses.proofs.EmitFrames.{Tied}
use Rattle.clauses.proofs.clause.put_all_ties.Given as goal

abbrev pub invariant-loop-first : goal.invariant-loop-first
invariant-loop-first l = Tied l.f l.all l.b l.n l.firsts l.initial.buf l.cur l.buf l.at l.x l.first-index × (length l.buf ≡ length l.initial.buf)
