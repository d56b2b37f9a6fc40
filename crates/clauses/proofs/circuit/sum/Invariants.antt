use Rattle.std.proofs.Common.{◌≡◌, length}
use Rattle.clauses.specs.Writing.{from_code}
use Rattle.clauses.proofs.EmitCircuits.{Summing}
use Rattle.clauses.proofs.circuit.sum.Given as goal

abbrev pub invariant-loop-i : goal.invariant-loop-i
invariant-loop-i l = Summing l.a l.b (from_code l.c) l.fn.pen.var l.initial.buf l.fn.pen.cur l.buf l.lits (from_code l.carry) (from_code l.earlier) l.pen.cur l.pen.var l.i × (length l.buf ≡ length l.initial.buf)
