use Rattle.std.proofs.Common.{◌≡◌, length}
use Rattle.clauses.specs.Writing.{from_code}
use Rattle.clauses.proofs.EmitCircuits.{Chaining}
use Rattle.clauses.proofs.circuit.chain.Given as goal

abbrev pub invariant-loop-l : goal.invariant-loop-l
invariant-loop-l l = Chaining l.fn.x (from_code l.c) l.fn.pen.var l.initial.buf l.fn.pen.cur l.buf (from_code l.part.value) l.part.pen.cur l.part.pen.var l.l-index × (length l.buf ≡ length l.initial.buf)
