use Rattle.std.proofs.Common.{◌≡◌, length}
use Rattle.clauses.specs.Circuit.{xors! }
use Rattle.clauses.proofs.EmitCircuits.{Rowing}
use Rattle.clauses.proofs.circuit.xors.Given as goal

abbrev pub invariant-loop-i : goal.invariant-loop-i
invariant-loop-i l = Rowing xors! 16 l.a l.b l.fn.pen.var l.initial.buf l.fn.pen.cur l.buf l.value l.pen.cur l.pen.var l.i × (length l.value ≡ 16) × (length l.buf ≡ length l.initial.buf)
