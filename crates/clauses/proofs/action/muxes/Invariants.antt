use Rattle.std.proofs.Common.{◌≡◌, length}
use Rattle.clauses.specs.Writing.{from_code}
use Rattle.clauses.proofs.EmitStates.{Muxing}
use Rattle.clauses.proofs.action.muxes.Given as goal

abbrev pub invariant-loop-i : goal.invariant-loop-i
invariant-loop-i l = Muxing l.fn.shape.bits (from_code l.c) l.initial.state l.other l.initial.pen.var l.initial.buf l.initial.pen.cur l.buf l.state l.pen.cur l.pen.var l.i × (length l.buf ≡ length l.initial.buf)
