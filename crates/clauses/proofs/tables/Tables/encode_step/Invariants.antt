use Rattle.std.proofs.Common.{◌≡◌, length}
use Rattle.clauses.proofs.EmitSteps.{Moving}
use Rattle.clauses.proofs.tables.Tables.encode_step.Given as goal

abbrev pub invariant-loop-i : goal.invariant-loop-i
invariant-loop-i l = Moving l.self.file.now l.self.shape l.bits l.initial.pen.var l.initial.buf l.initial.pen.cur l.value l.buf l.pen.cur l.pen.var l.i × (length l.buf ≡ length l.initial.buf)
