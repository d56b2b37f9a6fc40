use Rattle.std.proofs.Common.{◌≡◌, length}
use Rattle.clauses.proofs.EmitParts.{Closing}
use Rattle.clauses.proofs.tables.Tables.put_last.Given as goal

abbrev pub invariant-loop : goal.invariant-loop
invariant-loop l = Closing l.self.file.now l.piece l.inst.property l.stride l.frames l.initial.buf l.cur l.buf l.at l.x l.counter × (length l.buf ≡ length l.initial.buf)
