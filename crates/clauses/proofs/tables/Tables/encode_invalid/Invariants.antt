use Rattle.std.proofs.Common.{◌≡◌, length}
use Rattle.clauses.specs.Writing.{from_code}
use Rattle.clauses.proofs.EmitSteps.{Scanning}
use Rattle.clauses.proofs.tables.Tables.encode_invalid.Given as goal

abbrev pub invariant-loop : goal.invariant-loop
invariant-loop l = Scanning l.self.file.now l.self.shape l.bits l.initial.chain.pen.var l.initial.buf l.initial.chain.pen.cur l.p l.buf (from_code l.chain.value) l.chain.pen.cur l.chain.pen.var l.counter × (length l.buf ≡ length l.initial.buf)
