use Rattle.std.proofs.Common.{◌≡◌, length}
use Rattle.clauses.proofs.EmitParts.{Valuing}
use Rattle.clauses.proofs.first.put_values.Given as goal

abbrev pub invariant-loop-v : goal.invariant-loop-v
invariant-loop-v l = Valuing l.file l.fn.shape.variables l.initial.buf l.cur l.buf l.at l.x l.v × (length l.buf ≡ length l.initial.buf)
