use Rattle.std.proofs.Common.{◌/◌, arith}
use Rattle.clauses.proofs.EmitWords.{minus_fits, signed_even, signed_odd}
use Rattle.clauses.proofs.literal.signed.Goals as goal

pub overflow_sub-result : goal.overflow_sub-result
overflow_sub-result c = minus_fits (c.args.l / 2) (omega arith)

pub returns-then-l-eq0 : goal.returns-then-l-eq0
returns-then-l-eq0 c = signed_even c.args.l (omega arith) c.if-l-eq0.true

pub returns-else-l-eq0 : goal.returns-else-l-eq0
returns-else-l-eq0 c = signed_odd c.args.l (omega arith) c.if-l-eq0.false
