use Rattle.std.proofs.Common.{refl}
use Rattle.clauses.proofs.EmitWords.{negate_even, negate_odd}
use Rattle.clauses.proofs.literal.negate.Goals as goal

pub returns-then-l-eq0 : goal.returns-then-l-eq0
returns-then-l-eq0 c = negate_even _ c.args.l c.if-l-eq0.true refl

pub returns-else-l-eq0 : goal.returns-else-l-eq0
returns-else-l-eq0 c = negate_odd c.args.l c.if-l-eq0.false
