use Rattle.clauses.proofs.EmitClauses.{bit_no, bit_yes}
use Rattle.clauses.proofs.clause.signed_by.Goals as goal

pub returns-then-bit-eq0 : goal.returns-then-bit-eq0
returns-then-bit-eq0 c = λ h. bit_no _ _ _ _ c.if-bit-eq0.true c.negate.ensures c.positive.ensures h

pub returns-else-bit-eq0 : goal.returns-else-bit-eq0
returns-else-bit-eq0 c = λ h. bit_yes _ _ _ c.if-bit-eq0.false c.positive-else-bit-eq0.ensures h
