use Rattle.std.proofs.Common.{refl, arith}
use Rattle.clauses.proofs.EmitMarks.{least_none, least_low, least_high}
use Rattle.clauses.proofs.mark.least_operand.Goals as goal

pub returns-then-c-eq0 : goal.returns-then-c-eq0
returns-then-c-eq0 c = least_none _ c.if-c-eq0.true

pub returns-then-c-lt-LEAST : goal.returns-then-c-lt-LEAST
returns-then-c-lt-LEAST c = least_low _ _ _ c.if-c-eq0.false c.if-c-lt-LEAST.true refl (omega (arith, c.wrapping_neg.type_inv)) c.wrapping_neg.ensures

pub returns : goal.returns
returns c =
    least_high _ _ _ _ c.if-c-lt-LEAST.false c.ranges.c.fits (omega (arith, c.wrapping_neg-2.type_inv)) c.wrapping_neg-2.ensures refl (omega (arith, c.wrapping_neg-3.type_inv)) c.wrapping_neg-3.ensures
