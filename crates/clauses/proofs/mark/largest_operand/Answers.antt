use Rattle.std.proofs.Common.{refl, arith}
use Rattle.clauses.proofs.EmitMarks.{largest_none, largest_low, largest_one, largest_high}
use Rattle.clauses.proofs.mark.largest_operand.Goals as goal

pub returns-then-c-eq0 : goal.returns-then-c-eq0
returns-then-c-eq0 c = largest_none _ c.if-c-eq0.true

pub returns-then-c-lt-LEAST : goal.returns-then-c-lt-LEAST
returns-then-c-lt-LEAST c = largest_low _ _ c.if-c-eq0.false c.if-c-lt-LEAST.true refl

pub returns-then-c-eq-MINUS_ONE : goal.returns-then-c-eq-MINUS_ONE
returns-then-c-eq-MINUS_ONE c = largest_one _ c.if-c-eq-MINUS_ONE.true

pub returns : goal.returns
returns c =
    largest_high _ _ _ c.if-c-lt-LEAST.false c.ranges.c.fits c.if-c-eq-MINUS_ONE.false (omega (arith, c.wrapping_neg.type_inv)) c.wrapping_neg.ensures refl
