use native.Mathlib.Omega.{arith}
use Rattle.text.proofs.Putting.{mover_none, mover_some}
use Rattle.text.proofs.writer.Writer.mover.Goals as goal

pub returns-then-step-eq0-clause-text : goal.returns-then-step-eq0-clause-text
returns-then-step-eq0-clause-text c =
    mover_none _ _ c.if-step-eq0.true c.byte.ensures.text

pub returns-then-step-eq0-clause-near : goal.returns-then-step-eq0-clause-near
returns-then-step-eq0-clause-near c =
    omega (arith, c.byte.ensures.text.cursor)

pub returns-else-step-eq0-clause-text : goal.returns-else-step-eq0-clause-text
returns-else-step-eq0-clause-text c =
    mover_some _ _ c.if-step-eq0.false c.decimal.ensures.text
