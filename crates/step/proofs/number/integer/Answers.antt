use Rattle.std.proofs.Common.{◌∙◌, arith}
use Rattle.step.proofs.Signed.{cast_signed, stored}
use Rattle.step.proofs.number.integer.Goals as goal

pub returns : goal.returns
returns c = stored _ _ (omega arith) (c.cast_signed.ensures ∙ cast_signed _ (omega arith))
