use Rattle.std.proofs.Common.{sym, ◌∙◌, ap₂, arith}
use lib.Signed.{lt_z}
use Rattle.step.proofs.Signed.{stored}
use Rattle.step.proofs.Patterns.{below_signed}
use Rattle.step.proofs.number.below16.Goals as goal

pub returns : goal.returns
returns c =
    ap₂ lt_z (stored _ _ (omega arith) c.integer.ensures) (stored _ _ (omega arith) c.integer-2.ensures)
    ∙ sym (below_signed c.args.a c.args.b (omega arith) (omega arith))
