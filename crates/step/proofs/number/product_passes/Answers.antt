use Rattle.std.proofs.Common.{◌*ℤ◌, arith}
use Rattle.step.proofs.Exact.{op_passes}
use Rattle.step.proofs.number.product_passes.Goals as goal

pub returns : goal.returns
returns c = op_passes ◌*ℤ◌ c.args.a c.args.b _ _ (omega arith) (omega arith) c.integer.ensures c.integer-2.ensures _ c.checked_mul.ensures _ c.is_outside.ensures
