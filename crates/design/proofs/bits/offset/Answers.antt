use native.Mathlib.Omega.{arith}
use Rattle.design.proofs.Widths.{adding_start, adding_on, adding_end, width_bound}
use Rattle.design.proofs.bits.offset.Goals as goal

pub loop-i-init : goal.loop-i-init
loop-i-init c = adding_start _ _

pub overflow_add-bits : goal.overflow_add-bits
overflow_add-bits c =
    omega (
      arith,
      width_bound c.args.file.now c.loop-i.i c.width-bits.result c.width-bits.ensures,
    )

pub loop-i-preserved : goal.loop-i-preserved
loop-i-preserved c = adding_on _ _ _ _ _ c.loop-i-test.true c.width-bits.ensures c.loop-i.invariant

pub returns : goal.returns
returns c = adding_end _ _ _ _ c.loop-i-test.false c.loop-i.invariant
