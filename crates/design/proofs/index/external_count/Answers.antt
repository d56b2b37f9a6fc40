use native.Mathlib.Omega.{arith}
use Rattle.design.proofs.Externals.{counting_start, counting_yes, counting_no, counting_end}
use Rattle.design.proofs.index.external_count.Goals as goal
use Rattle.design.proofs.index.external_count.Goals.{then-file-v, else-file-v}

pub loop-v-init : goal.loop-v-init
loop-v-init c = counting_start _ _

pub overflow_add-count : goal.overflow_add-count
overflow_add-count c = omega (arith, c.loop-v.invariant.few)

pub loop-v-preserved : goal.loop-v-preserved
loop-v-preserved c =
    elim c.if-file-v.branch [
      | then-file-v w ↦ counting_yes _ _ _ _ _ c.loop-v-test.true w.if-file-v.true w.count-is c.loop-v.invariant
      | else-file-v w ↦ counting_no _ _ _ _ _ c.loop-v-test.true w.if-file-v.false w.count-is c.loop-v.invariant
    ]

pub returns : goal.returns
returns c = counting_end _ _ _ _ c.loop-v-test.false c.loop-v.invariant
