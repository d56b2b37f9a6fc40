use native.Mathlib.Omega.{arith}
use Rattle.design.proofs.Externals.{Finding, finding_start, finding_here, finding_yes, finding_no, finding_end}
use mathlib.Core.Path.{subst, sym}
use Rattle.design.proofs.index.external.Goals as goal
use Rattle.design.proofs.index.external.Goals.{then-file-v+else-left-eq0, else-file-v}

pub loop-v-init : goal.loop-v-init
loop-v-init c = finding_start _ _ _ c.requires.1

pub returns-then-left-eq0 : goal.returns-then-left-eq0
returns-then-left-eq0 c = (
  finding_here _ _ _ _ _ c.loop-v-test.true c.if-file-v.true c.if-left-eq0.true c.loop-v.invariant,
  omega arith,
)

pub loop-v-preserved : goal.loop-v-preserved
loop-v-preserved c =
    elim c.if-file-v.branch [
      | then-file-v+else-left-eq0 w ↦ subst (Finding _ _ _ _) (sym w.left-is) (finding_yes _ _ _ _ _ c.loop-v-test.true w.if-file-v.true w.if-left-eq0.false c.loop-v.invariant)
      | else-file-v w ↦ subst (Finding _ _ _ _) (sym w.left-is) (finding_no _ _ _ _ _ c.loop-v-test.true w.if-file-v.false c.loop-v.invariant)
    ]

pub returns : goal.returns
returns c = absurd (finding_end _ _ _ _ _ c.loop-v-test.false c.loop-v.invariant)
