use Rattle.std.proofs.Common.{eq-eqb, ne_eqb}
use Rattle.step.proofs.Cells.{raised}
use Rattle.step.proofs.mover.move_external.Goals as goal
use Rattle.step.proofs.mover.move_external.Goals.{then-enabled, else-enabled}

pub returns : goal.returns
returns c = λ l. raised l _ _ _ (elim c.if-enabled.branch [
  | then-enabled w ↦ rw (eq-eqb _ _ w.if-enabled.true) w.slots-is
  | else-enabled w ↦ rw (ne_eqb _ _ w.if-enabled.false) w.slots-is
])
