use Rattle.design.proofs.Items.{constraint_absent, constraint_read}
use Rattle.design.proofs.item.Items.check_constraint.Goals as goal

pub returns-then-not-constrained : goal.returns-then-not-constrained
returns-then-not-constrained c = constraint_absent _ _ _ _ _ c.if-not-constrained.true

pub returns : goal.returns
returns c = constraint_read _ _ _ _ _ c.if-not-constrained.false _ c.check_filling.ensures
