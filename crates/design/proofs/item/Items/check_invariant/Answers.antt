use Rattle.design.proofs.Items.{invariant_before, invariant_passes, invariant_read}
use Rattle.design.proofs.item.Items.check_invariant.Goals as goal

pub returns-then-past-at : goal.returns-then-past-at
returns-then-past-at c = invariant_before _ _ _ _ _ c.if-past-at.true

pub returns-then-self-past : goal.returns-then-self-past
returns-then-self-past c = invariant_passes _ _ _ _ _ c.if-past-at.false c.if-self-past.true

pub returns : goal.returns
returns c =
    invariant_read _ _ _ _ _ c.if-past-at.false c.if-self-past.false _ c.check_filling.ensures
