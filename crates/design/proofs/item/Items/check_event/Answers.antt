use native.Mathlib.Omega.{arith}
use Rattle.design.proofs.Items.{event_passes, event_read}
use Rattle.design.proofs.item.Items.check_event.Goals as goal

pub returns-then-self-past : goal.returns-then-self-past
returns-then-self-past c = event_passes _ _ _ _ _ (omega arith) c.if-self-past.true

pub returns : goal.returns
returns c = event_read _ _ _ _ _ (omega arith) c.if-self-past.false _ c.check_filling.ensures
