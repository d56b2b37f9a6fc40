use native.Mathlib.Omega.{arith}
use Rattle.design.proofs.Cells.{action_read}
use Rattle.design.proofs.item.Items.check_action.Goals as goal

pub returns : goal.returns
returns c = λ end. action_read _ end _ _ _ _ (omega arith) (omega arith) _ _ c.fill_length.ensures c.check_list.ensures
