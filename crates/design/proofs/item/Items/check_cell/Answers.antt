use Rattle.design.proofs.Told.{handed_on}
use native.Mathlib.Omega.{arith}
use Rattle.design.proofs.Cells.{cell_passes, cell_fields, cell_order, cell_invalid, cell_guard, cell_action}
use Rattle.design.proofs.item.Items.check_cell.Goals as goal

pub returns-then-self-past : goal.returns-then-self-past
returns-then-self-past c = λ f. cell_passes _ _ _ _ f _ _ _ (omega arith) c.if-self-past.true

pub returns-then-not-fields_ok : goal.returns-then-not-fields_ok
returns-then-not-fields_ok c =
    λ f. cell_fields _ _ _ _ f _ _ _ (omega arith) c.if-self-past.false _ c.fields_ok.ensures c.if-not-fields_ok.true

pub returns-then-not-in_order : goal.returns-then-not-in_order
returns-then-not-in_order c =
    λ f. cell_order _ _ _ _ f _ _ _ (omega arith) c.if-self-past.false _ _ c.fields_ok.ensures
    c.if-not-fields_ok.false c.in_order.ensures c.if-not-in_order.true

pub returns-then-kind : goal.returns-then-kind
returns-then-kind c =
    λ f. cell_invalid _ _ _ _ f _ _ _ (omega arith) c.if-self-past.false _ _ c.fields_ok.ensures c.if-not-fields_ok.false c.in_order.ensures
    c.if-not-in_order.false c.if-kind.true

pub returns : goal.returns
returns c =
    λ f. cell_action _ _ _ _ f _ _ _ (omega arith) c.if-self-past.false _ _ c.fields_ok.ensures c.if-not-fields_ok.false c.in_order.ensures
    c.if-not-in_order.false _ _ c.if-kind.false (c.in_ok-check_guard.ensures c.args.self.end) (c.check_action.ensures c.args.self.end)

pub returns-in_err-check_guard : goal.returns-in_err-check_guard
returns-in_err-check_guard c =
    λ f. handed_on _ _ c.from_residual.ensures.1 _ (cell_guard _ _ _ _ f _ _ _ (omega arith) c.if-self-past.false _ _ c.fields_ok.ensures c.if-not-fields_ok.false c.in_order.ensures
    c.if-not-in_order.false _ _ c.if-kind.false (c.in_err-check_guard.ensures c.args.self.end))
