use Rattle.std.proofs.Common.{◌∙◌}
use Rattle.step.proofs.Cells.{other_status, same_status, and_made, and_left, tested}
use Rattle.step.proofs.machine.Machine.move_cell.Goals as goal
use Rattle.step.proofs.machine.Machine.move_cell.Goals.{then-event, else-event, then-guard, else-guard, then-enabled, else-enabled}

pub returns : goal.returns
returns c =
    λ x. tested _ _ _ c.args.self.indexed _ _ x _ _ _ c.status_stands-event.ensures
    (elim c.if-event.branch [
      | then-event w ↦ λ d v. w.guard-is ∙ same_status _ _ _ c.args.self.indexed _ _ _ c.status_stands-event.ensures w.if-event.true _ w.cell_event-guard.ensures d v
      | else-event w ↦ λ d v. w.guard-is ∙ w.if-event.false ∙ other_status _ _ _ c.args.self.indexed _ _ _ c.status_stands-event.ensures w.if-event.false d v
    ])
    (elim c.if-guard.branch [
      | then-guard w ↦ and_made _ _ _ w.if-guard.true (w.enabled-is ∙ w.guard_true-enabled.ensures x)
      | else-guard w ↦ and_left _ _ _ w.if-guard.false w.enabled-is
    ])
    _
    (elim c.if-enabled.branch [
      | then-enabled w ↦ rw w.if-enabled.true (w.slots-is ∙ w.act_cell.ensures x)
      | else-enabled w ↦ rw w.if-enabled.false w.slots-is
    ])
