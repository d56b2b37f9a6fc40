use Rattle.step.proofs.Cells.{same_status}
use Rattle.step.proofs.machine.Machine.status_and_event.Goals as goal

pub returns-then-status_stands : goal.returns-then-status_stands
returns-then-status_stands c =
    same_status _ _ _ c.args.self.indexed _ _ _ c.status_stands.ensures c.if-status_stands.true _ c.cell_event.ensures
