use Rattle.step.proofs.Cells.{event_read}
use Rattle.step.proofs.machine.Machine.cell_event.Goals as goal

pub returns : goal.returns
returns c =
    event_read _ _ _ c.args.self.indexed _ _ _ _ c.wide-m.ensures.0 c.wide-e.ensures.0 _ c.event_true.ensures
