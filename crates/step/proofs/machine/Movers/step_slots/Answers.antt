use Rattle.std.proofs.Common.{ap, ◌∙◌}
use Rattle.design.specs.State.{State}
use Rattle.step.specs.Operations.{next}
use Rattle.step.proofs.Cells.{sizes}
use Rattle.step.proofs.States.{step_answer_lem}
use Rattle.step.proofs.machine.Movers.step_slots.Goals as goal

pub load_entries-requires : goal.load_entries-requires
load_entries-requires c =
    ((sizes _ _ _ c.args.self.machine.indexed).3, (sizes _ _ _ c.args.self.machine.indexed).2, c.requires.0)

pub returns : goal.returns
returns c =
    λ d e. step_answer_lem _ d e _ c.args.self.machine.indexed.shaped _ _ _ _ _ _ _ (c.move_chosen-tested.ensures d e) (record {
      values = c.give_values.ensures;
      statuses = c.give_statuses.ensures;
      mark = c.give_mark.ensures;
    }) ∙ ap (λ (s : State). next d s c.args.choice) c.load_entries.ensures
