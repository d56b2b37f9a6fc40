use Rattle.design.specs.State.{slot_count}
use Rattle.std.proofs.Common.{arith}
use Rattle.design.proofs.Indexed.{sized}
use Rattle.step.proofs.Replays.{zeros_long}
use Rattle.step.proofs.States.{start_answer_lem}
use Rattle.step.proofs.calls.start_slots.Goals as goal

pub give_values-requires : goal.give_values-requires
give_values-requires c =
    omega (arith, zeros_long (slot_count c.args.shape) c.args.slots.now c.requires.2, sized _ c.requires.0 _ c.requires.1)

pub give_statuses-requires : goal.give_statuses-requires
give_statuses-requires c =
    omega (arith, zeros_long (slot_count c.args.shape) c.args.slots.now c.requires.2, sized _ c.requires.0 _ c.requires.1)

pub returns : goal.returns
returns c =
    start_answer_lem _ c.requires.0 _ c.requires.1 _ _ _ _ c.load_start.ensures (record {
      values = c.give_values.ensures;
      statuses = c.give_statuses.ensures;
      mark = c.give_mark.ensures;
    })
