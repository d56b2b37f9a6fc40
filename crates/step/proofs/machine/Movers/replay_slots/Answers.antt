use Rattle.std.proofs.Common.{drop, ap, ◌∙◌}
use Rattle.design.specs.State.{slot_count}
use Rattle.design.proofs.Indexed.{sized}
use Rattle.step.proofs.Pairs.{part_is}
use Rattle.step.proofs.Replays.{drop_replicate}
use Rattle.step.proofs.machine.Movers.replay_slots.Goals as goal

pub slot_count-n-requires : goal.slot_count-n-requires
slot_count-n-requires c =
    let s = sized _ c.args.self.machine.indexed.accepted _ c.args.self.machine.indexed.shaped in (s.0, s.1)

pub load_start-requires : goal.load_start-requires
load_start-requires c =
    let n = slot_count c.args.self.machine.shape in (
      c.args.self.machine.indexed.accepted,
      c.args.self.machine.indexed.shaped,
      part_is _ c.args.pair.now c.requires.0.size _ c.slot_count-n.ensures.0 ∙ ap (drop n) c.requires.1 ∙ drop_replicate n n 0,
    )
