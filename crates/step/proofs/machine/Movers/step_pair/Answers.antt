use Rattle.design.proofs.Indexed.{sized}
use Rattle.step.proofs.Pairs.{pair_step}
use Rattle.step.proofs.machine.Movers.step_pair.Goals as goal

pub slot_count-n-requires : goal.slot_count-n-requires
slot_count-n-requires c =
    let s = sized _ c.args.self.machine.indexed.accepted _ c.args.self.machine.indexed.shaped in (s.0, s.1)

pub returns : goal.returns
returns c =
    λ d e. pair_step _ _ c.requires.0 _ _ c.slot_count-n.ensures.0 _ c.keep_state.ensures d _ _ _ (c.move_chosen.ensures d e)
