use Rattle.std.proofs.Common.{ℕ, ◌+◌, replicate, ap, ◌∙◌, ap₂, arith, length-take-le}
use Rattle.design.specs.Limits.{pair_slots}
use Rattle.design.proofs.Indexed.{sized, count_movers}
use Rattle.step.proofs.Choices.{movers_here}
use Rattle.step.proofs.Replays.{take_replicate}
use Rattle.step.proofs.Answering.{all_below, replay_over, replay_answer_lem}
use Rattle.step.proofs.replaying.replay_accepted.Goals as goal

pub returns-in-Some : goal.returns-in-Some
returns-in-Some c =
    let movers = movers_here _ _ _ _ c.shape-shape.ensures c.index_cells-normals.ensures in
    replay_over _ _ _ _ c.requires.0 c.requires.1 c.requires.2 c.requires.3 _ (count_movers _ _ _ c.shape-shape.ensures.shaped movers) _ c.in-Some.ensures

pub slot_count-n-requires : goal.slot_count-n-requires
slot_count-n-requires c =
    let s = sized _ c.requires.0 _ c.shape-shape.ensures.shaped in (s.0, s.1)

pub replay_slots-requires : goal.replay_slots-requires
replay_slots-requires c =
    let few = c.slot_count-n.ensures.1 in let twice = ap₂ (λ (x y : ℕ). x + y) c.slot_count-n.ensures.0 c.slot_count-n.ensures.0 in (
      record {
        size = length-take-le _ _ (omega arith) ∙ twice;
        right = c.requires.2;
        few = c.requires.3;
        named
            = all_below c.args.choices.now (c.shape-shape.result.normals + c.shape-shape.result.externals) c.in_default.ensures;
      },
      take_replicate (c.slot_count-n.result + c.slot_count-n.result) pair_slots 0 (omega arith) ∙ ap (λ (n : ℕ). replicate n 0) twice,
    )

pub returns : goal.returns
returns c =
    let movers = movers_here _ _ _ _ c.shape-shape.ensures c.index_cells-normals.ensures in replay_answer_lem _ _ _ _ c.requires.0 c.requires.1
    c.requires.2 c.requires.3 _ (count_movers _ _ _ c.shape-shape.ensures.shaped movers) c.in_default.ensures _ c.replay_slots.ensures
