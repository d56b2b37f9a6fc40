use Rattle.std.proofs.Common.{refl, arith}
use Rattle.design.proofs.Indexed.{sized, count_movers}
use Rattle.step.proofs.Choices.{movers_here}
use Rattle.step.proofs.States.{step_11, step_12, step_done}
use Rattle.step.proofs.calls.step_accepted.Goals as goal

pub returns-in-Some : goal.returns-in-Some
returns-in-Some c =
    step_11 c.args.file.now c.args.values c.args.statuses c.args.mark c.args.choice c.requires _ c.patterns.ensures _ c.in-Some.ensures

pub returns-then-shape-c : goal.returns-then-shape-c
returns-then-shape-c c =
    step_12 c.args.file.now c.args.values c.args.statuses c.args.mark c.args.choice c.requires _ c.patterns.ensures c.in_default.ensures _
    (count_movers _ _ _ c.shape-shape.ensures.shaped (movers_here _ _ _ _ c.shape-shape.ensures c.index_cells-normals.ensures)) (omega (arith, c.if-shape-c.true))

pub slot_count-n-requires : goal.slot_count-n-requires
slot_count-n-requires c =
    let s = sized _ c.requires _ c.shape-shape.ensures.shaped in (s.0, s.1)

pub returns : goal.returns
returns c =
    step_done c.args.file.now c.args.values c.args.statuses c.args.mark c.args.choice c.requires _ c.patterns.ensures c.in_default.ensures _
    (count_movers _ _ _ c.shape-shape.ensures.shaped (movers_here _ _ _ _ c.shape-shape.ensures c.index_cells-normals.ensures))
    (omega (arith, c.if-shape-c.false)) _ c.shape-shape.ensures.shaped _ refl _ c.step_slots.ensures
