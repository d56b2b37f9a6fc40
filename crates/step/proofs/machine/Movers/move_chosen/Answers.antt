use Rattle.std.proofs.Common.{arith}
use Rattle.step.proofs.Cells.{kinds}
use Rattle.step.proofs.Choices.{slot, chosen, step_cell, step_external}
use Rattle.step.proofs.machine.Movers.move_chosen.Goals as goal

pub offset_bounds-self-choice : goal.offset_bounds-self-choice
offset_bounds-self-choice c =
    omega (arith, slot _ _ _ c.args.self.movers.normals _ c.if-choice-shape.true c.args.self.machine.indexed.accepted)

pub bounds-self-choice : goal.bounds-self-choice
bounds-self-choice c =
    slot _ _ _ c.args.self.movers.normals _ c.if-choice-shape.true c.args.self.machine.indexed.accepted

pub move_cell-requires : goal.move_cell-requires
move_cell-requires c =
    (c.requires.0, chosen _ _ _ c.args.self.movers.normals _ c.if-choice-shape.true c.args.self.machine.indexed.accepted)

pub returns-then-choice-shape : goal.returns-then-choice-shape
returns-then-choice-shape c =
    λ d e. step_cell _ _ c.args.self.machine.indexed.shaped _ _ _ d e _ c.args.self.movers _ c.if-choice-shape.true c.move_cell.ensures

pub external-v-requires : goal.external-v-requires
external-v-requires c =
    (kinds _ _ _ c.args.self.machine.indexed, omega (arith, c.args.self.movers.externals))

pub returns : goal.returns
returns c =
    λ d e. step_external _ _ c.args.self.machine.indexed.shaped _ _ _ d e _ c.args.self.movers _ _ c.if-choice-shape.false (omega arith) c.external-v.ensures.0 (c.move_external.ensures _)
