use Rattle.std.proofs.Common.{rules}
use native.Mathlib.Omega.{arith}
use mathlib.Core.Path.{◌∙◌}
use Rattle.design.proofs.Indexed.{sized}
use Rattle.step.proofs.Pairs.{part_is}
use Rattle.step.proofs.Pieces.{no_piece_right}
use Rattle.text.proofs.Putting.{written_length}
use Rattle.text.proofs.Tracing.{state_written}
use Rattle.text.proofs.writer.Writer.state.Goals as goal

pub true_at-holds-requires : goal.true_at-holds-requires
true_at-holds-requires c =
    (c.requires.0, no_piece_right _ _)

pub slot_count-n-requires : goal.slot_count-n-requires
slot_count-n-requires c =
    (let s = sized _ c.args.machine.indexed.accepted _ c.args.machine.indexed.shaped in (s.0, s.1))

pub tail-requires : goal.tail-requires
tail-requires c =
    let few = sized _ c.args.machine.indexed.accepted _ c.args.machine.indexed.shaped in
    (omega (arith, few.0, few.1, c.head.ensures.near, written_length c.head.ensures.text), (search rules))

pub returns-clause-text : goal.returns-clause-text
returns-clause-text c =
    λ d w. state_written _ d w _ _ _ _ _ _ _ _ _ c.args.machine.indexed.shaped.variables c.args.machine.indexed.shaped.matrices
    (c.true_at-holds.ensures d w) c.head.ensures.text _ (part_is _ _ c.requires.0 _ c.slot_count-n.ensures.0) c.tail.ensures.text

pub returns-clause-near : goal.returns-clause-near
returns-clause-near c =
    let few = sized _ c.args.machine.indexed.accepted _ c.args.machine.indexed.shaped in omega (arith, few.0, few.1, c.head.ensures.near, c.tail.ensures.near)

pub returns-clause-size : goal.returns-clause-size
returns-clause-size c =
    written_length c.tail.ensures.text ∙ written_length c.head.ensures.text
