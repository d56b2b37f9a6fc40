use Rattle.std.proofs.Common.{sym, arith, eqb-true}
use borrow.Author.Tests.{eqb-false}
use Rattle.design.proofs.Indexed.{tail_inside}
use Rattle.step.proofs.Pieces.{part_inside, text_piece, text_part}
use Rattle.step.proofs.piece.expression.Goals as goal

pub invariant-stands-requires : goal.invariant-stands-requires
invariant-stands-requires c = tail_inside _ c.requires

pub slice_bounds-result-count : goal.slice_bounds-result-count
slice_bounds-result-count c = omega (arith, part_inside _ c.requires _ _ c.invariant-stands.ensures.0 c.invariant-stands.ensures.1)

pub slice_bounds-result-start : goal.slice_bounds-result-start
slice_bounds-result-start c = omega (arith, part_inside _ c.requires _ _ c.invariant-stands.ensures.0 c.invariant-stands.ensures.1)

pub slice_bounds-result-end : goal.slice_bounds-result-end
slice_bounds-result-end c = omega (arith, part_inside _ c.requires _ _ c.invariant-stands.ensures.0 c.invariant-stands.ensures.1)

pub returns-then-is_empty : goal.returns-then-is_empty
returns-then-is_empty c = text_part _ _ (let e = eqb-true _ 0 (sym c.if-is_empty.ensures) in omega arith) _ _ c.invariant-stands.ensures.0 c.invariant-stands.ensures.1

pub returns-else-is_empty : goal.returns-else-is_empty
returns-else-is_empty c = let e = eqb-false _ 0 (sym c.if-is_empty.ensures) in text_piece _ _ (omega arith)
