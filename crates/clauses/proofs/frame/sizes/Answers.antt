use Rattle.std.proofs.Common.{arith}
use Rattle.design.proofs.Tables.{few_normals}
use Rattle.design.proofs.Places.{read}
use Rattle.clauses.proofs.FrameCounts.{frame_made, frame_small, last_one, last_none}
use Rattle.clauses.proofs.frame.sizes.Goals as goal

pub overflow_add-result : goal.overflow_add-result
overflow_add-result c =
    omega (
      arith,
      few_normals _ c.requires.0,
      c.index_cells.ensures.count,
      c.shape-shape.ensures.normals,
      c.shape-shape.ensures.few,
      c.shape-shape.ensures.shaped.variables,
      (read _ c.requires.0).all.variables,
    )

pub overflow_add-result-2 : goal.overflow_add-result-2
overflow_add-result-2 c = omega (arith, c.size_cells-s.ensures.0.ands, c.size_step_property-c.ensures.0.ands)

pub times-requires : goal.times-requires
times-requires c = (
  omega (arith, c.shape-shape.ensures.few, c.shape-shape.ensures.shaped.variables, (read _ c.requires.0).all.variables),
  omega (
    arith,
    c.shape-shape.ensures.bits.few,
  ),
)

pub overflow_add-result-3 : goal.overflow_add-result-3
overflow_add-result-3 c = omega (arith, c.size_cells-s.ensures.0.wides, c.times.ensures.1)

pub overflow_add-result-4 : goal.overflow_add-result-4
overflow_add-result-4 c = omega (arith, c.size_cells-s.ensures.0.wides, c.times.ensures.1, c.size_step_property-c.ensures.0.wides)

pub returns-then-property-lt-CONSTRAINT : goal.returns-then-property-lt-CONSTRAINT
returns-then-property-lt-CONSTRAINT c = (
  frame_small _ _ c.requires.0 _ _ c.shape-shape.ensures _ _ _ _ _ _ _ c.index_cells.ensures c.size_property-p.ensures.1 c.size_cells-s.ensures.1
      (λ d w. c.size_step_property-c.ensures.1 d w _) c.times.ensures.0 (λ d. last_one _ _ d _ c.if-property-lt-CONSTRAINT.true)
      (λ i. omega (arith, c.shared_slice_known-1.given i)) c.requires.1,
  frame_made _ _ c.requires.0 _ _ c.shape-shape.ensures _ _ _ _ _ _ _ c.index_cells.ensures c.size_property-p.ensures.1 c.size_cells-s.ensures.1
      (λ d w. c.size_step_property-c.ensures.1 d w _) c.times.ensures.0 (λ d. last_one _ _ d _ c.if-property-lt-CONSTRAINT.true),
)

pub returns-else-property-lt-CONSTRAINT : goal.returns-else-property-lt-CONSTRAINT
returns-else-property-lt-CONSTRAINT c = (
  frame_small _ _ c.requires.0 _ _ c.shape-shape.ensures _ _ _ _ _ _ _ c.index_cells.ensures c.size_property-p.ensures.1 c.size_cells-s.ensures.1
      (λ d w. c.size_step_property-c.ensures.1 d w _) c.times.ensures.0 (λ d. last_none _ _ d _ c.if-property-lt-CONSTRAINT.false)
      (λ i. omega (arith, c.shared_slice_known-1.given i)) c.requires.1,
  frame_made _ _ c.requires.0 _ _ c.shape-shape.ensures _ _ _ _ _ _ _ c.index_cells.ensures c.size_property-p.ensures.1 c.size_cells-s.ensures.1
      (λ d w. c.size_step_property-c.ensures.1 d w _) c.times.ensures.0 (λ d. last_none _ _ d _ c.if-property-lt-CONSTRAINT.false),
)
