use native.Mathlib.Omega.{arith}
use mathlib.Core.Path.{ap}
use Rattle.design.specs.declared.shape.Shape.{Shape}
use Rattle.design.proofs.Told.{handed_on}
use Rattle.design.proofs.File.{x_variables, x_matrices, passed_at, variables_end, x_matrix, x_events, past_at, events_of, before_events, x_event, x_cells, cells_of, expressions_of, before_cells, few_movers, x_cell, x_invariants, x_expressions, all_passed}
use Rattle.design.proofs.section.check_sections.Goals as goal

pub returns-in_err-matrices : goal.returns-in_err-matrices
returns-in_err-matrices c =
    let file = c.args.file.now in
    let end = c.args.end in
    let counts = c.args.counts in
    let offsets = c.args.offsets in
    handed_on _ _ c.from_residual.ensures.1 _ (x_variables file end counts offsets _ _ c.in_err-matrices.ensures)

pub returns-then-offsets-matrices : goal.returns-then-offsets-matrices
returns-then-offsets-matrices c =
    let file = c.args.file.now in
    let end = c.args.end in
    let counts = c.args.counts in
    let offsets = c.args.offsets in
    x_matrices file end counts offsets _ _ c.in_ok-matrices.ensures c.if-offsets-matrices.true

pub check_matrices-requires : goal.check_matrices-requires
check_matrices-requires c =
    let file = c.args.file.now in
    let end = c.args.end in
    let counts = c.args.counts in
    let offsets = c.args.offsets in
    let at_matrices = passed_at _ _ _ _ c.if-offsets-matrices.false c.in_ok-matrices.ensures in
    let a = variables_end file end counts offsets _ _ at_matrices in omega arith

pub returns-in_err-events : goal.returns-in_err-events
returns-in_err-events c =
    let file = c.args.file.now in
    let end = c.args.end in
    let counts = c.args.counts in
    let offsets = c.args.offsets in
    let at_matrices = passed_at _ _ _ _ c.if-offsets-matrices.false c.in_ok-matrices.ensures in
    handed_on _ _ c.from_residual-in_err-events.ensures.1 _ (x_matrix file end counts offsets _ at_matrices _ _ c.in_err-events.ensures)

pub returns-then-offsets-events : goal.returns-then-offsets-events
returns-then-offsets-events c =
    let file = c.args.file.now in
    let end = c.args.end in
    let counts = c.args.counts in
    let offsets = c.args.offsets in
    let at_matrices = passed_at _ _ _ _ c.if-offsets-matrices.false c.in_ok-matrices.ensures in
    x_events file end counts offsets _ at_matrices _ c.in_ok-events.ensures c.if-offsets-events.true

pub invariant_of-items : goal.invariant_of-items
invariant_of-items c =
    let file = c.args.file.now in
    let end = c.args.end in
    let counts = c.args.counts in
    let offsets = c.args.offsets in
    let at_matrices = passed_at _ _ _ _ c.if-offsets-matrices.false c.in_ok-matrices.ensures in
    let at_events = past_at _ _ _ c.if-offsets-events.false c.in_ok-events.ensures in
    let a = before_events file end counts offsets _ at_matrices at_events in
    let v = ap (λ (s : Shape). s.variables) c.shape_of-shape.ensures in
    record { room = c.requires.0; kinds = omega arith }

pub check_events-requires : goal.check_events-requires
check_events-requires c =
    let file = c.args.file.now in
    let end = c.args.end in
    let counts = c.args.counts in
    let offsets = c.args.offsets in
    let at_matrices = passed_at _ _ _ _ c.if-offsets-matrices.false c.in_ok-matrices.ensures in
    let at_events = past_at _ _ _ c.if-offsets-events.false c.in_ok-events.ensures in
    let a = before_events file end counts offsets _ at_matrices at_events in
    let m = ap (λ (s : Shape). s.matrices) c.shape_of-shape.ensures in
    omega arith

pub returns-in_err-cells : goal.returns-in_err-cells
returns-in_err-cells c =
    let file = c.args.file.now in
    let end = c.args.end in
    let counts = c.args.counts in
    let offsets = c.args.offsets in
    let at_matrices = passed_at _ _ _ _ c.if-offsets-matrices.false c.in_ok-matrices.ensures in
    let at_events = past_at _ _ _ c.if-offsets-events.false c.in_ok-events.ensures in
    handed_on _ _ c.from_residual-in_err-cells.ensures.1 _ (x_event file end counts offsets _ at_matrices at_events _ _ (events_of file end counts offsets _ c.shape_of-shape.ensures _ c.in_err-cells.ensures))

pub returns-then-offsets-cells : goal.returns-then-offsets-cells
returns-then-offsets-cells c =
    let file = c.args.file.now in
    let end = c.args.end in
    let counts = c.args.counts in
    let offsets = c.args.offsets in
    let at_matrices = passed_at _ _ _ _ c.if-offsets-matrices.false c.in_ok-matrices.ensures in
    let at_events = past_at _ _ _ c.if-offsets-events.false c.in_ok-events.ensures in
    x_cells file end counts offsets _ at_matrices at_events _ (events_of file end counts offsets _ c.shape_of-shape.ensures _ c.in_ok-cells.ensures) c.if-offsets-cells.true

pub check_cells-requires : goal.check_cells-requires
check_cells-requires c =
    let file = c.args.file.now in
    let end = c.args.end in
    let counts = c.args.counts in
    let offsets = c.args.offsets in
    let at_matrices = passed_at _ _ _ _ c.if-offsets-matrices.false c.in_ok-matrices.ensures in
    let at_events = past_at _ _ _ c.if-offsets-events.false c.in_ok-events.ensures in
    let at_cells = past_at _ _ _ c.if-offsets-cells.false (events_of file end counts offsets _ c.shape_of-shape.ensures _ c.in_ok-cells.ensures) in
    let a = before_cells file end counts offsets _ at_matrices at_events at_cells in
    let m = ap (λ (s : Shape). s.matrices) c.shape_of-shape.ensures in
    omega arith

pub returns-in_err-invariant : goal.returns-in_err-invariant
returns-in_err-invariant c =
    let file = c.args.file.now in
    let end = c.args.end in
    let counts = c.args.counts in
    let offsets = c.args.offsets in
    let at_matrices = passed_at _ _ _ _ c.if-offsets-matrices.false c.in_ok-matrices.ensures in
    let at_events = past_at _ _ _ c.if-offsets-events.false c.in_ok-events.ensures in
    let at_cells = past_at _ _ _ c.if-offsets-cells.false (events_of file end counts offsets _ c.shape_of-shape.ensures _ c.in_ok-cells.ensures) in
    handed_on _ _ c.from_residual-in_err-invariant.ensures.1 _ (x_cell file end counts offsets _ at_matrices at_events at_cells _ _ (λ f. cells_of file end counts offsets _ c.shape_of-shape.ensures _ f (c.in_err-invariant.ensures f)))

pub returns-then-offsets-invariant : goal.returns-then-offsets-invariant
returns-then-offsets-invariant c =
    let file = c.args.file.now in
    let end = c.args.end in
    let counts = c.args.counts in
    let offsets = c.args.offsets in
    let at_matrices = passed_at _ _ _ _ c.if-offsets-matrices.false c.in_ok-matrices.ensures in
    let at_events = past_at _ _ _ c.if-offsets-events.false c.in_ok-events.ensures in
    let at_cells = past_at _ _ _ c.if-offsets-cells.false (events_of file end counts offsets _ c.shape_of-shape.ensures _ c.in_ok-cells.ensures) in
    x_invariants file end counts offsets _ at_matrices at_events at_cells _ _ (λ f. cells_of file end counts offsets _ c.shape_of-shape.ensures _ f (c.in_ok-invariant.ensures f)) c.if-offsets-invariant.true

pub returns-in_err-past : goal.returns-in_err-past
returns-in_err-past c =
    let file = c.args.file.now in
    let end = c.args.end in
    let counts = c.args.counts in
    let offsets = c.args.offsets in
    let at_matrices = passed_at _ _ _ _ c.if-offsets-matrices.false c.in_ok-matrices.ensures in
    let at_events = past_at _ _ _ c.if-offsets-events.false c.in_ok-events.ensures in
    let at_cells = past_at _ _ _ c.if-offsets-cells.false (events_of file end counts offsets _ c.shape_of-shape.ensures _ c.in_ok-cells.ensures) in
    handed_on _ _ c.from_residual-in_err-past.ensures.1 _ (x_expressions file end counts offsets _ at_matrices at_events at_cells _ (λ f. passed_at _ _ _ _ c.if-offsets-invariant.false (cells_of file end counts offsets _ c.shape_of-shape.ensures _ f (c.in_ok-invariant.ensures f))) _ _ (expressions_of file end counts offsets _ c.shape_of-shape.ensures _ c.in_err-past.ensures))

pub overflow_add-result : goal.overflow_add-result
overflow_add-result c =
    let file = c.args.file.now in
    let end = c.args.end in
    let counts = c.args.counts in
    let offsets = c.args.offsets in
    let at_matrices = passed_at _ _ _ _ c.if-offsets-matrices.false c.in_ok-matrices.ensures in
    let at_events = past_at _ _ _ c.if-offsets-events.false c.in_ok-events.ensures in
    let at_cells = past_at _ _ _ c.if-offsets-cells.false (events_of file end counts offsets _ c.shape_of-shape.ensures _ c.in_ok-cells.ensures) in
    let a = few_movers file end counts offsets _ at_matrices at_events at_cells _ (λ f. passed_at _ _ _ _ c.if-offsets-invariant.false (cells_of file end counts offsets _ c.shape_of-shape.ensures _ f (c.in_ok-invariant.ensures f))) in omega arith

pub returns : goal.returns
returns c =
    let file = c.args.file.now in
    let end = c.args.end in
    let counts = c.args.counts in
    let offsets = c.args.offsets in
    let at_matrices = passed_at _ _ _ _ c.if-offsets-matrices.false c.in_ok-matrices.ensures in
    let at_events = past_at _ _ _ c.if-offsets-events.false c.in_ok-events.ensures in
    let at_cells = past_at _ _ _ c.if-offsets-cells.false (events_of file end counts offsets _ c.shape_of-shape.ensures _ c.in_ok-cells.ensures) in
    all_passed file end counts offsets _ at_matrices at_events at_cells _ (λ f. passed_at _ _ _ _ c.if-offsets-invariant.false (cells_of file end counts offsets _ c.shape_of-shape.ensures _ f (c.in_ok-invariant.ensures f))) _ (expressions_of file end counts offsets _ c.shape_of-shape.ensures _ c.in_ok-past.ensures)
