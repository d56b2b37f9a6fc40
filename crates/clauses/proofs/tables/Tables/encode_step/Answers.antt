use Rattle.std.proofs.Common.{refl, arith}
use Rattle.clauses.specs.FlatState.{slots_of, layout_of}
use Rattle.clauses.proofs.CellCounts.{kinds}
use Rattle.clauses.proofs.EmitSteps.{cell_here, cell_is, external_is, raised_kind, all_few, moving_start, moving_on, moving_end, mover_total}
use Rattle.clauses.proofs.tables.Tables.encode_step.Goals as goal
use Rattle.clauses.proofs.tables.Tables.encode_step.Goals.{then-i-shape, else-i-shape}

pub loop-i-init : goal.loop-i-init
loop-i-init c = (moving_start c.args.self.file.now c.args.self.shape c.args.bits.now _ _ _ _ refl, refl)

pub overflow_add-i-end : goal.overflow_add-i-end
overflow_add-i-end c = omega (arith, all_few c.args.self.ready.shaped c.requires)

pub encode_cell-t-requires : goal.encode_cell-t-requires
encode_cell-t-requires c = cell_here c.args.self.ready.shaped c.requires c.loop-i.i c.if-i-shape.true

pub external-v-requires : goal.external-v-requires
external-v-requires c =
    (kinds c.args.self.ready.shaped, omega (arith, c.loop-i-test.true, c.if-i-shape.false, c.args.self.ready.shaped.externals))

pub encode_external-t-requires : goal.encode_external-t-requires
encode_external-t-requires c = (
  c.args.self.ready.shaped,
  c.external-v.ensures.1,
  raised_kind c.args.self.ready.shaped c.requires c.loop-i.i _ c.if-i-shape.false c.loop-i-test.true c.external-v.ensures.0,
)

pub offset_bounds-value-i : goal.offset_bounds-value-i
offset_bounds-value-i c = omega (arith, all_few c.args.self.ready.shaped c.requires, c.loop-i-test.true)

pub bounds-value-i : goal.bounds-value-i
bounds-value-i c = omega (arith, all_few c.args.self.ready.shaped c.requires, c.loop-i-test.true)

pub loop-i-preserved : goal.loop-i-preserved
loop-i-preserved c =
    let shaped = c.args.self.ready.shaped in
    let few = all_few shaped c.requires in
    let total = mover_total shaped c.requires in
    let slots = slots_of c.args.self.file.now c.args.self.shape c.args.bits.now in (
      elim c.if-i-shape.branch [
        | then-i-shape w ↦ rw (w.t-is, w.buf-is) (moving_on c.args.self.file.now c.args.self.shape c.args.bits.now _ c.loop-i-test.true few total c.loop-i.invariant.0 _ (cell_is shaped c.requires (layout_of c.args.self.shape) slots c.loop-i.i w.if-i-shape.true w.encode_cell-t.ensures))
        | else-i-shape w ↦ rw (w.t-is, w.buf-is) (moving_on c.args.self.file.now c.args.self.shape c.args.bits.now _ c.loop-i-test.true few total c.loop-i.invariant.0 _ (external_is shaped c.requires (layout_of c.args.self.shape) slots c.loop-i.i w.if-i-shape.false _ w.external-v.ensures.0 c.loop-i-test.true w.encode_external-t.ensures))
      ],
      omega arith,
    )

pub returns : goal.returns
returns c =
    moving_end c.args.self.file.now c.args.self.shape c.args.bits.now _ c.loop-i-test.false (mover_total c.args.self.ready.shaped c.requires) c.loop-i.invariant.0
