use native.Mathlib.Omega.{arith}
use Prim.Native.Nat.{ℕ, ◌+◌}
use mathlib.Core.Path.{ap₂}
use Rattle.design.proofs.Tables.{bounds, cells_start, cell_here, cells_room, cells_normal, cells_invalid, cells_end}
use Rattle.design.proofs.index.index_cells.Goals as goal
use Rattle.design.proofs.index.index_cells.Goals.{then-file-p, else-file-p}

pub trailer_word-count-requires : goal.trailer_word-count-requires
trailer_word-count-requires c = omega (arith, (bounds _ c.requires).long)

pub trailer_word-p-requires : goal.trailer_word-p-requires
trailer_word-p-requires c = omega (arith, (bounds _ c.requires).long)

pub loop-init : goal.loop-init
loop-init c = (c.trailer_word-count.ensures.0, cells_start _ _ _ c.trailer_word-p.ensures.0 (omega arith))

pub overflow_add-p : goal.overflow_add-p
overflow_add-p c =
    omega (
      arith,
      (bounds _ c.requires).short,
      (cell_here _ c.requires _ _
          _ _ c.loop.invariant.1 (omega arith)).0,
    )

pub bounds-file-p : goal.bounds-file-p
bounds-file-p c =
    omega (
      arith,
      (bounds _ c.requires).long,
      (cell_here _ c.requires _ _ _ _ c.loop.invariant.1 (omega arith)).0,
    )

pub overflow_cast-table : goal.overflow_cast-table
overflow_cast-table c =
    omega (
      arith,
      (bounds _ c.requires).short,
      (cell_here _ c.requires _ _ _ _ c.loop.invariant.1 (omega arith)).0,
    )

pub offset_bounds-table-normals : goal.offset_bounds-table-normals
offset_bounds-table-normals c =
    omega (
      arith,
      cells_room _ c.requires _ _ _ _ c.loop.invariant.1
          (omega arith) c.if-file-p.true,
    )

pub bounds-table-normals : goal.bounds-table-normals
bounds-table-normals c =
    omega (
      arith,
      cells_room _ c.requires _ _ _ _ c.loop.invariant.1
          (omega arith) c.if-file-p.true,
    )

pub overflow_add-normals : goal.overflow_add-normals
overflow_add-normals c =
    omega (
      arith,
      cells_room _ c.requires _ _ _ _ c.loop.invariant.1
          (omega arith) c.if-file-p.true,
    )

pub overflow_add-p-in-loop : goal.overflow_add-p-in-loop
overflow_add-p-in-loop c =
    omega (
      arith,
      (bounds _ c.requires).short,
      (cell_here _ c.requires _ _ _ _ c.loop.invariant.1 (omega arith)).0,
    )

pub overflow_add-p-in-loop-2 : goal.overflow_add-p-in-loop-2
overflow_add-p-in-loop-2 c =
    omega (
      arith,
      (bounds _ c.requires).short,
      (cell_here _ c.requires _ _ _ _ c.loop.invariant.1 (omega arith)).0,
    )

pub bounds-file-p-in-loop : goal.bounds-file-p-in-loop
bounds-file-p-in-loop c =
    omega (
      arith,
      (bounds _ c.requires).long,
      (cell_here _ c.requires _ _ _ _ c.loop.invariant.1 (omega arith)).0,
    )

pub overflow_add-p-in-loop-3 : goal.overflow_add-p-in-loop-3
overflow_add-p-in-loop-3 c =
    omega (
      arith,
      c.wide.ensures.1,
      (bounds _ c.requires).short,
      (cell_here _ c.requires _ _ _ _ c.loop.invariant.1 (omega arith)).0,
    )

pub overflow_add-p-in-loop-4 : goal.overflow_add-p-in-loop-4
overflow_add-p-in-loop-4 c =
    omega (
      arith,
      (bounds _ c.requires).short,
      (cell_here _ c.requires _ _ _ _ c.loop.invariant.1 (omega
          arith)).0,
    )

pub word-requires : goal.word-requires
word-requires c =
    omega (
      arith,
      (bounds _ c.requires).long,
      (cell_here _ c.requires _ _ _ _ c.loop.invariant.1 (omega
          arith)).0,
    )

pub overflow_add-p-in-loop-5 : goal.overflow_add-p-in-loop-5
overflow_add-p-in-loop-5 c =
    omega (
      arith,
      c.wide.ensures.1,
      c.word.ensures.1,
      (bounds _ c.requires).short,
      (cell_here _ c.requires _ _ _ _ c.loop.invariant.1 (omega arith)).0,
    )

pub loop-preserved : goal.loop-preserved
loop-preserved c =
    let q = ap₂ (λ (x y : ℕ). c.loop.p + 8 + x + y) c.wide.ensures.0 c.word.ensures.0 in
    elim c.if-file-p.branch [
      | then-file-p w ↦ (
        c.loop.invariant.0,
        cells_normal _ c.requires _ _ _ _ c.loop.invariant.1 (omega arith) w.if-file-p.true _ _ _ q w.normals-is w.table-is,
      )
      | else-file-p w ↦ (
        c.loop.invariant.0,
        cells_invalid _ c.requires _ _ _ _ c.loop.invariant.1 (omega arith) w.if-file-p.false _ _ _ q w.normals-is w.table-is,
      )
    ]

pub returns : goal.returns
returns c = cells_end _ _ _ _ _ (omega arith) c.loop.invariant.1
