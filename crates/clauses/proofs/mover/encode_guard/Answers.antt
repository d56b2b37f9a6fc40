use Rattle.std.proofs.Common.{false, sym, ◌∙◌, arith, rules}
use Rattle.clauses.specs.FlatState.{slots_of, layout_of}
use Rattle.clauses.proofs.CellCounts.{sizes}
use Rattle.clauses.proofs.EmitCells.{slotted, normal_fields, guard_none, guard_here, guard_writes, guard_true}
use Rattle.clauses.proofs.mover.encode_guard.Goals as goal

pub overflow_add-p : goal.overflow_add-p
overflow_add-p c = omega (arith, (normal_fields c.requires.0.1 c.args.p c.requires.1).header, sizes c.requires.0.1.shaped)

pub bounds-file-p : goal.bounds-file-p
bounds-file-p c =
    omega (
      arith,
      (normal_fields c.requires.0.1 c.args.p c.requires.1).header,
      sizes c.requires.0.1.shaped,
    )

pub returns-then-n-eq0 : goal.returns-then-n-eq0
returns-then-n-eq0 c =
    λ x. guard_true (layout_of c.args.shape) (slots_of c.args.file.now c.args.shape c.args.bits.now) _ _ _ _ (guard_none
    c.requires.0.1 c.args.p x (sym c.wide-n.ensures.0 ∙ c.if-n-eq0.true))

pub overflow_add-p-2 : goal.overflow_add-p-2
overflow_add-p-2 c =
    omega (arith, (normal_fields c.requires.0.1 c.args.p c.requires.1).header, sizes c.requires.0.1.shaped)

pub encode_test-requires : goal.encode_test-requires
encode_test-requires c = (
  false,
  slotted c.requires.0.1.shaped _ (search rules),
  guard_here c.requires.0.1 c.args.p c.requires.1 c.wide-n.result c.wide-n.ensures.0 c.if-n-eq0.false,
)

pub returns : goal.returns
returns c =
    λ x. guard_writes c.requires.0.1 c.args.p x c.wide-n.result c.wide-n.ensures.0 c.if-n-eq0.false c.args.bits.now c.encode_test.result (c.encode_test.ensures false)
