use Rattle.std.proofs.Common.{refl, arith}
use Rattle.clauses.proofs.EmitParts.{first_small, first_puts}
use Rattle.clauses.proofs.first.put_first.Goals as goal

pub offset-x-requires : goal.offset-x-requires
offset-x-requires c =
    let shape = c.args.shape in (
      (first_small c.args.file.now c.requires.accepted shape.variables shape.matrices c.requires.counts.variables c.requires.counts.matrices
          _ refl).3,
      omega (
        arith,
        first_small c.args.file.now c.requires.accepted shape.variables shape.matrices c.requires.counts.variables c.requires.counts.matrices _ refl,
      ),
    )

pub overflow_add-x : goal.overflow_add-x
overflow_add-x c =
    omega (
      arith,
      first_small c.args.file.now c.requires.accepted c.args.shape.variables c.args.shape.matrices c.requires.counts.variables c.requires.counts.matrices c.offset-x.result c.offset-x.ensures,
    )

pub overflow_cast-x : goal.overflow_cast-x
overflow_cast-x c =
    omega (
      arith,
      first_small c.args.file.now c.requires.accepted c.args.shape.variables c.args.shape.matrices c.requires.counts.variables c.requires.counts.matrices c.offset-x.result c.offset-x.ensures,
    )

pub overflow_mul-shape : goal.overflow_mul-shape
overflow_mul-shape c =
    omega (
      arith,
      first_small c.args.file.now c.requires.accepted c.args.shape.variables c.args.shape.matrices c.requires.counts.variables c.requires.counts.matrices c.offset-x.result c.offset-x.ensures,
    )

pub overflow_add-shape : goal.overflow_add-shape
overflow_add-shape c =
    omega (
      arith,
      first_small c.args.file.now c.requires.accepted c.args.shape.variables c.args.shape.matrices c.requires.counts.variables c.requires.counts.matrices c.offset-x.result c.offset-x.ensures,
    )

pub put_units-requires : goal.put_units-requires
put_units-requires c =
    omega (
      arith,
      first_small c.args.file.now c.requires.accepted c.args.shape.variables c.args.shape.matrices c.requires.counts.variables c.requires.counts.matrices c.offset-x.result c.offset-x.ensures,
    )

pub returns : goal.returns
returns c =
    first_puts c.args.file.now c.requires.accepted c.args.shape.variables c.args.shape.matrices c.requires.counts.variables
    c.requires.counts.matrices c.offset-x.result c.offset-x.ensures _ refl c.clause1-a.ensures c.put_values-b.ensures c.put_units.ensures
