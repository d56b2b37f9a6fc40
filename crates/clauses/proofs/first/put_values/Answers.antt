use Rattle.std.proofs.Common.{refl, arith}
use Rattle.design.proofs.Widths.{width_bound}
use Rattle.clauses.proofs.EmitParts.{valuing_start, valuing_on, valuing_end, values_inside}
use Rattle.clauses.proofs.first.put_values.Goals as goal

pub loop-v-init : goal.loop-v-init
loop-v-init c = (valuing_start _ _ _ _, refl)

pub bounds-file-v : goal.bounds-file-v
bounds-file-v c =
    omega (
      arith,
      (values_inside c.args.file.now c.requires.accepted c.args.shape.variables c.requires.counts.variables c.loop-v.v c.loop-v-test.true),
    )

pub word-value-requires : goal.word-value-requires
word-value-requires c =
    (values_inside c.args.file.now c.requires.accepted c.args.shape.variables c.requires.counts.variables c.loop-v.v c.loop-v-test.true).0

pub put_units-at-requires : goal.put_units-at-requires
put_units-at-requires c =
    omega (
      arith,
      width_bound c.args.file.now c.loop-v.v c.width-n.result c.width-n.ensures,
    )

pub loop-v-preserved : goal.loop-v-preserved
loop-v-preserved c = (
  valuing_on c.args.file.now c.requires.accepted c.args.shape.variables c.requires.counts.variables c.loop-v-test.true c.loop-v.invariant.0
      _ _ _ c.width-n.ensures c.word-value.ensures.0 refl c.put_units-at.ensures,
  omega arith,
)

pub returns : goal.returns
returns c =
    valuing_end c.args.file.now c.requires.accepted c.args.shape.variables c.requires.counts.variables c.loop-v-test.false c.loop-v.invariant.0
