use Rattle.std.proofs.Common.{arith}
use Rattle.design.proofs.Places.{read}
use Rattle.design.proofs.Indexed.{variables_inside}
use Rattle.step.proofs.Entries.{values_wrong, values_right_lem, values_end}
use Rattle.step.proofs.interface.wrong_value.Goals as goal

pub value_right-requires : goal.value_right-requires
value_right-requires c = (
  omega (arith, variables_inside _ c.requires.0, c.requires.1, (read _ c.requires.0).all.long),
  omega (
    arith,
    c.requires.1,
    (read _ c.requires.0).all.variables,
  ),
)

pub returns-then-not-value_right : goal.returns-then-not-value_right
returns-then-not-value_right c =
    values_wrong _ _ c.requires.1 c.args.ps (omega arith) _ c.loop-i.invariant c.loop-i-test.true _ c.value_right.ensures c.if-not-value_right.true

pub loop-i-preserved : goal.loop-i-preserved
loop-i-preserved c =
    values_right_lem _ _ c.requires.1 c.args.ps (omega arith) _ c.loop-i.invariant c.loop-i-test.true _ c.value_right.ensures c.if-not-value_right.false

pub returns : goal.returns
returns c = values_end _ _ c.requires.1 c.args.ps (omega arith) _ c.loop-i-test.false c.loop-i.invariant
