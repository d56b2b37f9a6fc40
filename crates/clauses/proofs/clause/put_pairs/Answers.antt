use Rattle.std.proofs.Common.{refl, arith}
use Rattle.clauses.proofs.EmitClauses.{pairing_start, pairing_on, pairing_end}
use Rattle.clauses.proofs.clause.put_pairs.Goals as goal

pub loop-left-init : goal.loop-left-init
loop-left-init c = (pairing_start _ _ _ _, refl)

pub put_against-at-requires : goal.put_against-at-requires
put_against-at-requires c = omega (arith, c.loop-left.invariant.0.within, c.requires)

pub loop-left-preserved : goal.loop-left-preserved
loop-left-preserved c = (
  pairing_on _ _ _ _ c.loop-left-test.true c.loop-left.invariant.0 _ c.next-y.ensures c.put_against-at.ensures,
  omega arith,
)

pub returns : goal.returns
returns c = pairing_end _ _ _ _ c.loop-left-test.false c.loop-left.invariant.0
