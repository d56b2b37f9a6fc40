use Rattle.std.proofs.Common.{refl, arith}
use Rattle.clauses.proofs.EmitClauses.{giving_start, giving_on, giving_end}
use Rattle.clauses.proofs.clause.put_units.Goals as goal

pub loop-init : goal.loop-init
loop-init c = (giving_start _ _ _ _ _, refl)

pub loop-preserved : goal.loop-preserved
loop-preserved c = (
  giving_on _ _ _ _ _ c.loop-test.true c.loop.invariant.0 _
      _ c.signed_by.ensures c.next-x.ensures c.clause1-at.ensures,
  omega arith,
)

pub returns : goal.returns
returns c = giving_end _ _ _ _ _ c.loop-test.false c.loop.invariant.0
