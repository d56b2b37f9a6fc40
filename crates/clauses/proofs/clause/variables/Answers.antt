use Rattle.std.proofs.Common.{refl}
use Rattle.clauses.proofs.EmitClauses.{listing_start, listing_on, listing_end}
use Rattle.clauses.proofs.clause.variables.Goals as goal

pub loop-i-init : goal.loop-i-init
loop-i-init c = listing_start _ _ _ refl

pub loop-i-preserved : goal.loop-i-preserved
loop-i-preserved c =
    listing_on _ _ _ c.requires c.loop-i-test.true c.loop-i.invariant c.positive.ensures c.next-x.ensures

pub returns : goal.returns
returns c = listing_end _ c.loop-i-test.false c.loop-i.invariant
