use Rattle.std.proofs.Common.{refl}
use Rattle.clauses.proofs.EmitClauses.{two_runs, two_runs_on, two_runs_end}
use Rattle.clauses.proofs.clause.two_states.Goals as goal

pub loop-i-init : goal.loop-i-init
loop-i-init c = two_runs _ _ _ _ refl

pub loop-i-preserved : goal.loop-i-preserved
loop-i-preserved c =
    two_runs_on _ _ _ _ _ c.requires c.loop-i-test.true c.loop-i.invariant c.positive.ensures c.positive-in-loop-i.ensures c.next-x.ensures c.next-y.ensures

pub returns : goal.returns
returns c = two_runs_end _ c.requires c.loop-i-test.false c.loop-i.invariant
