use Rattle.search.proofs.Seeking.{seeks_start, seeks_next}
use Rattle.search.proofs.trail.lowest.Goals as goal

pub loop-i-init : goal.loop-i-init
loop-i-init c = seeks_start _ _ c.requires

pub loop-i-preserved : goal.loop-i-preserved
loop-i-preserved c =
    seeks_next _ _ c.loop-i.invariant c.loop-i-test.true c.if-values-i-gt1.false
