use Rattle.std.proofs.Common.{refl}
use Rattle.step.proofs.Pairs.{keeping_on}
use Rattle.step.proofs.mover.keep_state.Goals as goal

pub loop-i-preserved : goal.loop-i-preserved
loop-i-preserved c = keeping_on _ _ c.requires _ _ c.loop-i.invariant c.loop-i-test.true _ refl
