use Rattle.search.proofs.State.{undo_pop', undo_flip'}
use Rattle.search.proofs.trail.undo.Goals as goal

pub returns-then-e-eq1 : goal.returns-then-e-eq1
returns-then-e-eq1 c =
    undo_flip' _ _ _ _ _ c.loop-k-test.true c.loop-k.invariant c.if-e-eq1.true

pub loop-k-preserved : goal.loop-k-preserved
loop-k-preserved c =
    undo_pop' _ _ _ _ _ c.loop-k-test.true c.loop-k.invariant c.if-e-eq1.false
