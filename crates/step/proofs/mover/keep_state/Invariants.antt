use Rattle.step.proofs.Pairs.{Keeping}
use Rattle.step.proofs.mover.keep_state.Given as goal

abbrev pub invariant-loop-i : goal.invariant-loop-i
invariant-loop-i l = Keeping l.n l.initial.pair l.i l.pair
