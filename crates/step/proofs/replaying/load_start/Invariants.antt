use Rattle.step.proofs.Replays.{Loading}
use Rattle.step.proofs.replaying.load_start.Given as goal

abbrev pub invariant-loop-v : goal.invariant-loop-v
invariant-loop-v l = Loading l.file l.fn.shape.variables l.fn.shape.matrices l.v l.slots
