use Prim.Native.Nat.{◌-◌}
use Rattle.design.proofs.Externals.{Finding}
use Rattle.design.proofs.index.external.Given as goal

abbrev pub invariant-loop-v : goal.invariant-loop-v
invariant-loop-v l = Finding l.file l.variables l.k l.v l.left

abbrev pub decreases-loop-v : goal.decreases-loop-v
decreases-loop-v l = l.variables - l.v
