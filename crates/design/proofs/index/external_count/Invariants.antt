use Prim.Native.Nat.{◌-◌}
use Rattle.design.proofs.Externals.{Counting}
use Rattle.design.proofs.index.external_count.Given as goal

abbrev pub invariant-loop-v : goal.invariant-loop-v
invariant-loop-v l = Counting l.file l.variables l.v l.count

abbrev pub decreases-loop-v : goal.decreases-loop-v
decreases-loop-v l = l.variables - l.v
