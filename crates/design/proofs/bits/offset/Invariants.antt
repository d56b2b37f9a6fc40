use Prim.Native.Nat.{◌-◌}
use Rattle.design.proofs.Widths.{Adding}
use Rattle.design.proofs.bits.offset.Given as goal

abbrev pub invariant-loop-i : goal.invariant-loop-i
invariant-loop-i l = Adding l.file l.v l.bits l.i

abbrev pub decreases-loop-i : goal.decreases-loop-i
decreases-loop-i l = l.v - l.i
