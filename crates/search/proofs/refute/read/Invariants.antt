use mathlib.Core.Path.{◌≡◌}
use Prim.Native.Nat.{◌-◌}
use lib.ListN.{length}
use Rattle.search.proofs.Refuting.{Judging}
use Rattle.search.proofs.refute.read.Given as goal

abbrev pub invariant-loop-at : goal.invariant-loop-at
invariant-loop-at l = (length l.values ≡ length l.initial.values) × Judging (length l.initial.values) l.list l.refutation l.at

abbrev pub decreases-loop-at : goal.decreases-loop-at
decreases-loop-at l = length l.refutation - l.at
