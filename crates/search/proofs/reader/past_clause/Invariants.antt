use Prim.Native.Nat.{◌-◌}
use lib.ListN.{length}
use Rattle.search.proofs.Reading.{Passing}
use Rattle.search.proofs.reader.past_clause.Given as goal

abbrev pub invariant-loop-i : goal.invariant-loop-i
invariant-loop-i l = Passing l.words l.from l.i

abbrev pub decreases-loop-i : goal.decreases-loop-i
decreases-loop-i l = length l.words - l.i
