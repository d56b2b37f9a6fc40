use Rattle.search.proofs.Seeking.{Seeks}
use Rattle.search.proofs.trail.lowest.Given as goal

abbrev pub invariant-loop-i : goal.invariant-loop-i
invariant-loop-i l = Seeks l.values l.i
