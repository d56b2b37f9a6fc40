use lib.ListN.{length}
use Rattle.search.proofs.Denying.{Denying}
use Rattle.search.proofs.refute.deny.Given as goal

abbrev pub invariant-loop-i : goal.invariant-loop-i
invariant-loop-i l = Denying l.words l.values (length l.initial.values) l.from l.i
