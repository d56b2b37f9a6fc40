use Prim.Native.Nat.{◌-◌}
use lib.ListN.{length}
use Rattle.search.proofs.Scanning.{Inner, Outer}
use Rattle.search.proofs.scan.scan_from.Given as goal

abbrev pub invariant-loop-unset : goal.invariant-loop-unset
invariant-loop-unset l = Inner l.words l.values l.initial.i l.i l.unset

abbrev pub decreases-loop-unset : goal.decreases-loop-unset
decreases-loop-unset l = length l.words - l.i

abbrev pub invariant-clauses : goal.invariant-clauses
invariant-clauses l = Outer l.words l.values l.from l.i

abbrev pub decreases-clauses : goal.decreases-clauses
decreases-clauses l = length l.words - l.i
