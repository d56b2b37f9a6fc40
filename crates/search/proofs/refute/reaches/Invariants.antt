use Rattle.search.specs.Memory.{StartsTwo, both_of}
use Rattle.search.proofs.Rounds.{unset_bytes, Settling}
use Rattle.search.proofs.refute.reaches.Given as goal

abbrev pub invariant-loop-var : goal.invariant-loop-var
invariant-loop-var l = Settling (both_of l.list l.earlier) l.initial.values l.values × StartsTwo l.list l.earlier l.from

abbrev pub decreases-loop-var : goal.decreases-loop-var
decreases-loop-var l = unset_bytes l.values
