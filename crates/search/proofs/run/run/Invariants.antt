use lib.ListN.{length}
use Rattle.search.specs.Memory.{settings_of}
use Rattle.search.proofs.Counting.{ahead}
use Rattle.search.proofs.Running.{Searching}
use Rattle.search.proofs.run.run.Given as goal

abbrev pub invariant-loop-set : goal.invariant-loop-set
invariant-loop-set l = Searching (length l.initial.values) l.words l.budget l.values l.trail l.t l.from l.low l.tries

abbrev pub decreases-loop-set : goal.decreases-loop-set
decreases-loop-set l = ahead (length l.initial.values) (settings_of l.values l.trail l.t)
