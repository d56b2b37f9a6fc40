use lib.ListN.{length}
use Rattle.search.specs.Memory.{settings_of}
use Rattle.search.proofs.State.{Undoing}
use Rattle.search.proofs.trail.undo.Given as goal

abbrev pub invariant-loop-k : goal.invariant-loop-k
invariant-loop-k l = Undoing (length l.initial.values) (settings_of l.initial.values l.initial.trail l.t) l.values l.trail l.k
