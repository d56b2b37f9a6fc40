use Rattle.std.proofs.Common.{map, replicate, pos}
use Rattle.step.specs.Pattern.{signed}
use Rattle.step.proofs.Entries.{Copying}
use Rattle.design.specs.Limits.{max_variables}
use Rattle.step.proofs.interface.give_values.Given as goal

abbrev pub invariant-loop-i : goal.invariant-loop-i
invariant-loop-i l = Copying (replicate max_variables (pos 0)) 0 (map signed l.slots) l.i l.out
