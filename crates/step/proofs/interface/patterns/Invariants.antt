use Rattle.std.proofs.Common.{map, replicate}
use Rattle.design.specs.Limits.{max_variables}
use Rattle.step.specs.Pattern.{wrap}
use Rattle.step.proofs.Entries.{Copying}
use Rattle.step.proofs.interface.patterns.Given as goal

abbrev pub invariant-loop-i : goal.invariant-loop-i
invariant-loop-i l = Copying (replicate max_variables 0) 0 (map wrap l.values) l.i l.out
