use Rattle.design.specs.Tree.{Design}
use Rattle.step.specs.Interface.{values_right}
use Rattle.step.proofs.Entries.{LookingAt}
use Rattle.step.proofs.interface.wrong_value.Given as goal

abbrev pub invariant-loop-i : goal.invariant-loop-i
invariant-loop-i l = LookingAt l.file (λ (d : Design). values_right d.variables l.fn.ps) l.i
