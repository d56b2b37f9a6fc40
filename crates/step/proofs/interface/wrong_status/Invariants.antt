use Rattle.std.proofs.Common.{◌≡◌}
use Rattle.design.specs.Tree.{Design}
use Rattle.design.specs.Check.{matrices_offset}
use Rattle.step.specs.Interface.{statuses_right}
use Rattle.step.proofs.Entries.{LookingAt}
use Rattle.step.proofs.interface.wrong_status.Given as goal

abbrev pub invariant-loop-m : goal.invariant-loop-m
invariant-loop-m l = (l.mats ≡ matrices_offset l.file) × LookingAt l.file (λ (d : Design). statuses_right d.statuses l.fn.ss) l.m
