use mathlib.Core.Path.{◌≡◌}
use Prim.Native.Nat.{◌≤◌}
use mathlib.Core.List.{map}
use lib.ListN.{take}
use Rattle.step.specs.Pattern.{signed}
use Rattle.text.proofs.Putting.{Left}
use Rattle.text.proofs.writer.Writer.values.Given as goal

abbrev pub invariant-loop-i : goal.invariant-loop-i
invariant-loop-i l = Left (take l.n (map signed l.slots)) l.i l.initial.self.out.now l.self.out.now l.initial.self.at l.self.at × (l.i ≤ l.n) × (l.self.out.ghost_name ≡ l.initial.self.out.ghost_name)
