use mathlib.Core.Path.{◌≡◌}
use Prim.Native.Nat.{◌≤◌}
use mathlib.Core.List.{map}
use lib.IntN.{pos}
use lib.ListN.{take, drop}
use Rattle.text.proofs.Putting.{Left}
use Rattle.text.proofs.writer.Writer.statuses.Given as goal

abbrev pub invariant-loop-i : goal.invariant-loop-i
invariant-loop-i l = Left (map pos (take l.k (drop l.n l.slots))) l.i l.initial.self.out.now l.self.out.now l.initial.self.at l.self.at × (l.i ≤ l.k) × (l.self.out.ghost_name ≡ l.initial.self.out.ghost_name)
