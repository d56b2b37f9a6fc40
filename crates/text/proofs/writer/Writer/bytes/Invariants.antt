use mathlib.Core.Path.{◌≡◌}
use Prim.Native.Nat.{◌≤◌}
use lib.ListN.{length, drop}
use Rattle.text.proofs.Putting.{Rest}
use Rattle.text.proofs.writer.Writer.bytes.Given as goal

abbrev pub invariant-loop-b : goal.invariant-loop-b
invariant-loop-b l = Rest (drop l.b-index l.bytes) l.bytes l.initial.self.out.now l.self.out.now l.initial.self.at l.self.at × (l.b-index ≤ length l.bytes) × (l.self.out.ghost_name ≡ l.initial.self.out.ghost_name)
