use mathlib.Core.Path.{◌≡◌}
use Prim.Native.Nat.{◌≤◌}
use lib.ListN.{length}
use Rattle.text.proofs.Parts.{WordsLeft}
use Rattle.text.proofs.writer.Writer.words.Given as goal

abbrev pub invariant-loop-i : goal.invariant-loop-i
invariant-loop-i l = WordsLeft l.words l.i l.initial.self.out.now l.self.out.now l.initial.self.at l.self.at × (l.i ≤ length l.words) × (l.self.out.ghost_name ≡ l.initial.self.out.ghost_name)
