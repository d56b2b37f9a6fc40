use mathlib.Core.Path.{◌≡◌}
use Rattle.design.specs.State.{slot_count}
use Rattle.text.proofs.Tracing.{Printing}
use Rattle.text.proofs.writer.Writer.next.Given as goal

abbrev pub invariant-loop-i : goal.invariant-loop-i
invariant-loop-i l = Printing l.movers.machine.file.now l.property (slot_count l.movers.machine.shape) l.choices l.initial.pair l.initial.self.out.now l.initial.self.at l.i l.pair l.self.out.now l.self.at × (l.self.out.ghost_name ≡ l.initial.self.out.ghost_name)
