use Rattle.std.proofs.Common.{◌≡◌}
use Rattle.design.specs.Check.{cell_count}
use Rattle.step.proofs.Scanning.{Scanning}
use Rattle.step.proofs.machine.Machine.no_invalid.Given as goal

abbrev pub invariant-loop : goal.invariant-loop
invariant-loop l = (l.count ≡ cell_count l.self.file.now) × Scanning l.self.file.now l.self.shape l.slots l.p l.counter
