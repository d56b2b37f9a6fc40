use Prim.Native.Nat.{◌≤◌, ◌-◌}
use mathlib.Core.Path.{◌≡◌}
use Rattle.design.specs.DesignFile.{items, event_at}
use Rattle.design.specs.Check.{names_of}
use Rattle.design.specs.Answers.{walked}
use Rattle.design.proofs.item.Items.check_matrix_events.Given as goal

abbrev pub invariant-loop : goal.invariant-loop
invariant-loop l = (l.p ≤ l.self.end) × (walked (items (event_at l.self.file.now l.self.end (names_of l.self.file.now l.self.shape)) (l.count - l.counter) l.p) ≡ walked (items (event_at l.self.file.now l.self.end (names_of l.self.file.now l.self.shape)) l.count l.at))
