use Prim.Native.Nat.{◌≤◌, ◌-◌}
use mathlib.Core.Path.{◌≡◌}
use Rattle.design.specs.DesignFile.{events_from}
use Rattle.design.specs.Check.{names_of}
use Rattle.design.specs.Answers.{walked}
use Rattle.design.proofs.item.Items.check_events.Given as goal

abbrev pub invariant-loop-m : goal.invariant-loop-m
invariant-loop-m l = (l.p ≤ l.self.end) ×
    (walked (events_from l.self.file.now l.self.end (names_of l.self.file.now l.self.shape) l.mats l.m (l.self.shape.matrices - l.m) l.p) ≡ walked
    (events_from l.self.file.now l.self.end (names_of l.self.file.now l.self.shape) l.mats 0 l.self.shape.matrices l.at))
