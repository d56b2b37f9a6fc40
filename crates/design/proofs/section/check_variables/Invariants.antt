use Prim.Native.Nat.{◌≤◌, ◌-◌}
use mathlib.Core.Path.{◌≡◌}
use Rattle.design.specs.DesignFile.{items, variable_at}
use Rattle.design.specs.Answers.{counted, raises}
use Rattle.design.proofs.section.check_variables.Given as goal

abbrev pub invariant-loop : goal.invariant-loop
invariant-loop l = (l.p ≤ l.end) × (l.externals ≤ l.counter) × (counted raises l.externals (items (variable_at l.file l.end) (l.nv - l.counter) l.p) ≡ counted raises 0 (items (variable_at l.file l.end) l.nv 0))
