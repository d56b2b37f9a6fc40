use Prim.Native.Nat.{◌≤◌, ◌-◌}
use mathlib.Core.Path.{◌≡◌}
use Rattle.design.specs.DesignFile.{items, matrix_at}
use Rattle.design.specs.Answers.{walked}
use Rattle.design.proofs.section.check_matrices.Given as goal

abbrev pub invariant-loop : goal.invariant-loop
invariant-loop l = (l.p ≤ l.end) × (walked (items (matrix_at l.file l.end) (l.nm - l.counter) l.p) ≡ walked (items (matrix_at l.file l.end) l.nm l.at))
