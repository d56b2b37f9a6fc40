use Prim.Native.Nat.{ℕ, ◌≤◌, ◌-◌}
use mathlib.Core.Path.{◌≡◌}
use Rattle.design.specs.Tree.{BoolExpr}
use Rattle.design.specs.DesignFile.{cells_from}
use Rattle.design.specs.Check.{names_of}
use Rattle.design.specs.Answers.{counted, moves}
use Rattle.design.proofs.item.Items.check_cells.Given as goal

abbrev pub invariant-loop : goal.invariant-loop
invariant-loop l = (l.before ≤ l.self.end) × (l.p ≤ l.self.end) × (l.normals ≤ l.counter) ×
    ((f : ℕ → ℕ → BoolExpr) → counted moves l.normals (cells_from l.self.file.now l.self.end (names_of l.self.file.now l.self.shape) l.mats f (l.count - l.counter) l.before l.p) ≡ counted
    moves 0 (cells_from l.self.file.now l.self.end (names_of l.self.file.now l.self.shape) l.mats f l.count l.at l.at))
