use mathlib.Core.Path.{◌≡◌}
use Rattle.design.specs.Check.{cell_count}
use Rattle.design.proofs.Tables.{CellsGoing}
use Rattle.design.proofs.index.index_cells.Given as goal

abbrev pub invariant-loop : goal.invariant-loop
invariant-loop l = (l.count ≡ cell_count l.file) × CellsGoing l.file l.p l.counter l.normals l.table
