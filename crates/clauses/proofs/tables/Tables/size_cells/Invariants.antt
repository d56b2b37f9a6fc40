use Rattle.std.proofs.Common.{◌-◌}
use Rattle.clauses.proofs.CellCounts.{Walking}
use Rattle.clauses.proofs.tables.Tables.size_cells.Given as goal

abbrev pub invariant-loop : goal.invariant-loop
invariant-loop l = Walking l.self.file.now l.self.shape.bits l.invalid (l.end - l.counter) l.sum
