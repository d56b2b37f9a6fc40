use Prim.Native.Nat.{◌≤◌}
use Rattle.design.proofs.Tables.{RowGoing}
use Rattle.design.proofs.index.index_row.Given as goal

abbrev pub invariant-loop-i : goal.invariant-loop-i
invariant-loop-i l = (l.i ≤ l.count) × RowGoing l.file l.at l.m l.initial.table l.p l.i l.table
