use Rattle.std.proofs.Common.{◌-◌}
use Rattle.design.specs.Check.{names_of}
use Rattle.clauses.proofs.ActionCounts.{Counting}
use Rattle.clauses.proofs.cost.+size_list_size_stmt.Given as goal

abbrev pub decreases-size_list : goal.decreases-size_list
decreases-size_list l = l.end - l.at

abbrev pub decreases-size_stmt : goal.decreases-size_stmt
decreases-size_stmt l = l.end - l.at

abbrev pub invariant-size_list-loop : goal.invariant-size_list-loop
invariant-size_list-loop l = Counting l.file (names_of l.file l.shape) l.fn.end l.shape.bits l.nest l.at (l.end - l.counter) l.sum
