use Rattle.std.proofs.Common.{◌-◌}
use Rattle.design.specs.Check.{names_of}
use Rattle.design.specs.State.{layout_of}
use Rattle.step.proofs.Runs.{Going}
use Rattle.step.proofs.execute.+run_list_run_stmt.Given as goal

abbrev pub decreases-run_list : goal.decreases-run_list
decreases-run_list l = l.source.now.end - l.at

abbrev pub decreases-run_stmt : goal.decreases-run_stmt
decreases-run_stmt l = l.source.now.end - l.at

abbrev pub invariant-run_list-loop : goal.invariant-run_list-loop
invariant-run_list-loop l = Going l.source.text.now (names_of l.source.file.now l.source.shape) l.source.end (layout_of l.source.shape) l.nest l.at l.initial.slots (l.count - l.counter) l.p l.slots
