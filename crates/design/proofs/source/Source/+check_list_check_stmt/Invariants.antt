use Prim.Native.Nat.{◌<◌, ◌-◌}
use mathlib.Core.Path.{◌≡◌}
use Rattle.design.specs.Action.{statements, statement as one, list}
use Rattle.design.specs.Answers.{found}
use Rattle.design.specs.Check.{names_of}
use Rattle.design.proofs.source.Source.+check_list_check_stmt.Given as goal

abbrev pub decreases-check_list : goal.decreases-check_list
decreases-check_list l = l.self.now.end - l.at

abbrev pub decreases-check_stmt : goal.decreases-check_stmt
decreases-check_stmt l = l.self.now.end - l.at

abbrev pub invariant-check_list-loop : goal.invariant-check_list-loop
invariant-check_list-loop l = (l.at < l.p) × (found (statements l.self.text.now (names_of l.self.file.now l.self.shape) l.self.end (one l.self.text.now (names_of l.self.file.now l.self.shape) l.self.end l.nest) (l.count - l.counter) l.p) ≡ found (list l.self.text.now (names_of l.self.file.now l.self.shape) l.self.end l.nest l.at))
