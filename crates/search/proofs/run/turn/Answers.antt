use mathlib.Core.Path.{sym, ◌∙◌}
use native.Mathlib.Omega.{arith}
use Rattle.search.proofs.Steps.{step_undo, step_unsat, unit_settable, step_unit, branch_settable, step_branch, step_sat}
use Rattle.search.proofs.run.turn.Goals as goal

pub assign-requires : goal.assign-requires
assign-requires c =
    (unit_settable c.requires c.scan.result c.scan.ensures c.in-Unit.is, omega arith)

pub assign-requires-in-Some-lowest : goal.assign-requires-in-Some-lowest
assign-requires-in-Some-lowest c =
    (branch_settable c.requires c.scan.result c.scan.ensures c.in-Nothing.is (sym c.in-Some-lowest.is ∙ c.lowest.ensures), omega arith)

pub returns-in-Some : goal.returns-in-Some
returns-in-Some c =
    step_undo c.requires c.scan.result c.scan.ensures c.in-Conflict.is _ _ c.undo.ensures c.in-Some.is

pub returns-in-None : goal.returns-in-None
returns-in-None c =
    step_unsat c.requires c.scan.result c.scan.ensures c.in-Conflict.is _ _ c.undo.ensures c.in-None.is

pub returns-in-Unit : goal.returns-in-Unit
returns-in-Unit c =
    step_unit c.requires c.scan.result c.scan.ensures c.in-Unit.is c.assign.ensures

pub returns-in-Some-lowest : goal.returns-in-Some-lowest
returns-in-Some-lowest c =
    step_branch c.requires c.scan.result c.scan.ensures c.in-Nothing.is (sym c.in-Some-lowest.is ∙ c.lowest.ensures) c.assign-in-Some-lowest.ensures

pub returns-in-None-lowest : goal.returns-in-None-lowest
returns-in-None-lowest c =
    step_sat c.requires c.scan.result c.scan.ensures c.in-Nothing.is (sym c.in-None-lowest.is ∙ c.lowest.ensures)
