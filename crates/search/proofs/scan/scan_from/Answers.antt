use mathlib.Core.Path.{sym, ap, ◌∙◌}
use mathlib.Core.Bool.{not}
use borrow.Author.Rules.{rules}
use Rattle.search.proofs.Scanning.{inner_true, inner_second, outer_clause, outer_end, outer_next, outer_conflict, outer_unit}
use Rattle.search.proofs.scan.scan_from.Goals as goal
use Rattle.search.proofs.scan.scan_from.Goals.{in_default-via-in-Some+then-literal, in_default-via-in-None+else-is_none}

pub loop-unset-init : goal.loop-unset-init
loop-unset-init c = outer_clause c.clauses.invariant c.clauses-test.true

pub clauses-preserved : goal.clauses-preserved
clauses-preserved c =
    elim c.in_default.branch [
      | in_default-via-in-Some+then-literal w ↦ outer_next c.clauses.invariant c.clauses-test.true (inner_true c.loop-unset.invariant (sym c.ends.ensures ∙ c.loop-unset-test.true) c.literal.ensures (search rules)) c.loop-unset.invariant c.after_clause-i.ensures
      | in_default-via-in-None+else-is_none w ↦ outer_next c.clauses.invariant c.clauses-test.true (inner_second c.loop-unset.invariant (sym c.ends.ensures ∙ c.loop-unset-test.true) c.literal.ensures w.in-None.is (w.is_none.ensures ∙ ap not w.if-is_none.false)) c.loop-unset.invariant c.after_clause-i.ensures
    ]

pub returns-in-None-unset : goal.returns-in-None-unset
returns-in-None-unset c =
    outer_conflict c.clauses.invariant c.clauses-test.true c.loop-unset.invariant (sym c.ends.ensures ∙ c.loop-unset-test.false) c.in-None-unset.is

pub returns-in-Some : goal.returns-in-Some
returns-in-Some c =
    outer_unit c.clauses.invariant c.clauses-test.true c.loop-unset.invariant (sym c.ends.ensures ∙ c.loop-unset-test.false) c.in-Some.is c.variable.ensures c.sign.ensures

pub returns : goal.returns
returns c = outer_end c.clauses.invariant c.clauses-test.false
