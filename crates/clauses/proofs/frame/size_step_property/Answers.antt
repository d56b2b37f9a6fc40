use Rattle.std.proofs.Common.{true, sym, ◌∙◌, arith}
use borrow.Author.Tests.{not-true, not-false}
use Rattle.design.specs.Limits.{max_depth}
use Rattle.clauses.proofs.CellCounts.{none_few, sizes, tail, no_step_property, no_constraint, constraint_reads, constraint_few, constraint_gates}
use Rattle.clauses.proofs.frame.size_step_property.Goals as goal

pub returns-then-property-lt-CONSTRAINT : goal.returns-then-property-lt-CONSTRAINT
returns-then-property-lt-CONSTRAINT c = no_step_property c.requires _ c.if-property-lt-CONSTRAINT.true _ c.no_gates.ensures

pub has_constraint-requires : goal.has_constraint-requires
has_constraint-requires c = (sizes c.requires).0

pub ends_unmarked-requires : goal.ends_unmarked-requires
ends_unmarked-requires c = none_few _ _ c.no_gates-then-not-has_constraint.ensures

pub returns-then-not-has_constraint : goal.returns-then-not-has_constraint
returns-then-not-has_constraint c =
    let none = sym c.has_constraint.ensures ∙ not-true _ c.if-not-has_constraint.true-raw in
    no_constraint c.requires none _ c.if-property-lt-CONSTRAINT.false _ _ c.no_gates-then-not-has_constraint.ensures c.ends_unmarked.ensures

pub constraint-stands-requires : goal.constraint-stands-requires
constraint-stands-requires c = tail c.requires

pub size_bool-requires : goal.size_bool-requires
size_bool-requires c = (
  (
    c.args.file.now,
    max_depth,
    true,
    constraint_reads c.requires (sym c.has_constraint.ensures ∙ not-false _ c.if-not-has_constraint.false-raw) _ _
        c.constraint-stands.ensures.0 c.constraint-stands.ensures.1,
  ),
  omega (arith, c.constraint-stands.ensures.1),
  omega (arith, c.constraint-stands.ensures.1, (sizes c.requires).1),
)

pub ends_unmarked-requires-2 : goal.ends_unmarked-requires-2
ends_unmarked-requires-2 c =
    let has = sym c.has_constraint.ensures ∙ not-false _ c.if-not-has_constraint.false-raw in
    let (at, end) = c.constraint-stands.ensures in
    constraint_few c.requires has _ _ at end _ (c.size_bool.ensures c.args.file.now max_depth true (constraint_reads c.requires has _ _ at end))

pub returns : goal.returns
returns c =
    let has = sym c.has_constraint.ensures ∙ not-false _ c.if-not-has_constraint.false-raw in
    let (at, end) = c.constraint-stands.ensures in
    let counted = c.size_bool.ensures c.args.file.now max_depth true (constraint_reads c.requires has _ _ at end) in
    constraint_gates c.requires has _ _ at end _ counted _ c.if-property-lt-CONSTRAINT.false _ c.ends_unmarked-2.ensures
