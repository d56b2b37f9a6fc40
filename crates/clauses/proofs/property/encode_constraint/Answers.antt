use borrow.Author.Tests.{not-true, not-false}
use Rattle.std.proofs.Common.{true, sym, ◌∙◌, rules}
use Rattle.design.proofs.Positions.{constraint_none}
use Rattle.clauses.specs.FlatState.{read_slots, layout_of}
use Rattle.clauses.proofs.CellCounts.{sizes, tail}
use Rattle.clauses.proofs.EmitCells.{slotted_two, test_none}
use Rattle.clauses.proofs.EmitSteps.{gives_true, constraint_here, constraint_gives}
use Rattle.clauses.proofs.property.encode_constraint.Goals as goal

pub has_constraint-requires : goal.has_constraint-requires
has_constraint-requires c = (sizes c.requires).0

pub returns-then-not-has_constraint : goal.returns-then-not-has_constraint
returns-then-not-has_constraint c =
    λ d w. gives_true _ (test_none (layout_of c.args.shape) (read_slots true c.args.file.now c.args.shape c.args.both.now) d.constraint
    (constraint_none c.args.file.now d w (sym c.has_constraint.ensures ∙ not-true _ c.if-not-has_constraint.true-raw)))
    _ c.no_property.ensures

pub constraint-stands-requires : goal.constraint-stands-requires
constraint-stands-requires c = tail c.requires

pub encode_test-requires : goal.encode_test-requires
encode_test-requires c =
    (true, slotted_two c.requires _ (search rules), constraint_here c.requires (sym c.has_constraint.ensures ∙ not-false _ c.if-not-has_constraint.false-raw) _ c.constraint-stands.ensures.0)

pub returns : goal.returns
returns c =
    constraint_gives c.requires (sym c.has_constraint.ensures ∙ not-false _ c.if-not-has_constraint.false-raw) _ c.constraint-stands.ensures.0 c.args.both.now _ (c.encode_test.ensures true)
