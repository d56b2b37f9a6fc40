use Rattle.std.proofs.Common.{false, arith}
use Rattle.design.specs.Limits.{max_depth}
use Rattle.clauses.proofs.CellCounts.{expression_short, expression_reads, expression_few, expression_gates, property_gates_lem, property_without}
use Rattle.clauses.proofs.tables.Tables.size_property.Goals as goal

pub size_bool-requires : goal.size_bool-requires
size_bool-requires c =
    let text = c.expression-text.ensures in (
      (
        c.args.self.file.now,
        max_depth,
        false,
        expression_reads _ _ _ c.args.self.ready _ _ c.requires c.if-property-eq0.true _ text,
      ),
      omega arith,
      expression_short _ _ _
          c.args.self.ready _ _ c.requires c.if-property-eq0.true _ text,
    )

pub ends_unmarked-requires : goal.ends_unmarked-requires
ends_unmarked-requires c =
    let zero = c.if-property-eq0.true in
    let text = c.expression-text.ensures in
    let reads = expression_reads _ _ _ c.args.self.ready _ _ c.requires zero _ text in
    expression_few _ _ _ c.args.self.ready _ _ c.requires zero _ text _ (c.size_bool.ensures c.args.self.file.now max_depth false reads)

pub returns-then-property-eq0 : goal.returns-then-property-eq0
returns-then-property-eq0 c =
    let zero = c.if-property-eq0.true in
    let text = c.expression-text.ensures in
    let reads = expression_reads _ _ _ c.args.self.ready _ _ c.requires zero _ text in
    let counted = c.size_bool.ensures c.args.self.file.now max_depth false reads in
    expression_gates _ _ _ c.args.self.ready _ _ c.requires zero _ text _ counted _ c.ends_unmarked.ensures

pub returns-then-property-eq1 : goal.returns-then-property-eq1
returns-then-property-eq1 c =
    property_gates_lem _ _ _ c.args.self.ready c.args.self.bytes _ _ c.requires c.if-property-eq1.true _ _ c.size_cells.ensures.1 c.ends_unmarked-then-property-eq1.ensures

pub returns : goal.returns
returns c =
    let none = property_without _ _ _ c.if-property-eq0.false c.if-property-eq1.false _ c.no_gates.ensures in (none.0, λ d w. none.1 d)
