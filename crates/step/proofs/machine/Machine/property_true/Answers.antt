use Rattle.std.proofs.Common.{arith}
use Rattle.step.proofs.Cells.{sizes}
use Rattle.step.proofs.Scanning.{marked_property, expression_property, invalid_property}
use Rattle.step.proofs.machine.Machine.property_true.Goals as goal

pub is_marked-requires : goal.is_marked-requires
is_marked-requires c =
    ((sizes _ _ _ c.args.self.indexed).3, (sizes _ _ _ c.args.self.indexed).2, omega (arith, c.requires.0))

pub returns-then-is_marked : goal.returns-then-is_marked
returns-then-is_marked c =
    λ d w. marked_property _ _ d w _ c.args.self.indexed.shaped _ _ c.is_marked.ensures c.if-is_marked.true _ c.requires.2

pub returns-then-property-eq0 : goal.returns-then-property-eq0
returns-then-property-eq0 c =
    λ d w. expression_property _ _ d w _ c.args.self.indexed.shaped _ _ c.is_marked.ensures c.if-is_marked.false _ _ c.if-property-eq0.true (c.expression_true.ensures d w)

pub returns-else-property-eq0 : goal.returns-else-property-eq0
returns-else-property-eq0 c =
    λ d w. invalid_property _ _ d w _ c.args.self.indexed.shaped _ _ c.is_marked.ensures c.if-is_marked.false
    _ _ c.if-property-eq0.false c.requires.2 (c.no_invalid.ensures d w)
