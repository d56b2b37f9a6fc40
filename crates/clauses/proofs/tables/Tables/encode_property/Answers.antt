use Rattle.std.proofs.Common.{false, refl, arith, rules}
use Rattle.clauses.specs.FlatState.{slots_of}
use Rattle.clauses.proofs.EmitSlots.{bits_some, mark_read}
use Rattle.clauses.proofs.EmitCells.{slotted}
use Rattle.clauses.proofs.EmitSteps.{expression_here, expression_gives, property_1_gives, property_none, gives_true}
use Rattle.clauses.proofs.tables.Tables.encode_property.Goals as goal

pub encode_test-x-requires : goal.encode_test-x-requires
encode_test-x-requires c =
    (false, slotted c.args.self.ready.shaped _ (search rules), expression_here c.args.self.ready.shaped _ _ c.requires c.if-property-eq0.true _ c.expression-text.ensures)

pub overflow_sub-shape : goal.overflow_sub-shape
overflow_sub-shape c =
    omega (arith, bits_some (slotted c.args.self.ready.shaped c.args.bits.now (search rules)))

pub returns-then-property-eq0 : goal.returns-then-property-eq0
returns-then-property-eq0 c =
    let bits = c.args.bits.now in
    expression_gives c.args.self.ready.shaped _ _ c.requires c.if-property-eq0.true _ c.expression-text.ensures bits c.encode_test-x.result _ _
    (mark_read false (slotted c.args.self.ready.shaped bits (search rules)) (omega arith) false refl).1 (c.encode_test-x.ensures false) c.unmarked.ensures

pub overflow_sub-shape-then-property-eq1 : goal.overflow_sub-shape-then-property-eq1
overflow_sub-shape-then-property-eq1 c =
    omega (arith, bits_some (slotted c.args.self.ready.shaped c.args.bits.now (search rules)))

pub returns-then-property-eq1 : goal.returns-then-property-eq1
returns-then-property-eq1 c =
    let bits = c.args.bits.now in
    λ d w. property_1_gives c.args.self.ready.shaped _ bits _ _ (mark_read false (slotted c.args.self.ready.shaped bits (search rules)) (omega arith) false refl).1 d w
    c.if-property-eq1.true c.encode_invalid-x.result _ (c.encode_invalid-x.ensures d w) c.unmarked-then-property-eq1.ensures

pub returns : goal.returns
returns c =
    λ d w. gives_true _ (property_none _ _ d (slots_of c.args.self.file.now c.args.self.shape c.args.bits.now) _ c.if-property-eq0.false c.if-property-eq1.false) _ c.no_property.ensures
