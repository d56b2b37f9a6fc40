use Rattle.std.proofs.Common.{◌≡◌, true, length, refl, arith, rules}
use Rattle.design.specs.Limits.{pair_bits}
use Rattle.clauses.specs.Formula.{state_at}
use Rattle.clauses.proofs.EmitSlots.{bits_some, mark_read}
use Rattle.clauses.proofs.EmitCells.{slotted_two}
use Rattle.clauses.proofs.EmitSteps.{gives_true, step_property_none, step_property_gives}
use Rattle.clauses.proofs.EmitFrames.{states_are}
use Rattle.clauses.proofs.property.encode_step_property.Goals as goal

pub returns-then-property-lt-CONSTRAINT : goal.returns-then-property-lt-CONSTRAINT
returns-then-property-lt-CONSTRAINT c =
    λ d w x a b. gives_true _ (step_property_none _ _ d (state_at d c.args.v) (state_at d c.args.after) _ c.if-property-lt-CONSTRAINT.true) _ c.no_property.ensures

pub overflow_sub-shape : goal.overflow_sub-shape
overflow_sub-shape c =
    let both = c.two_states-both.result in
    let size : length both ≡ pair_bits = search rules in
    omega (arith, bits_some (slotted_two c.requires both size))

pub returns : goal.returns
returns c =
    let pre = c.requires in
    let both = c.two_states-both.result in
    let size : length both ≡ pair_bits = search rules in
    let slots = slotted_two pre both size in
    λ d w x a b. step_property_gives pre _ c.if-property-lt-CONSTRAINT.false both c.encode_constraint-x.result _ _
    (mark_read true slots (omega (arith, bits_some slots)) true refl).1 c.encode_constraint-x.ensures c.unmarked.ensures d w x c.args.v c.args.after
    (states_are pre d w both _ _ _ refl size c.two_states-both.ensures a b)
