use Rattle.std.proofs.Common.{sym, refl, arith}
use Rattle.design.proofs.Places.{read}
use Rattle.design.proofs.Told.{turned_on}
use Rattle.step.proofs.Gates.{accepted_zero, some_number, gate_check, gate_13, gate_8, gate_14, gate_none}
use Rattle.step.proofs.gate.gate.Goals as goal

pub returns-in_err-check : goal.returns-in_err-check
returns-in_err-check c = turned_on _ _ c.from_residual.ensures.1 _ (gate_check _ _ _ _ _ c.in_err-check.ensures (some_number _))

pub last_property-requires : goal.last_property-requires
last_property-requires c = (read _ (accepted_zero _ _ c.in_ok-check.ensures refl)).all.long

pub returns-then-last_property-property : goal.returns-then-last_property-property
returns-then-last_property-property c =
    gate_13 _ _ _ _ _ c.in_ok-check.ensures refl (omega (arith, c.last_property.ensures, c.if-last_property-property.true))

pub returns-then-not-piece_right : goal.returns-then-not-piece_right
returns-then-not-piece_right c =
    gate_8 _ _ _ _ _ c.in_ok-check.ensures refl (omega (arith, c.last_property.ensures, c.if-last_property-property.false)) (sym c.if-not-piece_right.ensures)

pub returns-then-bound-gt-MAX_BOUND : goal.returns-then-bound-gt-MAX_BOUND
returns-then-bound-gt-MAX_BOUND c =
    gate_14 _ _ _ _ _ c.in_ok-check.ensures refl
    (omega (arith, c.last_property.ensures, c.if-last_property-property.false)) (sym c.if-not-piece_right.ensures) c.if-bound-gt-MAX_BOUND.true

pub returns : goal.returns
returns c =
    gate_none _ _ _ _ _ c.in_ok-check.ensures refl
    (omega (arith, c.last_property.ensures, c.if-last_property-property.false)) (sym c.if-not-piece_right.ensures) c.if-bound-gt-MAX_BOUND.false
