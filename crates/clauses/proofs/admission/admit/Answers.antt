use Rattle.std.proofs.Common.{refl, arith}
use Rattle.design.proofs.Told.{handed_on}
use Rattle.step.proofs.Gates.{gate_passed, some_number}
use Rattle.clauses.proofs.Admissions.{admission_refuses, admission_19, admission_sizes_lem}
use Rattle.clauses.proofs.admission.admit.Goals as goal

pub returns-in_err-gate : goal.returns-in_err-gate
returns-in_err-gate c = handed_on _ _ c.from_residual.ensures.1 _ (admission_refuses _ _ _ _ _ c.in_err-gate.ensures (some_number _))

pub sizes-s-requires : goal.sizes-s-requires
sizes-s-requires c = let g = gate_passed _ _ _ _ _ c.in_ok-gate.ensures refl in (g.accepted, g.right)

pub variables-requires : goal.variables-requires
variables-requires c = (c.sizes-s.ensures.0, omega (arith, (gate_passed _ _ _ _ _ c.in_ok-gate.ensures refl).bound))

pub returns-then-variables : goal.returns-then-variables
returns-then-variables c =
    let g = gate_passed _ _ _ _ _ c.in_ok-gate.ensures refl in
    admission_19 _ _ _ _ g.accepted g.property g.right g.bound (λ i. omega (arith, c.shared_slice_known-1.given i)) _ c.sizes-s.ensures.1 _ c.variables.ensures.0 c.if-variables.true

pub returns : goal.returns
returns c =
    let g = gate_passed _ _ _ _ _ c.in_ok-gate.ensures refl in
    admission_sizes_lem _ _ _ _ g.accepted g.property g.right g.bound (λ i. omega (arith, c.shared_slice_known-1.given i)) _ c.sizes-s.ensures.1 _ c.variables.ensures.0 c.if-variables.false
