use Rattle.std.proofs.Common.{arith}
use Rattle.design.proofs.Told.{handed_on}
use Rattle.clauses.proofs.Admissions.{admission_admitted}
use Rattle.clauses.proofs.SizeCall.{size_refused, size_answer}
use Rattle.clauses.proofs.size.size.Goals as goal

pub formula-requires : goal.formula-requires
formula-requires c =
    let a = admission_admitted _ _ _ _ _ c.in_ok-s.ensures (λ i. omega (arith, c.shared_slice_known-1.given i)) in (a.small.sizes, a.small.bound)

pub returns-in_err-s : goal.returns-in_err-s
returns-in_err-s c = handed_on _ _ c.from_residual.ensures.1 _ (size_refused _ _ _ _ _ _ c.in_err-s.ensures)

pub returns : goal.returns
returns c = size_answer _ _ _ _ _ c.in_ok-s.ensures (λ i. omega (arith, c.shared_slice_known-1.given i)) _ c.formula.ensures
