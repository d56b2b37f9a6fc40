use Rattle.std.proofs.Common.{ℕ, ap, refl, ◌∙◌, arith}
use Rattle.design.specs.Answer.{Answer}
use Rattle.clauses.specs.Replies.{EncodeExit}
use Rattle.design.proofs.Told.{handed_on}
use Rattle.clauses.proofs.Admissions.{admission_admitted}
use Rattle.clauses.proofs.EncodeCall.{encode_refused, encode_part}
use Rattle.clauses.proofs.encode.encode.Goals as goal

pub overflow_add-bound : goal.overflow_add-bound
overflow_add-bound c =
    let a = admission_admitted _ _ _ _ _ c.in_ok-s.ensures (λ i. omega (arith, c.shared_slice_known-1.given i)) in omega (arith, a.small.bound)

pub returns-then-bound-part : goal.returns-then-bound-part
returns-then-bound-part c = encode_part _ _ _ _ _ _ _ c.in_ok-s.ensures (λ i. omega (arith, c.shared_slice_known-1.given i)) c.if-bound-part.true

pub encode_admitted-requires : goal.encode_admitted-requires
encode_admitted-requires c =
    let a = admission_admitted _ _ _ _ _ c.in_ok-s.ensures (λ i. omega (arith, c.shared_slice_known-1.given i)) in (a, c.if-bound-part.false)

pub returns-in_err-s : goal.returns-in_err-s
returns-in_err-s c =
    let left : Answer ℕ → EncodeExit = λ x. record { reply = x; buffer = c.args.buffer.now } in
    ap left (handed_on _ _ c.from_residual.ensures.1 _ refl)
    ∙ encode_refused _ _ _ _ _ _ _ _ c.in_err-s.ensures

pub returns : goal.returns
returns c = c.encode_admitted.ensures
