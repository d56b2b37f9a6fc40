use Rattle.std.proofs.Common.{ap, refl, ◌∙◌, arith}
use Rattle.design.specs.Answer.{Answer}
use Rattle.clauses.specs.Replies.{DecodeExit}
use Rattle.design.proofs.Told.{handed_on}
use Rattle.clauses.proofs.Admissions.{admission_admitted}
use Rattle.clauses.proofs.DecodeCall.{decode_refused, decode_passed}
use Rattle.clauses.proofs.decode.decode.Goals as goal

pub decode_frames-requires : goal.decode_frames-requires
decode_frames-requires c =
    let a = admission_admitted _ _ _ _ _ c.in_ok-s.ensures (λ i. omega (arith, c.shared_slice_known-1.given i)) in (a.small.sizes, a.small.bound)

pub returns-in_err-s : goal.returns-in_err-s
returns-in_err-s c =
    let left : Answer (Unit {0}) → DecodeExit = λ x. record { reply = x; choices = c.args.choices.now } in
    ap left (handed_on _ _ c.from_residual.ensures.1 _ refl)
    ∙ decode_refused _ _ _ _ _ _ _ _ c.in_err-s.ensures

pub returns : goal.returns
returns c = decode_passed _ _ _ _ _ _ _ c.in_ok-s.ensures (λ i. omega (arith, c.shared_slice_known-1.given i)) _ c.decode_frames.ensures
