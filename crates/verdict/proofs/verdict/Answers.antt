use mathlib.Core.Path.{refl, ap, ◌∙◌}
use native.Mathlib.Omega.{arith}
use Rattle.design.specs.Answer.{Answer}
use Rattle.design.proofs.Told.{handed_on}
use Rattle.verdict.specs.Answers.{Exit}
use Rattle.verdict.specs.declared.answer.Told.{Told}
use Rattle.verdict.proofs.Calls.{short_clauses, short_values, short_trail, short_choices, ready}
use Rattle.verdict.proofs.Sized.{sized_refusal, full_size}
use Rattle.verdict.proofs.verdict.Goals as goal

pub returns-then-clauses-s : goal.returns-then-clauses-s
returns-then-clauses-s c =
    let z = full_size _ _ _ _ _ c.in_ok-s.ensures in short_clauses z.sized _ _ (omega (arith, z.words, c.if-clauses-s.true))

pub returns-then-values-s : goal.returns-then-values-s
returns-then-values-s c =
    let z = full_size _ _ _ _ _ c.in_ok-s.ensures in short_values z.sized _ _ (omega (arith, z.variables, c.if-values-s.true))

pub returns-then-trail-s : goal.returns-then-trail-s
returns-then-trail-s c =
    let z = full_size _ _ _ _ _ c.in_ok-s.ensures in short_trail z.sized _ _ (omega (arith, z.variables, c.if-trail-s.true))

pub returns-then-choices-bound : goal.returns-then-choices-bound
returns-then-choices-bound c =
    let z = full_size _ _ _ _ _ c.in_ok-s.ensures in short_choices z.sized _ _ (omega (arith, c.if-choices-bound.true))

pub judge-requires : goal.judge-requires
judge-requires c =
    let z = full_size _ _ _ _ _ c.in_ok-s.ensures in
    ready z.sized 0 _ (λ i. (c.shared_slice_known-1.given i).fits) (λ i. (c.shared_slice_known-2-1.given i).fits)
    (omega (arith, z.words, c.if-clauses-s.false)) (omega (arith, z.variables, c.if-values-s.false)) (omega (arith, z.variables, c.if-trail-s.false))
    (omega (arith, c.if-choices-bound.false))

pub returns-in_err-s : goal.returns-in_err-s
returns-in_err-s c =
    let left : Answer Told → Exit = λ x. record {
      reply = x;
      memory = record { clauses = c.args.clauses.now; values = c.args.values.now; trail = c.args.trail.now; choices = c.args.choices.now };
    } in
    ap left (handed_on _ _ c.from_residual.ensures.1 _ refl) ∙ sized_refusal _ _ _ _ _ _ _ _ c.in_err-s.ensures
