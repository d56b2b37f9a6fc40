use native.Mathlib.Omega.{arith}
use mathlib.Core.Path.{refl, ap, ◌∙◌}
use mathlib.Core.List.{map}
use Rattle.verdict.specs.Answers.{OwnersExit}
use Rattle.design.specs.Refusal.{Refusal}
use Rattle.design.proofs.Told.{turned_on}
use Rattle.step.proofs.Gates.{some_number}
use Rattle.verdict.proofs.OwnersCall.{owners_check, owners_20, owners_each}
use Rattle.verdict.proofs.owners.owners.Goals as goal

pub returns-in_err-check : goal.returns-in_err-check
returns-in_err-check c =
    let left : Refusal → OwnersExit = λ x. record {
      refusal = x;
      buffers = record { clauses = c.args.clauses.now; values = c.args.values.now; trail = c.args.trail.now };
      choices = map (λ y. y.now) c.args.choices.now;
      pointers = map (λ y. y.ref_ptr) c.args.choices.now;
      answers = c.args.answers.now;
    } in
    ap left (turned_on _ _ c.from_residual.ensures.1 _ refl) ∙ owners_check _ _ _ _ _ _ _ _ _ _ c.in_err-check.ensures (some_number _)

pub returns-then-count-eq0 : goal.returns-then-count-eq0
returns-then-count-eq0 c = owners_20 _ _ _ _ _ _ _ _ _ _ c.in_ok-check.ensures refl (λ a b. omega (arith, c.if-count-eq0.true))

pub returns-then-count : goal.returns-then-count
returns-then-count c = owners_20 _ _ _ _ _ _ _ _ _ _ c.in_ok-check.ensures refl (λ a b. omega (arith, c.if-count.true))

pub returns : goal.returns
returns c =
    owners_each _ _ _ _ _ _ _ _ _ _ c.in_ok-check.ensures refl (omega (arith, c.if-count-eq0.false)) (omega (arith, c.if-count.false))
    c.each_owner.ensures
