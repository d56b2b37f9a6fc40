use Rattle.std.proofs.Common.{◌<◌, ◌≤◌, List, ℕ, ◌++◌, drop, ap, arith, length-take-le}
use Rattle.clauses.proofs.FlagChoices.{writing_start, writing_on, writing_end}
use Rattle.clauses.proofs.decode.write_choices.Goals as goal

pub loop-choice-init : goal.loop-choice-init
loop-choice-init c = writing_start _ _ _ _ _ _ c.requires.0 (length-take-le c.args.k c.args.choices.now c.requires.3)

pub loop-choice-preserved : goal.loop-choice-preserved
loop-choice-preserved c =
    let l : c.loop-choice.choice-index < c.args.k = omega (arith, c.loop-choice-test.true, c.loop-choice.invariant.long) in
    writing_on _ _ _ _ _ _ _ _ _ _ l c.loop-choice.invariant c.requires.1 c.chosen.ensures c.unwrap_or.ensures

pub returns : goal.returns
returns c =
    let l : c.args.k ≤ c.loop-choice.choice-index = omega (arith, c.loop-choice-test.false, length-take-le c.args.k c.args.choices.now c.requires.3) in
    ap (λ (xs : List ℕ). xs ++ drop c.args.k c.args.choices.now) (writing_end _ _ _ _ _ _ _ _ l c.loop-choice.invariant)
