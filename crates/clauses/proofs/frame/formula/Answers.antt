use Rattle.std.proofs.Common.{arith}
use Rattle.clauses.proofs.FrameNumbers.{formula_same, clauses_sum, words_sum}
use Rattle.clauses.proofs.frame.formula.Goals as goal

pub overflow_add-result-8 : goal.overflow_add-result-8
overflow_add-result-8 c =
    omega (arith, c.times-3.ensures.1, c.times-4.ensures.1, c.requires.0.bits, c.requires.0.last, c.requires.1)

pub overflow_add-result-9 : goal.overflow_add-result-9
overflow_add-result-9 c =
    omega (arith, c.times-3.ensures.1, c.times-4.ensures.1, c.requires.0.bits, c.requires.0.last, c.requires.1)

pub overflow_add-result-10 : goal.overflow_add-result-10
overflow_add-result-10 c =
    omega (arith, c.times-3.ensures.1, c.times-4.ensures.1, c.requires.0.bits, c.requires.0.last, c.requires.1)

pub returns : goal.returns
returns c =
    let s = c.args.s in
    formula_same s _ _ _ _ c.variables.ensures.0 (clauses_sum s _ _ _ _ c.times-2.ensures.0 c.times.ensures.0 c.step_clauses.ensures.0) (words_sum s _ _ _ _ c.times-4.ensures.0 c.times-3.ensures.0 c.step_words.ensures.0)
