use mathlib.Core.Path.{sym, ◌∙◌}
use native.Mathlib.Omega.{arith}
use Rattle.search.proofs.Refuting.{word_low, refute_large, refute_list, refute_refutation, refute_values, refute_two, refute_done}
use Rattle.search.proofs.refute.refute.Goals as goal

pub returns-then-n-gt-MAX_VARIABLE : goal.returns-then-n-gt-MAX_VARIABLE
returns-then-n-gt-MAX_VARIABLE c =
    refute_large c.args.n c.args.list.now c.args.refutation.now c.args.values.now c.if-n-gt-MAX_VARIABLE.true

pub returns-in-Some : goal.returns-in-Some
returns-in-Some c =
    refute_list c.args.n c.args.list.now c.args.refutation.now c.args.values.now c.if-n-gt-MAX_VARIABLE.false (sym c.in-Some.is ∙ c.bad_word.ensures)

pub overflow_add-result : goal.overflow_add-result
overflow_add-result c =
    omega (
      arith,
      word_low c.args.n c.args.refutation.now (sym c.in-Some-bad_word.is ∙ c.bad_word-2.ensures),
      c.well_formed.1.0.1,
      c.well_formed.1.1.0.1,
    )

pub returns-in-Some-bad_word : goal.returns-in-Some-bad_word
returns-in-Some-bad_word c =
    refute_refutation c.args.n c.args.list.now c.args.refutation.now c.args.values.now c.if-n-gt-MAX_VARIABLE.false (sym c.in_default.is ∙ c.bad_word.ensures) (sym c.in-Some-bad_word.is ∙ c.bad_word-2.ensures)

pub returns-then-values-k : goal.returns-then-values-k
returns-then-values-k c =
    refute_values c.args.n c.args.list.now c.args.refutation.now c.args.values.now c.if-n-gt-MAX_VARIABLE.false (sym c.in_default.is ∙ c.bad_word.ensures) (sym c.in_default-bad_word.is ∙ c.bad_word-2.ensures) c.if-values-k.true

pub judge-requires : goal.judge-requires
judge-requires c =
    refute_two c.args.n c.args.list.now c.args.refutation.now c.args.values.now c.if-n-gt-MAX_VARIABLE.false (sym c.in_default.is ∙ c.bad_word.ensures) (sym c.in_default-bad_word.is ∙ c.bad_word-2.ensures) c.if-values-k.false

pub returns : goal.returns
returns c =
    refute_done c.args.n c.args.list.now c.args.refutation.now c.args.values.now c.if-n-gt-MAX_VARIABLE.false
    (sym c.in_default.is ∙ c.bad_word.ensures) (sym c.in_default-bad_word.is ∙ c.bad_word-2.ensures) c.if-values-k.false c.judge.ensures.0 c.judge.ensures.1
