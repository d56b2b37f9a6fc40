use mathlib.Core.Path.{sym, ◌∙◌}
use Rattle.search.proofs.Solving.{solve_large, solve_word, solve_values, solve_trail, solve_fresh, solve_done}
use Rattle.search.proofs.solve.Goals as goal
use Rattle.search.proofs.solve.Goals.{then-values-k-via-then-values-k, then-values-k-via-else-values-k+then-trail-k}

pub returns-then-n-gt-MAX_VARIABLE : goal.returns-then-n-gt-MAX_VARIABLE
returns-then-n-gt-MAX_VARIABLE c =
    solve_large c.args.n c.args.words.now c.args.values.now c.args.trail.now c.args.budget c.if-n-gt-MAX_VARIABLE.true

pub returns-in-Some : goal.returns-in-Some
returns-in-Some c =
    solve_word c.args.n c.args.words.now c.args.values.now c.args.trail.now c.args.budget c.if-n-gt-MAX_VARIABLE.false (sym c.in-Some.is ∙ c.bad_word.ensures)

pub returns-then-values-k : goal.returns-then-values-k
returns-then-values-k c =
    elim c.then-values-k.branch [
      | then-values-k-via-then-values-k w ↦ solve_values c.args.n c.args.words.now c.args.values.now c.args.trail.now c.args.budget c.if-n-gt-MAX_VARIABLE.false (sym c.in_default.is ∙ c.bad_word.ensures) w.if-values-k.true
      | then-values-k-via-else-values-k+then-trail-k w ↦ solve_trail c.args.n c.args.words.now c.args.values.now c.args.trail.now c.args.budget c.if-n-gt-MAX_VARIABLE.false (sym c.in_default.is ∙ c.bad_word.ensures) w.if-values-k.false w.if-trail-k.true
    ]

pub search-requires : goal.search-requires
search-requires c =
    solve_fresh c.args.n c.args.words.now c.args.values.now c.args.trail.now c.args.budget c.if-n-gt-MAX_VARIABLE.false (sym c.in_default.is ∙ c.bad_word.ensures) c.if-values-k.false c.if-trail-k.false

pub returns : goal.returns
returns c =
    solve_done c.args.n c.args.words.now c.args.values.now c.args.trail.now c.args.budget c.if-n-gt-MAX_VARIABLE.false (sym c.in_default.is ∙ c.bad_word.ensures) c.if-values-k.false c.if-trail-k.false c.search.ensures
