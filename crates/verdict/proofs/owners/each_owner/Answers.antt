use native.Mathlib.Omega.{arith}
use mathlib.Core.Path.{refl}
use Rattle.verdict.proofs.OwnersLoop.{so_far_start, so_far_next, so_far_end}
use Rattle.verdict.proofs.owners.each_owner.Goals as goal

pub loop-i-init : goal.loop-i-init
loop-i-init c = so_far_start _ _ _ _ _ _ _ _ c.requires

pub bounds-pieces-i : goal.bounds-pieces-i
bounds-pieces-i c = omega (arith, c.loop-i-test.true, c.loop-i.invariant.counted.has_pieces)

pub bounds-choices-i : goal.bounds-choices-i
bounds-choices-i c =
    omega (arith, c.loop-i-test.true, c.loop-i.invariant.counted.has_choices, c.loop-i.invariant.choices_long)

pub bounds-answers-i : goal.bounds-answers-i
bounds-answers-i c =
    omega (arith, c.loop-i-test.true, c.loop-i.invariant.counted.has_answers, c.loop-i.invariant.answers_long)

pub loop-i-preserved : goal.loop-i-preserved
loop-i-preserved c =
    so_far_next _ _ _ _ _ _ _ _ c.loop-i.invariant c.loop-i-test.true _ refl _ refl c.one_owner-r.ensures _ refl refl _ c.told_words.ensures (record {
      clauses = c.one_owner-r.auto.clauses;
      values = c.one_owner-r.auto.values;
      trail = c.one_owner-r.auto.trail;
    })

pub shape_of-clauses : goal.shape_of-clauses
shape_of-clauses c = c.loop-i.invariant.lengths.clauses

pub shape_of-values : goal.shape_of-values
shape_of-values c = c.loop-i.invariant.lengths.values

pub shape_of-trail : goal.shape_of-trail
shape_of-trail c = c.loop-i.invariant.lengths.trail

pub shape_of-choices : goal.shape_of-choices
shape_of-choices c = c.loop-i.invariant.choices_long

pub shape_of-answers : goal.shape_of-answers
shape_of-answers c = c.loop-i.invariant.answers_long

pub returns : goal.returns
returns c = so_far_end _ _ _ _ _ _ _ _ c.loop-i.invariant c.loop-i-test.false
