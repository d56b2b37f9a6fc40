-- The design for counters that pass the end (document 02, R-5), by computation: its numbers, what breaks, and how many models a small bound has.
use Rattle.std.proofs.Common.{◌≡◌, length, refl, arith}
use Rattle.design.specs.Passing.{design_passing, wraps_below}
use Rattle.design.specs.WellFormed.{WellFormed}
use Rattle.step.specs.Property.{Property, invariant, constraint, PropertyOk}
use Rattle.step.specs.OneStep.{stepping}
use Rattle.clauses.specs.Formula.{S, P, w, G, F, encoding}
use Rattle.clauses.specs.Theorem.{Model, Exactly}
use Rattle.clauses.proofs.Counting.{breakers, models}

-- properties 0 and 2
abbrev invariant_passing : Property
invariant_passing = invariant design_passing.invariant

abbrev constraint_passing : Property
constraint_passing = constraint design_passing.constraint

-- The invariant's sum has no gates more, and its less 80: 160, and the and. Cell 0 has two such tests, 376 gates in all; the others' sums mark, by 2 gates each: 240, 220, 241.
pub frame_passing : (S design_passing ≡ 22) × (P design_passing invariant_passing ≡ 161) × (w design_passing ≡ 4) × (G design_passing invariant_passing ≡ 1077) × (F design_passing invariant_passing ≡ 1264)
unfolding design_passing wraps_below encoding
frame_passing = (refl, refl, refl, refl, refl)

-- of property 2 the and is among the step's gates
pub frame_passing_2 : (S design_passing ≡ 22) × (P design_passing constraint_passing ≡ 0) × (w design_passing ≡ 4) × (G design_passing constraint_passing ≡ 1078) × (F design_passing constraint_passing ≡ 1104)
unfolding design_passing wraps_below encoding
frame_passing_2 = (refl, refl, refl, refl, refl)

well_formed_passing : WellFormed design_passing
unfolding design_passing wraps_below encoding stepping
well_formed_passing = record {
  narrow = omega arith;
  mark = record { inside = omega arith; behind = omega arith; width = refl };
  some_mover = omega arith;
  few_movers = omega arith;
  movers = (omega arith, (omega arith, (omega arith, (omega arith, tt))));
  counts = omega arith;
  statuses = omega arith;
  invalid = omega arith;
  invariant = omega arith;
  constraint = omega arith;
  start = omega arith;
}

-- choices 2 and 3
breakers_passing : length (breakers design_passing invariant_passing 1) ≡ 2
unfolding design_passing wraps_below encoding stepping breakers
breakers_passing = refl

pub models_passing : Exactly (Model design_passing invariant_passing 1) 2
unfolding PropertyOk
models_passing = models design_passing well_formed_passing invariant_passing well_formed_passing.invariant 1 2 breakers_passing
