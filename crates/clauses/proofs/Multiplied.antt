-- The design with products (document 02, R-2), by computation: its numbers, what breaks its invariant, and how many models small bounds have. Each of its two products has
-- 1,280 gates: the invariant's in every frame, the step's in every frame but the last. The step's marks (document 02, R-5) by 162 gates more.
use Rattle.std.proofs.Common.{◌≡◌, true, false, [], ◌∷◌, length, replicate, refl, arith}
use mathlib.Core.Option.{none, some}
use Rattle.design.specs.State.{start}
use Rattle.design.specs.Multiplied.{design_multiplied}
use Rattle.design.specs.WellFormed.{WellFormed}
use Rattle.step.specs.Property.{Property, invariant, no_invalid_cell, PropertyOk}
use Rattle.step.specs.OneStep.{breaks_at, breaks, stepping}
use Rattle.step.specs.Operations.{first_break}
use Rattle.clauses.specs.Formula.{S, P, w, G, F, n, formula, encoding}
use Rattle.clauses.specs.Theorem.{Model, Exactly}
use Rattle.clauses.proofs.Counting.{breakers, models}

-- property 0
abbrev invariant_multiplied : Property
invariant_multiplied = invariant design_multiplied.invariant

pub frame_multiplied : (S design_multiplied ≡ 21) × (P design_multiplied invariant_multiplied ≡ 1361) × (w design_multiplied ≡ 1)
    × (G design_multiplied invariant_multiplied ≡ 1497) × (F design_multiplied invariant_multiplied ≡ 2880)
unfolding design_multiplied encoding
frame_multiplied = (refl, refl, refl, refl, refl)

-- property 1, of no invalid cell: the and alone
pub frame_multiplied_1 : (S design_multiplied ≡ 21) × (P design_multiplied no_invalid_cell ≡ 1) × (w design_multiplied ≡ 1) × (G design_multiplied no_invalid_cell ≡ 1497) × (F design_multiplied no_invalid_cell ≡ 1520)
unfolding design_multiplied encoding
frame_multiplied_1 = (refl, refl, refl, refl, refl)

-- v is 19,683 after 9 choices, and 3 times that is past the end
pub broken_multiplied_1 : (breaks_at design_multiplied no_invalid_cell (replicate 10 0) 10 ≡ true) × (first_break design_multiplied no_invalid_cell none (start design_multiplied) (replicate 10 0) 0 ≡ some 10)
unfolding design_multiplied stepping first_break
broken_multiplied_1 = (refl, refl)

pub bound_multiplied_0 : (n design_multiplied invariant_multiplied 0 ≡ 1383) × (length (formula design_multiplied invariant_multiplied 0) ≡ 4650)
unfolding design_multiplied encoding
bound_multiplied_0 = (refl, refl)

pub bound_multiplied_2 : (n design_multiplied invariant_multiplied 2 ≡ 7143) × (length (formula design_multiplied invariant_multiplied 2) ≡ 24198)
unfolding design_multiplied encoding
bound_multiplied_2 = (refl, refl)

-- v is 1, 3 and 9; -20 < -3, -20 < -9, and not -20 < -27
pub broken_multiplied : (breaks_at design_multiplied invariant_multiplied (0 ∷ 0 ∷ []) 2 ≡ true)
    × (first_break design_multiplied invariant_multiplied none (start design_multiplied) (0 ∷ 0 ∷ []) 0 ≡ some 2)
unfolding design_multiplied stepping first_break
broken_multiplied = (refl, refl)

pub never_multiplied : breaks design_multiplied invariant_multiplied (0 ∷ []) ≡ false
unfolding design_multiplied stepping
never_multiplied = refl

well_formed_multiplied : WellFormed design_multiplied
unfolding design_multiplied encoding stepping
well_formed_multiplied = record {
  narrow = omega arith;
  mark = record { inside = omega arith; behind = omega arith; width = refl };
  some_mover = omega arith;
  few_movers = omega arith;
  movers = omega arith;
  counts = omega arith;
  statuses = omega arith;
  invalid = omega arith;
  invariant = omega arith;
  constraint = omega arith;
  start = omega arith;
}

breakers_1 : length (breakers design_multiplied invariant_multiplied 1) ≡ 0
unfolding design_multiplied encoding stepping breakers
breakers_1 = refl

breakers_2 : length (breakers design_multiplied invariant_multiplied 2) ≡ 1
unfolding design_multiplied encoding stepping breakers
breakers_2 = refl

pub models_multiplied_1 : Exactly (Model design_multiplied invariant_multiplied 1) 0
unfolding PropertyOk
models_multiplied_1 = models design_multiplied well_formed_multiplied invariant_multiplied well_formed_multiplied.invariant 1 0 breakers_1

pub models_multiplied_2 : Exactly (Model design_multiplied invariant_multiplied 2) 1
unfolding PropertyOk
models_multiplied_2 = models design_multiplied well_formed_multiplied invariant_multiplied well_formed_multiplied.invariant 2 1 breakers_2
