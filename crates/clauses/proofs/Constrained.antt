-- The designs with a constraint, property 2: how many models small bounds have.
use Rattle.std.proofs.Common.{◌≡◌, length, refl, arith}
use Rattle.design.specs.DesignA.{design_a, count}
use Rattle.design.specs.Constrained.{design_moved, design_no_idle}
use Rattle.design.specs.WellFormed.{WellFormed}
use Rattle.step.specs.Property.{constraint, PropertyOk}
use Rattle.step.specs.OneStep.{stepping}
use Rattle.clauses.specs.Formula.{encoding}
use Rattle.clauses.specs.Theorem.{Model, Exactly}
use Rattle.clauses.proofs.Counting.{breakers, models}

well_formed_moved : WellFormed design_moved
unfolding design_a design_moved count encoding stepping
well_formed_moved = record {
  narrow = omega arith;
  mark = record { inside = omega arith; behind = omega arith; width = refl };
  some_mover = omega arith;
  few_movers = omega arith;
  movers = omega arith;
  counts = omega arith;
  statuses = omega arith;
  invalid = omega arith;
  invariant = omega arith;
  constraint = omega arith;
  start = omega arith;
}

breakers_moved : length (breakers design_moved (constraint design_moved.constraint) 3) ≡ 1
unfolding design_a design_moved count encoding stepping breakers
breakers_moved = refl

pub models_moved : Exactly (Model design_moved (constraint design_moved.constraint) 3) 1
unfolding PropertyOk
models_moved = models design_moved well_formed_moved (constraint design_moved.constraint) well_formed_moved.constraint 3 1 breakers_moved

well_formed_no_idle : WellFormed design_no_idle
unfolding design_no_idle count encoding stepping
well_formed_no_idle = record {
  narrow = omega arith;
  mark = record { inside = omega arith; behind = omega arith; width = refl };
  some_mover = omega arith;
  few_movers = omega arith;
  movers = omega arith;
  counts = omega arith;
  statuses = omega arith;
  invalid = omega arith;
  invariant = omega arith;
  constraint = omega arith;
  start = omega arith;
}

breakers_no_idle : length (breakers design_no_idle (constraint design_no_idle.constraint) 2) ≡ 3
unfolding design_no_idle count encoding stepping breakers
breakers_no_idle = refl

pub models_no_idle : Exactly (Model design_no_idle (constraint design_no_idle.constraint) 2) 3
unfolding PropertyOk
models_no_idle = models design_no_idle well_formed_no_idle (constraint design_no_idle.constraint) well_formed_no_idle.constraint 2 3 breakers_no_idle
