-- Document 01's numbers of Design A, from its bytes, by computation.
use Rattle.std.proofs.Common.{◌≡◌, ℕ, length, refl, arith}
use Rattle.design.specs.Check.{checking}
use Rattle.design.specs.DesignA.{bytes_a, piece_a, design_a, count}
use Rattle.design.specs.WellFormed.{WellFormed}
use Rattle.step.specs.Piece.{no_piece, piece_right}
use Rattle.step.specs.Property.{Property, invariant, property_of, PropertyOk}
use Rattle.step.specs.OneStep.{stepping}
use Rattle.step.specs.Gate.{gate}
use Rattle.clauses.specs.Formula.{F, encoding}
use Rattle.design.specs.Answer.{answer, on_design}
use Rattle.clauses.specs.Admission.{admit}
use Rattle.clauses.specs.Size.{Sizes, sizes_of, size}
use Rattle.clauses.specs.Theorem.{Model, Exactly}
use Rattle.clauses.proofs.Counting.{breakers, models}

-- property 0
abbrev invariant_a : Property
invariant_a = invariant design_a.invariant

-- "S=22, P=81, w=3, G=378, F=484."
abbrev sizes_a : ℕ → ℕ → ℕ → Sizes
sizes_a variables clauses words = record { state_bits = 22; property_gates = 81; movers = 3; step_gates = 378; variables = variables; clauses = clauses; words = words }

pub frame_a : F design_a invariant_a ≡ 484
unfolding design_a encoding
frame_a = refl

-- "Bound 0: n=104, 299 clauses."
pub size_a_0 : size bytes_a no_piece 0 0 ≡ answer (sizes_a 104 299 1050)
unfolding bytes_a checking encoding piece_right gate admit on_design sizes_of size
size_a_0 = refl

-- "Bound 3: n=1556, 5522 clauses."
pub size_a_3 : size bytes_a no_piece 0 3 ≡ answer (sizes_a 1556 5522 20550)
unfolding bytes_a checking encoding piece_right gate admit on_design sizes_of size
size_a_3 = refl

-- "Bound 3 has 1 model; bound 4 has 9."
well_formed_a : WellFormed design_a
unfolding design_a count encoding stepping
well_formed_a = record {
  narrow = omega arith;
  mark = record { inside = omega arith; behind = omega arith; width = refl };
  some_mover = omega arith;
  few_movers = omega arith;
  movers = omega arith;
  counts = omega arith;
  statuses = omega arith;
  invalid = omega arith;
  invariant = omega arith;
  constraint = omega arith;
  start = omega arith;
}

breakers_3 : length (breakers design_a invariant_a 3) ≡ 1
unfolding design_a count encoding stepping breakers
breakers_3 = refl

breakers_4 : length (breakers design_a invariant_a 4) ≡ 9
unfolding design_a count encoding stepping breakers
breakers_4 = refl

pub models_3 : Exactly (Model design_a invariant_a 3) 1
unfolding PropertyOk
models_3 = models design_a well_formed_a invariant_a well_formed_a.invariant 3 1 breakers_3

pub models_4 : Exactly (Model design_a invariant_a 4) 9
unfolding PropertyOk
models_4 = models design_a well_formed_a invariant_a well_formed_a.invariant 4 9 breakers_4

-- with the piece in the invariant's place: c is 1 after the choices 2, 0
abbrev lent_a : Property
lent_a = property_of bytes_a piece_a design_a 0

lent_ok : PropertyOk design_a lent_a
unfolding bytes_a piece_a design_a count checking encoding stepping PropertyOk
lent_ok = omega arith

breakers_lent : length (breakers design_a lent_a 2) ≡ 1
unfolding bytes_a piece_a design_a count checking encoding stepping breakers
breakers_lent = refl

pub models_lent : Exactly (Model design_a lent_a 2) 1
models_lent = models design_a well_formed_a lent_a lent_ok 2 1 breakers_lent
