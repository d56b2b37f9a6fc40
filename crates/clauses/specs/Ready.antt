-- What the functions over an accepted file are given, its shape and its table of events, and what those for cells and movers write.
use Rattle.std.specs.Prelude.{◌≡◌, ℕ, ◌+◌, ◌<◌, ◌≤◌, true, List, [], ◌∷◌, ◌++◌, map, length, take, drop, ℤ, slice_index}
use Rattle.design.specs.Tree.{BoolExpr, Variable, InvalidCell, Design, Mover, movers}
use Rattle.design.specs.State.{width}
use Rattle.design.specs.DesignFile.{c_kind, c_matrix, c_status, c_event}
use Rattle.design.specs.Check.{Checked, check}
use Rattle.design.specs.Places.{Accepted, Measured, Shaped, StateBits, EventsIndexed, CellsIndexed, externals_from}
use Rattle.design.specs.Sections.{Parts}
use Rattle.design.specs.declared.shape.Shape.{Shape}
use Rattle.step.specs.Piece.{piece_right}
use Rattle.step.specs.Property.{Property, invariant, no_invalid_cell, constraint, property_of}
use Rattle.clauses.specs.Literal.{Literal, positive, true_literal}
use Rattle.clauses.specs.Words.{words}
use Rattle.clauses.specs.Formula.{total, variables_from, slots_from, flat, initial_units, ties, all_ties, property!, step_property!, state_at, property_at, step_property_at, property_literal, S, P, F, n, frame, step_clauses, frame_part, last_clause, part, formula}
use Rattle.clauses.specs.Expression.{Slots, test! }
use Rattle.clauses.specs.Action.{status_and_event!, enable!, mover!, movers!, no_invalid! }
use Rattle.clauses.specs.Limits.{last_variable}
use Rattle.clauses.specs.Writing.{variable_limit, from_code, Puts}
use Rattle.clauses.specs.Builders.{link! }
use Rattle.clauses.specs.FlatState.{widths_in, layout_of, cut, slots_of}
use Rattle.clauses.specs.Encoders.{Gives, Writes}
use Rattle.clauses.specs.FrameSizes.{frame_sizes, SmallFrame, variables_of}
use Rattle.step.specs.Limits.{last_property, max_bound}
use Rattle.clauses.specs.declared.gate.Cursor.{Cursor}
use Rattle.clauses.specs.declared.gate.Out.{Out}
use Rattle.clauses.specs.declared.frame.FrameSizes.{FrameSizes}
use Rattle.clauses.specs.declared.instance.Instance.{Instance}

-- an accepted file with its shape, and with its table of events
pub record ShapedFile (file : List ℕ) (shape : Shape) : Type 0 where
  pub accepted : Accepted file
  pub counts : Shaped file shape
  pub externals : shape.externals ≡ length (externals_from file 0 shape.variables)
  pub bits : StateBits file shape

pub record Ready (file table : List ℕ) (shape : Shape) : Type 0 where
  pub shaped : ShapedFile file shape
  pub events : EventsIndexed file table

-- a mover's result: the variables of its muxes, from its first mux on
unfoldable pub result_from : List ℕ → Shape → ℕ → Slots
result_from file shape v = cut (widths_in file shape) (variables_from v (total (widths_in file shape)))

-- What the functions for cells and movers write. `codes` are the state's literals, `f` finds the event that a cell names.
module _ (file : List ℕ) (shape : Shape) (codes : List ℕ) where
  abbrev pub BoolGates : BoolExpr → Cursor → List ℤ → List ℤ → Out ℕ → Type 0
  BoolGates e pen xs ys r = Gives pen (test! (layout_of shape) (slots_of file shape codes) e) xs ys r

  abbrev pub CellGates : ℕ → (ℕ → ℕ → BoolExpr) → Cursor → List ℤ → List ℤ → Out ℕ → Type 0
  CellGates p f pen xs ys r = Gives pen (status_and_event! (layout_of shape) (slots_of file shape codes) (c_matrix file p) (c_status file p) (f (c_matrix file p) (c_event file p))) xs ys r

  abbrev pub EnableGates : Mover → Cursor → List ℤ → List ℤ → Out ℕ → Type 0
  EnableGates m pen xs ys r = Gives pen (enable! (layout_of shape) (slots_of file shape codes) m) xs ys r

  abbrev pub Moves : Mover → Cursor → List ℤ → List ℤ → Out ℕ → Type 0
  Moves m pen xs ys r = Writes pen (mover! (layout_of shape) (slots_of file shape codes) m) xs ys (result_from file shape r.value) r.pen

  abbrev pub AllMove : Cursor → List ℤ → List ℤ → Out (List ℕ) → Type 0
  AllMove pen xs ys r =
      (d : Design) (parts : Parts file d) → Writes pen (movers! (layout_of shape) (slots_of file shape codes) (movers d)) xs ys (map (result_from file shape) (take (shape.normals + shape.externals) r.value)) r.pen

  -- a cell's link of property 1's chain, the chain, and a property
  abbrev pub LinkGates : ℕ → (ℕ → ℕ → BoolExpr) → Out ℕ → List ℤ → List ℤ → Out ℕ → Type 0
  LinkGates p f chain xs ys r =
      Gives chain.pen
      (link! (layout_of shape) (slots_of file shape codes) (from_code chain.value) (c_kind file p) (c_matrix file p) (c_status file p) (f (c_matrix file p) (c_event file p))) xs ys r

  abbrev pub InvalidGates : List InvalidCell → Cursor → List ℤ → List ℤ → Out ℕ → Type 0
  InvalidGates cs pen xs ys r = Gives pen (no_invalid! (layout_of shape) (slots_of file shape codes) true_literal cs) xs ys r

  abbrev pub PropertyGates : Design → Property → Cursor → List ℤ → List ℤ → Out ℕ → Type 0
  PropertyGates d q pen xs ys r = Gives pen (property! d q (slots_of file shape codes)) xs ys r

-- property 2 in a step, of the state whose first variable is v and the next one's, which starts at `after`
abbrev pub StepPropertyGates : Design → Property → ℕ → ℕ → Cursor → List ℤ → List ℤ → Out ℕ → Type 0
StepPropertyGates d q v after pen xs ys r =
    v + S d ≤ variable_limit → after + S d ≤ variable_limit → Gives pen (step_property! d q (state_at d v) (state_at d after)) xs ys r

-- the property's literal in the frame whose first variable is v (`property_literal_in`), and that its variables are within the limit
abbrev pub property_literal_at : Design → Property → ℕ → Literal
property_literal_at d q v = property_literal q (property_at d q v).out (step_property_at d q v (state_at d (v + F d q))).out

abbrev pub PropertyLiteralFits : Design → Property → ℕ → Type 0
PropertyLiteralFits d (invariant e) v = v + S d + P d (invariant e) ≤ variable_limit
PropertyLiteralFits d no_invalid_cell v = v + S d + P d no_invalid_cell ≤ variable_limit
PropertyLiteralFits d (constraint e) v = v + F d (constraint e) + S d ≤ variable_limit

-- The ties of one mover, whose flag is f, and of all: results from r on, or from the variable that `firsts` has, and n bits from b on.
module _ (n b : ℕ) (xs ys : List ℤ) (cur cur' : ℕ) where
  abbrev pub TiesPut : ℕ → ℕ → Type 0
  TiesPut f r = f + 1 ≤ variable_limit → r + n ≤ variable_limit → b + n ≤ variable_limit → Puts (words (ties (positive f) (variables_from r n) (variables_from b n))) xs ys cur cur'

  -- R names a result by its first variable
  abbrev pub AllTiesPut : ℕ → ℕ → List ℕ → Type 0
  AllTiesPut f all firsts =
      f + all ≤ variable_limit → b + n ≤ variable_limit → ((k : ℕ) → k < all → slice_index firsts k + n ≤ variable_limit) → (R : ℕ → Slots) → ((v : ℕ) → flat (R v) ≡ variables_from v n)
      → Puts (words (all_ties (variables_from f all) (map R (take all firsts)) (variables_from b n))) xs ys cur cur'

-- What the writer of the first part puts: the units of the variables' initial values.
abbrev pub ValuesPut : List ℕ → List ℤ → List ℤ → ℕ → ℕ → Type 0
ValuesPut file xs ys cur cur' =
    (d : Design) (parts : Parts file d) → Puts (words (initial_units (slots_from 2 (map (λ (x : Variable). width x.kind) d.variables)) (map (λ (x : Variable). x.initial) d.variables))) xs ys cur cur'

-- What the writers of the other parts put: the step out of frame j whose first variable is v, and the last clause.
module _ (file piece : List ℕ) (xs ys : List ℤ) (cur cur' : ℕ) where
  abbrev pub StepPut : Instance → ℕ → Type 0
  StepPut z v =
      (d : Design) (j : ℕ) → check file ≡ Checked.accepted d → z.sizes ≡ frame_sizes d (property_of file piece d z.property) → j < z.bound → v ≡ frame d (property_of file piece d z.property) j
      → Puts (words (step_clauses d (property_of file piece d z.property) j)) xs ys cur cur'

  abbrev pub LastPut : ℕ → ℕ → FrameSizes → Type 0
  LastPut p k s = (d : Design) → check file ≡ Checked.accepted d → s ≡ frame_sizes d (property_of file piece d p) → Puts (words (last_clause d (property_of file piece d p) k ∷ [])) xs ys cur cur'

  -- a frame's part, any part, and all, of the formula that is written
  abbrev pub FramePut : Instance → ℕ → Type 0
  FramePut z j = (d : Design) → check file ≡ Checked.accepted d → z.sizes ≡ frame_sizes d (property_of file piece d z.property) → Puts (words (frame_part d (property_of file piece d z.property) z.bound j)) xs ys cur cur'

  abbrev pub PartPut : Instance → ℕ → Type 0
  PartPut z i = (d : Design) → check file ≡ Checked.accepted d → z.sizes ≡ frame_sizes d (property_of file piece d z.property) → Puts (words (part d (property_of file piece d z.property) z.bound i)) xs ys cur cur'

  abbrev pub FormulaPut : Instance → Type 0
  FormulaPut z = (d : Design) → check file ≡ Checked.accepted d → z.sizes ≡ frame_sizes d (property_of file piece d z.property) → Puts (words (formula d (property_of file piece d z.property) z.bound)) xs ys cur cur'

-- a formula that may be written: its bound is not too high, and n is not, which the calls have tested (19)
pub record SmallFormula (s : FrameSizes) (k : ℕ) : Type 0 where
  pub sizes : SmallFrame s
  pub bound : k ≤ max_bound
  pub numbers : variables_of s k ≤ last_variable

-- what the writer of parts is given beside the file with its events and its shape: the table of its cells, and that the formula may be written
pub record FormulaReady (file : List ℕ) (shape : Shape) (z : Instance) : Type 0 where
  pub normals : CellsIndexed file z.cells shape.normals
  pub small : SmallFormula z.sizes z.bound
  pub movers : z.sizes.movers ≡ shape.normals + shape.externals

-- an instance of an accepted file with its shape: where its normal cells stand, and what is asked
pub record Instanced (file : List ℕ) (shape : Shape) (s : FrameSizes) (p k : ℕ) (z : Instance) : Type 0 where
  pub count : ℕ
  pub indexed : CellsIndexed file z.cells count
  pub measured : Measured file count shape
  pub asked : z ≡ record { cells = z.cells; sizes = s; property = p; bound = k }

-- what a call about a formula has tested (`admit`), and the sizes of a frame
pub record Admitted (file piece : List ℕ) (p k : ℕ) (s : FrameSizes) : Type 0 where
  pub accepted : Accepted file
  pub property : p ≤ last_property file
  pub right : piece_right file piece p ≡ true
  pub small : SmallFormula s k
  pub sizes : (d : Design) → check file ≡ Checked.accepted d → s ≡ frame_sizes d (property_of file piece d p)

-- What writing the whole formula for a bound asks for, and what it leaves: the words at the buffer's front, with the numbers of words and variables.
pub record Writable (file piece : List ℕ) (p k : ℕ) (buffer : List ℤ) : Type 0 where
  pub design : Design
  pub accepted : check file ≡ Checked.accepted design
  pub property : p ≤ last_property file
  pub right : piece_right file piece p ≡ true
  pub bound : k ≤ max_bound
  pub numbers : n design (property_of file piece design p) k ≤ last_variable
  pub room : length (words (formula design (property_of file piece design p) k)) ≤ length buffer

pub record Written (d : Design) (q : Property) (k : ℕ) (before after : List ℤ) (count variables : ℕ) : Type 0 where
  pub counted : count ≡ length (words (formula d q k))
  pub numbered : variables ≡ n d q k
  pub written : after ≡ words (formula d q k) ++ drop (length (words (formula d q k))) before
