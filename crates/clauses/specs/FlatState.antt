-- The state's literals in code: one flat list of codes, slot by slot, low first. The slots' widths are those that the file's variables say.
use Rattle.std.specs.Prelude.{◌≡◌, ℕ, ◌+◌, ◌*◌, ◌≤◌, Bool, true, false, List, [], ◌∷◌, ◌++◌, length, take, drop}
use Rattle.design.specs.Limits.{max_variables, max_matrices, max_bits}
use Rattle.design.specs.Reading.{Read, got}
pub use Rattle.design.specs.State.{layout_of}
unfoldable pub use Rattle.design.specs.State.{widths_from, widths_of}
use Rattle.design.specs.declared.shape.Shape.{Shape}
use Rattle.clauses.specs.Circuit.{Bits}
use Rattle.clauses.specs.Expression.{Slots}
use Rattle.clauses.specs.Formula.{total}
use Rattle.clauses.specs.Writing.{from_codes}

-- of the variables and matrices that a shape counts
abbrev pub widths_in : List ℕ → Shape → List ℕ
widths_in file shape = widths_of file shape.variables shape.matrices

-- a flat list cut into slots of given widths
unfoldable pub cut : List ℕ → Bits → Slots
cut [] xs = []
cut (w ∷ ws) xs = take w xs ∷ cut ws (drop w xs)

unfoldable pub slots_of : List ℕ → Shape → List ℕ → Slots
slots_of file shape codes = cut (widths_in file shape) (from_codes codes)

-- What an expression reads: a state, or where it may read the next state too (`later`) two of them, one behind the other.
abbrev pub read_widths : Bool → List ℕ → Shape → List ℕ
read_widths false file shape = widths_in file shape
read_widths true file shape = widths_in file shape ++ widths_in file shape

abbrev pub read_slots : Bool → List ℕ → Shape → List ℕ → Slots
read_slots false file shape codes = slots_of file shape codes
read_slots true file shape codes = cut (widths_in file shape ++ widths_in file shape) (from_codes codes)

-- codes over what stood at a position
unfoldable pub over : ℕ → List ℕ → List ℕ → List ℕ
over at ws xs = take at xs ++ (ws ++ drop (at + length ws) xs)

-- what functions on the state's literals rely on: the variables lie in the file, and the literals are there
pub record Slotted (later : Bool) (file : List ℕ) (shape : Shape) (codes : List ℕ) : Type 0 where
  pub kinds : 3 * shape.variables ≤ length file
  pub variables : shape.variables ≤ max_variables
  pub matrices : shape.matrices ≤ max_matrices
  pub sum : shape.bits ≡ total (widths_in file shape)
  pub few : shape.bits ≤ max_bits
  pub bits : total (read_widths later file shape) ≤ length codes

-- the reader accepts
pub record Reads {A : Type 0} (r : Read A) : Type 0 where
  pub tree : A
  pub past : ℕ
  pub reads : r ≡ got tree past
