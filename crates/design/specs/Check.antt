-- CHECK (document 01, "Turned-back calls"): a file is refused, by a number and a place, or accepted as a tree.
use Rattle.std.specs.Prelude.{ℕ, ◌+◌, ◌*◌, ◌-◌, Bool, false, cond, List, [], ◌∷◌, map, get_or, length, leb}
use Rattle.design.specs.Tree.{BoolExpr, constant_b, Cell, InvalidCell, Design, movers}
use Rattle.design.specs.Limits.{trailer_bytes, constrained, tail_bytes, length_right, version_right, counts_right, movers_right}
use Rattle.design.specs.Expression.{Names, int_op, bool_op, int_expr, bool_expr}
use Rattle.design.specs.Action.{stmt_op, assignment, statements, list_of, statement}
use Rattle.design.specs.Refusal.{Refusal}
use Rattle.design.specs.declared.shape.Shape.{Shape}
use Rattle.design.specs.declared.shape.Counts.{Counts}
use Rattle.design.specs.declared.shape.Offsets.{Offsets}
use Rattle.design.specs.DesignFile.{Item, item, Walk, give, need, ◌>>=◌, ◌>>◌, items, offset, Matrix, Entry, normal, invalid, at16, variable_at, matrix_at, event_at, events_from, cell_at, cells_from, invariant_at as invariant_item, constraint_at as constraint_item}

-- what an expression names in a file with so many variables and matrices; with a shape; with a trailer's counts. Only the constraint names the next state too.
abbrev pub names_in : List ℕ → ℕ → ℕ → Names
names_in file variables matrices = record { variables = variables; kind_of = λ v. get_or file (3 * v) 0; matrices = matrices; later = false }

abbrev pub names_of : List ℕ → Shape → Names
names_of file shape = names_in file shape.variables shape.matrices

abbrev pub names_by : List ℕ → Counts → Names
names_by file counts = names_in file counts.variables counts.matrices

pub data Checked : Type 0 where
  refused : ℕ → ℕ → Checked
  accepted : Design → Checked

abbrev pub normals : List Entry → List Cell
normals [] = []
normals (normal c ∷ es) = c ∷ normals es
normals (invalid p ∷ es) = normals es

abbrev pub invalids : List Entry → List InvalidCell
invalids [] = []
invalids (normal c ∷ es) = invalids es
invalids (invalid p ∷ es) = p ∷ invalids es

-- event e of matrix m
abbrev pub event_in : List (List BoolExpr) → ℕ → ℕ → BoolExpr
event_in rows m e = get_or (get_or rows m []) e (constant_b false)

-- the items in file order, with what the trailer and the u16 before it say of them: counts and offsets; they end at `end`
module _ (file : List ℕ) (end : ℕ) (counts : Counts) (offsets : Offsets) where
  unfoldable pub sections : Walk Design
  sections = do
    vs ← items (variable_at file end) counts.variables
    offset offsets.matrices
    ms ← items (matrix_at file end) counts.matrices
    offset offsets.events
    rows ← events_from file end (names_by file counts) offsets.matrices 0 counts.matrices
    offset offsets.cells
    es ← (λ at. cells_from file end (names_by file counts) offsets.matrices (event_in rows) counts.cells at at)
    offset offsets.invariant
    invariant ← invariant_item file end (names_by file counts) offsets.constraint
    constraint ← constraint_item file end (names_by file counts) offsets.constrained
    give (record {
      variables = vs;
      statuses = map (λ (m : Matrix). m.statuses) ms;
      cells = normals es;
      invalid = invalids es;
      invariant = invariant;
      constraint = constraint;
    })

module _ (file : List ℕ) where
  -- The last 16 bytes are the trailer, eight u16
  abbrev pub trailer : ℕ
  trailer = length file - trailer_bytes

  abbrev pub version : ℕ
  version = at16 file trailer

  -- "Version 2 has a u16 before the trailer: the offset of a constraint expression." Items end at the u16, or where there is none at the trailer.
  abbrev pub has_constraint : Bool
  has_constraint = constrained version

  abbrev pub items_end : ℕ
  items_end = length file - tail_bytes version

  -- "The invariant ends there"; where there is no constraint, at the items' end
  abbrev pub constraint_offset : ℕ
  constraint_offset = cond has_constraint (at16 file items_end) items_end

  abbrev pub variable_count : ℕ
  variable_count = at16 file (trailer + 2)

  abbrev pub matrices_offset : ℕ
  matrices_offset = at16 file (trailer + 4)

  abbrev pub matrix_count : ℕ
  matrix_count = at16 file (trailer + 6)

  abbrev pub events_offset : ℕ
  events_offset = at16 file (trailer + 8)

  abbrev pub cells_offset : ℕ
  cells_offset = at16 file (trailer + 10)

  abbrev pub cell_count : ℕ
  cell_count = at16 file (trailer + 12)

  abbrev pub invariant_offset : ℕ
  invariant_offset = at16 file (trailer + 14)

  abbrev pub trailer_counts : Counts
  trailer_counts = record { variables = variable_count; matrices = matrix_count; cells = cell_count }

  abbrev pub names : Names
  names = names_by file trailer_counts

  abbrev pub trailer_offsets : Offsets
  trailer_offsets = record { matrices = matrices_offset; events = events_offset; cells = cells_offset; invariant = invariant_offset; constraint = constraint_offset; constrained = has_constraint }

  abbrev pub body : Walk Design
  body = sections file items_end trailer_counts trailer_offsets

  -- last, the number of movers
  abbrev pub last : Item Design → Checked
  last (item d past) =
      cond (movers_right (length (movers d))) (accepted d) (Checked.refused 10 (length file))
  last (Item.refused number place) = Checked.refused number place

  -- "1 length under 16 or over 16,384 (place: length); 2 version, 3 a count (place of both: trailer). Then items in file order, place the item's first
  -- byte, the lower number first within an item: 4 a section not starting at its offset (place: the end of the one before), or an item passing the
  -- trailer; 5 variable; 6 matrix; 7 cell fields or order; 8 expression (unknown, ill-typed, naming nothing, too deep, not filling its length);
  -- 9 action, likewise. Last, 10: w is 0 or over 64 (place: length)." Numbers 4 to 9 stand in DesignFile, 10 in `last`. Document 02, R-1: "A version 2 file under
  -- 18 bytes is refusal 1." "an item passing the u16 is 4".
  unfoldable pub check : Checked
  check = last (
      need (length_right (length file)) 1 (length file)
      (need (leb (tail_bytes version) (length file)) 1 (length file)
      (need (version_right version) 2 trailer
      (need (counts_right variable_count matrix_count cell_count) 3 trailer
      (body 0)))))

-- of the whole, the refusal's number and place; 0 and 0 where it is accepted
abbrev pub refusal : Checked → Refusal
refusal (Checked.refused number place) = record { number = number; place = place }
refusal (accepted d) = record { number = 0; place = 0 }

-- Not part of CHECK: to unfold this is to unfold all that a check computes, for facts about given bytes.
unfoldable pub checking : ℕ
unfolding check sections int_op bool_op int_expr bool_expr stmt_op assignment statements list_of statement items variable_at matrix_at event_at events_from cell_at cells_from invariant_item constraint_item movers
checking = 0
