-- What an accepted file is made of: where its sections and items stand, and what was read there.
use Rattle.std.specs.Prelude.{◌≡◌, true, ◌&&◌, List, [], ◌∷◌, map, ℕ, ◌+◌, ◌<◌, ◌≤◌, length, get_or}
use Rattle.design.specs.Tree.{BoolExpr, Cell, InvalidCell, Design}
use Rattle.design.specs.Limits.{max_depth, max_nest}
use Rattle.design.specs.Reading.{got}
use Rattle.design.specs.Expression.{Names, bool_expr}
use Rattle.design.specs.Action.{list}
use Rattle.design.specs.DesignFile.{item, Walk, Matrix, Entry, normal, invalid, variable_at, matrix_at, event_at, invariant_at, constraint_at, cell_at, fields, ordered, guard, statuses, events, c_matrix, c_status, c_event, c_kind, c_target, c_guard, c_middle, c_past}
use Rattle.design.specs.Check.{event_in, normals, invalids, items_end, has_constraint, constraint_offset, variable_count, matrices_offset, matrix_count, events_offset, cells_offset, cell_count, invariant_offset, names}

-- items that follow one another, each found by the walk
abbrev pub Run : {A : Type 0} → Walk A → ℕ → List A → ℕ → Type 0
Run one at [] past = at ≡ past
Run one at (x ∷ xs) past = (n : ℕ) × (one at ≡ item x n) × Run one n xs past

-- what was passed, by its bytes
module _ (file : List ℕ) (end : ℕ) where
  -- an event: its expression fills its length
  pub record EventRead (N : Names) (at : ℕ) (x : BoolExpr) (n : ℕ) : Type 0 where
    pub past : n ≡ at + 1 + get_or file at 0
    pub inside : n ≤ end
    pub reads : bool_expr file N n max_depth (at + 1) ≡ got x n

  module _ (N : Names) (M : ℕ) (f : ℕ → ℕ → BoolExpr) where
    -- a cell
    pub record NormalRead (at : ℕ) (c : Cell) : Type 0 where
      pub matrix : c.matrix ≡ c_matrix file at
      pub status : c.status ≡ c_status file at
      pub event : c.event ≡ f (c_matrix file at) (c_event file at)
      pub target : c.target ≡ c_target file at
      pub guard : guard file end N at (c_guard file at) ≡ item c.guard (c_middle file at)
      pub action : list file N (c_past file at) max_nest (c_middle file at) ≡ got c.action (c_past file at)

    pub record InvalidRead (at : ℕ) (p : InvalidCell) : Type 0 where
      pub matrix : p.matrix ≡ c_matrix file at
      pub status : p.status ≡ c_status file at
      pub event : p.event ≡ f (c_matrix file at) (c_event file at)

    abbrev pub EntryRead : ℕ → ℕ → Entry → Type 0
    EntryRead at k (normal c) = (k ≡ 0) × NormalRead at c
    EntryRead at k (invalid p) = (k ≡ 0 → ⊥) × InvalidRead at p

    pub record CellRead (before at : ℕ) (x : Entry) (n : ℕ) : Type 0 where
      pub past : n ≡ c_past file at
      pub inside : n ≤ end
      pub right : fields file M N.matrices at && ordered file before at ≡ true
      pub entry : EntryRead at (c_kind file at) x

module _ (file : List ℕ) where
  abbrev E : ℕ
  E = items_end file

  -- the rows of events, from matrix m on
  abbrev pub Rows : ℕ → ℕ → List (List BoolExpr) → ℕ → Type 0
  Rows m at [] past = at ≡ past
  Rows m at (row ∷ rows) past = (n : ℕ) × (length row ≡ events file (matrices_offset file) m) × Run (event_at file E (names file)) at row n × Rows (m + 1) n rows past

  module _ (event_of : ℕ → ℕ → BoolExpr) where
    abbrev pub Cells : ℕ → ℕ → List Entry → ℕ → Type 0
    Cells before at [] past = at ≡ past
    Cells before at (c ∷ cs) past = (n : ℕ) × (cell_at file E (names file) (matrices_offset file) event_of before at ≡ item c n) × Cells at n cs past

  -- where everything stands in a file whose body is right
  pub record Parts (d : Design) : Type 0 where
    pub matrices : List Matrix
    pub rows : List (List BoolExpr)
    pub entries : List Entry
    pub variable_count_lem : length d.variables ≡ variable_count file
    pub variable_run : Run (variable_at file E) 0 d.variables (matrices_offset file)
    pub matrix_count_lem : length matrices ≡ matrix_count file
    pub matrix_run : Run (matrix_at file E) (matrices_offset file) matrices (events_offset file)
    pub statuses : d.statuses ≡ map (λ (m : Matrix). m.statuses) matrices
    pub row_count : length rows ≡ matrix_count file
    pub row_run : Rows 0 (events_offset file) rows (cells_offset file)
    pub cell_count_lem : length entries ≡ cell_count file
    pub cell_run : Cells (event_in rows) (cells_offset file) (cells_offset file) entries (invariant_offset file)
    pub cells : d.cells ≡ normals entries
    pub invalid : d.invalid ≡ invalids entries
    pub invariant : invariant_at file E (names file) (constraint_offset file) (invariant_offset file) ≡ item d.invariant (constraint_offset file)
    pub past : ℕ
    pub constraint : constraint_at file E (names file) (has_constraint file) (constraint_offset file) ≡ item d.constraint past

  -- a cell that stands somewhere, after some other
  abbrev pub Standing : (ℕ → ℕ → BoolExpr) → ℕ → Entry → Type 0
  Standing f p x = (b : ℕ) × CellRead file E (names file) (matrices_offset file) f b p x (c_past file p)

  -- what its fields name is there
  pub record CellFields (p : ℕ) : Type 0 where
    pub matrix : c_matrix file p < matrix_count file
    pub status : c_status file p < statuses file (matrices_offset file) (c_matrix file p)
    pub event : c_event file p < events file (matrices_offset file) (c_matrix file p)
    pub header : p + 8 ≤ E
    pub past : c_past file p ≤ E

-- a normal cell that stands at p
pub record NormalCell (file : List ℕ) (p : ℕ) : Type 0 where
  pub tree : Design
  pub parts : Parts file tree
  pub cell : Cell
  pub stands : Standing file (event_in parts.rows) p (normal cell)
