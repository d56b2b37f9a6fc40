-- Where the items of an accepted file stand, by its bytes, and the tables that hold these positions.
use Rattle.std.specs.Prelude.{◌≡◌, cond, List, [], ◌∷◌, ℕ, zero, suc, ◌+◌, ◌*◌, ◌<◌, ◌≤◌, get_or, length, take, eqb}
use Rattle.design.specs.Limits.{max_events, max_bits}
use Rattle.design.specs.Tree.{Design}
use Rattle.design.specs.State.{widths_of, total, S}
use Rattle.design.specs.Sections.{Parts}
use Rattle.design.specs.DesignFile.{at8, events, c_kind, c_past}
use Rattle.design.specs.declared.shape.Shape.{Shape}
use Rattle.design.specs.Check.{check, variable_count, matrices_offset, matrix_count, events_offset, cells_offset, cell_count, refusal}

-- CHECK refuses nothing
abbrev pub Accepted : List ℕ → Type 0
Accepted file = (refusal (check file)).number ≡ 0

-- the externals among n variables from v on, by their kind bytes
unfoldable pub externals_from : List ℕ → ℕ → ℕ → List ℕ
externals_from file v zero = []
externals_from file v (suc n) = cond (eqb (get_or file (3 * v) 0) 2) (v ∷ externals_from file (suc v) n) (externals_from file (suc v) n)

module _ (file : List ℕ) where
  -- the position past so many events, and past so many cells
  unfoldable pub past_events : ℕ → ℕ → ℕ
  past_events zero at = at
  past_events (suc n) at = past_events n at + 1 + at8 file (past_events n at)

  unfoldable pub past_cells : ℕ → ℕ → ℕ
  past_cells zero at = at
  past_cells (suc n) at = c_past file (past_cells n at)

  -- where the events of matrix m start, and where its event e stands
  unfoldable pub events_start : ℕ → ℕ
  events_start zero = events_offset file
  events_start (suc m) = past_events (events file (matrices_offset file) m) (events_start m)

  abbrev pub event_place : ℕ → ℕ → ℕ
  event_place m e = past_events e (events_start m)

  -- where the normal ones of n cells stand
  unfoldable pub normals_from : ℕ → ℕ → List ℕ
  normals_from zero at = []
  normals_from (suc n) at = cond (eqb (c_kind file at) 0) (at ∷ normals_from n (c_past file at)) (normals_from n (c_past file at))

  abbrev pub normal_places : List ℕ
  normal_places = normals_from (cell_count file) (cells_offset file)

  -- The tables: the events, 16 entries a matrix, and the normal cells in file order.
  pub record EventsIndexed (table : List ℕ) : Type 0 where
    pub entry : (m e : ℕ) → m < matrix_count file → e < events file (matrices_offset file) m → get_or table (max_events * m + e) 0 ≡ event_place m e

  pub record CellsIndexed (table : List ℕ) (normals : ℕ) : Type 0 where
    pub count : normals ≡ length normal_places
    pub entries : take normals table ≡ normal_places

  -- the shape has the file's numbers of variables and matrices
  pub record Shaped (h : Shape) : Type 0 where
    pub variables : h.variables ≡ variable_count file
    pub matrices : h.matrices ≡ matrix_count file

  -- the table has the shape's normal cells, and the shape the number of externals
  pub record MoversIndexed (cells : List ℕ) (h : Shape) : Type 0 where
    pub normals : CellsIndexed cells h.normals
    pub externals : h.externals ≡ length (externals_from file 0 h.variables)

-- the shape's number of state bits: by the bytes, of the tree, and not too many
pub record StateBits (file : List ℕ) (h : Shape) : Type 0 where
  pub total : h.bits ≡ total (widths_of file h.variables h.matrices)
  pub state : (d : Design) → Parts file d → h.bits ≡ S d
  pub few : h.bits ≤ max_bits

-- all that the shape of a file with so many normal cells says
pub record Measured (file : List ℕ) (count : ℕ) (h : Shape) : Type 0 where
  pub shaped : Shaped file h
  pub normals : h.normals ≡ count
  pub externals : h.externals ≡ length (externals_from file 0 h.variables)
  pub few : h.externals ≤ h.variables
  pub bits : StateBits file h

-- what walkers of an accepted file are given: its table of events, and its shape
pub record Indexed (file table : List ℕ) (h : Shape) : Type 0 where
  pub accepted : Accepted file
  pub events : EventsIndexed file table
  pub shaped : Shaped file h
