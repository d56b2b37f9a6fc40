-- The items of a design file, document 01's bullets and document 02's constraint. A walk goes from an item's first byte to the item and the position past it,
-- or to a refusal: its number and place. Within an item the tests stand in the order of their numbers.
use Rattle.std.specs.Prelude.{ℕ, zero, suc, ◌+◌, ◌*◌, Bool, true, false, ◌&&◌, ◌||◌, List, [], ◌∷◌, get_or, ltb, leb, eqb}
use Rattle.design.specs.Tree.{BoolExpr, Stmts, constant_b, Kind, boolean, integer, external, Variable, Cell, InvalidCell}
use Rattle.design.specs.Limits.{max_statuses, max_events, max_depth, max_nest}
use Rattle.design.specs.Reading.{Read, got, bad}
use Rattle.design.specs.Expression.{Names, with_later, bool_expr}
use Rattle.design.specs.Action.{list}

pub data Item (A : Type 0) : Type 0 where
  item : A → ℕ → Item A
  refused : ℕ → ℕ → Item A

abbrev pub Walk : Type 0 → Type 0
Walk A = ℕ → Item A

module _ {A : Type 0} where
  abbrev pub give : A → Walk A
  give a at = item a at

  -- refused with this number at this place unless the test holds
  abbrev pub need : Bool → ℕ → ℕ → Item A → Item A
  need true number place r = r
  need false number place r = refused number place

  -- what was read fills its length
  abbrev pub filling : ℕ → ℕ → ℕ → Read A → Item A
  filling number place past (got a n) = need (eqb n past) number place (item a past)
  filling number place past bad = refused number place

abbrev pub after : {A B : Type 0} → Item A → (A → ℕ → Item B) → Item B
after (item a n) k = k a n
after (refused number place) k = refused number place

infixl 10 ◌>>=◌ ◌>>◌
abbrev pub ◌>>=◌ : {A B : Type 0} → Walk A → (A → Walk B) → Walk B
◌>>=◌ m k at = after (m at) k

abbrev pub ◌>>◌ : {A B : Type 0} → Walk A → Walk B → Walk B
◌>>◌ m k at = after (m at) (λ a n. k n)

-- so many items
module _ {A : Type 0} where
  unfoldable pub items : Walk A → ℕ → Walk (List A)
  items one zero = give []
  items one (suc n) = do
    x ← one
    xs ← items one n
    give (x ∷ xs)

-- a section starts at its offset
abbrev pub offset : ℕ → Walk (Unit {0})
offset o at = need (eqb o at) 4 at (item tt at)

pub record Matrix : Type 0 where
  pub statuses : ℕ
  pub events : ℕ

-- a cell as it stands in the file
pub data Entry : Type 0 where
  normal : Cell → Entry
  invalid : InvalidCell → Entry

abbrev pub kind : ℕ → Kind
kind zero = boolean
kind (suc zero) = integer
kind (suc (suc n)) = external

module _ (file : List ℕ) where
  abbrev pub at8 : ℕ → ℕ
  at8 at = get_or file at 0

  abbrev pub at16 : ℕ → ℕ
  at16 at = get_or file at 0 + 256 * get_or file (at + 1) 0

  -- Cell: bytes matrix, status, event, kind (0 normal, 1 invalid), target status, guard length, then u16 action length, guard, action
  module _ (at : ℕ) where
    abbrev pub c_matrix : ℕ
    c_matrix = at8 at

    abbrev pub c_status : ℕ
    c_status = at8 (at + 1)

    abbrev pub c_event : ℕ
    c_event = at8 (at + 2)

    abbrev pub c_kind : ℕ
    c_kind = at8 (at + 3)

    abbrev pub c_target : ℕ
    c_target = at8 (at + 4)

    abbrev pub c_guard : ℕ
    c_guard = at8 (at + 5)

    abbrev pub c_action : ℕ
    c_action = at16 (at + 6)

    -- where the action starts, and the position past the cell
    abbrev pub c_middle : ℕ
    c_middle = at + 8 + c_guard

    abbrev pub c_past : ℕ
    c_past = c_middle + c_action

    -- its place, as a number that ascends with (matrix, status, event)
    abbrev pub rank : ℕ
    rank = 65536 * c_matrix + 256 * c_status + c_event

  -- Cells ascend; normal ones may share a place, an invalid one shares it with none. The first cell is given as the one before itself.
  abbrev pub ordered : ℕ → ℕ → Bool
  ordered before at =
      eqb before at
      || ltb (rank before) (rank at)
      || (eqb (rank before) (rank at) && eqb (c_kind before) 0 && eqb (c_kind at) 0)

  -- `matrices_at` is where the matrices stand
  module _ (matrices_at : ℕ) where
    abbrev pub statuses : ℕ → ℕ
    statuses m = at8 (matrices_at + 2 * m)

    abbrev pub events : ℕ → ℕ
    events m = at8 (matrices_at + 2 * m + 1)

    -- a normal cell's target is a status; an invalid one has target and both lengths 0
    abbrev pub ending : ℕ → ℕ → Bool
    ending at zero = ltb (c_target at) (statuses (c_matrix at))
    ending at (suc zero) = eqb (c_target at) 0 && eqb (c_guard at) 0 && eqb (c_action at) 0
    ending at (suc (suc n)) = false

    abbrev pub fields : ℕ → ℕ → Bool
    fields matrices at =
        ltb (c_matrix at) matrices
        && ltb (c_status at) (statuses (c_matrix at))
        && ltb (c_event at) (events (c_matrix at))
        && ending at (c_kind at)

-- `end` is where the items end
module _ (file : List ℕ) (end : ℕ) where
  -- Variable, 3 bytes: kind, initial (0 or 1 unless integer)
  unfoldable pub variable_at : Walk Variable
  variable_at at =
      need (leb (at + 3) end) 4 at
      (need (leb (at8 file at) 2 && (eqb (at8 file at) 1 || leb (at16 file (at + 1)) 1)) 5 at
      (item (record { kind = kind (at8 file at); initial = at16 file (at + 1) }) (at + 3)))

  -- Matrix, 2 bytes: status count, event count
  unfoldable pub matrix_at : Walk Matrix
  matrix_at at =
      need (leb (at + 2) end) 4 at
      (need (leb 1 (at8 file at) && leb (at8 file at) max_statuses && leb 1 (at8 file (at + 1)) && leb (at8 file (at + 1)) max_events) 6 at
      (item (record { statuses = at8 file at; events = at8 file (at + 1) }) (at + 2)))

  module _ (names : Names) where
    -- Event: length byte, Boolean expression
    unfoldable pub event_at : Walk BoolExpr
    event_at at =
        need (leb (at + 1 + at8 file at) end) 4 at
        (filling 8 at (at + 1 + at8 file at) (bool_expr file names (at + 1 + at8 file at) max_depth (at + 1)))

    -- Guard length 0 means true
    abbrev pub guard : ℕ → ℕ → Item BoolExpr
    guard at zero = item (constant_b true) (c_middle file at)
    guard at (suc n) = filling 8 at (c_middle file at) (bool_expr file names (c_middle file at) max_depth (at + 8))

    abbrev pub action : ℕ → Item Stmts
    action at = filling 9 at (c_past file at) (list file names (c_past file at) max_nest (c_middle file at))

    -- Invariant: one Boolean expression, up to where the constraint starts, or where there is none up to the end (document 02, R-1): "an offset before the invariant
    -- or past the u16 is 4 at the invariant".
    unfoldable pub invariant_at : ℕ → Walk BoolExpr
    invariant_at past at =
        need (leb at past && leb past end) 4 at
        (filling 8 at past (bool_expr file names past max_depth at))

    -- Constraint, where the file has one: one Boolean expression up to the end, which may read the next state
    unfoldable pub constraint_at : Bool → Walk BoolExpr
    constraint_at false at = item (constant_b true) at
    constraint_at true at = filling 8 at end (bool_expr file (with_later true names) end max_depth at)

    module _ (matrices_at : ℕ) where
      -- the events of so many matrices, from matrix m on
      unfoldable pub events_from : ℕ → ℕ → Walk (List (List BoolExpr))
      events_from m zero = give []
      events_from m (suc n) = do
        row ← items event_at (events file matrices_at m)
        rows ← events_from (m + 1) n
        give (row ∷ rows)

      -- `event_of` has the events' trees
      module _ (event_of : ℕ → ℕ → BoolExpr) where
        abbrev pub event : ℕ → BoolExpr
        event at = event_of (c_matrix file at) (c_event file at)

        abbrev pub entry : ℕ → ℕ → Item Entry
        entry at zero =
            after (guard at (c_guard file at)) λ g p.
            after (action at) λ a q.
            item (normal (record { matrix = c_matrix file at; status = c_status file at; event = event at; target = c_target file at; guard = g; action = a })) (c_past file at)
        entry at (suc n) = item (invalid (record { matrix = c_matrix file at; status = c_status file at; event = event at })) (c_past file at)

        unfoldable pub cell_at : ℕ → Walk Entry
        cell_at before at =
            need (leb (c_past file at) end) 4 at
            (need (fields file matrices_at names.matrices at && ordered file before at) 7 at
            (entry at (c_kind file at)))

        unfoldable pub cells_from : ℕ → ℕ → Walk (List Entry)
        cells_from zero before at = item [] at
        cells_from (suc n) before at =
            after (cell_at before at) λ c next.
            after (cells_from n at next) λ cs past.
            item (c ∷ cs) past
