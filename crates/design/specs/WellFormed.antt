-- What the layers above may rely on in an accepted design's tree: what is read has a slot of the right width, what is assigned is a variable of the
-- right kind, and every number fits its slot.
use Rattle.std.specs.Prelude.{◌≡◌, List, [], ◌∷◌, ◌++◌, ℕ, ◌^◌, ◌<◌, ◌≤◌, length, get_or}
use Rattle.design.specs.Limits.{max_statuses, max_movers}
use Rattle.design.specs.Tree.{IntExpr, BoolExpr, Stmt, Stmts, constant, variable, status, sum, difference, product, constant_b, variable_b, not_b, and_b, or_b, equal, less, assign, assign_b, if_else, done, then, Cell, InvalidCell, Design, Mover, cell, raise, movers}
use Rattle.design.specs.State.{Layout, layout, status_slot, status_width, mark_width, widths, start}

-- no slot is wider than an integer
abbrev pub Narrow : List ℕ → Type 0
Narrow [] = Unit {0}
Narrow (w ∷ ws) = (w ≤ 16) × Narrow ws

-- each value fits its slot
abbrev pub InRange : List ℕ → List ℕ → Type 0
InRange [] [] = Unit {0}
InRange [] (v ∷ vs) = ⊥
InRange (w ∷ ws) [] = ⊥
InRange (w ∷ ws) (v ∷ vs) = (v < 2 ^ w) × InRange ws vs

-- `ws` has the slots' widths, `l` says where each part of them lies: two parts may have slots of one width.
module _ (ws : List ℕ) (l : Layout) where
  -- matrix m is there: its status's slot lies among the statuses
  pub record IsStatus (m : ℕ) : Type 0 where
    pub inside : status_slot l m < l.mark
    pub width : get_or ws (status_slot l m) 0 ≡ status_width

  -- the mark is there: its slot lies behind the variables and before the end, and has one bit
  pub record HasMark : Type 0 where
    pub inside : l.mark < l.end
    pub behind : l.statuses ≤ l.mark
    pub width : get_or ws l.mark 0 ≡ mark_width

  -- variable v is there: its slot lies among the variables, and has so many bits
  pub record HasBits (v bits : ℕ) : Type 0 where
    pub inside : v < l.statuses
    pub width : get_or ws v 0 ≡ bits

  -- an integer; a Boolean or external
  abbrev pub IsInteger : ℕ → Type 0
  IsInteger v = HasBits v 16

  abbrev pub IsBoolean : ℕ → Type 0
  IsBoolean v = HasBits v 1

  -- What is read: a slot of the right width. In a constraint `ws` has the widths of two states, and the slot may be one of the later state.
  abbrev pub IntOk : IntExpr → Type 0
  IntOk (constant c) = c < 65536
  IntOk (variable v) = get_or ws v 0 ≡ 16
  IntOk (status m) = get_or ws (status_slot l m) 0 ≡ status_width
  IntOk (sum a b) = IntOk a × IntOk b
  IntOk (difference a b) = IntOk a × IntOk b
  IntOk (product c a) = (c < 65536) × IntOk a

  abbrev pub BoolOk : BoolExpr → Type 0
  BoolOk (constant_b b) = Unit {0}
  BoolOk (variable_b v) = get_or ws v 0 ≡ 1
  BoolOk (not_b a) = BoolOk a
  BoolOk (and_b a b) = BoolOk a × BoolOk b
  BoolOk (or_b a b) = BoolOk a × BoolOk b
  BoolOk (equal a b) = IntOk a × IntOk b
  BoolOk (less a b) = IntOk a × IntOk b

  abbrev mutual
    pub StmtOk : Stmt → Type 0
    StmtOk (assign v e) = IsInteger v × IntOk e
    StmtOk (assign_b v e) = IsBoolean v × BoolOk e
    StmtOk (if_else c a b) = BoolOk c × StmtsOk a × StmtsOk b

    pub StmtsOk : Stmts → Type 0
    StmtsOk done = Unit {0}
    StmtsOk (then x xs) = StmtOk x × StmtsOk xs

  pub record CellOk (c : Cell) : Type 0 where
    pub matrix : IsStatus c.matrix
    pub status : c.status < 2 ^ status_width
    pub event : BoolOk c.event
    pub target : c.target < 2 ^ status_width
    pub guard : BoolOk c.guard
    pub action : StmtsOk c.action

  pub record InvalidOk (c : InvalidCell) : Type 0 where
    pub matrix : IsStatus c.matrix
    pub status : c.status < 2 ^ status_width
    pub event : BoolOk c.event

  abbrev pub MoverOk : Mover → Type 0
  MoverOk (cell c) = CellOk c
  MoverOk (raise v) = IsBoolean v

  abbrev pub MoversOk : List Mover → Type 0
  MoversOk [] = Unit {0}
  MoversOk (m ∷ ms) = MoverOk m × MoversOk ms

  abbrev pub InvalidsOk : List InvalidCell → Type 0
  InvalidsOk [] = Unit {0}
  InvalidsOk (c ∷ cs) = InvalidOk c × InvalidsOk cs

-- "Matrix, 2 bytes: status count, event count, each 1..16.": of the status counts
abbrev pub CountsOk : List ℕ → Type 0
CountsOk [] = Unit {0}
CountsOk (n ∷ ns) = (1 ≤ n) × (n ≤ max_statuses) × CountsOk ns

-- each cell's status and target are statuses of its matrix; `counts` has the matrices' status counts
abbrev pub StatusesOk : List ℕ → List Cell → Type 0
StatusesOk counts [] = Unit {0}
StatusesOk counts (c ∷ cs) = (c.status < get_or counts c.matrix 0) × (c.target < get_or counts c.matrix 0) × StatusesOk counts cs

pub record WellFormed (d : Design) : Type 0 where
  pub narrow : Narrow (widths d)
  pub mark : HasMark (widths d) (layout d)
  pub some_mover : 1 ≤ length (movers d)
  pub few_movers : length (movers d) ≤ max_movers
  pub movers : MoversOk (widths d) (layout d) (movers d)
  pub counts : CountsOk d.statuses
  pub statuses : StatusesOk d.statuses d.cells
  pub invalid : InvalidsOk (widths d) (layout d) d.invalid
  pub invariant : BoolOk (widths d) (layout d) d.invariant
  pub constraint : BoolOk (widths d ++ widths d) (layout d) d.constraint
  pub start : InRange (widths d) (start d)
