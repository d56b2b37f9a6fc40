-- Designs as trees: what the bytes of a design file say (document 01, "The design file").
-- A value is a 16-bit pattern, a number below 65,536; a Boolean is 0 or 1.
use Rattle.std.specs.Prelude.{Bool, true, false, List, [], ◌∷◌, ◌++◌, map, ℕ, zero, suc, length}

-- a Boolean as a number, and a number read as a Boolean
abbrev pub bit : Bool → ℕ
bit false = 0
bit true = 1

abbrev pub truth : ℕ → Bool
truth zero = false
truth (suc n) = true

-- Integer expressions: operators 01 to 08. A variable and a matrix are named by their numbers. 06 and 07 (document 02, R-1) read the next state: its slots stand behind
-- those of the state, so they are variables and statuses of higher numbers (`later_slot` in State). 08 (document 02, R-2) has its constant as a pattern.
pub data IntExpr : Type 0 where
  constant variable status : ℕ → IntExpr
  sum difference : IntExpr → IntExpr → IntExpr
  product : ℕ → IntExpr → IntExpr

-- Boolean expressions: operators 10 to 17, 17 being a variable of the next state.
pub data BoolExpr : Type 0 where
  constant_b : Bool → BoolExpr
  variable_b : ℕ → BoolExpr
  not_b : BoolExpr → BoolExpr
  and_b or_b : BoolExpr → BoolExpr → BoolExpr
  equal less : IntExpr → IntExpr → BoolExpr

-- Statements 20 and 21: an assignment of either kind, and an if with its two lists. A list holds statements.
mutual
  pub data Stmt : Type 0 where
    assign : ℕ → IntExpr → Stmt
    assign_b : ℕ → BoolExpr → Stmt
    if_else : BoolExpr → Stmts → Stmts → Stmt

  pub data Stmts : Type 0 where
    done : Stmts
    then : Stmt → Stmts → Stmts

-- An external is a Boolean that the environment may raise.
pub data Kind : Type 0 where
  boolean integer external : Kind

pub record Variable : Type 0 where
  pub kind : Kind
  pub initial : ℕ

-- A normal cell. Its event is the expression itself, not the event's number.
pub record Cell : Type 0 where
  pub matrix : ℕ
  pub status : ℕ
  pub event : BoolExpr
  pub target : ℕ
  pub guard : BoolExpr
  pub action : Stmts

-- An invalid cell: it has no target, guard or action.
pub record InvalidCell : Type 0 where
  pub matrix : ℕ
  pub status : ℕ
  pub event : BoolExpr

-- `statuses` has each matrix's status count. Normal and invalid cells stand in two lists, each in file order. A file of version 1 has no constraint: here it is the
-- constant true.
pub record Design : Type 0 where
  pub variables : List Variable
  pub statuses : List ℕ
  pub cells : List Cell
  pub invalid : List InvalidCell
  pub invariant : BoolExpr
  pub constraint : BoolExpr

-- A mover (document 01's term): what a choice may name, a normal cell or an external variable.
pub data Mover : Type 0 where
  cell : Cell → Mover
  raise : ℕ → Mover

abbrev pub if_external : {A : Type 0} → Kind → A → A → A
if_external boolean a b = b
if_external integer a b = b
if_external external a b = a

-- the externals among variables that are numbered from v on
abbrev pub externals : ℕ → List Variable → List Mover
externals v [] = []
externals v (x ∷ xs) = if_external x.kind (raise v ∷ externals (suc v) xs) (externals (suc v) xs)

-- "Movers: normal cells in file order, then externals in order"; document 01's w is their number.
unfoldable pub movers : Design → List Mover
movers d = map cell d.cells ++ externals 0 d.variables

unfoldable pub w : Design → ℕ
w d = length (movers d)
