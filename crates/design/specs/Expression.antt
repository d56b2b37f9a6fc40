-- Expressions: bytes to trees (document 01: "An expression is an operator byte followed by its operands").
use Rattle.std.specs.Prelude.{ℕ, zero, suc, ◌+◌, ◌*◌, Bool, true, false, not, ◌||◌, List, [], ◌∷◌, get_or, ltb, leb, eqb}
use Rattle.design.specs.Tree.{IntExpr, BoolExpr, constant, variable, status, sum, difference, product, constant_b, variable_b, not_b, and_b, or_b, equal, less, truth}
use Rattle.design.specs.State.{layout_in, number_in}
use Rattle.design.specs.Reading.{got, Reader, yield, fail, provided, demand, ◌>>=◌, Line, ◌means◌, lookup}

-- What an expression may name: the variables with their kinds, the matrices, and whether those of the next state too.
pub record Names : Type 0 where
  pub variables : ℕ
  pub kind_of : ℕ → ℕ
  pub matrices : ℕ
  pub later : Bool

-- the same names, with or without the next state
abbrev pub with_later : Bool → Names → Names
with_later later names = record { variables = names.variables; kind_of = names.kind_of; matrices = names.matrices; later = later }

-- The operators by what follows them. A variable and a status have an operator for the state (false) and one for the next state (true).
pub data IntOp : Type 0 where
  op_constant op_product op_unknown : IntOp
  op_variable op_status : Bool → IntOp
  op_ints : (IntExpr → IntExpr → IntExpr) → IntOp

pub data BoolOp : Type 0 where
  op_constant op_not op_unknown : BoolOp
  op_variable : Bool → BoolOp
  op_bools : (BoolExpr → BoolExpr → BoolExpr) → BoolOp
  op_ints : (IntExpr → IntExpr → BoolExpr) → BoolOp

-- "Three operators .. read the next state: 06 integer variable, 07 status, 17 Boolean." (document 02, R-1)
-- "Operator 08 takes an i16 constant and an integer expression" (document 02, R-2)
abbrev pub int_ops : List (Line IntOp)
int_ops =
    (0x01 means IntOp.op_constant) ∷
    (0x02 means IntOp.op_variable false) ∷
    (0x03 means IntOp.op_status false) ∷
    (0x04 means IntOp.op_ints sum) ∷
    (0x05 means IntOp.op_ints difference) ∷
    (0x06 means IntOp.op_variable true) ∷
    (0x07 means IntOp.op_status true) ∷
    (0x08 means IntOp.op_product) ∷ []

unfoldable pub int_op : ℕ → IntOp
int_op b = lookup IntOp.op_unknown int_ops b

abbrev pub bool_ops : List (Line BoolOp)
bool_ops =
    (0x10 means BoolOp.op_constant) ∷
    (0x11 means BoolOp.op_variable false) ∷
    (0x12 means BoolOp.op_not) ∷
    (0x13 means BoolOp.op_bools and_b) ∷
    (0x14 means BoolOp.op_bools or_b) ∷
    (0x15 means BoolOp.op_ints equal) ∷
    (0x16 means BoolOp.op_ints less) ∷
    (0x17 means BoolOp.op_variable true) ∷ []

unfoldable pub bool_op : ℕ → BoolOp
bool_op b = lookup BoolOp.op_unknown bool_ops b

-- `text` holds the expression, which must not pass `end`. The names it may use come from elsewhere: an expression need not stand in the file that names its variables.
module _ (text : List ℕ) (names : Names) (end : ℕ) where
  abbrev pub byte : Reader ℕ
  byte at = provided (ltb at end) (got (get_or text at 0) (at + 1))

  abbrev pub word : Reader ℕ
  word at = provided (leb (at + 2) end) (got (get_or text at 0 + 256 * get_or text (at + 1) 0) (at + 2))

  abbrev pub is_variable : ℕ → Bool
  is_variable v = ltb v names.variables

  abbrev pub is_integer : ℕ → Bool
  is_integer v = eqb (names.kind_of v) 1

  abbrev pub is_matrix : ℕ → Bool
  is_matrix m = ltb m names.matrices

  -- "legal only there": whether an operator is legal here, by whether it reads the next state; and the number of what it names
  abbrev pub legal : Bool → Bool
  legal next = not next || names.later

  abbrev pub numbered : Bool → ℕ → ℕ
  numbered next i = number_in (layout_in names.variables names.matrices) next i

  -- what follows an integer operator, given the reader of operands
  abbrev pub int_of : Reader IntExpr → IntOp → Reader IntExpr
  int_of operand IntOp.op_constant = do
    c ← word
    yield (constant c)
  int_of operand (IntOp.op_variable next) = do
    v ← byte
    demand (legal next) (demand (is_variable v) (demand (is_integer v) (yield (variable (numbered next v)))))
  int_of operand (IntOp.op_status next) = do
    m ← byte
    demand (legal next) (demand (is_matrix m) (yield (status (numbered next m))))
  int_of operand (IntOp.op_ints f) = do
    a ← operand
    b ← operand
    yield (f a b)
  int_of operand IntOp.op_product = do
    c ← word
    a ← operand
    yield (product c a)
  int_of operand IntOp.op_unknown = fail

  -- an integer expression of at most this depth, a leaf being 1
  unfoldable pub int_expr : ℕ → Reader IntExpr
  int_expr zero = fail
  int_expr (suc depth) = do
    op ← byte
    int_of (int_expr depth) (int_op op)

  -- what follows a Boolean operator, given the readers of integer and Boolean operands
  abbrev pub bool_of : Reader IntExpr → Reader BoolExpr → BoolOp → Reader BoolExpr
  bool_of int operand BoolOp.op_constant = do
    c ← byte
    demand (leb c 1) (yield (constant_b (truth c)))
  bool_of int operand (BoolOp.op_variable next) = do
    v ← byte
    demand (legal next) (demand (is_variable v) (demand (not (is_integer v)) (yield (variable_b (numbered next v)))))
  bool_of int operand BoolOp.op_not = do
    a ← operand
    yield (not_b a)
  bool_of int operand (BoolOp.op_bools f) = do
    a ← operand
    b ← operand
    yield (f a b)
  bool_of int operand (BoolOp.op_ints f) = do
    a ← int
    b ← int
    yield (f a b)
  bool_of int operand BoolOp.op_unknown = fail

  -- a Boolean expression of at most this depth
  unfoldable pub bool_expr : ℕ → Reader BoolExpr
  bool_expr zero = fail
  bool_expr (suc depth) = do
    op ← byte
    bool_of (int_expr depth) (bool_expr depth) (bool_op op)
