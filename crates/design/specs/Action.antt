-- Actions: statements and lists of them, bytes to trees (document 01: "An action is a list: count byte, statements").
use Rattle.std.specs.Prelude.{ℕ, zero, suc, Bool, true, false, List, [], ◌∷◌}
use Rattle.design.specs.Tree.{Stmt, Stmts, assign, assign_b, if_else, done, then}
use Rattle.design.specs.Limits.{max_depth}
use Rattle.design.specs.Reading.{Reader, yield, fail, demand, ◌>>=◌, Line, ◌means◌, lookup}
use Rattle.design.specs.Expression.{Names, byte, is_variable, is_integer, int_expr, bool_expr}

pub data StmtOp : Type 0 where
  op_assign op_if op_unknown : StmtOp

abbrev pub stmt_ops : List (Line StmtOp)
stmt_ops =
    (0x20 means StmtOp.op_assign) ∷
    (0x21 means StmtOp.op_if) ∷ []

unfoldable pub stmt_op : ℕ → StmtOp
stmt_op b = lookup StmtOp.op_unknown stmt_ops b

module _ (text : List ℕ) (names : Names) (end : ℕ) where
  -- what is assigned has the variable's kind, an external being Boolean here
  abbrev pub value : ℕ → Bool → Reader Stmt
  value v true = do
    e ← int_expr text names end max_depth
    yield (assign v e)
  value v false = do
    e ← bool_expr text names end max_depth
    yield (assign_b v e)

  -- 20: variable expression
  unfoldable pub assignment : Reader Stmt
  assignment = do
    v ← byte text names end
    demand (is_variable text names end v) (value v (is_integer text names end v))

  -- so many statements
  unfoldable pub statements : Reader Stmt → ℕ → Reader Stmts
  statements one zero = yield done
  statements one (suc n) = do
    x ← one
    xs ← statements one n
    yield (then x xs)

  -- a list: count byte, statements
  unfoldable pub list_of : Reader Stmt → Reader Stmts
  list_of one = do
    n ← byte text names end
    statements one n

  -- 21: condition list list
  abbrev pub conditional : Reader Stmts → Reader Stmt
  conditional list = do
    c ← bool_expr text names end max_depth
    a ← list
    b ← list
    yield (if_else c a b)

  abbrev pub stmt_of : Reader Stmt → StmtOp → Reader Stmt
  stmt_of inner StmtOp.op_assign = assignment
  stmt_of inner StmtOp.op_if = inner
  stmt_of inner StmtOp.op_unknown = fail

  -- a statement in which ifs nest at most so deep
  unfoldable pub statement : ℕ → Reader Stmt
  statement zero = do
    op ← byte text names end
    stmt_of fail (stmt_op op)
  statement (suc nest) = do
    op ← byte text names end
    stmt_of (conditional (list_of (statement nest))) (stmt_op op)

  abbrev pub list : ℕ → Reader Stmts
  list nest = list_of (statement nest)
