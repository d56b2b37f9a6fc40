-- Reading goes forward: what is found ends past where it starts. Assumes nothing.
use Prim.Native.Nat.{ℕ, zero, suc, ◌+◌, ◌≤◌}
use mathlib.Core.Path.{◌≡◌, refl}
use mathlib.Core.Bool.{Bool, true, false, not}
use mathlib.Core.List.{List}
use native.Mathlib.Omega.{arith}
use native.Mathlib.Nat.{le_refl}
use lib.Dec.{ltb, leb, eqb}
use Rattle.design.specs.Tree.{IntExpr, BoolExpr, Stmt, Stmts}
use Rattle.design.specs.Limits.{max_depth}
use Rattle.design.specs.Reading.{Read, got, bad, Reader, bind, provided}
use Rattle.design.specs.Expression.{Names, IntOp, BoolOp, int_op, bool_op, byte, word, legal, is_variable, is_integer, is_matrix, int_of, bool_of, int_expr, bool_expr}
use Rattle.design.specs.Action.{StmtOp, stmt_op, value, assignment, statements, list_of, conditional, stmt_of, statement, list}
use Rattle.design.specs.Answers.{found}
use Rattle.std.specs.Prelude.{Some}

-- what is read ends at lo or later
pub record Onward {A : Type 0} (lo : ℕ) (r : Read A) : Type 0 where
  pub of : (n : ℕ) → Some n ≡ found r → lo ≤ n

module _ {A : Type 0} where
  on_got : (lo : ℕ) (a : A) (n : ℕ) → lo ≤ n → Onward lo (got a n)
  on_got lo a n h = record { of = λ m e. let q : m ≡ n = cc in omega arith }

  on_bad : (lo : ℕ) → Onward {A = A} lo bad
  on_bad lo = record { of = λ m e. let z : ◌≡◌ {A = ℕ} 0 1 = cc in absurd (omega arith) }

  on_provided : (lo : ℕ) (t : Bool) (r : Read A) → Onward lo r → Onward lo (provided t r)
  on_provided lo true r h = h
  on_provided lo false r h = on_bad lo

on_bind : {A B : Type 0} (lo : ℕ) (x : Read A) (k : A → ℕ → Read B) → Onward lo x → ((a : A) (m : ℕ) → lo ≤ m → Onward lo (k a m)) → Onward lo (bind x k)
on_bind lo (got a n) k h f = f a n (h.of n refl)
on_bind lo bad k h f = on_bad lo

module _ (text : List ℕ) (names : Names) (end : ℕ) where
  on_byte : (lo at : ℕ) → lo ≤ at + 1 → Onward lo (byte text names end at)
  on_byte lo at h = on_provided lo (ltb at end) _ (on_got lo _ (at + 1) h)

  on_word : (lo at : ℕ) → lo ≤ at + 2 → Onward lo (word text names end at)
  on_word lo at h = on_provided lo (leb (at + 2) end) _ (on_got lo _ (at + 2) h)

  -- a reader that starts at lo or later ends there
  abbrev Goes : {A : Type 0} → ℕ → Reader A → Type 0
  Goes lo r = (at : ℕ) → lo ≤ at → Onward lo (r at)

  int_of_on : (lo : ℕ) (operand : Reader IntExpr) → Goes lo operand → (o : IntOp) → Goes lo (int_of text names end operand o)
  int_of_on lo operand h IntOp.op_constant at l = on_bind lo (word text names end at) _ (on_word lo at (omega arith)) (λ c m q. on_got lo _ m q)
  int_of_on lo operand h (IntOp.op_variable next) at l =
      on_bind lo (byte text names end at) _ (on_byte lo at (omega arith))
      (λ v m q. on_provided lo (legal text names end next) _ (on_provided lo (is_variable text names end v) _ (on_provided lo (is_integer text names end v) _ (on_got lo _ m q))))
  int_of_on lo operand h (IntOp.op_status next) at l =
      on_bind lo (byte text names end at) _ (on_byte lo at (omega arith))
      (λ v m q. on_provided lo (legal text names end next) _ (on_provided lo (is_matrix text names end v) _ (on_got lo _ m q)))
  int_of_on lo operand h IntOp.op_product at l = on_bind lo (word text names end at) _ (on_word lo at (omega arith)) (λ c m q. on_bind lo (operand m) _ (h m q) (λ a n r. on_got lo _ n r))
  int_of_on lo operand h IntOp.op_unknown at l = on_bad lo
  int_of_on lo operand h (IntOp.op_ints f) at l = on_bind lo (operand at) _ (h at l) (λ a m q. on_bind lo (operand m) _ (h m q) (λ b n r. on_got lo _ n r))

  int_goes : (d lo : ℕ) → Goes lo (int_expr text names end d)
  unfolding int_expr
  int_goes zero lo at l = on_bad lo
  int_goes (suc d) lo at l = on_bind lo (byte text names end at) _ (on_byte lo at (omega arith)) (λ op m q. int_of_on lo (int_expr text names end d) (int_goes d lo) (int_op op) m q)

  bool_of_on : (lo : ℕ) (int : Reader IntExpr) → Goes lo int → (operand : Reader BoolExpr) → Goes lo operand → (o : BoolOp) → Goes lo (bool_of text names end int operand o)
  bool_of_on lo int i operand h BoolOp.op_constant at l = on_bind lo (byte text names end at) _ (on_byte lo at (omega arith)) (λ v m q. on_provided lo (leb v 1) _ (on_got lo _ m q))
  bool_of_on lo int i operand h (BoolOp.op_variable next) at l =
      on_bind lo (byte text names end at) _ (on_byte lo at (omega arith))
      (λ v m q. on_provided lo (legal text names end next) _ (on_provided lo (is_variable text names end v) _ (on_provided lo (not (is_integer text names end v)) _ (on_got lo _ m q))))
  bool_of_on lo int i operand h BoolOp.op_not at l = on_bind lo (operand at) _ (h at l) (λ a m q. on_got lo _ m q)
  bool_of_on lo int i operand h BoolOp.op_unknown at l = on_bad lo
  bool_of_on lo int i operand h (BoolOp.op_bools f) at l = on_bind lo (operand at) _ (h at l) (λ a m q. on_bind lo (operand m) _ (h m q) (λ b n r. on_got lo _ n r))
  bool_of_on lo int i operand h (BoolOp.op_ints f) at l = on_bind lo (int at) _ (i at l) (λ a m q. on_bind lo (int m) _ (i m q) (λ b n r. on_got lo _ n r))

  bool_goes : (d lo : ℕ) → Goes lo (bool_expr text names end d)
  unfolding bool_expr
  bool_goes zero lo at l = on_bad lo
  bool_goes (suc d) lo at l = on_bind lo (byte text names end at) _ (on_byte lo at (omega arith)) (λ op m q. bool_of_on lo (int_expr text names end d) (int_goes d lo) (bool_expr text names end d) (bool_goes d lo) (bool_op op) m q)

  value_goes : (lo v : ℕ) (t : Bool) → Goes lo (value text names end v t)
  value_goes lo v true at l = on_bind lo (int_expr text names end max_depth at) _ (int_goes max_depth lo at l) (λ e m q. on_got lo _ m q)
  value_goes lo v false at l = on_bind lo (bool_expr text names end max_depth at) _ (bool_goes max_depth lo at l) (λ e m q. on_got lo _ m q)

  assign_goes : (lo : ℕ) → Goes lo (assignment text names end)
  unfolding assignment
  assign_goes lo at l = on_bind lo (byte text names end at) _ (on_byte lo at (omega arith)) (λ v m q. on_provided lo (ltb v names.variables) _ (value_goes lo v (eqb (names.kind_of v) 1) m q))

  module _ (one : Reader Stmt) (lo : ℕ) (h : Goes lo one) where
    statements_go : (n : ℕ) → Goes lo (statements text names end one n)
    unfolding statements
    statements_go zero at l = on_got lo _ at l
    statements_go (suc n) at l = on_bind lo (one at) _ (h at l) (λ x m q. on_bind lo (statements text names end one n m) _ (statements_go n m q) (λ xs j r. on_got lo _ j r))

    list_of_goes : Goes lo (list_of text names end one)
    unfolding list_of
    list_of_goes at l = on_bind lo (byte text names end at) _ (on_byte lo at (omega arith)) (λ n m q. statements_go n m q)

  conditional_goes : (lo : ℕ) (list : Reader Stmts) → Goes lo list → Goes lo (conditional text names end list)
  conditional_goes lo list h at l = on_bind lo (bool_expr text names end max_depth at) _ (bool_goes max_depth lo at l) (λ c m q. on_bind lo (list m) _ (h m q) (λ a j r. on_bind lo (list j) _ (h j r) (λ b i s. on_got lo _ i s)))

  stmt_of_goes : (lo : ℕ) (inner : Reader Stmt) → Goes lo inner → (o : StmtOp) → Goes lo (stmt_of text names end inner o)
  stmt_of_goes lo inner h StmtOp.op_assign at l = assign_goes lo at l
  stmt_of_goes lo inner h StmtOp.op_if at l = h at l
  stmt_of_goes lo inner h StmtOp.op_unknown at l = on_bad lo

  stmt_goes : (k lo : ℕ) → Goes lo (statement text names end k)
  unfolding statement
  stmt_goes zero lo at l = on_bind lo (byte text names end at) _ (on_byte lo at (omega arith)) (λ op m q. stmt_of_goes lo _ (λ j r. on_bad lo) (stmt_op op) m q)
  stmt_goes (suc k) lo at l = on_bind lo (byte text names end at) _ (on_byte lo at (omega arith)) (λ op m q. stmt_of_goes lo _ (conditional_goes lo _ (list_of_goes (statement text names end k) lo (stmt_goes k lo))) (stmt_op op) m q)

  -- at is passed
  pub int_on : (d at n : ℕ) → Some n ≡ found (int_expr text names end d at) → at ≤ n
  int_on d at n e = (int_goes d at at (le_refl at)).of n e

  pub bool_on : (d at n : ℕ) → Some n ≡ found (bool_expr text names end d at) → at ≤ n
  bool_on d at n e = (bool_goes d at at (le_refl at)).of n e

  pub list_on : (k at n : ℕ) → Some n ≡ found (list text names end k at) → at ≤ n
  list_on k at n e = (list_of_goes (statement text names end k) at (stmt_goes k at) at (le_refl at)).of n e

  pub stmt_on : (k at n : ℕ) → Some n ≡ found (statement text names end k at) → at ≤ n
  stmt_on k at n e = (stmt_goes k at at (le_refl at)).of n e
