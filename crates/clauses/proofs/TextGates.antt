-- What is read does not pass `end`, so that it has few gates.
use Rattle.std.proofs.Common.{◌≡◌, ℕ, zero, suc, ◌+◌, ◌*◌, ◌≤◌, Bool, true, false, not, eqb, ltb, leb, List, refl, ap, arith, ltb-true, leb-true}
use Rattle.design.specs.Tree.{IntExpr, BoolExpr, Stmt, Stmts, variable_b}
use Rattle.design.specs.Limits.{max_bytes, max_depth, max_bits}
use Rattle.design.specs.Reading.{Read, got, bad, Reader, provided}
use Rattle.design.specs.Expression.{Names, IntOp, BoolOp, int_op, bool_op, byte, word, legal, numbered, int_of, bool_of, int_expr, bool_expr}
use Rattle.design.specs.Action.{StmtOp, stmt_op, value, assignment, statements, list_of, conditional, stmt_of, statement, list}
use Rattle.clauses.specs.Cost.{Cost, gates_in, int_cost, bool_cost, statement_cost, statements_cost}
use Rattle.clauses.specs.Limits.{gates_of_byte, text_gates}
use Rattle.clauses.specs.FrameSizes.{gates_at}
use Rattle.clauses.specs.declared.cost.GatesAt.{GatesAt}
use Rattle.clauses.proofs.Bytes.{Reads, reads_got, reads_bad, reads_provided, reads_bind, int_bytes, bool_bytes, statement_bytes, list_bytes}

reads_test : {A : Type 0} {I : A → ℕ → Type 0} (t : Bool) (r : Read A) → (t ≡ true → Reads I r) → Reads I (provided t r)
reads_test true r h = h refl
reads_test false r h = reads_bad

module _ (text : List ℕ) (names : Names) (end : ℕ) where
  abbrev Ends : {A : Type 0} → Read A → Type 0
  Ends {A} r = Reads (λ (a : A) (n : ℕ). n ≤ end) r

  byte_ends : (at : ℕ) → Ends (byte text names end at)
  byte_ends at = reads_test (ltb at end) _ λ t. reads_got _ _ (let h = ltb-true at end t in omega arith)

  word_ends : (at : ℕ) → Ends (word text names end at)
  word_ends at = reads_test (leb (at + 2) end) _ λ t. reads_got _ _ (leb-true (at + 2) end t)

  int_of_ends : (operand : Reader IntExpr) → ((at : ℕ) → Ends (operand at)) → (o : IntOp) (at : ℕ) → Ends (int_of text names end operand o at)
  int_of_ends operand h IntOp.op_constant at = reads_bind (word text names end at) _ (word_ends at) λ c m q. reads_got _ _ q
  int_of_ends operand h (IntOp.op_variable next) at =
      reads_bind (byte text names end at) _ (byte_ends at) λ v m q.
      reads_provided (legal text names end next) _ (reads_provided (ltb v names.variables) _ (reads_provided (eqb (names.kind_of v) 1) _ (reads_got _ _ q)))
  int_of_ends operand h (IntOp.op_status next) at =
      reads_bind (byte text names end at) _ (byte_ends at) λ v m q.
      reads_provided (legal text names end next) _ (reads_provided (ltb v names.matrices) _ (reads_got _ _ q))
  int_of_ends operand h IntOp.op_product at =
      reads_bind (word text names end at) _ (word_ends at) λ c m q.
      reads_bind (operand m) _ (h m) λ a j r.
      reads_got _ _ r
  int_of_ends operand h IntOp.op_unknown at = reads_bad
  int_of_ends operand h (IntOp.op_ints f) at =
      reads_bind (operand at) _ (h at) λ a m q.
      reads_bind (operand m) _ (h m) λ b j r.
      reads_got _ _ r

  int_ends : (d at : ℕ) → Ends (int_expr text names end d at)
  unfolding int_expr
  int_ends zero at = reads_bad
  int_ends (suc d) at =
      reads_bind (byte text names end at) _ (byte_ends at) λ op n e. int_of_ends (int_expr text names end d) (int_ends d) (int_op op) n

  bool_of_ends : (int : Reader IntExpr) → ((at : ℕ) → Ends (int at)) → (operand : Reader BoolExpr) → ((at : ℕ) → Ends (operand at))
      → (o : BoolOp) (at : ℕ) → Ends (bool_of text names end int operand o at)
  bool_of_ends int i operand h BoolOp.op_constant at =
      reads_bind (byte text names end at) _ (byte_ends at) λ v m q. reads_provided (leb v 1) _ (reads_got _ _ q)
  bool_of_ends int i operand h (BoolOp.op_variable next) at =
      reads_bind (byte text names end at) _ (byte_ends at) λ v m q.
      reads_provided (legal text names end next) _ (reads_provided (ltb v names.variables) _ (reads_provided (not (eqb (names.kind_of v) 1)) _
      (reads_got (variable_b (numbered text names end next v)) _ q)))
  bool_of_ends int i operand h BoolOp.op_not at = reads_bind (operand at) _ (h at) λ a m q. reads_got _ _ q
  bool_of_ends int i operand h BoolOp.op_unknown at = reads_bad
  bool_of_ends int i operand h (BoolOp.op_bools f) at =
      reads_bind (operand at) _ (h at) λ a m q.
      reads_bind (operand m) _ (h m) λ b j r.
      reads_got _ _ r
  bool_of_ends int i operand h (BoolOp.op_ints f) at =
      reads_bind (int at) _ (i at) λ a m q.
      reads_bind (int m) _ (i m) λ b j r.
      reads_got _ _ r

  bool_ends : (d at : ℕ) → Ends (bool_expr text names end d at)
  unfolding bool_expr
  bool_ends zero at = reads_bad
  bool_ends (suc d) at =
      reads_bind (byte text names end at) _ (byte_ends at) λ op n e.
      bool_of_ends (int_expr text names end d) (int_ends d) (bool_expr text names end d) (bool_ends d) (bool_op op) n

  value_ends : (v : ℕ) (t : Bool) (at : ℕ) → Ends (value text names end v t at)
  value_ends v true at = reads_bind (int_expr text names end max_depth at) _ (int_ends max_depth at) λ e n h. reads_got _ _ h
  value_ends v false at = reads_bind (bool_expr text names end max_depth at) _ (bool_ends max_depth at) λ e n h. reads_got _ _ h

  assignment_ends : (at : ℕ) → Ends (assignment text names end at)
  unfolding assignment
  assignment_ends at =
      reads_bind (byte text names end at) _ (byte_ends at) λ v n e.
      reads_provided (ltb v names.variables) _ (value_ends v (eqb (names.kind_of v) 1) n)

  module _ (one : Reader Stmt) (h : (at : ℕ) → Ends (one at)) where
    statements_ends : (c at : ℕ) → at ≤ end → Ends (statements text names end one c at)
    unfolding statements
    statements_ends zero at l = reads_got _ _ l
    statements_ends (suc c) at l =
        reads_bind (one at) _ (h at) λ x n q.
        reads_bind (statements text names end one c n) _ (statements_ends c n q) λ xs m r.
        reads_got _ _ r

    list_of_ends : (at : ℕ) → Ends (list_of text names end one at)
    unfolding list_of
    list_of_ends at = reads_bind (byte text names end at) _ (byte_ends at) λ c n e. statements_ends c n e

  conditional_ends : (l : Reader Stmts) → ((at : ℕ) → Ends (l at)) → (at : ℕ) → Ends (conditional text names end l at)
  conditional_ends l h at =
      reads_bind (bool_expr text names end max_depth at) _ (bool_ends max_depth at) λ c m q.
      reads_bind (l m) _ (h m) λ a j r.
      reads_bind (l j) _ (h j) λ b i s.
      reads_got _ _ s

  stmt_of_ends : (inner : Reader Stmt) → ((at : ℕ) → Ends (inner at)) → (o : StmtOp) (at : ℕ) → Ends (stmt_of text names end inner o at)
  stmt_of_ends inner h StmtOp.op_assign at = assignment_ends at
  stmt_of_ends inner h StmtOp.op_if at = h at
  stmt_of_ends inner h StmtOp.op_unknown at = reads_bad

  statement_ends : (nest at : ℕ) → Ends (statement text names end nest at)
  unfolding statement
  statement_ends zero at =
      reads_bind (byte text names end at) _ (byte_ends at) λ op n e. stmt_of_ends _ (λ m. reads_bad) (stmt_op op) n
  statement_ends (suc nest) at =
      reads_bind (byte text names end at) _ (byte_ends at) λ op n e.
      stmt_of_ends _ (conditional_ends _ (list_of_ends (statement text names end nest) (statement_ends nest))) (stmt_op op) n

  list_ends : (nest at : ℕ) → Ends (list text names end nest at)
  list_ends nest at = list_of_ends (statement text names end nest) (statement_ends nest) at

-- at most gates_of_byte gates a byte, of at most max_bytes bytes
pub record Few (r : GatesAt) : Type 0 where
  pub ands : r.ands ≤ text_gates
  pub wides : r.wides ≤ text_gates
  pub next : r.next ≤ max_bytes

few : {A : Type 0} (f : A → Cost) (x : Read A) (end : ℕ) → end ≤ max_bytes → Reads (λ (a : A) (n : ℕ). gates_in (f a) ≤ gates_of_byte * n) x → Reads (λ (a : A) (n : ℕ). n ≤ end) x
    → (r : GatesAt) → r ≡ gates_at f x → Few r
few f (got a n) end l h k r e =
    let p = h.of a n refl in
    let q = k.of a n refl in
    record { ands = omega (arith, ap (λ (z : GatesAt). z.ands) e); wides = omega (arith, ap (λ (z : GatesAt). z.wides) e); next = omega (arith, ap (λ (z : GatesAt). z.next) e) }
few f bad end l h k r e =
    record { ands = omega (arith, ap (λ (z : GatesAt). z.ands) e); wides = omega (arith, ap (λ (z : GatesAt). z.wides) e); next = omega (arith, ap (λ (z : GatesAt). z.next) e) }

module _ (text : List ℕ) (names : Names) (end : ℕ) (l : end ≤ max_bytes) where
  module _ (marks : Bool) where
    pub int_few : (d at : ℕ) (r : GatesAt) → r ≡ gates_at (int_cost marks) (int_expr text names end d at) → Few r
    int_few d at r e =
        few (int_cost marks) _ end l (record { of = λ a n q. let h = (int_bytes text names end marks d at).of a n q in omega arith }) (int_ends text names end d at) r e

    pub bool_few : (d at : ℕ) (r : GatesAt) → r ≡ gates_at (bool_cost marks) (bool_expr text names end d at) → Few r
    bool_few d at r e =
        few (bool_cost marks) _ end l (record { of = λ a n q. let h = (bool_bytes text names end marks d at).of a n q in omega arith }) (bool_ends text names end d at) r e

  module _ (bits : ℕ) (small : bits ≤ max_bits) where
    pub statement_few : (nest at : ℕ) (r : GatesAt) → r ≡ gates_at (λ (x : Stmt). statement_cost x bits) (statement text names end nest at) → Few r
    statement_few nest at r e =
        few (λ (x : Stmt). statement_cost x bits) _ end l (record { of = λ a n q. let h = (statement_bytes text names end bits small nest at).of a n q in omega arith }) (statement_ends text names end nest at) r e

    pub list_few : (nest at : ℕ) (r : GatesAt) → r ≡ gates_at (λ (x : Stmts). statements_cost x bits) (list text names end nest at) → Few r
    list_few nest at r e =
        few (λ (x : Stmts). statements_cost x bits) _ end l (record { of = λ a n q. let h = (list_bytes text names end bits small nest at).of a n q in omega arith }) (list_ends text names end nest at) r e
