-- How many gates an expression or an action may have by the bytes it is read from: at most `gates_of_byte` a byte.
use Rattle.std.proofs.Common.{◌≡◌, ℕ, zero, suc, ◌+◌, ◌*◌, ◌≤◌, Bool, true, false, cond, not, eqb, ltb, leb, List, [], ◌∷◌, refl, subst, arith}
use Rattle.design.specs.Tree.{IntExpr, BoolExpr, Stmt, Stmts, variable_b}
use Rattle.design.specs.Limits.{max_depth, max_bits}
use Rattle.design.specs.Reading.{Read, got, bad, Reader, bind, provided, Line, lookup}
use Rattle.design.specs.Expression.{Names, IntOp, BoolOp, int_ops, bool_ops, int_op, bool_op, byte, word, legal, numbered, int_of, bool_of, int_expr, bool_expr}
use Rattle.design.specs.Action.{StmtOp, stmt_op, value, assignment, statements, list_of, conditional, stmt_of, statement, list}
use Rattle.clauses.specs.Cost.{gates_in, sum_mark_cost, product_mark_cost, int_cost, bool_cost, statement_cost, statements_cost}
use Rattle.clauses.specs.Limits.{gates_of_byte}

-- what is read, and where it ends, are in this relation
pub record Reads {A : Type 0} (I : A → ℕ → Type 0) (r : Read A) : Type 0 where
  pub of : (a : A) (n : ℕ) → r ≡ got a n → I a n

module _ {A : Type 0} {I : A → ℕ → Type 0} where
  pub reads_got : (a : A) (n : ℕ) → I a n → Reads I (got a n)
  reads_got a n h = record {
    of = λ b m e.
        let p : a ≡ b = cc in
        let q : n ≡ m = cc in
        subst (λ x. I x m) p (subst (λ x. I a x) q h);
  }

  pub reads_bad : Reads I bad
  reads_bad = record { of = λ b m e. let z : ◌≡◌ {A = ℕ} 0 1 = cc in absurd (omega arith) }

  pub reads_provided : (t : Bool) (r : Read A) → Reads I r → Reads I (provided t r)
  reads_provided true r h = h
  reads_provided false r h = reads_bad

pub reads_bind : {A B : Type 0} {I : A → ℕ → Type 0} {J : B → ℕ → Type 0} (x : Read A) (k : A → ℕ → Read B)
    → Reads I x → ((a : A) (n : ℕ) → I a n → Reads J (k a n)) → Reads J (bind x k)
reads_bind (got a n) k h f = f a n (h.of a n refl)
reads_bind bad k h f = reads_bad

-- what holds of every line of a table holds of what is looked up
AllLines : {A : Type 0} → (A → Type 0) → List (Line A) → Type 0
AllLines P [] = Unit {0}
AllLines P (l ∷ ls) = P l.means × AllLines P ls

cond_all : {A : Type 0} (P : A → Type 0) (t : Bool) (a b : A) → P a → P b → P (cond t a b)
cond_all P true a b p q = p
cond_all P false a b p q = q

lookup_all : {A : Type 0} (P : A → Type 0) (other : A) (ls : List (Line A)) (b : ℕ) → P other → AllLines P ls → P (lookup other ls b)
unfolding AllLines
lookup_all P other [] b p h = p
lookup_all P other (l ∷ ls) b p h = cond_all P (eqb b l.code) l.means (lookup other ls b) h.0 (lookup_all P other ls b p h.1)

-- where an expression marks
sum_mark : (marks : Bool) → gates_in (sum_mark_cost marks) ≤ 2
sum_mark true = omega arith
sum_mark false = omega arith

product_mark : (marks : Bool) → gates_in (product_mark_cost marks) ≤ 162
product_mark true = omega arith
product_mark false = omega arith

module _ (marks : Bool) where
  -- an operator of two operands adds at most the gates of its own byte
  abbrev IntAdds : IntOp → Type 0
  IntAdds IntOp.op_constant = Unit {0}
  IntAdds IntOp.op_product = Unit {0}
  IntAdds (IntOp.op_variable next) = Unit {0}
  IntAdds (IntOp.op_status next) = Unit {0}
  IntAdds IntOp.op_unknown = Unit {0}
  IntAdds (IntOp.op_ints f) = (a b : IntExpr) → gates_in (int_cost marks (f a b)) ≤ gates_in (int_cost marks a) + gates_in (int_cost marks b) + gates_of_byte

  abbrev BoolAdds : BoolOp → Type 0
  BoolAdds BoolOp.op_constant = Unit {0}
  BoolAdds (BoolOp.op_variable next) = Unit {0}
  BoolAdds BoolOp.op_not = Unit {0}
  BoolAdds BoolOp.op_unknown = Unit {0}
  BoolAdds (BoolOp.op_bools f) = (a b : BoolExpr) → gates_in (bool_cost marks (f a b)) ≤ gates_in (bool_cost marks a) + gates_in (bool_cost marks b) + gates_of_byte
  BoolAdds (BoolOp.op_ints f) = (a b : IntExpr) → gates_in (bool_cost marks (f a b)) ≤ gates_in (int_cost marks a) + gates_in (int_cost marks b) + gates_of_byte

  int_adds : (b : ℕ) → IntAdds (int_op b)
  unfolding int_op AllLines int_cost
  int_adds b =
      let few = sum_mark marks in
      lookup_all IntAdds IntOp.op_unknown int_ops b tt (tt, (tt, (tt, ((λ x y. omega (arith, few)), ((λ x y. omega (arith, few)), (tt, (tt, (tt, tt))))))))

  bool_adds : (b : ℕ) → BoolAdds (bool_op b)
  unfolding bool_op AllLines bool_cost
  bool_adds b =
      lookup_all BoolAdds BoolOp.op_unknown bool_ops b tt
      (tt, (tt, (tt, ((λ x y. omega arith), ((λ x y. omega arith), ((λ x y. omega arith), ((λ x y. omega arith), (tt, tt))))))))

  -- read from `at` on, so many gates a byte
  abbrev pub IntBytes : ℕ → IntExpr → ℕ → Type 0
  IntBytes at e n = gates_in (int_cost marks e) + gates_of_byte * at ≤ gates_of_byte * n

  abbrev pub BoolBytes : ℕ → BoolExpr → ℕ → Type 0
  BoolBytes at e n = gates_in (bool_cost marks e) + gates_of_byte * at ≤ gates_of_byte * n

module _ (text : List ℕ) (names : Names) (end : ℕ) where
  reads_byte : (at : ℕ) → Reads (λ b n. n ≡ at + 1) (byte text names end at)
  reads_byte at = reads_provided (ltb at end) _ (reads_got _ _ refl)

  reads_word : (at : ℕ) → Reads (λ b n. n ≡ at + 2) (word text names end at)
  reads_word at = reads_provided (leb (at + 2) end) _ (reads_got _ _ refl)

  module _ (marks : Bool) where
    -- what follows an operator that stands at `at`; a product has three bytes for its gates
    int_of_bytes : (operand : Reader IntExpr) → ((at : ℕ) → Reads (IntBytes marks at) (operand at)) → (o : IntOp) → IntAdds marks o → (at n : ℕ) → n ≡ at + 1
        → Reads (IntBytes marks at) (int_of text names end operand o n)
    unfolding int_cost
    int_of_bytes operand h IntOp.op_constant k at n e = reads_bind (word text names end n) _ (reads_word n) λ c m q. reads_got _ _ (omega arith)
    int_of_bytes operand h (IntOp.op_variable next) k at n e =
        reads_bind (byte text names end n) _ (reads_byte n) λ v m q.
        reads_provided (legal text names end next) _ (reads_provided (ltb v names.variables) _ (reads_provided (eqb (names.kind_of v) 1) _ (reads_got _ _ (omega arith))))
    int_of_bytes operand h (IntOp.op_status next) k at n e =
        reads_bind (byte text names end n) _ (reads_byte n) λ v m q.
        reads_provided (legal text names end next) _ (reads_provided (ltb v names.matrices) _ (reads_got _ _ (omega arith)))
    int_of_bytes operand h IntOp.op_product k at n e =
        reads_bind (word text names end n) _ (reads_word n) λ c m q.
        reads_bind (operand m) _ (h m) λ a j r.
        reads_got _ _ (omega (arith, product_mark marks))
    int_of_bytes operand h IntOp.op_unknown k at n e = reads_bad
    int_of_bytes operand h (IntOp.op_ints f) k at n e =
        reads_bind (operand n) _ (h n) λ a m q.
        reads_bind (operand m) _ (h m) λ b j r.
        reads_got _ _ (omega (arith, k a b))

    pub int_bytes : (d at : ℕ) → Reads (IntBytes marks at) (int_expr text names end d at)
    unfolding int_expr
    int_bytes zero at = reads_bad
    int_bytes (suc d) at =
        reads_bind (byte text names end at) _ (reads_byte at) λ op n e.
        int_of_bytes (int_expr text names end d) (int_bytes d) (int_op op) (int_adds marks op) at n e

    bool_of_bytes : (int : Reader IntExpr) → ((at : ℕ) → Reads (IntBytes marks at) (int at)) → (operand : Reader BoolExpr) → ((at : ℕ) → Reads (BoolBytes marks at) (operand at))
        → (o : BoolOp) → BoolAdds marks o → (at n : ℕ) → n ≡ at + 1 → Reads (BoolBytes marks at) (bool_of text names end int operand o n)
    unfolding bool_cost
    bool_of_bytes int i operand h BoolOp.op_constant k at n e =
        reads_bind (byte text names end n) _ (reads_byte n) λ v m q. reads_provided (leb v 1) _ (reads_got _ _ (omega arith))
    bool_of_bytes int i operand h (BoolOp.op_variable next) k at n e =
        reads_bind (byte text names end n) _ (reads_byte n) λ v m q.
        reads_provided (legal text names end next) _ (reads_provided (ltb v names.variables) _ (reads_provided (not (eqb (names.kind_of v) 1)) _
        (reads_got (variable_b (numbered text names end next v)) _ (omega arith))))
    bool_of_bytes int i operand h BoolOp.op_not k at n e = reads_bind (operand n) _ (h n) λ a m q. reads_got _ _ (omega arith)
    bool_of_bytes int i operand h BoolOp.op_unknown k at n e = reads_bad
    bool_of_bytes int i operand h (BoolOp.op_bools f) k at n e =
        reads_bind (operand n) _ (h n) λ a m q.
        reads_bind (operand m) _ (h m) λ b j r.
        reads_got _ _ (omega (arith, k a b))
    bool_of_bytes int i operand h (BoolOp.op_ints f) k at n e =
        reads_bind (int n) _ (i n) λ a m q.
        reads_bind (int m) _ (i m) λ b j r.
        reads_got _ _ (omega (arith, k a b))

    pub bool_bytes : (d at : ℕ) → Reads (BoolBytes marks at) (bool_expr text names end d at)
    unfolding bool_expr
    bool_bytes zero at = reads_bad
    bool_bytes (suc d) at =
        reads_bind (byte text names end at) _ (reads_byte at) λ op n e.
        bool_of_bytes (int_expr text names end d) (int_bytes d) (bool_expr text names end d) (bool_bytes d) (bool_op op) (bool_adds marks op) at n e

  -- with S state bits an if adds S gates, for three bytes too
  module _ (bits : ℕ) (few : bits ≤ max_bits) where
    abbrev pub StmtBytes : ℕ → Stmt → ℕ → Type 0
    StmtBytes at x n = gates_in (statement_cost x bits) + gates_of_byte * at ≤ gates_of_byte * n

    -- of statements, and of a list, which has a byte for their number
    abbrev pub StmtsBytes : ℕ → Stmts → ℕ → Type 0
    StmtsBytes at x n = gates_in (statements_cost x bits) + gates_of_byte * at ≤ gates_of_byte * n

    abbrev pub ListBytes : ℕ → Stmts → ℕ → Type 0
    ListBytes at x n = gates_in (statements_cost x bits) + gates_of_byte * (at + 1) ≤ gates_of_byte * n

    value_bytes : (v : ℕ) (t : Bool) (at : ℕ) → Reads (StmtBytes at) (value text names end v t at)
    unfolding statement_cost
    value_bytes v true at = reads_bind (int_expr text names end max_depth at) _ (int_bytes true max_depth at) λ e n h. reads_got _ _ (omega arith)
    value_bytes v false at = reads_bind (bool_expr text names end max_depth at) _ (bool_bytes true max_depth at) λ e n h. reads_got _ _ (omega arith)

    weaken : (at n : ℕ) (r : Read Stmt) → at ≤ n → Reads (StmtBytes n) r → Reads (StmtBytes at) r
    weaken at n r l h = record { of = λ x m e. omega (arith, h.of x m e) }

    assignment_bytes : (at : ℕ) → Reads (StmtBytes at) (assignment text names end at)
    unfolding assignment
    assignment_bytes at =
        reads_bind (byte text names end at) _ (reads_byte at) λ v n e.
        reads_provided (ltb v names.variables) _ (weaken at n _ (omega arith) (value_bytes v (eqb (names.kind_of v) 1) n))

    module _ (one : Reader Stmt) (h : (at : ℕ) → Reads (StmtBytes at) (one at)) where
      statements_bytes : (c at : ℕ) → Reads (StmtsBytes at) (statements text names end one c at)
      unfolding statements statements_cost
      statements_bytes zero at = reads_got _ _ (omega arith)
      statements_bytes (suc c) at =
          reads_bind (one at) _ (h at) λ x n q.
          reads_bind (statements text names end one c n) _ (statements_bytes c n) λ xs m r.
          reads_got _ _ (omega arith)

      list_of_bytes : (at : ℕ) → Reads (ListBytes at) (list_of text names end one at)
      unfolding list_of
      list_of_bytes at =
          reads_bind (byte text names end at) _ (reads_byte at) λ c n e.
          record { of = λ x m q. omega (arith, (statements_bytes c n).of x m q) }

    -- what follows the operator of an if that stands at `at`
    conditional_bytes : (l : Reader Stmts) → ((at : ℕ) → Reads (ListBytes at) (l at)) → (at n : ℕ) → n ≡ at + 1
        → Reads (StmtBytes at) (conditional text names end l n)
    unfolding statement_cost
    conditional_bytes l h at n e =
        reads_bind (bool_expr text names end max_depth n) _ (bool_bytes true max_depth n) λ c m q.
        reads_bind (l m) _ (h m) λ a j r.
        reads_bind (l j) _ (h j) λ b i s.
        reads_got _ _ (omega arith)

    stmt_of_bytes : (inner : Reader Stmt) → ((at n : ℕ) → n ≡ at + 1 → Reads (StmtBytes at) (inner n)) → (o : StmtOp) → (at n : ℕ) → n ≡ at + 1
        → Reads (StmtBytes at) (stmt_of text names end inner o n)
    stmt_of_bytes inner h StmtOp.op_assign at n e = weaken at n _ (omega arith) (assignment_bytes n)
    stmt_of_bytes inner h StmtOp.op_if at n e = h at n e
    stmt_of_bytes inner h StmtOp.op_unknown at n e = reads_bad

    pub statement_bytes : (nest at : ℕ) → Reads (StmtBytes at) (statement text names end nest at)
    unfolding statement
    statement_bytes zero at =
        reads_bind (byte text names end at) _ (reads_byte at) λ op n e.
        stmt_of_bytes _ (λ a m q. reads_bad) (stmt_op op) at n e
    statement_bytes (suc nest) at =
        reads_bind (byte text names end at) _ (reads_byte at) λ op n e.
        stmt_of_bytes _ (conditional_bytes _ (list_of_bytes (statement text names end nest) (statement_bytes nest))) (stmt_op op) at n e

    pub list_bytes : (nest at : ℕ) → Reads (ListBytes at) (list text names end nest at)
    list_bytes nest at = list_of_bytes (statement text names end nest) (statement_bytes nest) at
