-- Laws of the readers that the code's proofs cite. Assumes nothing.
use Prim.Native.Nat.{ℕ, zero, suc, ◌+◌, ◌-◌, ◌<◌, ◌≤◌}
use mathlib.Core.Path.{◌≡◌, refl, sym, ap, subst, ◌∙◌}
use mathlib.Core.Bool.{Bool, true, false, not}
use mathlib.Core.Logic.{◌⊎◌, inl, inr, ⊎_elim}
use mathlib.Core.List.{List}
use native.Mathlib.Omega.{arith}
use native.Mathlib.Numerals.{sub-one}
use native.Mathlib.Nat.{eq-or-lt_of_le}
use lib.ListN.{get_or}
use lib.Dec.{eqb}
use borrow.Author.Tests.{le-ltb, lt-ltb, eq-eqb, ne_eqb}
use Rattle.design.specs.Tree.{IntExpr, BoolExpr, Stmt, Stmts, constant, sum, difference, product, not_b, and_b, or_b, equal, less, assign, assign_b, if_else, then}
use Rattle.design.specs.Limits.{max_depth}
use Rattle.design.specs.Reading.{Read, got, bad, Reader, bind, provided}
use Rattle.design.specs.Expression.{Names, IntOp, BoolOp, int_op, bool_op, byte, word, is_variable, is_integer, is_matrix, int_of, bool_of, int_expr, bool_expr}
use Rattle.design.specs.Action.{StmtOp, stmt_op, assignment, statements, list_of, conditional, statement, list}
use Rattle.design.specs.Answers.{found}
use Rattle.std.specs.Prelude.{Option, Some, None}

-- what is found after a part that was found; a part that was refused; a last part, whatever is made of its tree
pub found_then : {A B : Type 0} (x : Read A) (k : A → ℕ → Read B) (m : ℕ) (r : Option ℕ) → Some m ≡ found x → ((a : A) → r ≡ found (k a m)) → r ≡ found (bind x k)
found_then (got a n) k m r e h = let q : m ≡ n = cc in subst (λ (j : ℕ). r ≡ found (k a j)) q (h a)
found_then bad k m r e h = let z : ◌≡◌ {A = ℕ} 0 1 = cc in absurd (omega arith)

pub found_bad : {A B : Type 0} (x : Read A) (k : A → ℕ → Read B) → None ≡ found x → None ≡ found (bind x k)
found_bad (got a n) k e = let z : ◌≡◌ {A = ℕ} 0 1 = cc in absurd (omega arith)
found_bad bad k e = refl

pub found_last : {A B : Type 0} (x : Read A) (f : A → B) → found x ≡ found (bind x (λ b n. got (f b) n))
found_last (got a n) f = refl
found_last bad f = refl

-- what is found does not depend on the tree that is made
found_same : {A B : Type 0} (x : Read A) (j k : A → ℕ → Read B) → ((a : A) (n : ℕ) → found (j a n) ≡ found (k a n)) → found (bind x j) ≡ found (bind x k)
found_same (got a n) j k h = h a n
found_same bad j k h = refl

provided_same : {A : Type 0} (t : Bool) (r s : Read A) → found r ≡ found s → found (provided t r) ≡ found (provided t s)
provided_same true r s h = h
provided_same false r s h = refl

-- two operands and what is made of them
abbrev pub pair : {A B : Type 0} → Reader A → (A → A → B) → Reader B
pair x f at = bind (x at) (λ a m. bind (x m) (λ b n. got (f a b) n))

pub pair_bad : {A B : Type 0} (x : Reader A) (f : A → A → B) (at : ℕ) → None ≡ found (x at) → None ≡ found (pair x f at)
pair_bad x f at h = found_bad (x at) (λ a m. bind (x m) (λ b n. got (f a b) n)) h

pub pair_then : {A B : Type 0} (x : Reader A) (f : A → A → B) (at m : ℕ) (r : Option ℕ) → Some m ≡ found (x at) → r ≡ found (x m) → r ≡ found (pair x f at)
pair_then x f at m r h q = found_then (x at) (λ a j. bind (x j) (λ b n. got (f a b) n)) m r h (λ a. q ∙ found_last (x m) (f a))

one_of_two : (b k : ℕ) → k ≤ b → b < k + 2 → (b ≡ k) ⊎ (b ≡ k + 1)
one_of_two b k p q = ⊎_elim (λ e. inl (sym e)) (λ l. inr (omega arith)) (eq-or-lt_of_le p)

-- the operator bytes by their ranges
pub int_two : (b : ℕ) → 4 ≤ b → b < 6 → (f : IntExpr → IntExpr → IntExpr) × (int_op b ≡ IntOp.op_ints f)
unfolding int_op
int_two b p q = ⊎_elim (λ e. (sum, ap int_op e)) (λ e. (difference, ap int_op e)) (one_of_two b 4 p q)

pub int_none : (b : ℕ) → (b < 1) ⊎ (9 ≤ b) → int_op b ≡ IntOp.op_unknown
unfolding int_op
int_none b s = simp (out 1 (omega arith) (omega arith), out 2 (omega arith) (omega arith), out 3 (omega arith) (omega arith), out 4 (omega arith) (omega arith), out 5 (omega arith) (omega arith), out 6 (omega arith) (omega arith), out 7 (omega arith) (omega arith), out 8 (omega arith) (omega arith))
  where
    out : (k : ℕ) → 1 ≤ k → k < 9 → eqb b k ≡ false
    out k p q = ne_eqb b k (λ e. ⊎_elim (λ l. omega arith) (λ l. omega arith) s)

-- of the two operators of the next state, the one that is no variable
pub int_next_status : (b : ℕ) → 6 ≤ b → b < 8 → (b ≡ 6 → ⊥) → int_op b ≡ IntOp.op_status true
unfolding int_op
int_next_status b p q n = ⊎_elim (λ e. absurd (n e)) (λ e. ap int_op e) (one_of_two b 6 p q)

pub bool_two : (b : ℕ) → 0x13 ≤ b → b < 0x15 → (f : BoolExpr → BoolExpr → BoolExpr) × (bool_op b ≡ BoolOp.op_bools f)
unfolding bool_op
bool_two b p q = ⊎_elim (λ e. (and_b, ap bool_op e)) (λ e. (or_b, ap bool_op e)) (one_of_two b 0x13 p q)

pub bool_compare : (b : ℕ) → 0x15 ≤ b → b < 0x17 → (f : IntExpr → IntExpr → BoolExpr) × (bool_op b ≡ BoolOp.op_ints f)
unfolding bool_op
bool_compare b p q = ⊎_elim (λ e. (equal, ap bool_op e)) (λ e. (less, ap bool_op e)) (one_of_two b 0x15 p q)

pub bool_none : (b : ℕ) → (b < 0x10) ⊎ (0x18 ≤ b) → bool_op b ≡ BoolOp.op_unknown
unfolding bool_op
bool_none b s = simp (out 0x10 (omega arith) (omega arith), out 0x11 (omega arith) (omega arith), out 0x12 (omega arith) (omega arith), out 0x13 (omega arith) (omega arith), out 0x14 (omega arith) (omega arith), out 0x15 (omega arith) (omega arith), out 0x16 (omega arith) (omega arith), out 0x17 (omega arith) (omega arith))
  where
    out : (k : ℕ) → 0x10 ≤ k → k < 0x18 → eqb b k ≡ false
    out k p q = ne_eqb b k (λ e. ⊎_elim (λ l. omega arith) (λ l. omega arith) s)

-- of the two statements, the one that is no assignment
pub stmt_second : (b : ℕ) → 0x20 ≤ b → b < 0x22 → (b ≡ 0x20 → ⊥) → stmt_op b ≡ StmtOp.op_if
unfolding stmt_op
stmt_second b p q n = ⊎_elim (λ e. absurd (n e)) (λ e. ap stmt_op e) (one_of_two b 0x20 p q)

stmt_unknown : (b : ℕ) → (b < 0x20) ⊎ (0x22 ≤ b) → stmt_op b ≡ StmtOp.op_unknown
unfolding stmt_op
stmt_unknown b s = simp (ne_eqb _ _ (out 0x20 (omega arith) (omega arith)), ne_eqb _ _ (out 0x21 (omega arith) (omega arith)))
  where
    out : (k : ℕ) → 0x20 ≤ k → k < 0x22 → b ≡ k → ⊥
    out k p q e = ⊎_elim (λ l. omega arith) (λ l. omega arith) s

-- What reads the next state finds, where that is legal, what the operator of the state finds; else nothing.
module _ (text : List ℕ) (names : Names) (end : ℕ) (int : Reader IntExpr) (bool : Reader BoolExpr) (at : ℕ) where
  abbrev Int : IntOp → Option ℕ
  Int o = found (int_of text names end int o at)

  abbrev Flag : BoolOp → Option ℕ
  Flag o = found (bool_of text names end int bool o at)

  module _ (h : names.later ≡ true) where
    pub later_variable : Int (IntOp.op_variable false) ≡ Int (IntOp.op_variable true)
    later_variable =
        found_same (byte text names end at) _ _
        (λ v n. rw h (provided_same (is_variable text names end v) _ _ (provided_same (is_integer text names end v) _ _ refl)))

    pub later_status : Int (IntOp.op_status false) ≡ Int (IntOp.op_status true)
    later_status = found_same (byte text names end at) _ _ (λ m n. rw h (provided_same (is_matrix text names end m) _ _ refl))

    pub later_flag : Flag (BoolOp.op_variable false) ≡ Flag (BoolOp.op_variable true)
    later_flag =
        found_same (byte text names end at) _ _
        (λ v n. rw h (provided_same (is_variable text names end v) _ _ (provided_same (not (is_integer text names end v)) _ _ refl)))

  module _ (h : names.later ≡ false) where
    none : {A B : Type 0} (x : Read A) (k : A → ℕ → Read B) → None ≡ found (bind x (λ a n. provided names.later (k a n)))
    none (got a n) k = rw h
    none bad k = refl

    pub illegal_variable : None ≡ Int (IntOp.op_variable true)
    illegal_variable = none (byte text names end at) _

    pub illegal_status : None ≡ Int (IntOp.op_status true)
    illegal_status = none (byte text names end at) _

    pub illegal_flag : None ≡ Flag (BoolOp.op_variable true)
    illegal_flag = none (byte text names end at) _

module _ (text : List ℕ) (names : Names) (end : ℕ) where
  abbrev I : ℕ → ℕ → Read IntExpr
  I d at = int_expr text names end d at

  abbrev B : ℕ → ℕ → Read BoolExpr
  B d at = bool_expr text names end d at

  pub int_zero : (d at : ℕ) → d ≡ 0 → None ≡ found (I d at)
  unfolding int_expr
  int_zero d at e = rw e

  pub int_past : (d at : ℕ) → end ≤ at → None ≡ found (I d at)
  unfolding int_expr
  int_past zero at h = refl
  int_past (suc d) at h = simp (le-ltb at end h)

  pub bool_zero : (d at : ℕ) → d ≡ 0 → None ≡ found (B d at)
  unfolding bool_expr
  bool_zero d at e = rw e

  pub bool_past : (d at : ℕ) → end ≤ at → None ≡ found (B d at)
  unfolding bool_expr
  bool_past zero at h = refl
  bool_past (suc d) at h = simp (le-ltb at end h)

  module _ (d at : ℕ) (z : d ≡ 0 → ⊥) (l : at < end) where
    pub int_step : (o : IntOp) → int_op (get_or text at 0) ≡ o → I d at ≡ int_of text names end (I (d - 1)) o (at + 1)
    unfolding int_expr
    int_step o e = go d z
      where
        go : (d : ℕ) → (d ≡ 0 → ⊥) → I d at ≡ int_of text names end (I (d - 1)) o (at + 1)
        go zero h = absurd (h refl)
        go (suc d) h = rw (sub-one, lt-ltb at end l, e)

    pub int_leaf : (o : IntOp) (r : Option ℕ) → int_op (get_or text at 0) ≡ o → r ≡ found (int_of text names end (I (d - 1)) o (at + 1)) → r ≡ found (I d at)
    int_leaf o r e q = q ∙ ap found (sym (int_step o e))

    pub int_pair : (r : Option ℕ) (m : ℕ) → 4 ≤ get_or text at 0 → get_or text at 0 < 6 → Some m ≡ found (I (d - 1) (at + 1)) → r ≡ found (I (d - 1) m) → r ≡ found (I d at)
    int_pair r m p q h k = let (f, e) = int_two (get_or text at 0) p q in int_leaf (IntOp.op_ints f) r e (pair_then (I (d - 1)) f (at + 1) m r h k)

    pub int_pair_bad : 4 ≤ get_or text at 0 → get_or text at 0 < 6 → None ≡ found (I (d - 1) (at + 1)) → None ≡ found (I d at)
    int_pair_bad p q h = let (f, e) = int_two (get_or text at 0) p q in int_leaf (IntOp.op_ints f) None e (pair_bad (I (d - 1)) f (at + 1) h)

    -- a product: what reads an integer constant has answered, then the operand follows
    pub int_product : (r : Option ℕ) (m : ℕ) → get_or text at 0 ≡ 8 → Some m ≡ found (int_of text names end (I (d - 1)) IntOp.op_constant (at + 1)) → r ≡ found (I (d - 1) m) → r ≡ found (I d at)
    unfolding int_op
    int_product r m e h k =
        int_leaf IntOp.op_product r (ap int_op e)
        (found_then (word text names end (at + 1)) _ m r (h ∙ sym (found_last (word text names end (at + 1)) constant)) (λ c. k ∙ found_last (I (d - 1) m) (product c)))

    pub int_product_bad : get_or text at 0 ≡ 8 → None ≡ found (int_of text names end (I (d - 1)) IntOp.op_constant (at + 1)) → None ≡ found (I d at)
    unfolding int_op
    int_product_bad e h = int_leaf IntOp.op_product None (ap int_op e) (found_bad (word text names end (at + 1)) _ (h ∙ sym (found_last (word text names end (at + 1)) constant)))

    -- the operators of the next state
    pub int_illegal : 6 ≤ get_or text at 0 → get_or text at 0 < 8 → names.later ≡ false → None ≡ found (I d at)
    unfolding int_op
    int_illegal p q h =
        ⊎_elim
        (λ e. int_leaf (IntOp.op_variable true) None (ap int_op e) (illegal_variable text names end (I (d - 1)) (B (d - 1)) (at + 1) h))
        (λ e. int_leaf (IntOp.op_status true) None (ap int_op e) (illegal_status text names end (I (d - 1)) (B (d - 1)) (at + 1) h))
        (one_of_two (get_or text at 0) 6 p q)

    pub int_later : (r : Option ℕ) → get_or text at 0 ≡ 6 → names.later ≡ true → r ≡ found (int_of text names end (I (d - 1)) (IntOp.op_variable false) (at + 1)) → r ≡ found (I d at)
    unfolding int_op
    int_later r e h q = int_leaf (IntOp.op_variable true) r (ap int_op e) (q ∙ later_variable text names end (I (d - 1)) (B (d - 1)) (at + 1) h)

    pub status_later : (r : Option ℕ) → 6 ≤ get_or text at 0 → get_or text at 0 < 8 → (get_or text at 0 ≡ 6 → ⊥) → names.later ≡ true
        → r ≡ found (int_of text names end (I (d - 1)) (IntOp.op_status false) (at + 1)) → r ≡ found (I d at)
    status_later r p l n h q = int_leaf (IntOp.op_status true) r (int_next_status (get_or text at 0) p l n) (q ∙ later_status text names end (I (d - 1)) (B (d - 1)) (at + 1) h)

    pub bool_step : (o : BoolOp) → bool_op (get_or text at 0) ≡ o → B d at ≡ bool_of text names end (I (d - 1)) (B (d - 1)) o (at + 1)
    unfolding bool_expr
    bool_step o e = go d z
      where
        go : (d : ℕ) → (d ≡ 0 → ⊥) → B d at ≡ bool_of text names end (I (d - 1)) (B (d - 1)) o (at + 1)
        go zero h = absurd (h refl)
        go (suc d) h = rw (sub-one, lt-ltb at end l, e)

    pub bool_leaf : (o : BoolOp) (r : Option ℕ) → bool_op (get_or text at 0) ≡ o → r ≡ found (bool_of text names end (I (d - 1)) (B (d - 1)) o (at + 1)) → r ≡ found (B d at)
    bool_leaf o r e q = q ∙ ap found (sym (bool_step o e))

    pub bool_illegal : get_or text at 0 ≡ 0x17 → names.later ≡ false → None ≡ found (B d at)
    unfolding bool_op
    bool_illegal e h = bool_leaf (BoolOp.op_variable true) None (ap bool_op e) (illegal_flag text names end (I (d - 1)) (B (d - 1)) (at + 1) h)

    pub bool_later : (r : Option ℕ) → get_or text at 0 ≡ 0x17 → names.later ≡ true
        → r ≡ found (bool_of text names end (I (d - 1)) (B (d - 1)) (BoolOp.op_variable false) (at + 1)) → r ≡ found (B d at)
    unfolding bool_op
    bool_later r e h q = bool_leaf (BoolOp.op_variable true) r (ap bool_op e) (q ∙ later_flag text names end (I (d - 1)) (B (d - 1)) (at + 1) h)

    pub bool_not : (r : Option ℕ) → bool_op (get_or text at 0) ≡ BoolOp.op_not → r ≡ found (B (d - 1) (at + 1)) → r ≡ found (B d at)
    bool_not r e q = bool_leaf BoolOp.op_not r e (q ∙ found_last (B (d - 1) (at + 1)) not_b)

    pub bool_pair : (r : Option ℕ) (m : ℕ) → 0x13 ≤ get_or text at 0 → get_or text at 0 < 0x15 → Some m ≡ found (B (d - 1) (at + 1)) → r ≡ found (B (d - 1) m) → r ≡ found (B d at)
    bool_pair r m p q h k = let (f, e) = bool_two (get_or text at 0) p q in bool_leaf (BoolOp.op_bools f) r e (pair_then (B (d - 1)) f (at + 1) m r h k)

    pub bool_pair_bad : 0x13 ≤ get_or text at 0 → get_or text at 0 < 0x15 → None ≡ found (B (d - 1) (at + 1)) → None ≡ found (B d at)
    bool_pair_bad p q h = let (f, e) = bool_two (get_or text at 0) p q in bool_leaf (BoolOp.op_bools f) None e (pair_bad (B (d - 1)) f (at + 1) h)

    pub compare_pair : (r : Option ℕ) (m : ℕ) → 0x15 ≤ get_or text at 0 → get_or text at 0 < 0x17 → Some m ≡ found (I (d - 1) (at + 1)) → r ≡ found (I (d - 1) m) → r ≡ found (B d at)
    compare_pair r m p q h k = let (f, e) = bool_compare (get_or text at 0) p q in bool_leaf (BoolOp.op_ints f) r e (pair_then (I (d - 1)) f (at + 1) m r h k)

    pub compare_bad : 0x15 ≤ get_or text at 0 → get_or text at 0 < 0x17 → None ≡ found (I (d - 1) (at + 1)) → None ≡ found (B d at)
    compare_bad p q h = let (f, e) = bool_compare (get_or text at 0) p q in bool_leaf (BoolOp.op_ints f) None e (pair_bad (I (d - 1)) f (at + 1) h)

  abbrev S : ℕ → ℕ → Read Stmt
  S k at = statement text names end k at

  abbrev Q : ℕ → ℕ → ℕ → Read Stmts
  Q k n at = statements text names end (S k) n at

  abbrev L : ℕ → ℕ → Read Stmts
  L k at = list text names end k at

  -- an assignment, past its operator byte
  pub assign_past : (at : ℕ) → end ≤ at → None ≡ found (assignment text names end at)
  unfolding assignment
  assign_past at h = simp (le-ltb at end h)

  pub assign_nothing : (at : ℕ) → at < end → names.variables ≤ get_or text at 0 → None ≡ found (assignment text names end at)
  unfolding assignment
  assign_nothing at h l = simp (lt-ltb at end h, le-ltb (get_or text at 0) names.variables l)

  module _ (at : ℕ) (h : at < end) (l : get_or text at 0 < names.variables) where
    pub assign_int : names.kind_of (get_or text at 0) ≡ 1 → found (I max_depth (at + 1)) ≡ found (assignment text names end at)
    unfolding assignment
    assign_int e = simp (lt-ltb at end h, lt-ltb (get_or text at 0) names.variables l, eq-eqb (names.kind_of (get_or text at 0)) 1 e) (found_last (I max_depth (at + 1)) (assign (get_or text at 0)))

    pub assign_flag : (names.kind_of (get_or text at 0) ≡ 1 → ⊥) → found (B max_depth (at + 1)) ≡ found (assignment text names end at)
    unfolding assignment
    assign_flag e = simp (lt-ltb at end h, lt-ltb (get_or text at 0) names.variables l, ne_eqb (names.kind_of (get_or text at 0)) 1 e) (found_last (B max_depth (at + 1)) (assign_b (get_or text at 0)))

  -- a list is its statements
  pub list_past : (k at : ℕ) → end ≤ at → None ≡ found (L k at)
  unfolding list_of
  list_past k at h = simp (le-ltb at end h)

  pub list_in : (k at : ℕ) → at < end → found (Q k (get_or text at 0) (at + 1)) ≡ found (L k at)
  unfolding list_of
  list_in k at h = simp (lt-ltb at end h)

  pub list_begins : (k at : ℕ) → at < end → found (Q k (get_or text at 0 - 0) (at + 1)) ≡ found (L k at)
  list_begins k at h = ap (λ (n : ℕ). found (Q k n (at + 1))) (let q : get_or text at 0 - 0 ≡ get_or text at 0 = omega arith in q) ∙ list_in k at h

  pub seq_none : (k n at : ℕ) → n ≤ 0 → Some at ≡ found (Q k n at)
  unfolding statements
  seq_none k zero at h = refl
  seq_none k (suc n) at h = absurd (omega arith)

  seq_step : (k n at : ℕ) → 0 < n → Q k n at ≡ bind (S k at) (λ s m. bind (Q k (n - 1) m) (λ r p. got (then s r) p))
  unfolding statements
  seq_step k zero at h = absurd (omega arith)
  seq_step k (suc n) at h = rw sub-one

  pub seq_bad : (k n at : ℕ) → 0 < n → None ≡ found (S k at) → None ≡ found (Q k n at)
  seq_bad k n at h e = found_bad (S k at) (λ s m. bind (Q k (n - 1) m) (λ r p. got (then s r) p)) e ∙ ap found (sym (seq_step k n at h))

  pub seq_more : (k n at m : ℕ) → 0 < n → Some m ≡ found (S k at) → found (Q k (n - 1) m) ≡ found (Q k n at)
  seq_more k n at m h e = found_then (S k at) (λ s j. bind (Q k (n - 1) j) (λ r p. got (then s r) p)) m (found (Q k (n - 1) m)) e (λ s. found_last (Q k (n - 1) m) (then s)) ∙ ap found (sym (seq_step k n at h))

  pub seq_next : (k n i at m : ℕ) → i < n → Some m ≡ found (S k at) → found (Q k (n - (i + 1)) m) ≡ found (Q k (n - i) at)
  seq_next k n i at m h e = ap (λ (j : ℕ). found (Q k j m)) (let q : n - (i + 1) ≡ n - i - 1 = omega arith in q) ∙ seq_more k (n - i) at m (omega arith) e

  -- a statement by its byte
  pub stmt_past : (k at : ℕ) → end ≤ at → None ≡ found (S k at)
  unfolding statement
  stmt_past zero at h = simp (le-ltb at end h)
  stmt_past (suc k) at h = simp (le-ltb at end h)

  pub stmt_assign : (k at : ℕ) → at < end → stmt_op (get_or text at 0) ≡ StmtOp.op_assign → found (assignment text names end (at + 1)) ≡ found (S k at)
  unfolding statement
  stmt_assign zero at h e = simp (lt-ltb at end h, e)
  stmt_assign (suc k) at h e = simp (lt-ltb at end h, e)

  pub stmt_none : (k at : ℕ) → at < end → (get_or text at 0 < 0x20) ⊎ (0x22 ≤ get_or text at 0) → None ≡ found (S k at)
  unfolding statement
  stmt_none zero at l h = simp (lt-ltb at end l, stmt_unknown (get_or text at 0) h)
  stmt_none (suc k) at l h = simp (lt-ltb at end l, stmt_unknown (get_or text at 0) h)

  pub stmt_flat : (k at : ℕ) → k ≡ 0 → at < end → stmt_op (get_or text at 0) ≡ StmtOp.op_if → None ≡ found (S k at)
  unfolding statement
  stmt_flat zero at z h e = simp (lt-ltb at end h, e)
  stmt_flat (suc k) at z h e = absurd (omega arith)

  stmt_if : (k at : ℕ) → (k ≡ 0 → ⊥) → at < end → stmt_op (get_or text at 0) ≡ StmtOp.op_if → S k at ≡ conditional text names end (L (k - 1)) (at + 1)
  unfolding statement
  stmt_if zero at z h e = absurd (z refl)
  stmt_if (suc k) at z h e = rw (sub-one, lt-ltb at end h, e)

  module _ (k at : ℕ) (z : k ≡ 0 → ⊥) (h : at < end) (e : stmt_op (get_or text at 0) ≡ StmtOp.op_if) where
    pub if_bad : None ≡ found (B max_depth (at + 1)) → None ≡ found (S k at)
    if_bad q = found_bad (B max_depth (at + 1)) (λ c m. bind (L (k - 1) m) (λ a p. bind (L (k - 1) p) (λ b r. got (if_else c a b) r))) q ∙ ap found (sym (stmt_if k at z h e))

    pub if_bad_then : (m : ℕ) → Some m ≡ found (B max_depth (at + 1)) → None ≡ found (L (k - 1) m) → None ≡ found (S k at)
    if_bad_then m q w = found_then (B max_depth (at + 1)) (λ c j. bind (L (k - 1) j) (λ a p. bind (L (k - 1) p) (λ b r. got (if_else c a b) r))) m None q (λ c. found_bad (L (k - 1) m) (λ a p. bind (L (k - 1) p) (λ b r. got (if_else c a b) r)) w) ∙ ap found (sym (stmt_if k at z h e))

    pub if_else_lem : (m p : ℕ) (x : Option ℕ) → Some m ≡ found (B max_depth (at + 1)) → Some p ≡ found (L (k - 1) m) → x ≡ found (L (k - 1) p) → x ≡ found (S k at)
    if_else_lem m p x q w v = found_then (B max_depth (at + 1)) (λ c j. bind (L (k - 1) j) (λ a i. bind (L (k - 1) i) (λ b r. got (if_else c a b) r))) m x q (λ c. found_then (L (k - 1) m) (λ a i. bind (L (k - 1) i) (λ b r. got (if_else c a b) r)) p x w (λ a. v ∙ found_last (L (k - 1) p) (if_else c a))) ∙ ap found (sym (stmt_if k at z h e))
