-- Every tree that the readers of expressions and actions give is well formed. Assumes nothing.
use mathlib.Core.Path.{◌≡◌, refl, ap, subst, ◌∙◌}
use mathlib.Core.Bool.{Bool, true, false, cond, not}
use mathlib.Core.List.{List, [], ◌∷◌, ◌++◌}
use Prim.Native.Nat.{ℕ, zero, suc, ◌+◌, ◌<◌}
use native.Mathlib.Omega.{arith}
use lib.ListN.{length, get_or, get_or-append}
use lib.Seq.{get_or-append-add}
use lib.Dec.{ltb, leb, eqb}
use borrow.Author.Tests.{ltb-true, eqb-true, eqb-false, not-true}
use Rattle.design.specs.Tree.{IntExpr, BoolExpr, Stmt, Stmts, constant, variable, status, product, constant_b, variable_b, not_b, assign, assign_b, if_else, done, then, truth}
use Rattle.design.specs.Limits.{max_depth}
use Rattle.design.specs.Reading.{Read, got, bad, Reader, provided, bind, Line, lookup}
use Rattle.design.specs.Expression.{Names, with_later, IntOp, BoolOp, int_ops, bool_ops, int_op, bool_op, byte, word, is_variable, is_integer, is_matrix, legal, numbered, int_of, bool_of, int_expr, bool_expr}
use Rattle.design.specs.Action.{StmtOp, stmt_op, value, assignment, statements, list_of, conditional, stmt_of, statement, list}
use Rattle.design.specs.State.{Layout, status_slot, status_width}
use Rattle.design.specs.WellFormed.{IsInteger, IsBoolean, IntOk, BoolOk, StmtOk, StmtsOk}

-- P holds of what was read
pub record All {A : Type 0} (P : A → Type 0) (r : Read A) : Type 0 where
  pub of : (a : A) (n : ℕ) → r ≡ got a n → P a

pub all_got : {A : Type 0} (P : A → Type 0) (a : A) (n : ℕ) → P a → All P (got a n)
all_got P a n p = record { of = λ b m e. subst P (let q : a ≡ b = cc in q) p }

pub all_bad : {A : Type 0} (P : A → Type 0) → All P bad
all_bad P = record { of = λ b m e. let z : ◌≡◌ {A = ℕ} 0 1 = cc in absurd (omega arith) }

pub all_bind : {A B : Type 0} (P : A → Type 0) (Q : B → Type 0) (x : Read A) (k : A → ℕ → Read B) → All P x → ((a : A) (n : ℕ) → P a → All Q (k a n)) → All Q (bind x k)
all_bind P Q (got a n) k h f = f a n (h.of a n refl)
all_bind P Q bad k h f = all_bad Q

pub all_provided : {A : Type 0} (P : A → Type 0) (t : Bool) (r : Read A) → (t ≡ true → All P r) → All P (provided t r)
all_provided P true r f = f refl
all_provided P false r f = all_bad P

AllLines : {A : Type 0} → (A → Type 0) → List (Line A) → Type 0
AllLines P [] = Unit {0}
AllLines P (l ∷ ls) = P l.means × AllLines P ls

cond_all : {A : Type 0} (P : A → Type 0) (t : Bool) (a b : A) → P a → P b → P (cond t a b)
cond_all P true a b p q = p
cond_all P false a b p q = q

lookup_all : {A : Type 0} (P : A → Type 0) (other : A) (ls : List (Line A)) (b : ℕ) → P other → AllLines P ls → P (lookup other ls b)
unfolding AllLines
lookup_all P other [] b p h = p
lookup_all P other (l ∷ ls) b p h = cond_all P (eqb b l.code) l.means (lookup other ls b) h.0 (lookup_all P other ls b p h.1)

-- an operator keeps what is right
module _ (I : IntExpr → Type 0) (B : BoolExpr → Type 0) where
  abbrev KeepsI : IntOp → Type 0
  KeepsI IntOp.op_constant = Unit {0}
  KeepsI (IntOp.op_variable next) = Unit {0}
  KeepsI (IntOp.op_status next) = Unit {0}
  KeepsI IntOp.op_product = (c : ℕ) (a : IntExpr) → c < 65536 → I a → I (product c a)
  KeepsI IntOp.op_unknown = Unit {0}
  KeepsI (IntOp.op_ints f) = (a b : IntExpr) → I a → I b → I (f a b)

  abbrev KeepsB : BoolOp → Type 0
  KeepsB BoolOp.op_constant = Unit {0}
  KeepsB (BoolOp.op_variable next) = Unit {0}
  KeepsB BoolOp.op_not = Unit {0}
  KeepsB BoolOp.op_unknown = Unit {0}
  KeepsB (BoolOp.op_bools f) = (a b : BoolExpr) → B a → B b → B (f a b)
  KeepsB (BoolOp.op_ints f) = (a b : IntExpr) → I a → I b → B (f a b)

keeps_i : (ws : List ℕ) (l : Layout) (b : ℕ) → KeepsI (IntOk ws l) (BoolOk ws l) (int_op b)
unfolding int_op AllLines
keeps_i ws l b =
    let h : AllLines (KeepsI (IntOk ws l) (BoolOk ws l)) int_ops = (tt, (tt, (tt, ((λ x y p q. (p, q)), ((λ x y p q. (p, q)), (tt, (tt, ((λ c a p q. (p, q)), tt)))))))) in
    lookup_all (KeepsI (IntOk ws l) (BoolOk ws l)) IntOp.op_unknown int_ops b tt h

keeps_b : (ws : List ℕ) (l : Layout) (b : ℕ) → KeepsB (IntOk ws l) (BoolOk ws l) (bool_op b)
unfolding bool_op AllLines
keeps_b ws l b =
    let h : AllLines (KeepsB (IntOk ws l) (BoolOk ws l)) bool_ops = (tt, (tt, (tt, ((λ x y p q. (p, q)), ((λ x y p q. (p, q)), ((λ x y p q. (p, q)), ((λ x y p q. (p, q)), (tt, tt)))))))) in
    lookup_all (KeepsB (IntOk ws l) (BoolOk ws l)) BoolOp.op_unknown bool_ops b tt h

-- What an operator may name has its width, in the state and (next) in the next one. No text matters here.
module _ (names : Names) where
  abbrev pub Legal : Bool → Type 0
  Legal next = legal [] names 0 next ≡ true

  abbrev pub number : Bool → ℕ → ℕ
  number next i = numbered [] names 0 next i

  pub record NamesOk (ws : List ℕ) (l : Layout) : Type 0 where
    pub flags : (next : Bool) (v : ℕ) → Legal next → v < names.variables → (names.kind_of v ≡ 1 → ⊥) → get_or ws (number next v) 0 ≡ 1
    pub ints : (next : Bool) (v : ℕ) → Legal next → v < names.variables → names.kind_of v ≡ 1 → get_or ws (number next v) 0 ≡ 16
    pub statuses : (next : Bool) (m : ℕ) → Legal next → m < names.matrices → get_or ws (status_slot l (number next m)) 0 ≡ status_width

-- So have those of two states, whose slots follow one another, if those of one have.
module _ (names : Names) (ws : List ℕ) (l : Layout) (s : l.statuses ≡ names.variables) (n : length ws ≡ names.variables + names.matrices + 1) (ok : NamesOk (with_later false names) ws l) where
  near : (i w : ℕ) → i < length ws → get_or ws i 0 ≡ w → get_or (ws ++ ws) i 0 ≡ w
  near i w h e = get_or-append ws ws 0 i h ∙ e

  far : (i j w : ℕ) → j ≡ length ws + i → get_or ws i 0 ≡ w → get_or (ws ++ ws) j 0 ≡ w
  far i j w q e = ap (λ (k : ℕ). get_or (ws ++ ws) k 0) q ∙ get_or-append-add ws ws i 0 ∙ e

  pub two_states : NamesOk (with_later true names) (ws ++ ws) l
  two_states = record { flags = flags; ints = ints; statuses = statuses }
    where
      flags : (next : Bool) (v : ℕ) → Legal (with_later true names) next → v < names.variables → (names.kind_of v ≡ 1 → ⊥) → get_or (ws ++ ws) (number (with_later true names) next v) 0 ≡ 1
      flags false v g h k = near v 1 (omega arith) (ok.flags false v refl h k)
      flags true v g h k = far v _ 1 (omega arith) (ok.flags false v refl h k)

      ints : (next : Bool) (v : ℕ) → Legal (with_later true names) next → v < names.variables → names.kind_of v ≡ 1 → get_or (ws ++ ws) (number (with_later true names) next v) 0 ≡ 16
      ints false v g h k = near v 16 (omega arith) (ok.ints false v refl h k)
      ints true v g h k = far v _ 16 (omega arith) (ok.ints false v refl h k)

      statuses : (next : Bool) (m : ℕ) → Legal (with_later true names) next → m < names.matrices → get_or (ws ++ ws) (status_slot l (number (with_later true names) next m)) 0 ≡ status_width
      statuses false m g h = near (status_slot l m) status_width (omega arith) (ok.statuses false m refl h)
      statuses true m g h = far (status_slot l m) _ status_width (omega arith) (ok.statuses false m refl h)

module _ (text : List ℕ) (names : Names) (ws : List ℕ) (l : Layout) (bytes : (i : ℕ) → get_or text i 0 < 256) (ok : NamesOk names ws l) where
  abbrev OkI : IntExpr → Type 0
  OkI = IntOk ws l

  abbrev OkB : BoolExpr → Type 0
  OkB = BoolOk ws l

  any : {A : Type 0} (r : Read A) → All (λ a. Unit {0}) r
  any r = record { of = λ a n e. tt }

  module _ (end : ℕ) where
    int_of_ok : (operand : Reader IntExpr) → ((at : ℕ) → All OkI (operand at)) → (o : IntOp) → KeepsI OkI OkB o → (at : ℕ) → All OkI (int_of text names end operand o at)
    int_of_ok operand h IntOp.op_constant k at =
        all_bind (λ c. c < 65536) OkI (word text names end at) _
        (all_provided (λ c. c < 65536) (leb (at + 2) end) _ (λ e. all_got (λ c. c < 65536) _ _ (omega (arith, bytes at, bytes (at + 1))))) (λ c n p. all_got OkI (constant c) n p)
    int_of_ok operand h (IntOp.op_variable next) k at =
        all_bind (λ c. Unit {0}) OkI (byte text names end at) _ (any _) (λ v n p.
        all_provided OkI (legal text names end next) _ (λ g.
        all_provided OkI (is_variable text names end v) _ (λ e.
        all_provided OkI (is_integer text names end v) _ (λ f. all_got OkI (variable _) n (ok.ints next v g (ltb-true _ _ e) (eqb-true _ _ f))))))
    int_of_ok operand h (IntOp.op_status next) k at =
        all_bind (λ c. Unit {0}) OkI (byte text names end at) _ (any _) (λ m n p.
        all_provided OkI (legal text names end next) _ (λ g.
        all_provided OkI (is_matrix text names end m) _ (λ e. all_got OkI (status _) n (ok.statuses next m g (ltb-true _ _ e)))))
    int_of_ok operand h IntOp.op_product k at =
        all_bind (λ c. c < 65536) OkI (word text names end at) _
        (all_provided (λ c. c < 65536) (leb (at + 2) end) _ (λ e. all_got (λ c. c < 65536) _ _ (omega (arith, bytes at, bytes (at + 1)))))
        (λ c n p. all_bind OkI OkI (operand n) _ (h n) (λ a m q. all_got OkI (product c a) m (k c a p q)))
    int_of_ok operand h IntOp.op_unknown k at = all_bad OkI
    int_of_ok operand h (IntOp.op_ints f) k at =
        all_bind OkI OkI (operand at) _ (h at) (λ a n p. all_bind OkI OkI (operand n) _ (h n) (λ b m q. all_got OkI (f a b) m (k a b p q)))

    pub int_ok : (depth at : ℕ) → All OkI (int_expr text names end depth at)
    unfolding int_expr
    int_ok zero at = all_bad OkI
    int_ok (suc depth) at =
        all_bind (λ c. Unit {0}) OkI (byte text names end at) _ (any _)
        (λ op n p. int_of_ok (int_expr text names end depth) (int_ok depth) (int_op op) (keeps_i ws l op) n)

    bool_of_ok : (int : Reader IntExpr) → ((at : ℕ) → All OkI (int at)) → (operand : Reader BoolExpr) → ((at : ℕ) → All OkB (operand at)) → (o : BoolOp) → KeepsB OkI OkB o → (at : ℕ) → All OkB (bool_of text names end int operand o at)
    bool_of_ok int i operand h BoolOp.op_constant k at =
        all_bind (λ c. Unit {0}) OkB (byte text names end at) _ (any _) (λ v n p. all_provided OkB (leb v 1) (got (constant_b (truth v)) n) (λ e. all_got OkB (constant_b (truth v)) n tt))
    bool_of_ok int i operand h (BoolOp.op_variable next) k at =
        all_bind (λ c. Unit {0}) OkB (byte text names end at) _ (any _) (λ v n p.
        all_provided OkB (legal text names end next) _ (λ g.
        all_provided OkB (is_variable text names end v) _ (λ e.
        all_provided OkB (not (is_integer text names end v)) _ (λ f. all_got OkB (variable_b _) n (ok.flags next v g (ltb-true _ _ e) (eqb-false _ _ (not-true _ f)))))))
    bool_of_ok int i operand h BoolOp.op_not k at =
        all_bind OkB OkB (operand at) _ (h at) (λ a n p. all_got OkB (not_b a) n p)
    bool_of_ok int i operand h BoolOp.op_unknown k at = all_bad OkB
    bool_of_ok int i operand h (BoolOp.op_bools f) k at =
        all_bind OkB OkB (operand at) _ (h at) (λ a n p. all_bind OkB OkB (operand n) _ (h n) (λ b m q. all_got OkB (f a b) m (k a b p q)))
    bool_of_ok int i operand h (BoolOp.op_ints f) k at =
        all_bind OkI OkB (int at) _ (i at) (λ a n p. all_bind OkI OkB (int n) _ (i n) (λ b m q. all_got OkB (f a b) m (k a b p q)))

    pub bool_ok : (depth at : ℕ) → All OkB (bool_expr text names end depth at)
    unfolding bool_expr
    bool_ok zero at = all_bad OkB
    bool_ok (suc depth) at =
        all_bind (λ c. Unit {0}) OkB (byte text names end at) _ (any _)
        (λ op n p. bool_of_ok (int_expr text names end depth) (int_ok depth) (bool_expr text names end depth) (bool_ok depth) (bool_op op) (keeps_b ws l op) n)

  -- what is assigned is a variable of the state
  module _ (end : ℕ)
      (flags : (v : ℕ) → v < names.variables → (names.kind_of v ≡ 1 → ⊥) → IsBoolean ws l v)
      (ints : (v : ℕ) → v < names.variables → names.kind_of v ≡ 1 → IsInteger ws l v) where
    abbrev RightS : Stmt → Type 0
    RightS x = StmtOk ws l x

    abbrev RightSs : Stmts → Type 0
    RightSs x = StmtsOk ws l x

    value_ok : (v : ℕ) → v < names.variables → (t : Bool) → eqb (names.kind_of v) 1 ≡ t → (at : ℕ) → All RightS (value text names end v t at)
    value_ok v k true e at =
        all_bind OkI RightS (int_expr text names end max_depth at) _ (int_ok end max_depth at) (λ x n p. all_got RightS (assign v x) n (ints v k (eqb-true _ _ e), p))
    value_ok v k false e at =
        all_bind OkB RightS (bool_expr text names end max_depth at) _ (bool_ok end max_depth at) (λ x n p. all_got RightS (assign_b v x) n (flags v k (eqb-false _ _ e), p))

    assignment_ok : (at : ℕ) → All RightS (assignment text names end at)
    unfolding assignment
    assignment_ok at =
        all_bind (λ c. Unit {0}) RightS (byte text names end at) _ (any _)
        (λ v n p. all_provided RightS (ltb v names.variables) (value text names end v (eqb (names.kind_of v) 1) n) (λ e. value_ok v (ltb-true _ _ e) _ refl n))

    module _ (one : Reader Stmt) (h : (at : ℕ) → All RightS (one at)) where
      statements_ok : (n at : ℕ) → All RightSs (statements text names end one n at)
      unfolding statements
      statements_ok zero at = all_got RightSs done at tt
      statements_ok (suc n) at =
          all_bind RightS RightSs (one at) _ (h at) (λ x m p. all_bind RightSs RightSs (statements text names end one n m) _ (statements_ok n m) (λ xs j q. all_got RightSs (then x xs) j (p, q)))

      list_of_ok : (at : ℕ) → All RightSs (list_of text names end one at)
      unfolding list_of
      list_of_ok at = all_bind (λ c. Unit {0}) RightSs (byte text names end at) _ (any _) (λ n m p. statements_ok n m)

    conditional_ok : (list : Reader Stmts) → ((at : ℕ) → All RightSs (list at)) → (at : ℕ) → All RightS (conditional text names end list at)
    conditional_ok list h at =
        all_bind OkB RightS (bool_expr text names end max_depth at) _ (bool_ok end max_depth at) (λ c n p.
        all_bind RightSs RightS (list n) _ (h n) (λ a m q.
        all_bind RightSs RightS (list m) _ (h m) (λ b j r. all_got RightS (if_else c a b) j (p, q, r))))

    stmt_of_ok : (inner : Reader Stmt) → ((at : ℕ) → All RightS (inner at)) → (o : StmtOp) → (at : ℕ) → All RightS (stmt_of text names end inner o at)
    stmt_of_ok inner h StmtOp.op_assign at = assignment_ok at
    stmt_of_ok inner h StmtOp.op_if at = h at
    stmt_of_ok inner h StmtOp.op_unknown at = all_bad RightS

    statement_ok : (nest at : ℕ) → All RightS (statement text names end nest at)
    unfolding statement
    statement_ok zero at =
        all_bind (λ c. Unit {0}) RightS (byte text names end at) _ (any _) (λ op n p. stmt_of_ok _ (λ j. all_bad RightS) (stmt_op op) n)
    statement_ok (suc nest) at =
        all_bind (λ c. Unit {0}) RightS (byte text names end at) _ (any _)
        (λ op n p. stmt_of_ok _ (conditional_ok _ (list_of_ok (statement text names end nest) (statement_ok nest))) (stmt_op op) n)

    pub list_ok : (nest at : ℕ) → All RightSs (list text names end nest at)
    list_ok nest at = list_of_ok (statement text names end nest) (statement_ok nest) at
