-- What contracts of code that walks accepted bytes say: of what a reader found there, its value, the position past it, and whether it passes the end.
use Rattle.std.specs.Prelude.{ℕ, ◌+◌, Bool, true, false, cond}
use Rattle.design.specs.Tree.{IntExpr, BoolExpr, Stmt, Stmts}
use Rattle.design.specs.State.{State, Layout, slot_count}
use Rattle.design.specs.declared.shape.Shape.{Shape}
pub use Rattle.design.specs.State.{layout_of}
use Rattle.design.specs.Reading.{Read, got, bad}
use Rattle.step.specs.Evaluation.{eval_int, eval_bool, passes_int, passes_bool}
use Rattle.step.specs.OneStep.{execute, execute_all}

-- how many slots an expression may read: those of a state, or where it may read the next state too those of two
abbrev pub slots_needed : Bool → Shape → ℕ
slots_needed later h = cond later (slot_count h + slot_count h) (slot_count h)

abbrev pub is_read : {A : Type 0} → Read A → Bool
is_read (got a n) = true
is_read bad = false

abbrev pub past : {A : Type 0} → Read A → ℕ
past (got a n) = n
past bad = 0

abbrev pub value_of : {A B : Type 0} → (A → B) → B → Read A → B
value_of f z (got a n) = f a
value_of f z bad = z

abbrev pub int_value : Layout → State → Read IntExpr → ℕ
int_value l s x = value_of (eval_int l s) 0 x

abbrev pub bool_value : Layout → State → Read BoolExpr → Bool
bool_value l s x = value_of (eval_bool l s) false x

-- whether what was read passes the end
abbrev pub int_passes : Layout → State → Read IntExpr → Bool
int_passes l s x = value_of (passes_int l s) false x

abbrev pub bool_passes : Layout → State → Read BoolExpr → Bool
bool_passes l s x = value_of (passes_bool l s) false x

-- the state after the statement, or the list of statements
abbrev pub after_stmt : Layout → Read Stmt → State → State
after_stmt l x s = value_of {B = State → State} (λ (t : Stmt) (z : State). execute t l z) (λ z. z) x s

abbrev pub after_list : Layout → Read Stmts → State → State
after_list l x s = value_of {B = State → State} (λ (t : Stmts) (z : State). execute_all t l z) (λ z. z) x s
