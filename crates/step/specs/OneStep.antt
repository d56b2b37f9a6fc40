-- What one step does, what a list of choices does, and what it breaks (document 01, "One step").
use Rattle.std.specs.Prelude.{ℕ, zero, suc, Bool, true, cond, not, ◌&&◌, ◌||◌, List, [], ◌∷◌, ◌++◌, length, take, ◌==◌, nat_le, slice_index, slice_set}
use Rattle.std.proofs.Math.Option.{Option, none, some}
use Rattle.std.proofs.Math.ListN.{get_elem?}
use Rattle.design.specs.Tree.{BoolExpr, Stmt, Stmts, assign, assign_b, if_else, done, then, InvalidCell, Design, Mover, cell, raise, movers, truth, bit}
use Rattle.design.specs.State.{State, Layout, layout, status_slot, start}
use Rattle.step.specs.Pattern.{signed, outside}
use Rattle.step.specs.Evaluation.{eval_int, eval_bool, passes_int, passes_bool}
use Rattle.step.specs.Piece.{expression_of}
use Rattle.step.specs.Property.{Property, invariant, no_invalid_cell, constraint, property_of}

-- the mark (document 02, R-5): whether it is set; and the state with it set where a test says so, else as it was
abbrev pub marked : Layout → State → Bool
marked l s = truth (slice_index s l.mark)

abbrev pub marked_if : Bool → Layout → State → State
marked_if t l s = cond t (slice_set s l.mark 1) s

-- "its statements run in order, each reading what earlier ones left". "A step sets it when a sum, difference or product in a statement or condition it really carries out
-- (conditions whole) has an exact value outside -32,768..32,767. The value still wraps."
unfoldable mutual
  pub execute : Stmt → Layout → State → State
  execute (assign v e) l s = slice_set (marked_if (passes_int l s e) l s) v (eval_int l s e)
  execute (assign_b v e) l s = slice_set (marked_if (passes_bool l s e) l s) v (bit (eval_bool l s e))
  execute (if_else c a b) l s = cond (eval_bool l s c) (execute_all a l (marked_if (passes_bool l s c) l s)) (execute_all b l (marked_if (passes_bool l s c) l s))

  pub execute_all : Stmts → Layout → State → State
  execute_all done l s = s
  execute_all (then x xs) l s = execute_all xs l (execute x l s)

-- a matrix has this status
abbrev pub status_stands : Layout → State → ℕ → ℕ → Bool
status_stands l s m st = slice_index s (status_slot l m) == st

-- a matrix has this status and the event is true
abbrev pub status_and_event : Layout → State → ℕ → ℕ → BoolExpr → Bool
status_and_event l s m st event = status_stands l s m st && eval_bool l s event

-- "A cell is enabled when its matrix has its status and event and guard are true"; "an external is enabled when false"
unfoldable pub enabled : Layout → State → Mover → Bool
enabled l s (cell c) = status_and_event l s c.matrix c.status c.event && eval_bool l s c.guard
enabled l s (raise v) = not (truth (slice_index s v))

-- "then its statements run in order, .. and the status becomes the target"; an external "becomes true"
unfoldable pub effect : Layout → State → Mover → State
effect l s (cell c) = slice_set (execute_all c.action l s) (status_slot l c.matrix) c.target
effect l s (raise v) = slice_set s v 1

-- "A disabled choice is idle and changes nothing."
unfoldable pub move : Layout → State → Mover → State
move l s m = cond (enabled l s m) (effect l s m) s

-- of the mover that a choice names, if it names one
abbrev pub moved : Layout → State → Option Mover → State
moved l s none = s
moved l s (some m) = move l s m

abbrev pub idles : Layout → State → Option Mover → Bool
idles l s none = true
idles l s (some m) = not (enabled l s m)

-- at no invalid cell do status and event hold together
abbrev pub no_invalid : Layout → State → List InvalidCell → Bool
no_invalid l s [] = true
no_invalid l s (c ∷ cs) = not (status_and_event l s c.matrix c.status c.event) && no_invalid l s cs

module _ (d : Design) where
  -- A choice (document 01's term) is a mover number.
  unfoldable pub step : State → ℕ → State
  step s c = moved (layout d) s (get_elem? (movers d) c)

  unfoldable pub idle : State → ℕ → Bool
  idle s c = idles (layout d) s (get_elem? (movers d) c)

  -- the state that a list of choices leads to
  unfoldable pub run : State → List ℕ → State
  run s [] = s
  run s (c ∷ cs) = run (step s c) cs

  -- Whether a property is true in a state that a run is in, given the state before it, which the first state has not. Properties 0 and 1 are about the state itself.
  -- Property 2 (document 02, R-1) is about two successive states, an idle step's being the same twice: "It can break only at step 1 or later".
  -- "every property counts as false where it is set; for property 2 the later state decides" (document 02, R-5). The first state, which none is before, has the mark 0.
  unfoldable pub true_at : Property → Option State → State → Bool
  true_at (invariant e) before s = eval_bool (layout d) s e && not (marked (layout d) s)
  true_at no_invalid_cell before s = no_invalid (layout d) s d.invalid && not (marked (layout d) s)
  true_at (constraint e) none s = true
  true_at (constraint e) (some r) s = eval_bool (layout d) (r ++ s) e && not (marked (layout d) s)

  -- in a state alone
  abbrev pub holds : Property → State → Bool
  holds p s = true_at p none s

  -- the state before the one after so many choices
  unfoldable pub state_before : Option State → State → List ℕ → ℕ → Option State
  state_before before s cs zero = before
  state_before before s cs (suc i) = some (run s (take i cs))

  -- "It breaks the property at step i if the property is false after its first i choices; step 0 is the first state."
  unfoldable pub breaks_at : Property → List ℕ → ℕ → Bool
  breaks_at p cs i = nat_le i (length cs) && not (true_at p (state_before none (start d) cs i) (run (start d) (take i cs)))

  -- "A list of choices breaks a property if it is false in the first state or after any choice."
  unfoldable pub breaks_from : Property → Option State → State → List ℕ → Bool
  breaks_from p before s [] = not (true_at p before s)
  breaks_from p before s (c ∷ cs) = not (true_at p before s) || breaks_from p (some s) (step s c) cs

  unfoldable pub breaks : Property → List ℕ → Bool
  breaks p cs = breaks_from p none (start d) cs

-- Not part of the step rule: to unfold this is to unfold all of it, for facts about given designs.
unfoldable pub stepping : ℕ
unfolding eval_int eval_bool outside signed passes_int passes_bool execute execute_all enabled effect move step idle run expression_of property_of true_at state_before breaks_at breaks_from breaks movers layout start
stepping = 0
