-- The circuits of statements and movers. Each gives the state in literals that it leaves.
use Rattle.std.specs.Prelude.{ℕ, true, List, [], ◌∷◌, slice_set}
use Rattle.design.specs.Tree.{BoolExpr, Stmt, Stmts, assign, assign_b, if_else, done, then, InvalidCell, Mover, cell, raise}
use Rattle.design.specs.State.{Layout, status_slot, status_width}
use Rattle.clauses.specs.Literal.{Literal, negate, true_literal}
use Rattle.clauses.specs.Circuit.{Build, give, ◌>>=◌, and!, mux!, Bits, equal! }
use Rattle.clauses.specs.Expression.{Slots, constant_bits, integer_at, boolean_at, int!, bool!, test!, mark_at, with_mark}

-- a mux for every bit of a slot, and of a state: "S muxes"
unfoldable pub mux_bits! : Literal → Bits → Bits → Build Bits
mux_bits! c [] ys = give []
mux_bits! c (a ∷ xs) [] = give []
mux_bits! c (a ∷ xs) (b ∷ ys) = do
  x ← mux! c a b
  rs ← mux_bits! c xs ys
  give (x ∷ rs)

unfoldable pub muxes! : Literal → Slots → Slots → Build Slots
muxes! c [] ys = give []
muxes! c (a ∷ xs) [] = give []
muxes! c (a ∷ xs) (b ∷ ys) = do
  x ← mux_bits! c a b
  rs ← muxes! c xs ys
  give (x ∷ rs)

-- "If: condition, then-list, else-list, then S muxes." Statements and conditions mark (document 02, R-5), and both lists of an if start from the mark that the condition left.
unfoldable mutual
  pub statement! : Stmt → Layout → Slots → Build Slots
  statement! (assign v e) l s = do
    x ← int! true l s (mark_at l s) e
    give (slice_set (with_mark l x.mark s) v x.result)
  statement! (assign_b v e) l s = do
    x ← bool! true l s (mark_at l s) e
    give (slice_set (with_mark l x.mark s) v (x.result ∷ []))
  statement! (if_else c a b) l s = do
    x ← bool! true l s (mark_at l s) c
    y ← statements! a l (with_mark l x.mark s)
    z ← statements! b l (with_mark l x.mark s)
    muxes! x.result y z

  pub statements! : Stmts → Layout → Slots → Build Slots
  statements! done l s = give s
  statements! (then x xs) l s = do
    r ← statement! x l s
    statements! xs l r

-- "and(equal(status, constant), event)"
unfoldable pub status_and_event! : Layout → Slots → ℕ → ℕ → BoolExpr → Build Literal
status_and_event! l s m st event = do
  x ← equal! (integer_at s (status_slot l m)) (constant_bits 16 st)
  y ← test! l s event
  and! x y

-- "enable = and(and(equal(status, constant), event), guard), or not(v)"
unfoldable pub enable! : Layout → Slots → Mover → Build Literal
enable! l s (cell c) = do
  x ← status_and_event! l s c.matrix c.status c.event
  y ← test! l s c.guard
  and! x y
enable! l s (raise v) = give (negate (boolean_at s v))

-- "the action", and the target; an external becomes true
unfoldable pub effect! : Layout → Slots → Mover → Build Slots
effect! l s (cell c) = do
  r ← statements! c.action l s
  give (slice_set r (status_slot l c.matrix) (constant_bits status_width c.target))
effect! l s (raise v) = give (slice_set s v (true_literal ∷ []))

-- "Mover: enable ..; the action; S muxes between effect and old state."
unfoldable pub mover! : Layout → Slots → Mover → Build Slots
mover! l s m = do
  e ← enable! l s m
  r ← effect! l s m
  muxes! e r s

unfoldable pub movers! : Layout → Slots → List Mover → Build (List Slots)
movers! l s [] = give []
movers! l s (m ∷ ms) = do
  r ← mover! l s m
  rs ← movers! l s ms
  give (r ∷ rs)

-- "Property 1 and-chains from true over not(and(equal, event)), each cell's gates followed by its chain gate." `c` is the part so far.
unfoldable pub no_invalid! : Layout → Slots → Literal → List InvalidCell → Build Literal
no_invalid! l s c [] = give c
no_invalid! l s c (p ∷ ps) = do
  x ← status_and_event! l s p.matrix p.status p.event
  y ← and! c (negate x)
  no_invalid! l s y ps
