-- The value of an expression in a state, and whether it passes the end. A Boolean variable is true when its slot is not 0.
use Rattle.std.specs.Prelude.{ℕ, Bool, false, not, ◌&&◌, ◌||◌, ◌+ℤ◌, ◌-ℤ◌, ◌*ℤ◌, ◌==◌, slice_index}
use Rattle.design.specs.Tree.{IntExpr, BoolExpr, constant, variable, status, sum, difference, product, constant_b, variable_b, not_b, and_b, or_b, equal, less, truth}
use Rattle.design.specs.State.{State, Layout, status_slot}
use Rattle.step.specs.Pattern.{plus, minus, times, below, signed, outside}

unfoldable pub eval_int : Layout → State → IntExpr → ℕ
eval_int l s (constant c) = c
eval_int l s (variable v) = slice_index s v
eval_int l s (status m) = slice_index s (status_slot l m)
eval_int l s (sum a b) = plus (eval_int l s a) (eval_int l s b)
eval_int l s (difference a b) = minus (eval_int l s a) (eval_int l s b)
eval_int l s (product c a) = times c (eval_int l s a)

unfoldable pub eval_bool : Layout → State → BoolExpr → Bool
eval_bool l s (constant_b b) = b
eval_bool l s (variable_b v) = truth (slice_index s v)
eval_bool l s (not_b a) = not (eval_bool l s a)
eval_bool l s (and_b a b) = eval_bool l s a && eval_bool l s b
eval_bool l s (or_b a b) = eval_bool l s a || eval_bool l s b
eval_bool l s (equal a b) = eval_int l s a == eval_int l s b
eval_bool l s (less a b) = below (eval_int l s a) (eval_int l s b)

-- An expression passes the end (document 02, R-5, "Counters that pass the end") where "a sum, difference or product" in it "has an exact value outside -32,768..32,767". An
-- operation's exact value is that of its operands as they are, already wrapped. All of an expression counts, both sides of an and or an or too; a comparison adds nothing.
-- Only statements and conditions ask (`execute` in OneStep).
unfoldable pub passes_int : Layout → State → IntExpr → Bool
passes_int l s (constant c) = false
passes_int l s (variable v) = false
passes_int l s (status m) = false
passes_int l s (sum a b) = (passes_int l s a || passes_int l s b) || outside (signed (eval_int l s a) +ℤ signed (eval_int l s b))
passes_int l s (difference a b) = (passes_int l s a || passes_int l s b) || outside (signed (eval_int l s a) -ℤ signed (eval_int l s b))
passes_int l s (product c a) = passes_int l s a || outside (signed c *ℤ signed (eval_int l s a))

unfoldable pub passes_bool : Layout → State → BoolExpr → Bool
passes_bool l s (constant_b b) = false
passes_bool l s (variable_b v) = false
passes_bool l s (not_b a) = passes_bool l s a
passes_bool l s (and_b a b) = passes_bool l s a || passes_bool l s b
passes_bool l s (or_b a b) = passes_bool l s a || passes_bool l s b
passes_bool l s (equal a b) = passes_int l s a || passes_int l s b
passes_bool l s (less a b) = passes_int l s a || passes_int l s b
