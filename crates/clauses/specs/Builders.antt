-- Builders that the code has a function for and document 01 has no name for.
use Rattle.std.specs.Prelude.{ℕ, Bool, cond, ◌==◌}
use Rattle.design.specs.Tree.{BoolExpr}
use Rattle.design.specs.State.{Layout}
use Rattle.clauses.specs.Literal.{Literal, negate, false_literal}
use Rattle.clauses.specs.Circuit.{Build, give, ◌>>=◌, and!, xor!, or!, Bits, sum!, difference!, product!, equal!, less!, WithMark, mark! }
use Rattle.clauses.specs.Expression.{Slots, constant_bits, sum_passes!, product_passes! }
use Rattle.clauses.specs.Action.{status_and_event! }

-- one bit of a sum, and its carry
pub record SumBit : Type 0 where
  pub bit : Literal
  pub carry : Literal

unfoldable pub sum_bit! : Literal → Literal → Literal → Build SumBit
sum_bit! a b c = do
  p ← xor! a b
  s ← xor! p c
  u ← and! a b
  t ← and! p c
  next ← or! u t
  give (record { bit = s; carry = next })

-- a result beside the mark so far
unfoldable pub beside! : {A : Type 0} → Literal → Build A → Build (WithMark A)
beside! m build = do
  r ← build
  give (record { result = r; mark = m })

-- What an operator byte with two operands makes of their results. The mark so far is that of the second operand.
unfoldable pub arithmetic! : ℕ → Bool → Bits → WithMark Bits → Build (WithMark Bits)
arithmetic! op marks x y = do
  r ← cond (op == 0x04) (sum! x y.result false_literal) (difference! x y.result)
  after ← mark! marks y.mark (sum_passes! r)
  give (record { result = r.bits; mark = after })

-- a product of an operand by the constant c
unfoldable pub multiplied! : ℕ → Bool → WithMark Bits → Build (WithMark Bits)
multiplied! c marks x = do
  r ← product! 16 c x.result (constant_bits 16 0)
  after ← mark! marks x.mark (product_passes! c x.result)
  give (record { result = r; mark = after })

unfoldable pub logic! : ℕ → Literal → Literal → Build Literal
logic! op x y = cond (op == 0x13) (and! x y) (or! x y)

unfoldable pub compare! : ℕ → Bits → Bits → Build Literal
compare! op x y = cond (op == 0x15) (equal! x y) (less! x y)

-- one cell of property 1's chain: a normal cell, of kind 0, adds nothing
unfoldable pub link! : Layout → Slots → Literal → ℕ → ℕ → ℕ → BoolExpr → Build Literal
link! l s c kind m st event = cond (kind == 0) (give c) (do
  x ← status_and_event! l s m st event
  and! c (negate x))
