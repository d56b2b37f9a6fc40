-- The circuits of expressions over a state in literals. "Operands come before their operator, left to right."
-- A condition is that of an if. The sums, differences and products of statements and conditions mark (document 02, R-5), those of guards, events and properties do not: `marks` says which, and `m` is the
-- mark so far.
use Rattle.std.specs.Prelude.{ℕ, zero, suc, ◌/◌, ◌%◌, Bool, false, cond, List, [], ◌∷◌, ℤ, pos, negsuc, neg_ℤ, nat_lt, slice_index_or, slice_set}
use Rattle.design.specs.Tree.{IntExpr, BoolExpr, constant, variable, status, sum, difference, product, constant_b, variable_b, not_b, and_b, or_b, equal, less, truth}
use Rattle.design.specs.State.{Layout, status_slot}
use Rattle.clauses.specs.Literal.{Literal, negate, false_literal, literal_of}
use Rattle.step.specs.Pattern.{signed, wrap}
use Rattle.clauses.specs.Circuit.{Build, give, ◌>>=◌, and!, xor!, or!, Bits, Summed, sum!, difference!, product!, less!, equal!, WithMark, mark! }

-- a state in literals: the bits of each slot
abbrev pub Slots : Type 0
Slots = List Bits

-- so many bits of a number
abbrev pub constant_bits : ℕ → ℕ → Bits
constant_bits zero n = []
constant_bits (suc w) n = literal_of (truth (n % 2)) ∷ constant_bits w (n / 2)

-- so many bits, false above what there is
abbrev pub pad : ℕ → Bits → Bits
pad zero xs = []
pad (suc w) [] = false_literal ∷ pad w []
pad (suc w) (x ∷ xs) = x ∷ pad w xs

-- a slot read as an integer: "A status has 4 bits, read as 16 with false above."
abbrev pub integer_at : Slots → ℕ → Bits
integer_at s v = pad 16 (slice_index_or s v [])

abbrev pub lowest : Bits → Literal
lowest [] = false_literal
lowest (x ∷ xs) = x

-- a slot read as a Boolean
abbrev pub boolean_at : Slots → ℕ → Literal
boolean_at s v = lowest (slice_index_or s v [])

-- "an xor of its last two carries, the earlier first": a sum or difference passes the end
unfoldable pub sum_passes! : Summed → Build Literal
sum_passes! r = xor! r.earlier r.carry

-- "l and h being the least and largest operand whose exact product stays inside": of a constant. That just the operands from l to h do is proved in proofs/Operands. `negsuc n` is -(n + 1);
-- an operand has 16 bits, so for -1, where the quotient is 32,768, h is 32,767.
abbrev pub least_operand : ℤ → ℤ
least_operand (pos zero) = neg_ℤ (pos 32768)
least_operand (pos (suc n)) = neg_ℤ (pos (32768 / suc n))
least_operand (negsuc n) = neg_ℤ (pos (32767 / suc n))

abbrev pub largest_operand : ℤ → ℤ
largest_operand (pos zero) = pos 32767
largest_operand (pos (suc n)) = pos (32767 / suc n)
largest_operand (negsuc n) = pos (cond (nat_lt n 1) 32767 (32768 / suc n))

-- "less(operand, l), less(h, operand), an or of the two": the product of an operand by the constant c passes the end
unfoldable pub product_passes! : ℕ → Bits → Build Literal
product_passes! c x = do
  a ← less! x (constant_bits 16 (wrap (least_operand (signed c))))
  b ← less! (constant_bits 16 (wrap (largest_operand (signed c)))) x
  or! a b

unfoldable pub int! : Bool → Layout → Slots → Literal → IntExpr → Build (WithMark Bits)
int! marks l s m (constant c) = give (record { result = constant_bits 16 c; mark = m })
int! marks l s m (variable v) = give (record { result = integer_at s v; mark = m })
int! marks l s m (status k) = give (record { result = integer_at s (status_slot l k); mark = m })
int! marks l s m (sum a b) = do
  x ← int! marks l s m a
  y ← int! marks l s x.mark b
  r ← sum! x.result y.result false_literal
  after ← mark! marks y.mark (sum_passes! r)
  give (record { result = r.bits; mark = after })
int! marks l s m (difference a b) = do
  x ← int! marks l s m a
  y ← int! marks l s x.mark b
  r ← difference! x.result y.result
  after ← mark! marks y.mark (sum_passes! r)
  give (record { result = r.bits; mark = after })
int! marks l s m (product c a) = do
  x ← int! marks l s m a
  r ← product! 16 c x.result (constant_bits 16 0)
  after ← mark! marks x.mark (product_passes! c x.result)
  give (record { result = r; mark = after })

unfoldable pub bool! : Bool → Layout → Slots → Literal → BoolExpr → Build (WithMark Literal)
bool! marks l s m (constant_b b) = give (record { result = literal_of b; mark = m })
bool! marks l s m (variable_b v) = give (record { result = boolean_at s v; mark = m })
bool! marks l s m (not_b a) = do
  x ← bool! marks l s m a
  give (record { result = negate x.result; mark = x.mark })
bool! marks l s m (and_b a b) = do
  x ← bool! marks l s m a
  y ← bool! marks l s x.mark b
  r ← and! x.result y.result
  give (record { result = r; mark = y.mark })
bool! marks l s m (or_b a b) = do
  x ← bool! marks l s m a
  y ← bool! marks l s x.mark b
  r ← or! x.result y.result
  give (record { result = r; mark = y.mark })
bool! marks l s m (equal a b) = do
  x ← int! marks l s m a
  y ← int! marks l s x.mark b
  r ← equal! x.result y.result
  give (record { result = r; mark = y.mark })
bool! marks l s m (less a b) = do
  x ← int! marks l s m a
  y ← int! marks l s x.mark b
  r ← less! x.result y.result
  give (record { result = r; mark = y.mark })

-- "Guards, events and properties go on wrapping": an expression that marks nothing. The mark that it is given is not used.
unfoldable pub test! : Layout → Slots → BoolExpr → Build Literal
test! l s e = do
  x ← bool! false l s false_literal e
  give x.result

-- the mark of a state, and the state with another mark
abbrev pub mark_at : Layout → Slots → Literal
mark_at l s = boolean_at s l.mark

abbrev pub with_mark : Layout → Literal → Slots → Slots
with_mark l m s = slice_set s l.mark (m ∷ [])
