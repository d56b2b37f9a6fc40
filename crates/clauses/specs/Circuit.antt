-- Circuits. A builder is told the next free variable and gives its result, the variable that is free after it, and its gates in order.
-- A name that ends in ! is a builder. Bits stand low first.
use Rattle.std.specs.Prelude.{ℕ, zero, suc, ◌/◌, ◌%◌, Bool, true, false, List, [], ◌∷◌, ◌++◌, map}
use Rattle.design.specs.Tree.{truth}
use Rattle.clauses.specs.Literal.{Literal, positive, negate, true_literal, false_literal}
use Rattle.clauses.specs.Gate.{Gate, and, xor, mux}

pub record Built (A : Type 0) : Type 0 where
  pub out : A
  pub next : ℕ
  pub gates : List Gate

abbrev pub Build : Type 0 → Type 0
Build A = ℕ → Built A

module _ {A : Type 0} where
  -- a result that takes no gates
  unfoldable pub give : A → Build A
  give a n = record { out = a; next = n; gates = [] }

-- one after the other: what a `do` block means
infixl 10 ◌>>=◌
module _ {A B : Type 0} where
  unfoldable pub ◌>>=◌ : Build A → (A → Build B) → Build B
  ◌>>=◌ m f n =
      let r = m n in
      let s = f r.out r.next in
      record { out = s.out; next = s.next; gates = r.gates ++ s.gates }

-- "Gates, one new variable g each"
unfoldable pub and! : Literal → Literal → Build Literal
and! a b n = record { out = positive n; next = suc n; gates = and n a b ∷ [] }

unfoldable pub xor! : Literal → Literal → Build Literal
xor! a b n = record { out = positive n; next = suc n; gates = xor n a b ∷ [] }

unfoldable pub mux! : Literal → Literal → Literal → Build Literal
mux! c a b n = record { out = positive n; next = suc n; gates = mux n c a b ∷ [] }

-- "or(a,b) is -and(-a,-b)."
unfoldable pub or! : Literal → Literal → Build Literal
or! a b = do
  x ← and! (negate a) (negate b)
  give (negate x)

abbrev pub Bits : Type 0
Bits = List Literal

-- the bits of a sum, and "its last two carries" (document 02, R-5): the last one and the earlier one, which goes into the last bit
pub record Summed : Type 0 where
  pub bits : Bits
  pub carry : Literal
  pub earlier : Literal

-- the carry into the last bit: c, which goes into this bit, where none stands behind it; else e, which the rest of the sum tells
abbrev pub earlier_of : Literal → Bits → Literal → Literal
earlier_of c [] e = c
earlier_of c (x ∷ xs) e = e

-- "Sum, 16 bits from low with carry c: p=xor(a,b), s=xor(p,c), u=and(a,b), t=and(p,c), next carry or(u,t)"
unfoldable pub sum! : Bits → Bits → Literal → Build Summed
sum! [] ys c = give (record { bits = []; carry = c; earlier = c })
sum! (a ∷ xs) [] c = give (record { bits = []; carry = c; earlier = c })
sum! (a ∷ xs) (b ∷ ys) c = do
  p ← xor! a b
  s ← xor! p c
  u ← and! a b
  t ← and! p c
  next ← or! u t
  r ← sum! xs ys next
  give (record { bits = s ∷ r.bits; carry = r.carry; earlier = earlier_of c r.bits r.earlier })

-- "Difference negates b and starts with carry true."
unfoldable pub difference! : Bits → Bits → Build Summed
difference! a b = sum! a (map negate b) true_literal

-- one place up: x comes in below, and the top is dropped
abbrev pub shift : Literal → Bits → Bits
shift x [] = []
shift x (y ∷ ys) = x ∷ shift y ys

-- "the shifted operand or all false", by a bit of the constant
abbrev pub addend : Bool → Bits → Bits
addend true xs = xs
addend false xs = map (λ (x : Literal). false_literal) xs

-- A product by a constant (document 02, R-2): "16 sums from low bit to high, starting from all false, each adding the shifted operand or all false". Of so many sums
-- that are left: the constant without the bits that are done, the operand shifted so far, and the sum so far.
unfoldable pub product! : ℕ → ℕ → Bits → Bits → Build Bits
product! zero c xs partial = give partial
product! (suc left) c xs partial = do
  r ← sum! partial (addend (truth (c % 2)) xs) false_literal
  product! left (c / 2) (shift false_literal xs) r.bits

-- the top bit negated
abbrev pub negate_top : Bits → Bits
negate_top [] = []
negate_top (a ∷ []) = negate a ∷ []
negate_top (a ∷ b ∷ bs) = a ∷ negate_top (b ∷ bs)

-- "Less(a,b) negates both top bits, takes the difference and negates the last carry."
unfoldable pub less! : Bits → Bits → Build Literal
less! a b = do
  r ← difference! (negate_top a) (negate_top b)
  give (negate r.carry)

unfoldable pub xors! : Bits → Bits → Build Bits
xors! [] ys = give []
xors! (a ∷ xs) [] = give []
xors! (a ∷ xs) (b ∷ ys) = do
  x ← xor! a b
  rs ← xors! xs ys
  give (x ∷ rs)

-- an and-chain: "in a chain the part so far is the first operand"
unfoldable pub chain! : Literal → Bits → Build Literal
chain! c [] = give c
chain! c (a ∷ xs) = do
  x ← and! c a
  chain! x xs

-- "Equal: 16 xors from low, then an and-chain from true over their negations"
unfoldable pub equal! : Bits → Bits → Build Literal
equal! a b = do
  xs ← xors! a b
  chain! true_literal (map negate xs)

-- What an expression's gates come to: its result, and the mark after them (document 02, R-5).
pub record WithMark (A : Type 0) : Type 0 where
  pub result : A
  pub mark : Literal

-- "then an or of the mark with it", "the or of the mark with that": with whether an operation passes the end, where its expression marks
unfoldable pub mark! : Bool → Literal → Build Literal → Build Literal
mark! false m passes = give m
mark! true m passes = do
  x ← passes
  or! m x
