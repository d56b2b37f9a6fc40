-- Literals and clauses. Variables are numbered from 1.
use Rattle.std.specs.Prelude.{ℕ, Bool, true, false, List}

pub data Literal : Type 0 where
  positive negative : ℕ → Literal

-- "Not is negation."
abbrev pub negate : Literal → Literal
negate (positive v) = negative v
negate (negative v) = positive v

-- the variable of a literal
abbrev pub variable_of : Literal → ℕ
variable_of (positive v) = v
variable_of (negative v) = v

abbrev pub Clause : Type 0
Clause = List Literal

-- "Variable 1 is true; false is -1."
abbrev pub true_literal : Literal
true_literal = positive 1

abbrev pub false_literal : Literal
false_literal = negative 1

abbrev pub literal_of : Bool → Literal
literal_of true = true_literal
literal_of false = false_literal
