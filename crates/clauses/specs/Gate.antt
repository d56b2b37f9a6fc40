-- Gates and their clauses. Document 01, "The formula": "Gates, one new variable g each, clauses in this order".
use Rattle.std.specs.Prelude.{ℕ, List, [], ◌∷◌, ◌++◌}
use Rattle.clauses.specs.Literal.{Literal, positive, negative, negate, Clause}

-- a gate: its variable g, then its operands
pub data Gate : Type 0 where
  and xor : ℕ → Literal → Literal → Gate
  mux : ℕ → Literal → Literal → Literal → Gate

-- "and(a,b): (-g a)(-g b)(g -a -b)."
-- "xor(a,b): (-g a b)(-g -a -b)(g -a b)(g a -b)."
-- "mux(c,a,b): (-c -a g)(-c a -g)(c -b g)(c b -g)."
abbrev pub gate_clauses : Gate → List Clause
gate_clauses (and g a b) =
    (negative g ∷ a ∷ []) ∷
    (negative g ∷ b ∷ []) ∷
    (positive g ∷ negate a ∷ negate b ∷ []) ∷ []
gate_clauses (xor g a b) =
    (negative g ∷ a ∷ b ∷ []) ∷
    (negative g ∷ negate a ∷ negate b ∷ []) ∷
    (positive g ∷ negate a ∷ b ∷ []) ∷
    (positive g ∷ a ∷ negate b ∷ []) ∷ []
gate_clauses (mux g c a b) =
    (negate c ∷ negate a ∷ positive g ∷ []) ∷
    (negate c ∷ a ∷ negative g ∷ []) ∷
    (c ∷ negate b ∷ positive g ∷ []) ∷
    (c ∷ b ∷ negative g ∷ []) ∷ []

abbrev pub gates_clauses : List Gate → List Clause
gates_clauses [] = []
gates_clauses (g ∷ gs) = gate_clauses g ++ gates_clauses gs
