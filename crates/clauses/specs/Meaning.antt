-- What clauses say of an assignment, which makes each variable true or false.
-- The search knows clauses by this page alone.
use Rattle.std.specs.Prelude.{◌≡◌, ℕ, ◌<◌, ◌≤◌, Bool, true, false, not, ◌&&◌, ◌||◌, List, [], ◌∷◌}
use Rattle.clauses.specs.Literal.{Literal, positive, negative, variable_of, Clause}

abbrev pub Assignment : Type 0
Assignment = ℕ → Bool

abbrev pub literal_true : Assignment → Literal → Bool
literal_true ρ (positive v) = ρ v
literal_true ρ (negative v) = not (ρ v)

-- some literal is true
abbrev pub clause_true : Assignment → Clause → Bool
clause_true ρ [] = false
clause_true ρ (l ∷ ls) = literal_true ρ l || clause_true ρ ls

-- "every clause has a true literal"
abbrev pub satisfies : Assignment → List Clause → Bool
satisfies ρ [] = true
satisfies ρ (c ∷ cs) = clause_true ρ c && satisfies ρ cs

abbrev pub Satisfiable : List Clause → Type 0
Satisfiable cs = (ρ : Assignment) × (satisfies ρ cs ≡ true)

-- every literal names one of the variables 1..n
abbrev pub ClauseWithin : ℕ → Clause → Type 0
ClauseWithin n [] = Unit {0}
ClauseWithin n (l ∷ ls) = ((0 < variable_of l) × (variable_of l ≤ n)) × ClauseWithin n ls

abbrev pub Within : ℕ → List Clause → Type 0
Within n [] = Unit {0}
Within n (c ∷ cs) = ClauseWithin n c × Within n cs
