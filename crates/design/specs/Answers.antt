-- What the code answers, of what the definitions say.
use Rattle.std.specs.Prelude.{Option, Some, None, ℕ, ◌+◌, ◌<◌, ◌≡◌, cond, List, [], ◌∷◌, eqb, length}
use Rattle.design.specs.Tree.{BoolExpr, Variable, if_external, Design, movers}
use Rattle.design.specs.Reading.{Read, got, bad}
use Rattle.design.specs.Expression.{Names}
use Rattle.design.specs.DesignFile.{Item, item, refused, Walk, after, items, Entry, normal, invalid, variable_at, matrix_at, events_from, invariant_at, constraint_at}
use Rattle.design.specs.Check.{names_by}
use Rattle.design.specs.declared.shape.Shape.{Shape}
use Rattle.design.specs.declared.shape.Counts.{Counts}
use Rattle.design.specs.declared.shape.Offsets.{Offsets}
use Rattle.design.specs.Answer.{Answer, answer}

-- of what was read, the position past it
abbrev pub found : {A : Type 0} → Read A → Option ℕ
found (got a n) = Some n
found bad = None

-- of an item or a section, the position past it, or the refusal
abbrev pub walked : {A : Type 0} → Item A → Answer ℕ
walked (item a n) = answer n
walked (refused number place) = Answer.refused number place

-- the same, of what is to fill its length up to `past`
abbrev pub length_filled : ℕ → ℕ → ℕ → Option ℕ → Answer ℕ
length_filled number place past (Some n) = cond (eqb n past) (answer past) (Answer.refused number place)
length_filled number place past None = Answer.refused number place

abbrev pub sum_of : {A : Type 0} → (A → ℕ) → List A → ℕ
sum_of f [] = 0
sum_of f (x ∷ xs) = f x + sum_of f xs

-- of a section, the position past it and how many movers it has, on top of k
abbrev pub counted : {A : Type 0} → (A → ℕ) → ℕ → Item (List A) → Answer (ℕ × ℕ)
counted f k (item xs n) = answer (n, k + sum_of f xs)
counted f k (refused number place) = Answer.refused number place

abbrev pub raises : Variable → ℕ
raises x = if_external x.kind 1 0

abbrev pub moves : Entry → ℕ
moves (normal c) = 1
moves (invalid p) = 0

-- the invariant, and the constraint behind it
abbrev pub expressions_at : List ℕ → ℕ → Names → Offsets → Walk (BoolExpr × BoolExpr)
expressions_at file end names offsets at =
    after (invariant_at file end names offsets.constraint at) λ i p.
    after (constraint_at file end names offsets.constrained p) λ c q.
    item (i, c) q

-- of all sections, the position past them and the number of movers
abbrev pub bodied : Item Design → Answer (ℕ × ℕ)
bodied (item d n) = answer (n, length (movers d))
bodied (refused number place) = Answer.refused number place

-- the first sections are right and end where the next ones stand
module _ (file : List ℕ) (end : ℕ) (counts : Counts) (offsets : Offsets) where
  abbrev pub VariablesRight : ℕ → Type 0
  VariablesRight externals = answer (offsets.matrices, externals) ≡ counted raises 0 (items (variable_at file end) counts.variables 0)

  abbrev pub MatricesRight : Type 0
  MatricesRight = answer offsets.events ≡ walked (items (matrix_at file end) counts.matrices offsets.matrices)

  abbrev pub EventsRight : Type 0
  EventsRight = answer offsets.cells ≡ walked (events_from file end (names_by file counts) offsets.matrices 0 counts.matrices offsets.events)

-- counts are two-byte numbers
pub record SmallCounts (counts : Counts) : Type 0 where
  pub variables : counts.variables < 65536
  pub cells : counts.cells < 65536

-- while CHECK reads, the counts that the trailer does not have are 0
abbrev pub shape_of : Counts → Shape
shape_of counts = record { variables = counts.variables; matrices = counts.matrices; normals = 0; externals = 0; bits = 0 }
