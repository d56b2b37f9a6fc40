-- Readings of SOLVE, by computation, on values and a trail that are all 7. Document 01's marked cases are in the table of `verdict`.
use mathlib.Core.Path.{◌≡◌, refl}
use mathlib.Core.List.{List, [], ◌∷◌}
use Prim.Native.Nat.{ℕ}
use lib.IntN.{ℤ, pos, negsuc}
use lib.ListN.{replicate}
use Rattle.design.specs.Answer.{answer}
use Rattle.search.specs.Search.{turn, solved}
use Rattle.search.specs.Solve.{After, refuses, solve}
use Rattle.search.specs.declared.Answered.{Answered}
use Rattle.search.specs.declared.Answered.TheVariants.{Sat, Spent}

-- n, the words and the budget
abbrev solves : ℕ → List ℤ → ℕ → After
solves n ws budget = solve n ws (replicate n 7) (replicate n 7) budget

-- the answer and the tries, values and trail left 0
abbrev answers : ℕ → Answered → ℕ → After
answers n a t = record { reply = answer (record { answer = a; tries = t }); values = replicate n 0; trail = replicate n 0 }

-- a literal that stands twice is no unit
pub stands_twice : solves 1 (pos 1 ∷ pos 1 ∷ pos 0 ∷ []) 0 ≡ answers 1 Spent 0
unfolding solve solved turn
stands_twice = refl

-- (-1 2)(-2 -3)(1 -2 3)(1 -3): equation 2.2.1 of source document 004
pub published : solves 3 (negsuc 0 ∷ pos 2 ∷ pos 0 ∷ negsuc 1 ∷ negsuc 2 ∷ pos 0 ∷ pos 1 ∷ negsuc 1 ∷ pos 3 ∷ pos 0 ∷ pos 1 ∷ negsuc 2 ∷ pos 0 ∷ []) 1 ≡ answers 3 Sat 1
unfolding solve solved turn
published = refl

-- a word out of range, and no closing 0
pub out_of_range : solves 2 (pos 1 ∷ pos 3 ∷ pos 0 ∷ []) 1 ≡ refuses 17 1 (7 ∷ 7 ∷ []) (7 ∷ 7 ∷ [])
unfolding solve
out_of_range = refl

pub not_closed : solves 2 (pos 1 ∷ pos 2 ∷ []) 1 ≡ refuses 17 2 (7 ∷ 7 ∷ []) (7 ∷ 7 ∷ [])
unfolding solve
not_closed = refl
