-- What the entry of SOLVE returns and leaves: the code, SOLVE's leavings, and two words of answer, which a refusal does not write.
use Rattle.std.specs.Prelude.{List, [], ◌∷◌, ℕ, ℤ}
use Rattle.search.specs.Solve.{After, solve}
use Rattle.search.specs.declared.Answered.{Answered}
use Rattle.search.specs.declared.Answered.TheVariants.{Sat, Unsat, Spent}
use Rattle.search.specs.declared.Solved.{Solved}
use Rattle.entries.specs.Code.{code_told, written}

-- SAT is 0, UNSAT 1, SPENT 2
abbrev pub answer_number : Answered → ℕ
answer_number Sat = 0
answer_number Unsat = 1
answer_number Spent = 2

-- which answer, and the tries
abbrev pub solve_words : Solved → List ℕ
solve_words s = answer_number s.answer ∷ s.tries ∷ []

pub record SolveReturn : Type 0 where
  pub code : ℕ
  pub values : List ℕ
  pub trail : List ℕ
  pub answer : List ℕ

abbrev pub solve_return : List ℕ → After → SolveReturn
solve_return answer after = record { code = code_told after.reply; values = after.values; trail = after.trail; answer = written solve_words after.reply answer }

unfoldable pub solve_entry : ℕ → List ℤ → List ℕ → List ℕ → ℕ → List ℕ → SolveReturn
solve_entry n words values trail budget answer = solve_return answer (solve n words values trail budget)
