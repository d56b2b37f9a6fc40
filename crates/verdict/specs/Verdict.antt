-- VERDICT (document 01, "The search" and "Turned-back calls"). `p` is the number of a property, `q` the property that it and the piece name.
use Rattle.std.specs.Prelude.{Bool, ◌&&◌, List, ◌++◌, ℕ, zero, suc, ◌+◌, ◌-◌, leb, ℤ, length, drop}
use Rattle.design.specs.Tree.{Design}
use Rattle.step.specs.Property.{Property, property_of}
use Rattle.clauses.specs.Words.{words}
use Rattle.clauses.specs.Formula.{n, formula}
use Rattle.clauses.specs.Admission.{admit}
use Rattle.design.specs.Answer.{Answer, refused, answer, need}
use Rattle.clauses.specs.Decode.{decode}
use Rattle.search.specs.Search.{Budget, up_to, SAT, UNSAT, SPENT, Outcome, solved}
use Rattle.search.specs.Search as search
use Rattle.search.specs.Solve.{leaves}

-- "It answers VIOLATED with its step, CLEAN, or SPENT with the bound it stood at"
pub data Verdict : Type 0 where
  VIOLATED : ℕ → Verdict
  CLEAN : Verdict
  SPENT-AT : ℕ → Verdict

-- the verdict, "and the tries summed"
pub record Told : Type 0 where
  pub verdict : Verdict
  pub tries : ℕ

-- the same, with the last bound tried and what its search came to
pub record Judged : Type 0 where
  pub told : Told
  pub bound : ℕ
  pub outcome : Outcome

abbrev pub judged : Verdict → ℕ → ℕ → Outcome → Judged
judged v tries i o = record { told = record { verdict = v; tries = tries }; bound = i; outcome = o }

-- what a bound's search decides, by its answer, after so many tries, its own included: "The step is the bound that was SAT."
abbrev pub decided : search.Answer → ℕ → ℕ → Outcome → Judged → Judged
decided (SAT settings) tries i o otherwise = judged (VIOLATED i) tries i o
decided UNSAT tries i o otherwise = otherwise
decided SPENT tries i o otherwise = judged (SPENT-AT i) tries i o

module _ (d : Design) (q : Property) where
  -- the search on the formula for bound i
  unfoldable pub searched : Budget → ℕ → Outcome
  searched b i = solved (n d q i) (formula d q i) b

  -- bound i and so many after it, once t tries are made: each "with what is left of one budget"
  unfoldable pub judged_from : ℕ → ℕ → ℕ → ℕ → Judged
  judged_from budget zero i t =
      let o = searched (up_to (budget - t)) i in
      decided o.answer (t + o.tries) i o (judged CLEAN (t + o.tries) i o)
  judged_from budget (suc m) i t =
      let o = searched (up_to (budget - t)) i in
      decided o.answer (t + o.tries) i o (judged_from budget m (suc i) (t + o.tries))

  -- "VERDICT solves bounds 0, 1, .. up to its bound with what is left of one budget, to the first SAT."
  unfoldable pub judge : ℕ → ℕ → Judged
  judge k budget = judged_from budget k 0 0

-- lent memory
pub record Memory : Type 0 where
  pub clauses : List ℤ
  pub values : List ℕ
  pub trail : List ℕ
  pub choices : List ℕ

-- the answer, and lent memory after the call
pub record After : Type 0 where
  pub answer : Answer Told
  pub memory : Memory

module _ (file piece : List ℕ) (d : Design) (p : ℕ) where
  -- "on VIOLATED only, the choices decoded from them": by DECODE, from the values left
  abbrev pub choices_left : Verdict → List ℕ → List ℕ → List ℕ
  choices_left (VIOLATED i) values choices = (decode file piece p i values choices).choices
  choices_left CLEAN values choices = choices
  choices_left (SPENT-AT i) values choices = choices

  -- "VERDICT leaves the last formula tried, SOLVE's leavings and, on VIOLATED only, the choices decoded from them. All else keeps."
  unfoldable pub memory_left : Judged → Memory → Memory
  memory_left j lent =
      let formula_words = words (formula d (property_of file piece d p) j.bound) in
      let solve = leaves (n d (property_of file piece d p) j.bound) j.outcome lent.values lent.trail in
      record {
        clauses = formula_words ++ drop (length formula_words) lent.clauses;
        values = solve.values;
        trail = solve.trail;
        choices = choices_left j.told.verdict solve.values lent.choices;
      }

-- there is room for the full bound
unfoldable pub room_for : Design → Property → ℕ → Memory → Bool
room_for d q k lent =
    leb (length (words (formula d q k))) (length lent.clauses)
    && leb (n d q k) (length lent.values)
    && leb (n d q k) (length lent.trail)
    && leb k (length lent.choices)

-- a refusal "leaves all lent memory unchanged"
abbrev pub after_call : Memory → Answer (Told × Memory) → After
after_call lent (refused number place) = record { answer = refused number place; memory = lent }
after_call lent (answer (told, left)) = record { answer = answer told; memory = left }

-- "VERDICT: 13; 14; 16 clauses, values, trail or choices short for the full bound." 13 is "property over 1", with a constraint over 2; 14 is
-- "bound over 100". "Places not named are 0." 8 and 19 (document 02, R-4 and R-2) stand in `admit`; 19 is for the full bound.
unfoldable pub verdict : List ℕ → List ℕ → ℕ → ℕ → ℕ → Memory → After
verdict file piece p k budget lent =
    after_call lent (
    admit file piece p k λ d q.
    need (room_for d q k lent) 16 0
    (answer ((judge d q k budget).told, memory_left file piece d p (judge d q k budget) lent)))
