-- SOLVE (document 01, "Turned-back calls"): its refusals, its answer, and what it leaves in lent memory.
use Rattle.std.specs.Prelude.{Bool, true, false, not, ◌||◌, cond, List, [], ◌∷◌, ◌++◌, ℕ, zero, suc, ◌-◌, ◌^◌, ltb, eqb, ℤ, nat_abs, length, get_or, drop, replicate, Option, None, Some}
use Rattle.design.specs.Answer as call
use Rattle.clauses.specs.Meaning.{Assignment}
use Rattle.clauses.specs.Words.{words, is_end, clauses_of}
use Rattle.search.specs.Search.{Value, unset, is, Settings, value_of, up_to, Answer, SAT, UNSAT, SPENT, Outcome, solved}
use Rattle.search.specs.Answers.{declared_solved}
use Rattle.search.specs.declared.Solved.{Solved}

-- "a literal outside -n..n or no closing 0 (place: word, or length)": the first such place. i words were read; begun: a clause is begun
abbrev pub outside : ℕ → ℤ → Bool
outside n w = ltb n (nat_abs w)

abbrev pub bad_word : ℕ → ℕ → Bool → List ℤ → Option ℕ
bad_word n i begun [] = cond begun (Some i) None
bad_word n i begun (w ∷ ws) = cond (outside n w) (Some i) (bad_word n (suc i) (not (is_end w)) ws)

-- "SOLVE leaves the first n values 0/1 on SAT, else 0, and n trail words 0." Variable v's value is byte v - 1
abbrev pub bit_of : Value → ℕ
bit_of unset = 0
bit_of (is true) = 1
bit_of (is false) = 0

-- the values of v, v + 1, .., v + k - 1
abbrev pub values_from : Settings → ℕ → ℕ → List ℕ
values_from ss v zero = []
values_from ss v (suc k) = bit_of (value_of ss v) ∷ values_from ss (suc v) k

abbrev pub values_left : ℕ → Answer → List ℕ
values_left n (SAT ss) = values_from ss 1 n
values_left n UNSAT = replicate n 0
values_left n SPENT = replicate n 0

-- the assignment that value bytes give
abbrev pub assigned : List ℕ → Assignment
assigned values v = eqb (get_or values (v - 1) 0) 1

-- the reply, and lent memory after the call
pub record After : Type 0 where
  pub reply : call.Answer Solved
  pub values : List ℕ
  pub trail : List ℕ

-- "Each refusal is a number and a place and leaves all lent memory unchanged"
abbrev pub refuses : ℕ → ℕ → List ℕ → List ℕ → After
refuses number place values trail = record { reply = call.refused number place; values = values; trail = trail }

-- "All else keeps."
abbrev pub leaves : ℕ → Outcome → List ℕ → List ℕ → After
leaves n o values trail =
    record {
      reply = call.answer (declared_solved o);
      values = values_left n o.answer ++ drop n values;
      trail = replicate n 0 ++ drop n trail;
    }

abbrev pub at_place : {A : Type 0} → Option ℕ → (ℕ → A) → A → A
at_place None f a = a
at_place (Some i) f a = f i

-- "SOLVE: 17 n over 2^31-1 (place 0), a literal outside -n..n or no closing 0 (place: word, or length); 16 values or trail under n."
unfoldable pub solve : ℕ → List ℤ → List ℕ → List ℕ → ℕ → After
solve n words values trail budget =
    cond (ltb (2 ^ 31 - 1) n) (refuses 17 0 values trail)
    (at_place (bad_word n 0 false words) (λ i. refuses 17 i values trail)
    (cond (ltb (length values) n || ltb (length trail) n) (refuses 16 0 values trail)
    (leaves n (solved n (clauses_of words) (up_to budget)) values trail)))
