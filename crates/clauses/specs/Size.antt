-- SIZE (document 01, "Turned-back calls").
use Rattle.std.specs.Prelude.{ℕ, List, length}
use Rattle.design.specs.Tree.{Design}
use Rattle.step.specs.Property.{Property}
use Rattle.clauses.specs.Words.{words}
use Rattle.clauses.specs.Formula.{S, P, w, G, n, formula}
use Rattle.clauses.specs.Admission.{admit}
use Rattle.design.specs.Answer.{Answer, answer}

pub record Sizes : Type 0 where
  pub state_bits : ℕ
  pub property_gates : ℕ
  pub movers : ℕ
  pub step_gates : ℕ
  pub variables : ℕ
  pub clauses : ℕ
  pub words : ℕ

-- "S, P, w, G, n and the whole formula's clauses and words"
unfoldable pub sizes_of : Design → Property → ℕ → Sizes
sizes_of d q k = record {
  state_bits = S d;
  property_gates = P d q;
  movers = w d;
  step_gates = G d q;
  variables = n d q k;
  clauses = length (formula d q k);
  words = length (words (formula d q k));
}

-- "SIZE: 13; 14 bound over 100." 13 is "property over 1", with a constraint over 2. "Places not named are 0." 8 and 19 (document 02, R-4 and R-2) stand in `admit`.
unfoldable pub size : List ℕ → List ℕ → ℕ → ℕ → Answer Sizes
size file piece p k =
    admit file piece p k λ d q.
    answer (sizes_of d q k)
