-- What every call about a formula refuses first: CHECK, 13, 8 of the piece (document 02, R-4), 14, and 19 (document 02, R-2).
use Rattle.std.specs.Prelude.{ℕ, List, nat_le}
use Rattle.design.specs.Tree.{Design}
use Rattle.design.specs.Answer.{Answer, need}
use Rattle.step.specs.Property.{Property}
use Rattle.step.specs.Gate.{gate}
use Rattle.clauses.specs.Formula.{n}
use Rattle.clauses.specs.Limits.{last_variable}

module _ {A : Type 0} where
  -- "Errors: 19 when n exceeds 2^31-1, after 14, in SIZE, ENCODE, DECODE and VERDICT": n is a whole number, of the bound asked. "Places not named are 0." Then what the
  -- call answers of the design and the property.
  unfoldable pub admit : List ℕ → List ℕ → ℕ → ℕ → (Design → Property → Answer A) → Answer A
  admit file piece p k call =
      gate file piece p k λ d q.
      need (nat_le (n d q k) last_variable) 19 0
      (call d q)
