-- Reading bytes: a reader goes from a position to what stands there and the position past it, or finds nothing that is right.
use Rattle.std.specs.Prelude.{ℕ, Bool, true, false, cond, List, [], ◌∷◌, eqb}

pub data Read (A : Type 0) : Type 0 where
  got : A → ℕ → Read A
  bad : Read A

abbrev pub Reader : Type 0 → Type 0
Reader A = ℕ → Read A

module _ {A : Type 0} where
  abbrev pub yield : A → Reader A
  yield a at = got a at

  abbrev pub fail : Reader A
  fail at = bad

  abbrev pub provided : Bool → Read A → Read A
  provided true r = r
  provided false r = bad

  -- reads on only where the test holds
  abbrev pub demand : Bool → Reader A → Reader A
  demand t r at = provided t (r at)

abbrev pub bind : {A B : Type 0} → Read A → (A → ℕ → Read B) → Read B
bind (got a n) k = k a n
bind bad k = bad

-- one after the other: what a `do` block means
infixl 10 ◌>>=◌
abbrev pub ◌>>=◌ : {A B : Type 0} → Reader A → (A → Reader B) → Reader B
◌>>=◌ m k at = bind (m at) k

-- A line of an operator table, and what the table has for a byte.
pub record Line (A : Type 0) : Type 0 where
  pub code : ℕ
  pub means : A

infix 20 ◌means◌
abbrev pub ◌means◌ : {A : Type 0} → ℕ → A → Line A
◌means◌ b a = record { code = b; means = a }

abbrev pub lookup : {A : Type 0} → A → List (Line A) → ℕ → A
lookup other [] b = other
lookup other (l ∷ ls) b = cond (eqb b l.code) l.means (lookup other ls b)
