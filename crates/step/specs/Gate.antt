-- What every call with a piece, a property and a bound refuses first (document 01, "Turned-back calls"; document 02, R-4).
use Rattle.std.specs.Prelude.{ℕ, List, nat_le}
use Rattle.design.specs.Tree.{Design}
use Rattle.design.specs.Answer.{Answer, refused, answer, need, on_design}
use Rattle.design.specs.Refusal.{Refusal}
use Rattle.step.specs.Limits.{last_property, max_bound}
use Rattle.step.specs.Piece.{piece_right}
use Rattle.step.specs.Property.{Property, property_of}

module _ {A : Type 0} where
  -- CHECK's refusal; "13 property over 1; 14 over 100 choices", or "14 bound over 100"; "Places not named are 0." With a constraint 13 is for a property over 2
  -- (document 02, R-1). Of a piece "refusal 8 at place 0, after CHECK and before 14" (document 02, R-4), and after 13; no call can get both, since 8 is for property 0. Then what
  -- the call answers of the design and the property. `k` is the bound; of REPLAY it is the number of choices.
  unfoldable pub gate : List ℕ → List ℕ → ℕ → ℕ → (Design → Property → Answer A) → Answer A
  gate file piece p k call =
      on_design file λ d.
      need (nat_le p (last_property file)) 13 0
      (need (piece_right file piece p) 8 0
      (need (nat_le k max_bound) 14 0
      (call d (property_of file piece d p))))

  -- the refusal as the code has it: number 0 means not refused
  abbrev pub refusal_of : Answer A → Refusal
  refusal_of (refused number place) = record { number = number; place = place }
  refusal_of (answer a) = record { number = 0; place = 0 }

-- what is refused before the call itself is looked at
abbrev pub gate_refusal : List ℕ → List ℕ → ℕ → ℕ → Refusal
gate_refusal file piece p k = refusal_of (gate {A = Unit {0}} file piece p k (λ d q. answer tt))
