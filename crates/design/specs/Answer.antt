-- What a call answers (document 01, "Turned-back calls"). A number is a natural number here, a file its bytes.
use Rattle.std.specs.Prelude.{Bool, true, false, List, ℕ, Result, Ok, Err}
use Rattle.design.specs.Tree.{Design}
use Rattle.design.specs.Check.{Checked, check}
use Rattle.design.specs.Refusal.{number_of, place_of}
use Rattle.design.specs.declared.refusal.Refused.{Refused}

-- "Each refusal is a number and a place"
pub data Answer (A : Type 0) : Type 0 where
  refused : ℕ → ℕ → Answer A
  answer : A → Answer A

-- what the code answers, in the documents' numbers
abbrev pub told : {A : Type 0} → Result A Refused → Answer A
told (Ok x) = Answer.answer x
told (Err r) = Answer.refused (number_of r) (place_of r)

module _ {A : Type 0} where
  -- refused with this number at this place unless the test holds
  abbrev pub need : Bool → ℕ → ℕ → Answer A → Answer A
  need true number place r = r
  need false number place r = Answer.refused number place

  abbrev pub of_checked : Checked → (Design → Answer A) → Answer A
  of_checked (Checked.refused number place) call = Answer.refused number place
  of_checked (Checked.accepted d) call = call d

  -- "Every call on a design first gives CHECK's refusal"
  unfoldable pub on_design : List ℕ → (Design → Answer A) → Answer A
  on_design file call = of_checked (check file) call
