-- What a function answers where it hands a refusal on by `?`, and that what the code answers is fixed by what it is told as. Assumes nothing.
use mathlib.Core.Path.{◌≡◌, refl, sym, ap, ◌∙◌}
use Rattle.std.proofs.Common.{zero, suc, ◌<◌, arith}
use Rattle.std.specs.Prelude.{ℕ, ◌-◌, [], ◌∷◌, get_or, Result, Ok, Err}
use Rattle.std.specs.Result.{IsErrAnd}
use Rattle.std.proofs.lemmas.Result.{err_from_is_err_and}
use Rattle.design.specs.Answer.{Answer, told}
use Rattle.design.specs.Refusal.{Refusal, number_of, place_of, turned, refusal_of}
use Rattle.design.specs.declared.refusal.Refused.{Refused}
use Rattle.design.specs.declared.refusal.Refused.TheVariants.{Length, Version, Counts, Offset, Variable, Matrix, Cell, Expression, Action, Movers, Entry, Choice, Property, Bound, Part, Memory, Clauses, Flags, Variables, Owners}

module _ {A : Type 0} (r : Result A Refused) (e : Refused) (h : IsErrAnd r (λ f. f ≡ e)) where
  same_refusal : r ≡ Err e
  same_refusal = let p = err_from_is_err_and r h in p.1 ∙ ap Err p.2

  pub handed_on : (x : Answer A) → Answer.refused (number_of e) (place_of e) ≡ x → told r ≡ x
  handed_on x q = ap told same_refusal ∙ q

  pub turned_on : (x : Refusal) → refusal_of e ≡ x → turned r ≡ x
  turned_on x q = ap turned same_refusal ∙ q

-- the refusal of this number, at this place where it has one
abbrev pub refused_at : ℕ → ℕ → Refused
refused_at number place = get_or (
    Length place ∷ Version place ∷ Counts place ∷ Offset place ∷ Variable place ∷ Matrix place ∷ Cell place ∷ Expression place ∷ Action place ∷ Movers place
    ∷ Entry place ∷ Choice place ∷ Property ∷ Bound ∷ Part ∷ Memory ∷ Clauses place ∷ Flags place ∷ Variables ∷ Owners ∷ []
    ) (number - 1) Owners

same_number : (e : Refused) → (refused_at (number_of e) (place_of e) ≡ e) × (0 < number_of e)
same_number (Length place) = (refl, omega arith)
same_number (Version place) = (refl, omega arith)
same_number (Counts place) = (refl, omega arith)
same_number (Offset place) = (refl, omega arith)
same_number (Variable place) = (refl, omega arith)
same_number (Matrix place) = (refl, omega arith)
same_number (Cell place) = (refl, omega arith)
same_number (Expression place) = (refl, omega arith)
same_number (Action place) = (refl, omega arith)
same_number (Movers place) = (refl, omega arith)
same_number (Entry place) = (refl, omega arith)
same_number (Choice place) = (refl, omega arith)
same_number Property = (refl, omega arith)
same_number Bound = (refl, omega arith)
same_number Part = (refl, omega arith)
same_number Memory = (refl, omega arith)
same_number (Clauses place) = (refl, omega arith)
same_number (Flags place) = (refl, omega arith)
same_number Variables = (refl, omega arith)
same_number Owners = (refl, omega arith)

module _ {A : Type 0} where
  -- what the code answers, by the documents' numbers
  abbrev pub answered : Answer A → Result A Refused
  answered (Answer.answer x) = Ok x
  answered (Answer.refused number place) = Err (refused_at number place)

  -- a contract `told result ≡ x` says what the result is
  pub told_by : (r : Result A Refused) (x : Answer A) → told r ≡ x → r ≡ answered x
  told_by (Ok y) x q = ap answered q
  told_by (Err e) x q = sym (ap Err (same_number e).0) ∙ ap answered q

  pub told_once : (r s : Result A Refused) → told r ≡ told s → r ≡ s
  told_once r s q = told_by r (told s) q ∙ sym (told_by s (told s) refl)

-- the same of a call that answers nothing else: number 0 is no refusal
abbrev pub passed : ℕ → ℕ → Result (Unit {0}) Refused
passed zero place = Ok tt
passed (suc n) place = Err (refused_at (suc n) place)

over_none : (number place : ℕ) → 0 < number → passed number place ≡ Err (refused_at number place)
over_none zero place l = absurd (omega arith)
over_none (suc n) place l = refl

pub turned_by : (r : Result (Unit {0}) Refused) (x : Refusal) → turned r ≡ x → r ≡ passed x.number x.place
turned_by (Ok tt) x q = ap (λ (y : Refusal). passed y.number y.place) q
turned_by (Err e) x q =
    let (same, l) = same_number e in
    sym (ap Err same) ∙ sym (over_none (number_of e) (place_of e) l) ∙ ap (λ (y : Refusal). passed y.number y.place) q

pub turned_once : (r s : Result (Unit {0}) Refused) → turned r ≡ turned s → r ≡ s
turned_once r s q = turned_by r (turned s) q ∙ sym (turned_by s (turned s) refl)
