-- Refusals: "Each refusal is a number and a place" (document 01, "Turned-back calls").
use Rattle.std.specs.Prelude.{ℕ, Result, Ok, Err}
use Rattle.design.specs.declared.refusal.Refused.{Refused}
use Rattle.design.specs.declared.refusal.Refused.TheVariants.{Length, Version, Counts, Offset, Variable, Matrix, Cell, Expression, Action, Movers, Entry, Choice, Property, Bound, Part, Memory, Clauses, Flags, Variables, Owners}

-- Number 0 is none.
pub record Refusal : Type 0 where
  pub number : ℕ
  pub place : ℕ

-- the numbers of documents 01 and 02
abbrev pub number_of : Refused → ℕ
number_of (Length place) = 1
number_of (Version place) = 2
number_of (Counts place) = 3
number_of (Offset place) = 4
number_of (Variable place) = 5
number_of (Matrix place) = 6
number_of (Cell place) = 7
number_of (Expression place) = 8
number_of (Action place) = 9
number_of (Movers place) = 10
number_of (Entry place) = 11
number_of (Choice place) = 12
number_of Property = 13
number_of Bound = 14
number_of Part = 15
number_of Memory = 16
number_of (Clauses place) = 17
number_of (Flags place) = 18
number_of Variables = 19
number_of Owners = 20

abbrev pub place_of : Refused → ℕ
place_of (Length place) = place
place_of (Version place) = place
place_of (Counts place) = place
place_of (Offset place) = place
place_of (Variable place) = place
place_of (Matrix place) = place
place_of (Cell place) = place
place_of (Expression place) = place
place_of (Action place) = place
place_of (Movers place) = place
place_of (Entry place) = place
place_of (Choice place) = place
place_of Property = 0
place_of Bound = 0
place_of Part = 0
place_of Memory = 0
place_of (Clauses place) = place
place_of (Flags place) = place
place_of Variables = 0
place_of Owners = 0

abbrev pub refusal_of : Refused → Refusal
refusal_of r = record { number = number_of r; place = place_of r }

-- of a call that answers nothing else, the refusal, or number 0
abbrev pub turned : {A : Type 0} → Result A Refused → Refusal
turned (Ok x) = record { number = 0; place = 0 }
turned (Err r) = refusal_of r
