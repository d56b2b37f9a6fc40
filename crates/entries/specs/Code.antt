-- What an entry returns of a refusal, as one u64: the number in the low byte, the place above it; 0 where the call is not refused.
use Rattle.std.specs.Prelude.{ℕ, ◌+◌, ◌*◌, min}
use Rattle.design.specs.Answer.{Answer, refused, answer}
use Rattle.design.specs.Refusal.{Refusal}

-- A place of 2^56 - 1 or more is told as 2^56 - 1. No memory holds a slice of that length.
abbrev pub most_place : ℕ
most_place = 72057594037927935

unfoldable pub code : ℕ → ℕ → ℕ
code number place = number + 256 * min place most_place

abbrev pub code_of : Refusal → ℕ
code_of r = code r.number r.place

-- the code of a call
abbrev pub code_told : {A : Type 0} → Answer A → ℕ
code_told (refused number place) = code number place
code_told (answer a) = 0

-- what a call writes of its answer; a refusal leaves what was there
abbrev pub written : {A B : Type 0} → (A → B) → Answer A → B → B
written words (refused number place) old = old
written words (answer a) old = words a
