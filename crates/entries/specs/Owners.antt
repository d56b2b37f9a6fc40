-- What the entry of several owners returns and leaves: the code of the whole call's refusal, the buffers, each owner's choices, where these stand, and each owner's five words of answer.
use Rattle.std.specs.Prelude.{List, ℕ}
use Rattle.verdict.specs.Owners.{Buffers, owners}
use Rattle.verdict.specs.Answers.{OwnersExit, owners_exit}
use Rattle.entries.specs.Code.{code_of}

pub record OwnersReturn : Type 0 where
  pub code : ℕ
  pub buffers : Buffers
  pub choices : List (List ℕ)
  pub pointers : List (ℕ × ℕ)
  pub answers : List (List ℕ)

abbrev pub owners_return : OwnersExit → OwnersReturn
owners_return after =
    record { code = code_of after.refusal; buffers = after.buffers; choices = after.choices; pointers = after.pointers; answers = after.answers }

unfoldable pub owners_entry : List ℕ → ℕ → ℕ → List (List ℕ) → List ℕ → Buffers → List (List ℕ) → List (ℕ × ℕ) → List (List ℕ) → OwnersReturn
owners_entry file k count pieces budgets lent choices pointers answers =
    owners_return (owners_exit (owners file k lent count pieces budgets choices) pointers answers)
