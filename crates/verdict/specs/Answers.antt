-- The code's answers, of what the definitions say.
use Rattle.std.specs.Prelude.{List, [], ◌∷◌, ◌++◌, map, ℕ, Result, Ok, Err, length, drop}
use Rattle.design.specs.Answer.{Answer, refused, answer}
use Rattle.verdict.specs.Verdict.{Verdict, VIOLATED, CLEAN, SPENT-AT, Told, Memory, After}
use Rattle.verdict.specs.Owners.{Buffers, AfterOwners}
use Rattle.design.specs.Refusal.{Refusal}
use Rattle.step.specs.Gate.{refusal_of}
use Rattle.verdict.specs.declared.answer.Verdict as declared
use Rattle.verdict.specs.declared.answer.Verdict.TheVariants.{Violated, Clean, Spent}
use Rattle.verdict.specs.declared.answer.Told as declared-told

-- document 01's VIOLATED with its step, CLEAN, and SPENT with its bound
abbrev pub declared_verdict : Verdict → declared.Verdict
declared_verdict (VIOLATED i) = Violated i
declared_verdict CLEAN = Clean
declared_verdict (SPENT-AT i) = Spent i

abbrev pub declared_told : Told → declared-told.Told
declared_told t = record { verdict = declared_verdict t.verdict; tries = t.tries }

-- a refusal's number and place, or the verdict and the tries
abbrev pub declared_reply : Answer Told → Answer declared-told.Told
declared_reply (refused number place) = refused number place
declared_reply (answer t) = answer (declared_told t)

-- the reply, and lent memory after the call
pub record Exit : Type 0 where
  pub reply : Answer declared-told.Told
  pub memory : Memory

abbrev pub exit : After → Exit
exit a = record { reply = declared_reply a.answer; memory = a.memory }

-- In numbers CLEAN is 0, VIOLATED 1, SPENT 2.
abbrev pub verdict_number : declared.Verdict → ℕ
verdict_number (Violated i) = 1
verdict_number Clean = 0
verdict_number (Spent i) = 2

-- "VIOLATED with its step, CLEAN, or SPENT with the bound it stood at"
abbrev pub verdict_step : declared.Verdict → ℕ
verdict_step (Violated i) = i
verdict_step Clean = 0
verdict_step (Spent i) = i

-- a refusal by number and place, or the verdict and the tries
abbrev pub numbered : Result declared-told.Told (ℕ × ℕ) → Answer declared-told.Told
numbered (Ok t) = answer t
numbered (Err (number, place)) = refused number place

-- An owner's answer in five words: its refusal's number, 0 for none, and place; the verdict, its step or bound, and the tries. "every other field of a refused answer is 0 or false".
abbrev pub owner_words : Answer declared-told.Told → List ℕ
owner_words (refused number place) = number ∷ place ∷ 0 ∷ 0 ∷ 0 ∷ []
owner_words (answer t) = 0 ∷ 0 ∷ verdict_number t.verdict ∷ verdict_step t.verdict ∷ t.tries ∷ []

-- each owner's words; those of the places past the count as they were, and all of them where the call is refused
abbrev pub answers_left : Answer (List (Answer Told)) → List (List ℕ) → List (List ℕ)
answers_left (refused number place) old = old
answers_left (answer answers) old = map (λ (a : Answer Told). owner_words (declared_reply a)) answers ++ drop (length answers) old

-- The refusal of the whole call, number 0 for none, and lent memory after it. The array of choice buffers is lent, too: each buffer stays where it stood (`pointers`), and is as long as its list.
pub record OwnersExit : Type 0 where
  pub refusal : Refusal
  pub buffers : Buffers
  pub choices : List (List ℕ)
  pub pointers : List (ℕ × ℕ)
  pub answers : List (List ℕ)

abbrev pub owners_exit : AfterOwners → List (ℕ × ℕ) → List (List ℕ) → OwnersExit
owners_exit after pointers answers =
    record { refusal = refusal_of after.answer; buffers = after.buffers; choices = after.choices; pointers = pointers; answers = answers_left after.answer answers }
