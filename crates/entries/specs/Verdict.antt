-- What the entry of VERDICT returns and leaves: the code, VERDICT's leavings, and three words of answer, which a refusal does not write.
use Rattle.std.specs.Prelude.{List, [], ◌∷◌, ℕ}
use Rattle.verdict.specs.Verdict.{Memory, verdict}
use Rattle.verdict.specs.Answers.{Exit, exit, verdict_number, verdict_step}
use Rattle.verdict.specs.declared.answer.Told.{Told}
use Rattle.entries.specs.Code.{code_told, written}

-- the verdict, its step or bound, "and the tries summed"
abbrev pub verdict_words : Told → List ℕ
verdict_words t = verdict_number t.verdict ∷ verdict_step t.verdict ∷ t.tries ∷ []

pub record VerdictReturn : Type 0 where
  pub code : ℕ
  pub memory : Memory
  pub answer : List ℕ

abbrev pub verdict_return : List ℕ → Exit → VerdictReturn
verdict_return answer after = record { code = code_told after.reply; memory = after.memory; answer = written verdict_words after.reply answer }

unfoldable pub verdict_entry : List ℕ → List ℕ → ℕ → ℕ → ℕ → Memory → List ℕ → VerdictReturn
verdict_entry file piece p k budget lent answer = verdict_return answer (exit (verdict file piece p k budget lent))
