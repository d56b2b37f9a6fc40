-- What the entry of REFUTE returns and leaves: the code, REFUTE's leavings, and two words of answer, which a refusal does not write.
use Rattle.std.specs.Prelude.{List, [], ◌∷◌, ℕ, ℤ}
use Rattle.search.specs.Refutation.{AfterRefute, refute}
use Rattle.search.specs.declared.refute.Judged.{Judged}
use Rattle.search.specs.declared.refute.Judged.TheVariants.{Accepted, Word, Ended}
use Rattle.entries.specs.Code.{code_told, written}

-- accepted is 0, a clause that does not follow 1, ended 2; then the word at which that clause begins, else 0
abbrev pub judged_words : Judged → List ℕ
judged_words Accepted = 0 ∷ 0 ∷ []
judged_words (Word i) = 1 ∷ i ∷ []
judged_words Ended = 2 ∷ 0 ∷ []

pub record RefuteReturn : Type 0 where
  pub code : ℕ
  pub values : List ℕ
  pub answer : List ℕ

abbrev pub refute_return : List ℕ → AfterRefute → RefuteReturn
refute_return answer after = record { code = code_told after.reply; values = after.values; answer = written judged_words after.reply answer }

unfoldable pub refute_entry : ℕ → List ℤ → List ℤ → List ℕ → List ℕ → RefuteReturn
refute_entry n list refutation values answer = refute_return answer (refute n list refutation values)
