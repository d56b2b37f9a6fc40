-- ENCODE (document 01, "Turned-back calls").
use Rattle.std.specs.Prelude.{ℕ, ◌+◌, List, ◌++◌, length, drop, ℤ, nat_le}
use Rattle.clauses.specs.Words.{words}
use Rattle.clauses.specs.Formula.{part}
use Rattle.clauses.specs.Admission.{admit}
use Rattle.design.specs.Answer.{Answer, refused, answer, need}

-- the words that are to be written to a buffer of this length: "ENCODE: 13; 14; 15 part over k+2; 16 buffer short." 8 and 19
-- (document 02, R-4 and R-2) stand in `admit`.
unfoldable pub words_to_write : List ℕ → List ℕ → ℕ → ℕ → ℕ → ℕ → Answer (List ℤ)
words_to_write file piece p k i room =
    admit file piece p k λ d q.
    need (nat_le i (k + 2)) 15 0
    (need (nat_le (length (words (part d q k i))) room) 16 0
    (answer (words (part d q k i))))

-- the answer, and the buffer after the call
pub record AfterEncode : Type 0 where
  pub answer : Answer ℕ
  pub buffer : List ℤ

-- "ENCODE fills its part's words and answers their number." "All else keeps." A refusal "leaves all lent memory unchanged".
abbrev pub filled : Answer (List ℤ) → List ℤ → AfterEncode
filled (refused number place) buffer = record { answer = refused number place; buffer = buffer }
filled (answer ws) buffer = record { answer = answer (length ws); buffer = ws ++ drop (length ws) buffer }

-- of a file, a piece, a property, a bound, a part and the lent buffer
unfoldable pub encode : List ℕ → List ℕ → ℕ → ℕ → ℕ → List ℤ → AfterEncode
encode file piece p k i buffer = filled (words_to_write file piece p k i (length buffer)) buffer
