-- What the entries of SIZE, ENCODE and DECODE return and leave: the code, and the lent memory, which a refusal does not change.
use Rattle.std.specs.Prelude.{List, [], ◌∷◌, ℕ, ℤ}
use Rattle.design.specs.Answer.{Answer}
use Rattle.clauses.specs.Size.{size}
use Rattle.clauses.specs.Replies.{size_reply, EncodeExit, ENCODE, DecodeExit, DECODE}
use Rattle.clauses.specs.declared.frame.FormulaSizes.{FormulaSizes}
use Rattle.entries.specs.Code.{code_told, written}

-- SIZE tells "S, P, w, G, n and the whole formula's clauses and words"
abbrev pub size_words : FormulaSizes → List ℕ
size_words s = s.bits ∷ s.property ∷ s.movers ∷ s.step ∷ s.variables ∷ s.clauses ∷ s.words ∷ []

pub record SizeReturn : Type 0 where
  pub code : ℕ
  pub answer : List ℕ

abbrev pub size_return : List ℕ → Answer FormulaSizes → SizeReturn
size_return answer reply = record { code = code_told reply; answer = written size_words reply answer }

unfoldable pub size_entry : List ℕ → List ℕ → ℕ → ℕ → List ℕ → SizeReturn
size_entry file piece p k answer = size_return answer (size_reply (size file piece p k))

-- ENCODE tells the number of words, and leaves the buffer
pub record EncodeReturn : Type 0 where
  pub code : ℕ
  pub clauses : List ℤ
  pub answer : List ℕ

abbrev pub encode_return : List ℕ → EncodeExit → EncodeReturn
encode_return answer after = record { code = code_told after.reply; clauses = after.buffer; answer = written (λ (count : ℕ). count ∷ []) after.reply answer }

unfoldable pub encode_entry : List ℕ → List ℕ → ℕ → ℕ → ℕ → List ℤ → List ℕ → EncodeReturn
encode_entry file piece p k part clauses answer = encode_return answer (ENCODE file piece p k part clauses)

-- DECODE leaves the choices
pub record DecodeReturn : Type 0 where
  pub code : ℕ
  pub choices : List ℕ

abbrev pub decode_return : DecodeExit → DecodeReturn
decode_return after = record { code = code_told after.reply; choices = after.choices }

unfoldable pub decode_entry : List ℕ → List ℕ → ℕ → ℕ → List ℕ → List ℕ → DecodeReturn
decode_entry file piece p k values choices = decode_return (DECODE file piece p k values choices)
