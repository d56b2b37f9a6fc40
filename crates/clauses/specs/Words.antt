-- Clause lists as words: "Literals are i32, a clause ends with 0."
use Rattle.std.specs.Prelude.{zero, suc, Bool, true, false, cond, List, [], ◌∷◌, ◌++◌, ℤ, pos, negsuc, neg_ℤ}
use Rattle.clauses.specs.Literal.{Literal, positive, negative, Clause}

-- the word of a literal, and the words of clauses
abbrev pub word_of : Literal → ℤ
word_of (positive v) = pos v
word_of (negative v) = neg_ℤ (pos v)

abbrev pub clause_words : Clause → List ℤ
clause_words [] = pos 0 ∷ []
clause_words (l ∷ ls) = word_of l ∷ clause_words ls

abbrev pub words : List Clause → List ℤ
words [] = []
words (c ∷ cs) = clause_words c ++ words cs

-- Back: whether a word ends a clause, its literal if it does not, and the clauses of a word list.
abbrev pub is_end : ℤ → Bool
is_end (pos zero) = true
is_end (pos (suc v)) = false
is_end (negsuc v) = false

abbrev pub literal_of_word : ℤ → Literal
literal_of_word (pos v) = positive v
literal_of_word (negsuc v) = negative (suc v)

abbrev pub with_literal : Literal → List Clause → List Clause
with_literal l [] = []
with_literal l (c ∷ cs) = (l ∷ c) ∷ cs

abbrev pub clauses_of : List ℤ → List Clause
clauses_of [] = []
clauses_of (w ∷ ws) = cond (is_end w) ([] ∷ clauses_of ws) (with_literal (literal_of_word w) (clauses_of ws))
