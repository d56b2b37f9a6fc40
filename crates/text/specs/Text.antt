-- Numbers as text: lists of bytes.
use Rattle.std.specs.Prelude.{cond, List, [], ◌∷◌, ◌++◌, ℕ, zero, suc, ◌+◌, ◌/◌, ◌%◌, ltb, ℤ, pos, negsuc}
use Rattle.clauses.specs.Writing.{Put}

-- decimal digits, the highest first, at most so many
unfoldable pub digits : ℕ → ℕ → List ℕ
digits zero n = []
digits (suc k) n = cond (ltb n 10) ((48 + n) ∷ []) (digits k (n / 10) ++ ((48 + n % 10) ∷ []))

-- a number below 10^20, which every u64 is
abbrev pub decimal : ℕ → List ℕ
decimal n = digits 20 n

-- an integer, with a minus sign where it is negative
abbrev pub signed_text : ℤ → List ℕ
signed_text (pos n) = decimal n
signed_text (negsuc n) = 45 ∷ decimal (suc n)

-- what a function that writes text leaves: the bytes put at a position, and the position past them
abbrev pub TextWritten : List ℕ → List ℕ → List ℕ → ℕ → ℕ → Type 0
TextWritten bytes before after at past = Put bytes before after at past

-- no line is longer, and no program's text: 101 lines of a run and its result fit
abbrev pub max_line : ℕ
max_line = 1024

abbrev pub max_text : ℕ
max_text = 131072
