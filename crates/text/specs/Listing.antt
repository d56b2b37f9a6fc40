-- What the clause-printing program prints (document 01, "Programs").
use Rattle.std.specs.Prelude.{◌≡◌, refl, Bool, true, false, cond, ◌&&◌, List, [], ◌∷◌, ◌++◌, ℕ, zero, suc, ◌+◌, ◌*◌, leb, ℤ, pos, negsuc, length, get_or, take, drop}
use Rattle.design.specs.Tree.{Design}
use Rattle.step.specs.Piece.{no_piece}
use Rattle.step.specs.Property.{Property}
use Rattle.clauses.specs.Words.{words, is_end}
use Rattle.clauses.specs.Formula.{part, formula}
use Rattle.clauses.specs.Admission.{admit}
use Rattle.design.specs.Answer.{Answer, refused, answer, need}
use Rattle.clauses.specs.Encode.{words_to_write}
use Rattle.text.specs.Text.{digits, signed_text}
use Rattle.text.specs.Trace.{refused_at, refusal_text, max_read}

-- "a clause a line with its 0, numbers parted by one space": a newline after a 0, a space after any other word
abbrev pub word_text : ℤ → List ℕ
word_text w = signed_text w ++ (cond (is_end w) 10 32 ∷ [])

unfoldable pub words_text : List ℤ → List ℕ
words_text [] = []
words_text (w ∷ ws) = word_text w ++ words_text ws

-- (1)(-2 3)
two_lines : words_text (pos 1 ∷ pos 0 ∷ negsuc 1 ∷ pos 3 ∷ pos 0 ∷ []) ≡ 49 ∷ 32 ∷ 48 ∷ 10 ∷ 45 ∷ 50 ∷ 32 ∷ 51 ∷ 32 ∷ 48 ∷ 10 ∷ []
unfolding words_text digits
two_lines = refl

-- "a part over 16,384 words"
abbrev pub max_words : ℕ
max_words = 16384

-- no part's text is longer: a word and what parts it from the next take 22 bytes at most
abbrev pub max_part_text : ℕ
max_part_text = 22 * max_words

-- no part is, of so many from part i on
unfoldable pub none_over : Design → Property → ℕ → ℕ → ℕ → Bool
none_over d q k zero i = true
none_over d q k (suc m) i = leb (length (words (part d q k i))) max_words && none_over d q k m (suc i)

-- the words that are printed: all parts, 0 to k + 2, which joined are the formula
-- "It refuses likewise; a part over 16,384 words gives `refused 16 at 0` and nothing else." 19 is ENCODE's, before 16 (document 02, R-2).
-- The program takes no piece.
unfoldable pub words_to_print : List ℕ → ℕ → ℕ → Answer (List ℤ)
words_to_print file p k =
    admit file no_piece p k λ d q.
    need (none_over d q k (k + 3) 0) 16 0
    (answer (words (formula d q k)))

-- a refusal is printed alone
abbrev pub printed : Answer (List ℤ) → List ℕ
printed (refused number place) = refusal_text (refused_at number place)
printed (answer ws) = words_text ws

-- "property byte, bound byte, design"; "An input too short for the bytes before the design gives `refused 1 at 0`."
abbrev pub of_input : List ℕ → (List ℕ → ℕ → ℕ → List ℕ) → List ℕ
of_input input text = cond (leb 2 (length input)) (text (take max_read (drop 2 input)) (get_or input 0 0) (get_or input 1 0)) (refusal_text (refused_at 1 0))

unfoldable pub clauses_text : List ℕ → List ℕ
clauses_text input = of_input input λ file p k. printed (words_to_print file p k)

-- The program prints part by part. The text of a part, by the words that ENCODE has, without a piece, for a buffer of 16,384, or its refusal:
unfoldable pub part_text : List ℕ → ℕ → ℕ → ℕ → List ℕ
part_text file p k i = printed (words_to_write file no_piece p k i max_words)

unfoldable pub part_of_input : List ℕ → ℕ → List ℕ
part_of_input input i = of_input input λ file p k. part_text file p k i

abbrev pub is_refused : Answer (List ℤ) → Bool
is_refused (refused number place) = true
is_refused (answer ws) = false

-- so many texts from i on, joined
unfoldable pub joined : (ℕ → List ℕ) → ℕ → ℕ → List ℕ
joined text zero i = []
joined text (suc m) i = text i ++ joined text m (suc i)
