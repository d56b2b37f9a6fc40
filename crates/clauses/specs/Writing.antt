-- What the clause writer's functions do to a lent buffer.
use Rattle.std.specs.Prelude.{◌≡◌, ℕ, suc, ◌+◌, ◌/◌, ◌%◌, ◌≤◌, cond, List, [], ◌∷◌, map, length, ℤ, ◌==◌, slice_set}
use Rattle.clauses.specs.Literal.{Literal, positive, negative}
use Rattle.clauses.specs.Limits.{last_variable}
use Rattle.clauses.specs.Words.{words}
use Rattle.clauses.specs.Gate.{Gate, gates_clauses}
use Rattle.clauses.specs.Circuit.{Built, Bits}

-- In code a literal is a number: 2v for v, 2v + 1 for -v.
unfoldable pub from_code : ℕ → Literal
from_code c = cond (c % 2 == 0) (positive (c / 2)) (negative (c / 2))

abbrev pub from_codes : List ℕ → Bits
from_codes cs = map from_code cs

-- Words, or other elements, written from a position on. A buffer that is too short takes those that it has a place for: a buffer of one word serves to count.
unfoldable pub put : {A : Type 0} → ℕ → List A → List A → List A
put at [] xs = xs
put at (w ∷ ws) xs = put (suc at) ws (slice_set xs at w)

unfoldable pub gate_words : List Gate → List ℤ
gate_words gs = words (gates_clauses gs)

-- Variables are below this. A cursor counts the words so far, up to 2^62.
abbrev pub variable_limit : ℕ
variable_limit = last_variable + 1

abbrev pub word_limit : ℕ
word_limit = 4611686018427387904

-- the buffer and the cursor, after these were written from the cursor on
pub record Put {A : Type 0} (ws xs ys : List A) (cur cur' : ℕ) : Type 0 where
  pub written : ys ≡ put cur ws xs
  pub cursor : cur' ≡ cur + length ws

pub record Puts (ws xs ys : List ℤ) (cur cur' : ℕ) : Type 0 where
  pub puts : cur + length ws ≤ word_limit → Put ws xs ys cur cur'

-- The gates of what is built from variable n on are within the limits.
pub record Room {A : Type 0} (n : ℕ) (b : Built A) (cur : ℕ) : Type 0 where
  pub numbers : n + length b.gates ≤ variable_limit
  pub words : cur + length (gate_words b.gates) ≤ word_limit

-- the buffer and the cursor after its gates were written, its result, and the next variable
pub record Emitted {A : Type 0} (n : ℕ) (b : Built A) (xs ys : List ℤ) (cur : ℕ) (out : A) (cur' var' : ℕ) : Type 0 where
  pub written : ys ≡ put cur (gate_words b.gates) xs
  pub cursor : cur' ≡ cur + length (gate_words b.gates)
  pub result : out ≡ b.out
  pub next : var' ≡ b.next
  pub counted : var' ≡ n + length b.gates

pub record Emits {A : Type 0} (n : ℕ) (b : Built A) (xs ys : List ℤ) (cur : ℕ) (out : A) (cur' var' : ℕ) : Type 0 where
  pub emits : Room n b cur → Emitted n b xs ys cur out cur' var'
