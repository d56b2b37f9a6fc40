-- Integers are 16-bit patterns, numbers below 65,536 (document 01: "In integers, sums and differences wrap to 16 bits"; document 02, R-2: "the product wrapped to 16
-- bits"). That each is the wrapped sum, difference or product of the signed integers is proved in proofs/Patterns.
use Rattle.std.specs.Prelude.{ℕ, suc, ◌+◌, ◌-◌, ◌*◌, ◌%◌, Bool, cond, ◌||◌, ℤ, pos, negsuc, neg_ℤ, int_lt, nat_lt}

abbrev pub plus : ℕ → ℕ → ℕ
plus a b = (a + b) % 65536

abbrev pub minus : ℕ → ℕ → ℕ
minus a b = (a + (65536 - b)) % 65536

abbrev pub times : ℕ → ℕ → ℕ
times a b = (a * b) % 65536

-- The signed order: with the sign bit flipped it is the order of patterns.
abbrev pub below : ℕ → ℕ → Bool
below a b = nat_lt (plus a 32768) (plus b 32768)

-- The signed integer that a pattern stands for, and the pattern of an integer, wrapped.
unfoldable pub signed : ℕ → ℤ
signed p = cond (nat_lt p 32768) (pos p) (neg_ℤ (pos (65536 - p)))

unfoldable pub wrap : ℤ → ℕ
wrap (pos n) = n % 65536
wrap (negsuc n) = (65536 - suc n % 65536) % 65536

-- of an integer: "outside -32,768..32,767" (document 02, R-5)
unfoldable pub outside : ℤ → Bool
outside x = int_lt x (neg_ℤ (pos 32768)) || int_lt (pos 32767) x
