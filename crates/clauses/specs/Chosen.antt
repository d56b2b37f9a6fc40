-- What the code of DECODE finds among the values: the flags of a frame are w of them, and frames stand `size` apart.
use Rattle.std.specs.Prelude.{ℕ, zero, suc, ◌+◌, Bool, true, cond, ◌&&◌, List, [], ◌∷◌, length, take, drop, ◌==◌, nat_lt, Option, Some, None}
use Rattle.clauses.specs.Decode.{just_one, first_one}

-- A place among n, where it is one. The places below are the number past the last where there is none.
abbrev pub below : ℕ → ℕ → Option ℕ
below n i = cond (nat_lt i n) (Some i) None

-- the place of the first that is not 0, or the length
abbrev pub first_nonzero : List ℕ → ℕ
first_nonzero [] = 0
first_nonzero (x ∷ xs) = cond (x == 0) (suc (first_nonzero xs)) 0

abbrev pub all_zero : List ℕ → Bool
all_zero [] = true
all_zero (x ∷ xs) = x == 0 && all_zero xs

-- the place of the one 1, or the length where there is not just one
abbrev pub chosen_in : List ℕ → ℕ
chosen_in xs = cond (just_one xs) (first_one xs) (length xs)

module _ (values : List ℕ) (size w : ℕ) where
  abbrev pub flags_from : ℕ → List ℕ
  flags_from at = take w (drop at values)

  -- of m frames, numbered from j on and the first's flags at `at`: the first without just one 1, or the number past them; and the choices
  unfoldable pub first_bad : ℕ → ℕ → ℕ → ℕ
  first_bad zero at j = j
  first_bad (suc m) at j = cond (just_one (flags_from at)) (first_bad m (at + size) (suc j)) j

  unfoldable pub chosen_list : ℕ → ℕ → List ℕ
  chosen_list zero at = []
  chosen_list (suc m) at = chosen_in (flags_from at) ∷ chosen_list m (at + size)
