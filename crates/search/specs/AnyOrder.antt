-- Searches that set units in any order. Document 01's search is one of them; all of them come to the same
-- (proofs/Theorems.antt, `any_order`), so a program may set the units in the order in which it meets them.
use Rattle.std.specs.Prelude.{◌≡◌, ◌⊎◌, true, false, List, [], ◌∷◌, ℕ}
use Rattle.clauses.specs.Literal.{Literal, Clause}
use Rattle.search.specs.Search.{Settings, Values, value_of, unit, scan, conflict, nothing, first_unit, lowest_unset, Turn, sets, forced, undo, branch}

-- some clause has no true literal and one unset position, this literal's
abbrev pub IsUnit : Values → List Clause → Literal → Type 0
IsUnit σ [] l = ⊥
IsUnit σ (c ∷ cs) l = (scan σ c ≡ unit l) ⊎ IsUnit σ cs l

-- no clause is all false, and none is a unit
pub record Quiet (σ : Values) (cs : List Clause) : Type 0 where
  pub calm : conflict σ cs ≡ false
  pub closed : first_unit σ cs ≡ nothing

-- unit settings, of any units and any number of them
pub data Settles (cs : List Clause) : Settings → Settings → Type 0 where
  done : {ss : Settings} → Settles cs ss ss
  more : {ss ss₁ : Settings} (l : Literal) → IsUnit (value_of ss) cs l → Settles cs (forced l ∷ ss) ss₁ → Settles cs ss ss₁

-- a turn of such a search
pub data Move (n : ℕ) (cs : List Clause) (ss : Settings) : Turn → Type 0 where
  by_conflict : conflict (value_of ss) cs ≡ true → Move n cs ss (undo ss)
  by_unit : (l : Literal) → IsUnit (value_of ss) cs l → Move n cs ss (sets (forced l ∷ ss))
  by_branch : Quiet (value_of ss) cs → Move n cs ss (branch ss (lowest_unset (value_of ss) 1 n))
