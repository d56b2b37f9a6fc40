-- DECODE (document 01, "Turned-back calls"). The value of variable v is the byte at v - 1.
use Rattle.std.specs.Prelude.{ℕ, zero, suc, ◌+◌, ◌-◌, Bool, true, cond, ◌&&◌, List, [], ◌∷◌, ◌++◌, length, take, drop, ◌==◌, nat_le}
use Rattle.design.specs.Tree.{Design}
use Rattle.step.specs.Property.{Property}
use Rattle.clauses.specs.Formula.{S, P, w, n, frame}
use Rattle.clauses.specs.Admission.{admit}
use Rattle.design.specs.Answer.{Answer, refused, answer, need}

-- every one is 0 or 1; how many are 1; the place of the first 1
abbrev pub all_bits : List ℕ → Bool
all_bits [] = true
all_bits (x ∷ xs) = nat_le x 1 && all_bits xs

abbrev pub ones : List ℕ → ℕ
ones [] = 0
ones (x ∷ xs) = cond (x == 1) (suc (ones xs)) (ones xs)

abbrev pub first_one : List ℕ → ℕ
first_one [] = 0
first_one (x ∷ xs) = cond (x == 1) 0 (suc (first_one xs))

abbrev pub just_one : List ℕ → Bool
just_one xs = all_bits xs && ones xs == 1

abbrev pub with_choice : ℕ → Answer (List ℕ) → Answer (List ℕ)
with_choice c (refused number place) = refused number place
with_choice c (answer cs) = answer (c ∷ cs)

module _ (d : Design) (q : Property) (values : List ℕ) where
  -- the values of a frame's flags, which are its variables after S state bits and P property gates
  unfoldable pub flag_values : ℕ → List ℕ
  flag_values j = take (w d) (drop (frame d q j + S d + P d q - 1) values)

  -- "18 a flag value not 0/1 or a frame without just one 1 (place: first such frame)": of so many frames from frame j on
  unfoldable pub chosen_from : ℕ → ℕ → Answer (List ℕ)
  chosen_from zero j = answer []
  chosen_from (suc m) j = need (just_one (flag_values j)) 18 j (with_choice (first_one (flag_values j)) (chosen_from m (suc j)))

-- the choices that are to be written where there is room for so many, once the call is admitted: "16 values under n or choices under k; 18"
unfoldable pub choices_of : Design → Property → ℕ → List ℕ → ℕ → Answer (List ℕ)
choices_of d q k values room =
    need (nat_le (n d q k) (length values) && nat_le k room) 16 0
    (chosen_from d q values k 0)

-- "DECODE: 13; 14; 16 values under n or choices under k; 18". 8 and 19 (document 02, R-4 and R-2) stand in `admit`.
unfoldable pub choices_to_write : List ℕ → List ℕ → ℕ → ℕ → List ℕ → ℕ → Answer (List ℕ)
choices_to_write file piece p k values room =
    admit file piece p k λ d q.
    choices_of d q k values room

-- the answer, which holds nothing, and the choices after the call
pub record AfterDecode : Type 0 where
  pub answer : Answer (Unit {0})
  pub choices : List ℕ

-- "DECODE writes k choices." "All else keeps."
abbrev pub written : Answer (List ℕ) → List ℕ → AfterDecode
written (refused number place) choices = record { answer = refused number place; choices = choices }
written (answer cs) choices = record { answer = answer tt; choices = cs ++ drop (length cs) choices }

-- of a file, a piece, a property, a bound, the values and the lent choices
unfoldable pub decode : List ℕ → List ℕ → ℕ → ℕ → List ℕ → List ℕ → AfterDecode
decode file piece p k values choices = written (choices_to_write file piece p k values (length choices)) choices
