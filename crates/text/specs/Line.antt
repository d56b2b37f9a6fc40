-- A line of the Replay program (document 01, "Programs"): "step, mover (- first), 1 if idle, 1 if the property holds, variables, |, statuses".
use Rattle.std.specs.Prelude.{◌≡◌, refl, Bool, true, false, List, [], ◌∷◌, ◌++◌, map, ℕ, zero, suc, ◌+◌, ℤ, pos, negsuc, take, drop}
use Rattle.design.specs.Tree.{bit}
use Rattle.step.specs.Pattern.{signed}
use Rattle.text.specs.Text.{digits, decimal, signed_text}

-- each number with a space before it
unfoldable pub spaced : List ℤ → List ℕ
spaced [] = []
spaced (z ∷ zs) = 32 ∷ (signed_text z ++ spaced zs)

-- the mover of a step; step 0 has none
abbrev pub mover_text : ℕ → ℕ → List ℕ
mover_text zero mover = 45 ∷ []
mover_text (suc step) mover = decimal mover

abbrev pub flag_text : Bool → List ℕ
flag_text b = 32 ∷ (48 + bit b) ∷ []

-- "step, mover (- first), 1 if idle, 1 if the property holds"
unfoldable pub head : ℕ → ℕ → Bool → Bool → List ℕ
head step mover idle holds = decimal step ++ (32 ∷ (mover_text step mover ++ (flag_text idle ++ flag_text holds)))

-- "variables, |, statuses"
unfoldable pub tail : List ℤ → List ℤ → List ℕ
tail values statuses = spaced values ++ (32 ∷ 124 ∷ (spaced statuses ++ (10 ∷ [])))

-- the same of slots: n variables as signed numbers, then k statuses
abbrev pub slots_text : ℕ → ℕ → List ℕ → List ℕ
slots_text n k slots = tail (take n (map signed slots)) (map pos (take k (drop n slots)))

-- fields are parted by single spaces, and the line ends with a newline
unfoldable pub line : ℕ → ℕ → Bool → Bool → List ℤ → List ℤ → List ℕ
line step mover idle holds values statuses = head step mover idle holds ++ tail values statuses

-- document 01's line of Design A at step 3: "3 1 0 0 1 2 | 0"
line_3 : line 3 1 false false (pos 1 ∷ pos 2 ∷ []) (pos 0 ∷ []) ≡ 51 ∷ 32 ∷ 49 ∷ 32 ∷ 48 ∷ 32 ∷ 48 ∷ 32 ∷ 49 ∷ 32 ∷ 50 ∷ 32 ∷ 124 ∷ 32 ∷ 48 ∷ 10 ∷ []
unfolding line head tail spaced digits
line_3 = refl

-- and at the start: "0 - 0 1 -32768 | 0"
line_0 : line 0 0 false true (negsuc 32767 ∷ []) (pos 0 ∷ []) ≡ 48 ∷ 32 ∷ 45 ∷ 32 ∷ 48 ∷ 32 ∷ 49 ∷ 32 ∷ 45 ∷ 51 ∷ 50 ∷ 55 ∷ 54 ∷ 56 ∷ 32 ∷ 124 ∷ 32 ∷ 48 ∷ 10 ∷ []
unfolding line head tail spaced digits
line_0 = refl
