-- The search (document 01, "The search"), turn by turn. It knows clauses by their meaning alone.
use Rattle.std.specs.Prelude.{◌≡◌, Bool, true, false, not, ◌||◌, cond, List, [], ◌∷◌, ℕ, zero, suc, ◌^◌, ltb, eqb, Option, None, Some}
use Rattle.clauses.specs.Literal.{Literal, positive, negative, Clause}

-- "All n variables start unset.": a variable is unset, or is true or false
pub data Value : Type 0 where
  unset : Value
  is : Bool → Value

-- a variable, its value, and whether it is a branch still at its first value
pub record Setting : Type 0 where
  pub variable : ℕ
  pub value : Bool
  pub first : Bool

-- the settings that stand, the latest first
abbrev pub Settings : Type 0
Settings = List Setting

-- what each variable's value is, as settings or lent bytes give it
abbrev pub Values : Type 0
Values = ℕ → Value

abbrev pub value_of : Settings → Values
value_of [] v = unset
value_of (s ∷ ss) v = cond (eqb v s.variable) (is s.value) (value_of ss v)

abbrev pub opposite : Value → Value
opposite unset = unset
opposite (is b) = is (not b)

abbrev pub literal_value : Values → Literal → Value
literal_value σ (positive v) = σ v
literal_value σ (negative v) = opposite (σ v)

-- What a clause is under values: every literal false; no true literal and one unset position, which is this literal's;
-- a true literal; no true literal and several unset positions. Positions count: a literal that stands twice counts twice.
pub data Scan : Type 0 where
  all_false : Scan
  unit : Literal → Scan
  some_true : Scan
  several : Scan

abbrev pub scan_one : Literal → Value → Scan
scan_one l unset = unit l
scan_one l (is true) = some_true
scan_one l (is false) = all_false

abbrev pub join : Scan → Scan → Scan
join all_false s = s
join some_true s = some_true
join (unit l) all_false = unit l
join (unit l) (unit m) = several
join (unit l) some_true = some_true
join (unit l) several = several
join several all_false = several
join several (unit m) = several
join several some_true = some_true
join several several = several

abbrev pub scan : Values → Clause → Scan
scan σ [] = all_false
scan σ (l ∷ ls) = join (scan_one l (literal_value σ l)) (scan σ ls)

-- "a clause with every literal false": whether there is one
abbrev pub is_false : Scan → Bool
is_false all_false = true
is_false (unit l) = false
is_false some_true = false
is_false several = false

abbrev pub conflict : Values → List Clause → Bool
conflict σ [] = false
conflict σ (c ∷ cs) = is_false (scan σ c) || conflict σ cs

-- "the first clause with no true literal and one unset position": its unset literal
pub data FirstUnit : Type 0 where
  nothing : FirstUnit
  found : Literal → FirstUnit

abbrev pub or_else : Scan → FirstUnit → FirstUnit
or_else all_false f = f
or_else (unit l) f = found l
or_else some_true f = f
or_else several f = f

abbrev pub first_unit : Values → List Clause → FirstUnit
first_unit σ [] = nothing
first_unit σ (c ∷ cs) = or_else (scan σ c) (first_unit σ cs)

abbrev pub is_unset : Value → Bool
is_unset unset = true
is_unset (is b) = false

-- "the lowest unset variable", of v, v + 1, .., v + k - 1
abbrev pub lowest_unset : Values → ℕ → ℕ → Option ℕ
lowest_unset σ v zero = None
lowest_unset σ v (suc k) = cond (is_unset (σ v)) (Some v) (lowest_unset σ (suc v) k)

-- What a turn comes to: settings with a unit more, settings by a try, all set, or no branch left.
pub data Turn : Type 0 where
  sets : Settings → Turn
  takes : Settings → Turn
  satisfied : Settings → Turn
  refuted : Turn

-- a unit's setting; a branch at its first value, which is false; the same branch at its second
abbrev pub forced : Literal → Setting
forced (positive v) = record { variable = v; value = true; first = false }
forced (negative v) = record { variable = v; value = false; first = false }

abbrev pub branch_false : ℕ → Setting
branch_false v = record { variable = v; value = false; first = true }

abbrev pub branch_true : ℕ → Setting
branch_true v = record { variable = v; value = true; first = false }

-- "undoes settings back to the latest branch still at its first value, and takes true there; with no such branch the answer is UNSAT"
abbrev pub undo : Settings → Turn
undo [] = refuted
undo (s ∷ ss) = cond s.first (takes (branch_true s.variable ∷ ss)) (undo ss)

-- "Else the first clause with no true literal and one unset position sets it."
abbrev pub set_unit : Settings → FirstUnit → Turn → Turn
set_unit ss nothing otherwise = otherwise
set_unit ss (found l) otherwise = sets (forced l ∷ ss)

-- "Else the lowest unset variable branches, false first. All set: SAT."
abbrev pub branch : Settings → Option ℕ → Turn
branch ss None = satisfied ss
branch ss (Some v) = takes (branch_false v ∷ ss)

unfoldable pub turn : ℕ → List Clause → Settings → Turn
turn n cs ss = cond (conflict (value_of ss) cs) (undo ss) (set_unit ss (first_unit (value_of ss) cs) (branch ss (lowest_unset (value_of ss) 1 n)))

pub data Budget : Type 0 where
  no_budget : Budget
  up_to : ℕ → Budget

-- whether one more try after t of them is within the budget
abbrev pub allows : Budget → ℕ → Bool
allows no_budget t = true
allows (up_to b) t = ltb t b

-- SAT with its settings
pub data Answer : Type 0 where
  SAT : Settings → Answer
  UNSAT SPENT : Answer

pub record Outcome : Type 0 where
  pub answer : Answer
  pub tries : ℕ

-- "Repeat", after t tries. "Each branch value taken is one try"; "SPENT exactly when a try beyond the budget would be needed."
-- A definition has to end, so the turns are counted down, from more than are ever used (`Ends`, below).
abbrev pub run : ℕ → ℕ → List Clause → Budget → ℕ → Turn → Outcome
run zero n cs b t x = record { answer = SPENT; tries = t }
run (suc f) n cs b t (sets ss) = run f n cs b t (turn n cs ss)
run (suc f) n cs b t (takes ss) = elim (allows b t) [ true ↦ run f n cs b (suc t) (turn n cs ss) | false ↦ record { answer = SPENT; tries = t } ]
run (suc f) n cs b t (satisfied ss) = record { answer = SAT ss; tries = t }
run (suc f) n cs b t refuted = record { answer = UNSAT; tries = t }

-- the search on n variables
unfoldable pub solved : ℕ → List Clause → Budget → Outcome
solved n cs b = run (2 ^ suc n) n cs b 0 (turn n cs [])

-- The same turns with no count of them: from a turn, after t tries, they end with an outcome.
-- SPENT comes by a try beyond the budget, and by nothing else. `solved` is reached so (proofs/Theorems.antt, `search_ends`).
pub data Ends (n : ℕ) (cs : List Clause) (b : Budget) : ℕ → Turn → Outcome → Type 0 where
  unit_set : {t : ℕ} {ss : Settings} {o : Outcome} → Ends n cs b t (turn n cs ss) o → Ends n cs b t (sets ss) o
  try_made : {t : ℕ} {ss : Settings} {o : Outcome} → allows b t ≡ true → Ends n cs b (suc t) (turn n cs ss) o → Ends n cs b t (takes ss) o
  budget_spent : {t : ℕ} {ss : Settings} → allows b t ≡ false → Ends n cs b t (takes ss) (record { answer = SPENT; tries = t })
  all_set : {t : ℕ} {ss : Settings} → Ends n cs b t (satisfied ss) (record { answer = SAT ss; tries = t })
  no_branch : {t : ℕ} → Ends n cs b t refuted (record { answer = UNSAT; tries = t })
