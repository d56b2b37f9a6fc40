-- What the inner functions promise: word lists from a place on, and lent memory as the search's settings.
use Rattle.std.specs.Prelude.{◌≡◌, Bool, true, false, not, ◌||◌, cond, List, [], ◌∷◌, ◌++◌, ℕ, zero, suc, ◌+◌, ◌*◌, ◌-◌, ◌^◌, ◌/◌, ◌%◌, ◌<◌, ◌≤◌, ltb, eqb, ℤ, pos, negsuc, nat_abs, length, get_or, drop, take, set, replicate, Option, None, Some}
use Rattle.clauses.specs.Literal.{Literal, positive, negative, Clause}
use Rattle.clauses.specs.Words.{is_end, literal_of_word, clauses_of}
use Rattle.search.specs.Search.{Value, unset, is, Setting, Settings, Values, value_of, conflict, is_unset, sets, takes, satisfied, refuted, undo, up_to, Answer, SAT, UNSAT, SPENT, Outcome, solved}
use Rattle.search.specs.Answers.{declared_solved}
use Rattle.search.specs.Solve.{values_from, values_left}
use Rattle.search.specs.AnyOrder.{IsUnit, Quiet, Move}
use Rattle.search.specs.Refutation.{set_false, reaches, holds_both, follows}
use Rattle.search.specs.declared.scan.Found.{Found}
use Rattle.search.specs.declared.scan.Found.TheVariants.{Nothing, Conflict, Unit as UnitAt}
use Rattle.search.specs.declared.run.Step.{Step}
use Rattle.search.specs.declared.run.Step.TheVariants.{Goes, Tries, Sat as AllSat, Unsat as NoneLeft}
use Rattle.search.specs.declared.Solved.{Solved}

-- every word is in -n..n
abbrev pub AllIn : ℕ → List ℤ → Type 0
AllIn n ws = (i : ℕ) → i < length ws → nat_abs (get_or ws i (pos 0)) ≤ n

-- every clause ends
abbrev pub closed_from : Bool → List ℤ → Bool
closed_from begun [] = not begun
closed_from begun (w ∷ ws) = closed_from (not (is_end w)) ws

abbrev pub closed : List ℤ → Bool
closed ws = closed_from false ws

-- the first clause of a word list, whether it ends, and what follows it
abbrev pub first_clause : List ℤ → Clause
first_clause [] = []
first_clause (w ∷ ws) = cond (is_end w) [] (literal_of_word w ∷ first_clause ws)

abbrev pub has_end : List ℤ → Bool
has_end [] = false
has_end (w ∷ ws) = is_end w || has_end ws

abbrev pub rest_words : List ℤ → List ℤ
rest_words [] = []
rest_words (w ∷ ws) = cond (is_end w) ws (rest_words ws)

-- the place past the clause that holds `from`
pub record Past (ws : List ℤ) (from r : ℕ) : Type 0 where
  pub since : from < r
  pub low : r ≤ length ws
  pub rest : drop r ws ≡ rest_words (drop from ws)

-- a clause starts at a place, or the list ends there
pub record Starts (ws : List ℤ) (from : ℕ) : Type 0 where
  pub low : from ≤ length ws
  pub before : List Clause
  pub split : clauses_of ws ≡ before ++ clauses_of (drop from ws)
  pub closes : closed (drop from ws) ≡ true

-- the value that makes a word's literal true
abbrev pub sign_of : ℤ → ℕ
sign_of (pos v) = 1
sign_of (negsuc v) = 0

-- the word at a place is a literal of a variable in 1..n
pub record Named (ws : List ℤ) (n from : ℕ) : Type 0 where
  pub here : from < length ws
  pub goes : is_end (get_or ws from (pos 0)) ≡ false
  pub high : nat_abs (get_or ws from (pos 0)) ≤ n

-- Values are bytes: 0 false, 1 true, any other unset. Variable v's is byte v - 1.
abbrev pub value_of_byte : ℕ → Value
value_of_byte x = cond (ltb 1 x) unset (is (eqb x 1))

abbrev pub value_at : List ℕ → Values
value_at vs v = value_of_byte (get_or vs (v - 1) 0)

-- values that agree on the variables 1..n
abbrev pub Agree : ℕ → Values → Values → Type 0
Agree n σ τ = (v : ℕ) → 0 < v → v ≤ n → σ v ≡ τ v

-- a value, where there is one
abbrev pub known : Value → Option Bool
known unset = None
known (is b) = Some b

-- the literal of a variable that the value b makes true
abbrev pub literal_from : ℕ → ℕ → Literal
literal_from v b = cond (eqb b 1) (positive v) (negative v)

-- what a scan finds among clauses: a unit comes with the place at which to read on, of which `Start` says that a clause starts there
pub record UnitFound (Start : ℕ → Type 0) (σ : Values) (cs : List Clause) (v b next : ℕ) : Type 0 where
  pub unit : IsUnit σ cs (literal_from v b)
  pub bit : b ≤ 1
  pub starts : Start next

abbrev pub Finds : (ℕ → Type 0) → Values → List Clause → Found → Type 0
Finds Start σ cs Nothing = Quiet σ cs
Finds Start σ cs Conflict = conflict σ cs ≡ true
Finds Start σ cs (UnitAt v b next) = UnitFound Start σ cs v b next

-- A trail word is twice its variable, and 1 more for a branch still at its first value. The settings of the first t words:
abbrev pub setting_at : List ℕ → ℕ → Setting
setting_at vs e = record { variable = e / 2; value = eqb (get_or vs (e / 2 - 1) 0) 1; first = eqb (e % 2) 1 }

abbrev pub settings_of : List ℕ → List ℕ → ℕ → Settings
settings_of vs tr zero = []
settings_of vs tr (suc t) = setting_at vs (get_or tr t 0) ∷ settings_of vs tr t

-- each setting is of a variable in 1..n that was unset
pub record Proper₁ (n : ℕ) (s : Setting) (ss : Settings) : Type 0 where
  pub low : 0 < s.variable
  pub high : s.variable ≤ n
  pub unset! : value_of ss s.variable ≡ unset

abbrev pub Proper : ℕ → Settings → Type 0
Proper n [] = Unit {0}
Proper n (s ∷ ss) = Proper₁ n s ss × Proper n ss

-- how many of v, v + 1, .., v + k - 1 are unset
abbrev pub bit : Bool → ℕ
bit true = 1
bit false = 0

abbrev pub unset_count : Settings → ℕ → ℕ → ℕ
unset_count ss v zero = 0
unset_count ss v (suc k) = bit (is_unset (value_of ss v)) + unset_count ss (suc v) k

-- values and trail of n entries, t of the trail's in use, say the same
pub record TrailAgrees (n : ℕ) (vs tr : List ℕ) (t : ℕ) : Type 0 where
  pub values : length vs ≡ n
  pub trail : length tr ≡ n
  pub proper : Proper n (settings_of vs tr t)
  pub looks : Agree n (value_of (settings_of vs tr t)) (value_at vs)
  pub count : t + unset_count (settings_of vs tr t) 1 n ≡ n

-- a variable in 1..n, and room on a trail that has t words
pub record Settable (n m t v : ℕ) : Type 0 where
  pub low : 0 < v
  pub high : v ≤ n
  pub small : v < 2 ^ 31
  pub room : t < m

pub record Assigned (vs tr : List ℕ) (t v value first : ℕ) (vs' tr' : List ℕ) : Type 0 where
  pub values : vs' ≡ set vs (v - 1) value
  pub trail : tr' ≡ set tr t (2 * v + first)

-- what an undo leaves: k settings, or none where there is no branch at its first value
abbrev pub Undone : ℕ → Settings → Option ℕ → List ℕ → List ℕ → Type 0
Undone n ss None vs tr = undo ss ≡ refuted
Undone n ss (Some k) vs tr = (undo ss ≡ takes (settings_of vs tr k)) × TrailAgrees n vs tr k

-- the values of 1, 2, .., low are set
pub record SetTo (low : ℕ) (vs : List ℕ) : Type 0 where
  pub within : low ≤ length vs
  pub bits : (i : ℕ) → i < low → get_or vs i 0 ≤ 1

-- what a turn needs
pub record ReadyTrail (n : ℕ) (ws : List ℤ) (vs tr : List ℕ) (t from low : ℕ) : Type 0 where
  pub small : n < 2 ^ 31
  pub inside : AllIn n ws
  pub closes : closed ws ≡ true
  pub starts : Starts ws from
  pub shaped : TrailAgrees n vs tr t
  pub low_set : SetTo low vs

-- what a turn leaves, from settings ss and values vs
abbrev pub AfterTurn : ℕ → List ℤ → Settings → Step → List ℕ → List ℕ → List ℕ → Type 0
AfterTurn n ws ss (Goes k next) vs vs' tr' = Move n (clauses_of ws) ss (sets (settings_of vs' tr' k)) × TrailAgrees n vs' tr' k × Starts ws next
AfterTurn n ws ss (Tries k) vs vs' tr' = Move n (clauses_of ws) ss (takes (settings_of vs' tr' k)) × TrailAgrees n vs' tr' k
AfterTurn n ws ss AllSat vs vs' tr' = Move n (clauses_of ws) ss (satisfied ss) × (vs' ≡ vs)
AfterTurn n ws ss NoneLeft vs vs' tr' = Move n (clauses_of ws) ss refuted

-- what a run needs
pub record Fresh (ws : List ℤ) (vs tr : List ℕ) : Type 0 where
  pub small : length vs < 2 ^ 31
  pub inside : AllIn (length vs) ws
  pub closes : closed ws ≡ true
  pub trail : length tr ≡ length vs

abbrev pub AllUnset : List ℕ → Type 0
AllUnset vs = vs ≡ replicate (length vs) 2

-- the search of document 01, on as many variables as there are values
abbrev pub outcome : List ℕ → List ℤ → ℕ → Outcome
outcome vs ws b = solved (length vs) (clauses_of ws) (up_to b)

-- what a run leaves: on SAT the values are those of its settings
abbrev pub Kept : ℕ → Answer → List ℕ → Type 0
Kept n (SAT ss) vs = vs ≡ values_from ss 1 n
Kept n UNSAT vs = Unit {0}
Kept n SPENT vs = Unit {0}

pub record Ran (o : Outcome) (n : ℕ) (r : Solved) (vs : List ℕ) : Type 0 where
  pub result : r ≡ declared_solved o
  pub kept : Kept n o.answer vs

-- the search's result and leavings, on just n entries
pub record Leaves (o : Outcome) (n : ℕ) (r : Solved) (vs tr : List ℕ) : Type 0 where
  pub result : r ≡ declared_solved o
  pub values : vs ≡ values_left n o.answer
  pub trail : tr ≡ replicate n 0

-- REFUTE. Settings and values say the same of every variable.
abbrev pub Agrees : Settings → List ℕ → Type 0
Agrees ss vs = Agree (length vs) (value_of ss) (value_at vs)

-- what setting a clause's literals false comes to: whether it holds a literal and its negation, and else the values
abbrev pub Denied : Clause → Bool → List ℕ → Type 0
Denied c true vs = holds_both c ≡ true
Denied c false vs = (holds_both c ≡ false) × Agrees (set_false [] c) vs

-- two word lists of clauses over n variables, which memory holds beside each other
pub record Two (n : ℕ) (ws ds : List ℤ) : Type 0 where
  pub inside : AllIn n ws
  pub closes : closed ws ≡ true
  pub inside₂ : AllIn n ds
  pub closes₂ : closed ds ≡ true

-- a place in the second of them, counted on from `base`; and a place in either, the second's counting on from the first's length
abbrev pub StartsAfter : ℕ → List ℤ → ℕ → Type 0
StartsAfter base ds i = (base ≤ i) × Starts ds (i - base)

abbrev pub StartsTwo : List ℤ → List ℤ → ℕ → Type 0
StartsTwo ws ds i = (i < length ws → Starts ws i) × (length ws ≤ i → Starts ds (i - length ws))

-- the clauses from such a place on, and all of them
abbrev pub clauses_from : List ℤ → List ℤ → ℕ → List Clause
clauses_from ws ds i = clauses_of (drop i ws) ++ clauses_of (drop (i - length ws) ds)

abbrev pub both_of : List ℤ → List ℤ → List Clause
both_of ws ds = clauses_of ws ++ clauses_of ds

-- whether unit setting from these values reaches a clause all false
abbrev pub Reaches : List Clause → List ℕ → Bool → Type 0
Reaches cs vs r = (ss : Settings) → Agrees ss vs → r ≡ reaches (length vs) cs ss

-- a refutation read up to a place, at which a clause starts or the words end
pub record ReadTo (ds : List ℤ) (i : ℕ) : Type 0 where
  pub low : i ≤ length ds
  pub before : closed (take i ds) ≡ true
  pub after : closed (drop i ds) ≡ true

-- whether the clause there follows from the list and from the clauses before it
abbrev pub follows_at : ℕ → List ℤ → List ℤ → ℕ → Bool
follows_at n ws ds i = follows n (both_of ws (take i ds)) (first_clause (drop i ds))
