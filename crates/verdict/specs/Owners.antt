-- Several owners on one design (document 02, R-6): "Up to four reviewers check their pieces of one design in one call, with one clause buffer and each with a budget and a choice buffer."
-- A call has four places, each with a piece, a budget and choices; the owners are the first `count` of them. `k` is the bound, one for all.
use Rattle.std.specs.Prelude.{◌&&◌, List, [], ◌∷◌, ◌++◌, map, ℕ, max, leb, ltb, ℤ, pos, length, take, drop, replicate}
use Rattle.design.specs.Tree.{Design}
use Rattle.design.specs.Answer.{Answer, refused, answer, need, on_design}
use Rattle.step.specs.Property.{property_of}
use Rattle.clauses.specs.Words.{words}
use Rattle.clauses.specs.Formula.{n, formula}
use Rattle.verdict.specs.Verdict.{Verdict, VIOLATED, CLEAN, SPENT-AT, Told, Memory, After, verdict}

-- "Up to four"
abbrev pub most_owners : ℕ
most_owners = 4

-- "that owner's own piece, budget and old choices"
pub record Owner : Type 0 where
  pub piece : List ℕ
  pub budget : ℕ
  pub choices : List ℕ

-- what is lent to all owners together
pub record Buffers : Type 0 where
  pub clauses : List ℤ
  pub values : List ℕ
  pub trail : List ℕ

abbrev pub with_choices : Buffers → List ℕ → Memory
with_choices lent choices = record { clauses = lent.clauses; values = lent.values; trail = lent.trail; choices = choices }

-- "An owner's answer, tries and choices equal those of VERDICT called alone on property 0 with the same buffer lengths and old choices, refusals included." The buffers here are those
-- lent to the whole call; that what they hold makes no difference is said by `EqualsAlone` (specs/Isolation) and proved in proofs/Isolation.
unfoldable pub alone : List ℕ → ℕ → Buffers → Owner → After
alone file k lent o = verdict file o.piece 0 k o.budget (with_choices lent o.choices)

-- how many clause words, and how many values and trail words
pub record Used : Type 0 where
  pub words : ℕ
  pub variables : ℕ

abbrev pub none : Used
none = record { words = 0; variables = 0 }

abbrev pub longer : Used → Used → Used
longer a b = record { words = max a.words b.words; variables = max a.variables b.variables }

-- VERDICT "leaves the last formula tried": the bound of it
abbrev pub last_tried : ℕ → Verdict → ℕ
last_tried k (VIOLATED i) = i
last_tried k CLEAN = k
last_tried k (SPENT-AT i) = i

module _ (file : List ℕ) (d : Design) (k : ℕ) where
  -- what an owner used: what the last formula that it tried takes. No earlier one takes more (proofs/Growing). An owner that is refused used nothing.
  abbrev pub used_for : Owner → Answer Told → Used
  used_for o (refused number place) = none
  used_for o (answer told) =
      let q = property_of file o.piece d 0 in
      let i = last_tried k told.verdict in
      record { words = length (words (formula d q i)); variables = n d q i }

  -- "that any owner used": the most over owners
  abbrev pub used_by_any : Buffers → List Owner → Used
  used_by_any lent [] = none
  used_by_any lent (o ∷ os) = longer (used_for o (alone file k lent o).answer) (used_by_any lent os)

-- so many entries zero, the rest kept
abbrev pub zeroed : {A : Type 0} → A → ℕ → List A → List A
zeroed zero m xs = replicate m zero ++ drop m xs

-- "When the call ends, the clause, value and trail words that any owner used are all zero." "All else keeps."
abbrev pub buffers_left : Used → Buffers → Buffers
buffers_left used lent = record {
  clauses = zeroed (pos 0) used.words lent.clauses;
  values = zeroed 0 used.variables lent.values;
  trail = zeroed 0 used.variables lent.trail;
}

-- the owners, of what is lent place by place
abbrev pub owners_of : List (List ℕ) → List ℕ → List (List ℕ) → List Owner
owners_of [] budgets choices = []
owners_of (p ∷ pieces) [] choices = []
owners_of (p ∷ pieces) (b ∷ budgets) [] = []
owners_of (p ∷ pieces) (b ∷ budgets) (c ∷ choices) = record { piece = p; budget = b; choices = c } ∷ owners_of pieces budgets choices

-- what the call answers, each owner's answer its own, and lent memory after it
pub record AfterOwners : Type 0 where
  pub answer : Answer (List (Answer Told))
  pub buffers : Buffers
  pub choices : List (List ℕ)

-- a refusal of the whole call "leaves all lent memory unchanged"
abbrev pub after_owners : Buffers → List (List ℕ) → Answer AfterOwners → AfterOwners
after_owners lent choices (refused number place) = record { answer = refused number place; buffers = lent; choices = choices }
after_owners lent choices (answer after) = after

module _ (file : List ℕ) (k : ℕ) (lent : Buffers) where
  -- each owner's answer and choices; the choices of the other places are as they were
  unfoldable pub each_owner : Design → List Owner → List (List ℕ) → AfterOwners
  each_owner d os choices =
      record {
        answer = answer (map (λ (o : Owner). (alone file k lent o).answer) os);
        buffers = buffers_left (used_by_any file d k lent os) lent;
        choices = map (λ (o : Owner). (alone file k lent o).memory.choices) os ++ drop (length os) choices;
      }

  -- "Errors: 20, straight after CHECK, when the owners number 0 or more than four." "Places not named are 0." An owner's own refusals, 8, 14, 19 and 16, are in its answer.
  unfoldable pub owners : ℕ → List (List ℕ) → List ℕ → List (List ℕ) → AfterOwners
  owners count pieces budgets choices =
      after_owners lent choices (
      on_design file λ d.
      need (ltb 0 count && leb count most_owners) 20 0
      (answer (each_owner d (take count (owners_of pieces budgets choices)) choices)))
