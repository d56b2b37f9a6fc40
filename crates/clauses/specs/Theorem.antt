-- What the clause writer's theorem says. Document 01: "models and runs match one to one". Its proof is proofs/Theorem.
use Rattle.std.specs.Prelude.{◌≡◌, ℕ, zero, suc, ◌<◌, ◌≤◌, Bool, true, false, ◌⊎◌, ◌↔◌, List, [], ◌∷◌, length, slice_index, slice_index_or}
use Rattle.design.specs.Tree.{Design, bit}
use Rattle.step.specs.Property.{Property}
use Rattle.step.specs.Breaking.{Breaking, Breakable}
use Rattle.clauses.specs.Meaning.{Assignment, satisfies, Satisfiable, Within}
use Rattle.clauses.specs.Words.{words, clauses_of}
use Rattle.clauses.specs.Formula.{n, formula, choices}
use Rattle.design.specs.Answer.{answer}
use Rattle.clauses.specs.Decode.{chosen_from}

-- the values of variables 1..n are stored in a list of bytes, variable v at v - 1
pub record Stored (n : ℕ) (ρ : Assignment) (values : List ℕ) : Type 0 where
  pub long : n ≤ length values
  pub value : (i : ℕ) → i < n → slice_index values i ≡ bit (ρ (suc i))

pub record Theorem (d : Design) (p : Property) (k : ℕ) : Type 0 where
  -- every satisfying assignment of the formula for bound k decodes to a list of k choices that breaks the property
  pub decodes : (ρ : Assignment) → satisfies ρ (formula d p k) ≡ true → Breaking d p k (choices d p ρ k)
  -- every such list is decoded from one satisfying assignment,
  pub decoded : (cs : List ℕ) → Breaking d p k cs → (ρ : Assignment) × (satisfies ρ (formula d p k) ≡ true) × (choices d p ρ k ≡ cs)
  -- and from only one: two that decode to one list give each of the variables 1..n the same value
  pub once : (ρ σ : Assignment) → satisfies ρ (formula d p k) ≡ true → satisfies σ (formula d p k) ≡ true → choices d p ρ k ≡ choices d p σ k
      → (v : ℕ) → 0 < v → v ≤ n d p k → ρ v ≡ σ v
  -- the formula names no other variables
  pub within : Within (n d p k) (formula d p k)
  -- the formula is satisfiable exactly when some list of at most k choices breaks the property
  pub satisfiable : Satisfiable (formula d p k) ↔ Breakable d p k
  -- the words of the formula say its clauses
  pub words : clauses_of (words (formula d p k)) ≡ formula d p k
  -- DECODE finds in the values of a satisfying assignment the choices that it decodes to
  pub decode : (ρ : Assignment) (values : List ℕ) → satisfies ρ (formula d p k) ≡ true → Stored (n d p k) ρ values → chosen_from d p values k 0 ≡ answer (choices d p ρ k)

-- How many models there are. A model is the list of the values of variables 1..n.
abbrev pub assignment_of : List Bool → Assignment
assignment_of bs zero = false
assignment_of bs (suc v) = slice_index_or bs v false

pub record Model (d : Design) (p : Property) (k : ℕ) (bs : List Bool) : Type 0 where
  pub long : length bs ≡ n d p k
  pub satisfies : satisfies (assignment_of bs) (formula d p k) ≡ true

module _ {A : Type 0} where
  abbrev pub In : A → List A → Type 0
  In a [] = ⊥
  In a (x ∷ xs) = (a ≡ x) ⊎ In a xs

  abbrev pub Distinct : List A → Type 0
  Distinct [] = Unit {0}
  Distinct (x ∷ xs) = (In x xs → ⊥) × Distinct xs

  -- exactly m values have the property: a list of m different ones that holds them all
  pub record Exactly (Q : A → Type 0) (m : ℕ) : Type 0 where
    pub list : List A
    pub size : length list ≡ m
    pub distinct : Distinct list
    pub all : (a : A) → In a list → Q a
    pub only : (a : A) → Q a → In a list
