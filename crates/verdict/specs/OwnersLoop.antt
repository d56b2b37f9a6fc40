-- What the inner functions promise: the owners one after the other, in the same buffers.
use Rattle.std.specs.Prelude.{◌≡◌, List, ℕ, ◌≤◌, ℤ, pos, length}
use Rattle.design.specs.Tree.{Design}
use Rattle.design.specs.Answer.{answer}
use Rattle.clauses.specs.Size.{Sizes, size}
use Rattle.verdict.specs.Verdict.{After}
use Rattle.verdict.specs.Owners.{Owner, Buffers, used_for, buffers_left, with_choices, zeroed, alone}
use Rattle.verdict.specs.declared.answer.Verdict as declared
use Rattle.verdict.specs.declared.answer.Verdict.TheVariants.{Violated, Clean, Spent}

-- the last bound tried, of a verdict as the code has it
abbrev pub last_bound : ℕ → declared.Verdict → ℕ
last_bound k (Violated i) = i
last_bound k Clean = k
last_bound k (Spent i) = i

-- SIZE tells how much the formula of property 0 for bound i takes, and there is room for as much
pub record Clearable (file piece : List ℕ) (i : ℕ) (clauses : List ℤ) (values : List ℕ) : Type 0 where
  pub sizes : Sizes
  pub sized : size file piece 0 i ≡ answer sizes
  pub words : sizes.words ≤ length clauses
  pub variables : sizes.variables ≤ length values

-- where it stood there are zeros
pub record Cleared (file piece : List ℕ) (i : ℕ) (clauses clauses' : List ℤ) (values values' : List ℕ) : Type 0 where
  pub words : (s : Sizes) → size file piece 0 i ≡ answer s → clauses' ≡ zeroed (pos 0) s.words clauses
  pub variables : (s : Sizes) → size file piece 0 i ≡ answer s → values' ≡ zeroed 0 s.variables values

-- one owner: VERDICT's answer and choices, and what it used is zero
abbrev pub one_owner : List ℕ → Design → ℕ → Buffers → Owner → After
one_owner file d k lent o =
    let v = alone file k lent o in
    record { answer = v.answer; memory = with_choices (buffers_left (used_for file d k o v.answer) lent) v.memory.choices }

-- there is a place for each owner that is counted
pub record Counted {A B C : Type 0} (count : ℕ) (pieces : List A) (budgets : List ℕ) (choices : List B) (answers : List C) : Type 0 where
  pub has_pieces : count ≤ length pieces
  pub has_budgets : count ≤ length budgets
  pub has_choices : count ≤ length choices
  pub has_answers : count ≤ length answers
