-- What an owner's answer depends on (document 02, R-6), of the definition in specs/Owners. That it holds is proofs/Isolation.
use Rattle.std.specs.Prelude.{◌≡◌, List, [], ℕ, ◌<◌, ◌≤◌, length, get_or}
use Rattle.design.specs.Answer.{Answer, refused, answer}
use Rattle.verdict.specs.Verdict.{Told, verdict}
use Rattle.verdict.specs.Owners.{Owner, Buffers, most_owners, with_choices, AfterOwners, owners}

-- an owner's answer, with its tries, and its choices after the call
pub record OwnersResult : Type 0 where
  pub answer : Answer Told
  pub choices : List ℕ

-- of place i; where the whole call is refused, its refusal stands for each owner's
abbrev answer_at : ℕ → Answer (List (Answer Told)) → Answer Told
answer_at i (refused number place) = refused number place
answer_at i (answer answers) = get_or answers i (refused 0 0)

abbrev pub result_of : ℕ → AfterOwners → OwnersResult
result_of i after = record { answer = answer_at i after.answer; choices = get_or after.choices i [] }

-- what is lent at place i is an owner's
pub record Owns (i count : ℕ) (pieces : List (List ℕ)) (budgets : List ℕ) (choices : List (List ℕ)) (o : Owner) : Type 0 where
  pub counted : i < count
  pub has_piece : i < length pieces
  pub has_budget : i < length budgets
  pub has_choices : i < length choices
  pub own_piece : get_or pieces i [] ≡ o.piece
  pub own_budget : get_or budgets i 0 ≡ o.budget
  pub own_choices : get_or choices i [] ≡ o.choices

-- "the same buffer lengths"
pub record SameLengths (a b : Buffers) : Type 0 where
  pub clauses : length a.clauses ≡ length b.clauses
  pub values : length a.values ≡ length b.values
  pub trail : length a.trail ≡ length b.trail

-- "An owner's answer, tries and choices equal those of VERDICT called alone on property 0 with the same buffer lengths and old choices, refusals included": whatever the buffers hold that
-- are lent to that call of VERDICT. CHECK's refusal is one of VERDICT's, too; 20 is not.
abbrev pub EqualsAlone : Type 0
EqualsAlone = (file : List ℕ) (k count : ℕ) → 0 < count → count ≤ most_owners
    → (pieces : List (List ℕ)) (budgets : List ℕ) (choices : List (List ℕ)) (i : ℕ) (o : Owner) → Owns i count pieces budgets choices o
    → (lent other : Buffers) → SameLengths lent other
    → (let v = verdict file o.piece 0 k o.budget (with_choices other o.choices) in
    result_of i (owners file k lent count pieces budgets choices) ≡ record { answer = v.answer; choices = v.memory.choices })

-- "So they depend only on the design, those lengths, the bound, the count of owners and that owner's own piece, budget and old choices.": two calls that agree on these agree on that owner's
-- answer, tries and choices, at whatever place it stands, whatever the other owners lend and whatever the buffers hold, refusals of the whole call included
abbrev pub Isolated : Type 0
Isolated = (file : List ℕ) (k count : ℕ) (o : Owner)
    → (pieces : List (List ℕ)) (budgets : List ℕ) (choices : List (List ℕ)) (i : ℕ) → Owns i count pieces budgets choices o
    → (pieces' : List (List ℕ)) (budgets' : List ℕ) (choices' : List (List ℕ)) (j : ℕ) → Owns j count pieces' budgets' choices' o
    → (lent lent' : Buffers) → SameLengths lent lent'
    → result_of i (owners file k lent count pieces budgets choices) ≡ result_of j (owners file k lent' count pieces' budgets' choices')
