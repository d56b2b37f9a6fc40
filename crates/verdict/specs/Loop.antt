-- What the inner functions promise: the loop over the bounds.
use Rattle.std.specs.Prelude.{◌≡◌, true, List, ◌++◌, ℕ, ◌-◌, ◌<◌, ◌≤◌, ℤ, length, get_or, drop, replicate}
use Rattle.design.specs.Tree.{Design}
use Rattle.design.specs.Check.{Checked, check}
use Rattle.step.specs.Piece.{piece_right}
use Rattle.step.specs.Property.{Property, property_of}
use Rattle.clauses.specs.Words.{words}
use Rattle.clauses.specs.Formula.{n, formula}
use Rattle.clauses.specs.Limits.{last_variable}
use Rattle.step.specs.Limits.{last_property, max_bound}
use Rattle.search.specs.Search.{up_to}
use Rattle.search.specs.Solve.{values_left}
use Rattle.search.specs.Answers.{declared_solved}
use Rattle.search.specs.declared.Solved.{Solved}
use Rattle.verdict.specs.Verdict.{Memory, searched, judged_from, judge, room_for}

-- nothing is refused: the file's design is accepted, the piece is right, the property, the bound and n are not too high, and there is room
pub record ReadyMemory (file piece : List ℕ) (p k : ℕ) (lent : Memory) : Type 0 where
  pub design : Design
  pub accepted : check file ≡ Checked.accepted design
  pub bytes : (i : ℕ) → get_or file i 0 < 256
  pub piece_bytes : (i : ℕ) → get_or piece i 0 < 256
  pub property : p ≤ last_property file
  pub right : piece_right file piece p ≡ true
  pub bound : k ≤ max_bound
  pub numbers : n design (property_of file piece design p) k ≤ last_variable
  pub room : room_for design (property_of file piece design p) k lent ≡ true

module _ (d : Design) (q : Property) (k budget : ℕ) (lent : Memory) where
  -- Before bound i, after t tries: what is still to do, and lent memory, which is as it was lent past what bound i's formula and variables take.
  pub record Judging (i t : ℕ) (clauses : List ℤ) (values trail : List ℕ) : Type 0 where
    pub low : i ≤ k
    pub paid : t ≤ budget
    pub same : judged_from d q budget (k - i) i t ≡ judge d q k budget
    pub clauses_kept : drop (length (words (formula d q i))) clauses ≡ drop (length (words (formula d q i))) lent.clauses
    pub values_kept : drop (n d q i) values ≡ drop (n d q i) lent.values
    pub trail_kept : drop (n d q i) trail ≡ drop (n d q i) lent.trail
    pub clauses_long : length clauses ≡ length lent.clauses
    pub values_long : length values ≡ length lent.values
    pub trail_long : length trail ≡ length lent.trail

  -- Bound i was tried: its formula was written, the search came to a result, and this is what they left.
  pub record Tried (i t : ℕ) (clauses : List ℤ) (values trail : List ℕ) (r : Solved) (clauses' : List ℤ) (values' trail' : List ℕ) : Type 0 where
    pub result : r ≡ declared_solved (searched d q (up_to (budget - t)) i)
    pub written : clauses' ≡ words (formula d q i) ++ drop (length (words (formula d q i))) clauses
    pub values_left_lem : values' ≡ values_left (n d q i) (searched d q (up_to (budget - t)) i).answer ++ drop (n d q i) values
    pub trail_left : trail' ≡ replicate (n d q i) 0 ++ drop (n d q i) trail

-- the loop's invariant
pub record AtBound (file piece : List ℕ) (p k budget : ℕ) (lent : Memory) (i t : ℕ) (clauses : List ℤ) (values trail choices : List ℕ) : Type 0 where
  pub ready : ReadyMemory file piece p k lent
  pub judging : Judging ready.design (property_of file piece ready.design p) k budget lent i t clauses values trail
  pub choices_kept : choices ≡ lent.choices
