-- What inner functions are given: an accepted file with its table of events and its shape, and a state of its size, or two; and what they promise of a mover.
use Rattle.std.specs.Prelude.{◌≡◌, ℕ, ◌+◌, ◌-◌, ◌<◌, ◌≤◌, Bool, true, false, not, List, [], ◌∷◌, length, take, drop, slice_index}
use Rattle.std.proofs.Math.Option.{Option, none, some}
use Rattle.design.specs.Tree.{Design, Mover}
use Rattle.design.specs.State.{State, Layout, slot_count}
use Rattle.design.specs.Check.{invariant_offset, constraint_offset}
use Rattle.design.specs.Places.{Indexed}
use Rattle.step.specs.Limits.{max_bound}
use Rattle.design.specs.declared.shape.Shape.{Shape}
use Rattle.step.specs.Piece.{piece_right}
use Rattle.step.specs.OneStep.{enabled, idle}
use Rattle.step.specs.StatusEventGuard.{event_read_of, guard_read_of, event_read_by, guard_read_by}
use Rattle.step.specs.declared.mover.Tested.{Tested}

pub record ReadyState (file table : List ℕ) (h : Shape) (slots : State) : Type 0 where
  pub indexed : Indexed file table h
  pub size : length slots ≡ slot_count h

-- a pair of states, one behind the other: the state before, and the state now
pub record ReadyPair (file table : List ℕ) (h : Shape) (pair : State) : Type 0 where
  pub indexed : Indexed file table h
  pub size : length pair ≡ slot_count h + slot_count h

-- the state before, of a pair of states of so many slots; at the first step there is none
abbrev pub before_in : Bool → ℕ → State → Option State
before_in true n pair = none
before_in false n pair = some (take n pair)

-- the first state of a pair after a choice: the state that the choice acts on, where it is kept
abbrev pub kept_in : Bool → ℕ → State → State
kept_in true n pair = drop n pair
kept_in false n pair = take n pair

-- what the walk over a list of choices is given: a right piece, two states, and choices that are few and name movers
pub record Replayable (file piece : List ℕ) (h : Shape) (property : ℕ) (pair : State) (choices : List ℕ) : Type 0 where
  pub size : length pair ≡ slot_count h + slot_count h
  pub right : piece_right file piece property ≡ true
  pub few : length choices ≤ max_bound
  pub named : (i : ℕ) → i < length choices → slice_index choices i < h.normals + h.externals

-- the bytes of property 0's expression: all of the piece, or a part of the file
unfoldable pub expression_text : List ℕ → List ℕ → List ℕ
expression_text file [] = take (constraint_offset file - invariant_offset file) (drop (invariant_offset file) file)
expression_text file (b ∷ bs) = b ∷ bs

-- what comes of testing a mover in a state, and of testing the one that a choice names
abbrev pub tested_of : Layout → State → Mover → Tested
tested_of l s m = record { event = event_read_of l s m; guard = guard_read_of l s m; idle = not (enabled l s m) }

abbrev pub tested_by : Design → State → ℕ → Tested
tested_by d s c = record { event = event_read_by d s c; guard = guard_read_by d s c; idle = idle d s c }
