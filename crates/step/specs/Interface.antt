-- The state as the calls take and give it, 32 values, 8 statuses and the mark, and refusal 11 (document 01, "Turned-back calls"; document 02, R-5).
-- A value is a signed 16-bit number. In a slot stands its pattern.
use Rattle.std.specs.Prelude.{ℕ, suc, ◌-◌, Bool, true, false, cond, Option, Some, None, List, [], ◌∷◌, ◌++◌, map, length, take, replicate, ℤ, pos, ◌==◌, nat_le, nat_lt, slice_index}
use Rattle.design.specs.Tree.{Kind, boolean, integer, external, Variable, Design}
use Rattle.design.specs.State.{State, layout, statuses_in}
use Rattle.design.specs.Limits.{max_variables, max_matrices}
use Rattle.step.specs.Pattern.{signed, wrap}
use Rattle.step.specs.declared.Started.{Started}

-- "Boolean not 0/1": an external is a Boolean too
abbrev pub right_kind : Kind → ℕ → Bool
right_kind boolean p = nat_le p 1
right_kind integer p = true
right_kind external p = nat_le p 1

-- each entry is right, or "unused entry nonzero"
abbrev pub values_right : List Variable → List ℕ → List Bool
values_right xs [] = []
values_right [] (p ∷ ps) = (p == 0) ∷ values_right [] ps
values_right (x ∷ xs) (p ∷ ps) = right_kind x.kind p ∷ values_right xs ps

-- "status too high": `counts` are the matrices' status counts
abbrev pub statuses_right : List ℕ → List ℕ → List Bool
statuses_right counts [] = []
statuses_right [] (s ∷ ss) = (s == 0) ∷ statuses_right [] ss
statuses_right (n ∷ ns) (s ∷ ss) = nat_lt s n ∷ statuses_right ns ss

-- how many are right before the first that is not: its index, or all
abbrev pub first_wrong : List Bool → ℕ
first_wrong [] = 0
first_wrong (false ∷ ts) = 0
first_wrong (true ∷ ts) = suc (first_wrong ts)

-- the index of the first that is not right, if there is one
abbrev pub wrong_at : List Bool → Option ℕ
wrong_at ts = cond (nat_lt (first_wrong ts) (length ts)) (Some (first_wrong ts)) None

module _ (d : Design) where
  -- "(place: first such index, statuses from 32)": there are 32 values. Of the mark "any value other than 0 or 1 is refusal 11 at place 40": behind 8 statuses.
  abbrev pub entries_right : List ℤ → List ℕ → ℕ → List Bool
  entries_right values statuses mark = values_right d.variables (map wrap values) ++ (statuses_right d.statuses statuses ++ (nat_le mark 1 ∷ []))

  -- the state that entries give
  abbrev pub slots_given : List ℤ → List ℕ → ℕ → State
  slots_given values statuses mark = take (length d.variables) (map wrap values) ++ (take (length d.statuses) statuses ++ (mark ∷ []))

  -- the entries that a state gives; unused ones are 0
  abbrev pub values_of : State → List ℤ
  values_of s = take (length d.variables) (map signed s) ++ replicate (max_variables - length d.variables) (pos 0)

  abbrev pub statuses_of : State → List ℕ
  statuses_of s = statuses_in (layout d) s ++ replicate (max_matrices - length d.statuses) 0

  abbrev pub mark_of : State → ℕ
  mark_of s = slice_index s (layout d).mark

-- a state as the calls give it
abbrev pub entries_of : Design → State → Started
entries_of d s = record { values = values_of d s; statuses = statuses_of d s; mark = mark_of d s }
