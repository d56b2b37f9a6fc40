-- The state of a design: one flat list of slots, in the order of its bits (document 01: "State bits S, low first: variables, then statuses."; document 02, R-5: "The state
-- gains one mark, last among the state bits and 0 at the start.").
-- A slot holds a number below 2 to the power of its width.
use Rattle.std.specs.Prelude.{Bool, true, false, cond, List, [], ◌∷◌, ◌++◌, map, ℕ, zero, suc, ◌+◌, ◌-◌, ◌*◌, eqb, length, get_or, take, drop, replicate}
use Rattle.design.specs.declared.shape.Shape.{Shape}
use Rattle.design.specs.Tree.{Kind, boolean, integer, external, Variable, Design}

abbrev pub State : Type 0
State = List ℕ

-- Where the slots of each part begin and end: variables from 0 up to `statuses`, statuses from there up to `mark`, and the mark is the last slot before `end`. Each part
-- begins where the one before it ends.
pub record Layout : Type 0 where
  pub statuses : ℕ
  pub mark : ℕ
  pub end : ℕ

-- of so many variables and matrices, and of a design
abbrev pub layout_in : ℕ → ℕ → Layout
layout_in variables matrices = record { statuses = variables; mark = variables + matrices; end = variables + matrices + 1 }

unfoldable pub layout : Design → Layout
layout d = layout_in (length d.variables) (length d.statuses)

-- the slots from one place up to another, and those of the statuses
abbrev pub slots_between : ℕ → ℕ → State → List ℕ
slots_between from to s = take (to - from) (drop from s)

abbrev pub statuses_in : Layout → State → List ℕ
statuses_in l s = slots_between l.statuses l.mark s

-- Two successive states are one list of slots, those of the later state behind those of the earlier one (document 02, R-1). There slot i of the later state,
-- and its variable or status i, has this number.
abbrev pub later_slot : Layout → ℕ → ℕ
later_slot l i = l.end + i

-- the number of a variable or a status, of the state (false) or of the next one (true)
abbrev pub number_in : Layout → Bool → ℕ → ℕ
number_in l false i = i
number_in l true i = later_slot l i

-- the slot of a matrix's status
abbrev pub status_slot : Layout → ℕ → ℕ
status_slot l m = l.statuses + m

-- Bits of a slot: a Boolean or external 1, an integer 16, a status 4, the mark 1.
abbrev pub width : Kind → ℕ
width boolean = 1
width integer = 16
width external = 1

abbrev pub status_width : ℕ
status_width = 4

abbrev pub mark_width : ℕ
mark_width = 1

unfoldable pub widths : Design → List ℕ
widths d = map (λ (x : Variable). width x.kind) d.variables ++ (replicate (length d.statuses) status_width ++ (mark_width ∷ []))

-- The same by the file's bytes: the widths of n variables from v on, and of all slots.
unfoldable pub widths_from : List ℕ → ℕ → ℕ → List ℕ
widths_from file v zero = []
widths_from file v (suc n) = cond (eqb (get_or file (3 * v) 0) 1) 16 1 ∷ widths_from file (suc v) n

unfoldable pub widths_of : List ℕ → ℕ → ℕ → List ℕ
widths_of file nv nm = widths_from file 0 nv ++ (replicate nm status_width ++ (mark_width ∷ []))

abbrev pub total : List ℕ → ℕ
total [] = 0
total (x ∷ xs) = x + total xs

-- document 01's S, the number of state bits
unfoldable pub S : Design → ℕ
S d = total (widths d)

-- The first state: the initial values, every status 0, and the mark 0.
unfoldable pub start : Design → State
start d = map (λ (x : Variable). x.initial) d.variables ++ (replicate (length d.statuses) 0 ++ (0 ∷ []))

-- By a shape: the layout, and how many slots there are.
abbrev pub layout_of : Shape → Layout
layout_of h = layout_in h.variables h.matrices

abbrev pub slot_count : Shape → ℕ
slot_count h = (layout_of h).end
