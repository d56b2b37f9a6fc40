-- Frames, parts, and the formula for a bound.
use Rattle.std.specs.Prelude.{ℕ, zero, suc, ◌+◌, ◌*◌, ◌/◌, ◌%◌, cond, List, [], ◌∷◌, ◌++◌, length, nat_le, nat_lt}
use Rattle.design.specs.Tree.{Design, movers, truth}
use Rattle.design.specs.State.{State, layout, widths, start}
use Rattle.step.specs.Pattern.{signed, wrap}
use Rattle.step.specs.Piece.{expression_of}
use Rattle.step.specs.Property.{Property, invariant, no_invalid_cell, constraint, property_of}
unfoldable pub use Rattle.design.specs.Tree.{w}
pub use Rattle.design.specs.State.{total}
unfoldable pub use Rattle.design.specs.State.{S}
use Rattle.clauses.specs.Literal.{Literal, positive, negate, true_literal, Clause}
use Rattle.clauses.specs.Meaning.{Assignment, literal_true}
use Rattle.clauses.specs.Gate.{gates_clauses}
use Rattle.clauses.specs.Circuit.{Built, Build, give, ◌>>=◌, and!, xor!, mux!, or!, Bits, sum!, difference!, product!, less!, xors!, chain!, equal!, mark! }
use Rattle.clauses.specs.Expression.{Slots, sum_passes!, product_passes!, int!, bool!, test!, mark_at}
use Rattle.clauses.specs.Action.{mux_bits!, muxes!, statement!, statements!, status_and_event!, enable!, effect!, mover!, movers!, no_invalid! }

-- so many variables from v on, and slots of given widths: "State bits S, low first: variables, then statuses."; document 02, R-5: the mark "last among the state bits"
abbrev pub variables_from : ℕ → ℕ → Bits
variables_from v zero = []
variables_from v (suc n) = positive v ∷ variables_from (suc v) n

abbrev pub slots_from : ℕ → List ℕ → Slots
slots_from v [] = []
slots_from v (w ∷ ws) = variables_from v w ∷ slots_from (v + w) ws

-- all bits of a state, slot by slot
abbrev pub flat : Slots → Bits
flat [] = []
flat (x ∷ xs) = x ++ flat xs

-- "initial units": the bits of a slot have a value, and the slots a state
abbrev pub units_of : Bits → ℕ → List Clause
units_of [] v = []
units_of (x ∷ xs) v = (cond (truth (v % 2)) x (negate x) ∷ []) ∷ units_of xs (v / 2)

abbrev pub initial_units : Slots → State → List Clause
initial_units [] s = []
initial_units (g ∷ gs) [] = []
initial_units (g ∷ gs) (v ∷ vs) = units_of g v ++ initial_units gs vs

-- "(-f -h) for each flag pair in order"
abbrev pub against : Literal → Bits → List Clause
against f [] = []
against f (h ∷ hs) = (negate f ∷ negate h ∷ []) ∷ against f hs

abbrev pub pairs : Bits → List Clause
pairs [] = []
pairs (f ∷ fs) = against f fs ++ pairs fs

-- "for each mover and bit (-f -r b)(-f r -b), r the mover's result, b the next frame's bit"
abbrev pub ties : Literal → Bits → Bits → List Clause
ties f [] bs = []
ties f (r ∷ rs) [] = []
ties f (r ∷ rs) (b ∷ bs) = (negate f ∷ negate r ∷ b ∷ []) ∷ (negate f ∷ r ∷ negate b ∷ []) ∷ ties f rs bs

abbrev pub all_ties : Bits → List Slots → Bits → List Clause
all_ties [] rs bs = []
all_ties (f ∷ fs) [] bs = []
all_ties (f ∷ fs) (r ∷ rs) bs = ties f (flat r) bs ++ all_ties fs rs bs

-- the place of the first true one
abbrev pub first_true : Assignment → Bits → ℕ
first_true ρ [] = 0
first_true ρ (f ∷ fs) = cond (literal_true ρ f) 0 (suc (first_true ρ fs))

-- of a property's literals in a frame's state and in the step out of it, the one that counts; and in how many frames it counts, where the last one is frame k
abbrev pub property_literal : Property → Literal → Literal → Literal
property_literal (invariant e) state step = state
property_literal no_invalid_cell state step = state
property_literal (constraint e) state step = step

abbrev pub frames_taken : Property → ℕ → ℕ
frames_taken (invariant e) k = suc k
frames_taken no_invalid_cell k = suc k
frames_taken (constraint e) k = k

module _ (d : Design) where
  -- "A property ends in an and with the mark's negation." (document 02, R-5): of the state that it judges
  unfoldable pub unmarked! : Slots → Build Literal → Build Literal
  unmarked! s property = do
    x ← property
    and! x (negate (mark_at (layout d) s))

  -- the invariant's circuit; "Property 1 and-chains from true"; both end in `unmarked!`; of property 2 "P is 0"
  unfoldable pub property! : Property → Slots → Build Literal
  property! (invariant e) s = unmarked! s (test! (layout d) s e)
  property! no_invalid_cell s = unmarked! s (no_invalid! (layout d) s true_literal d.invalid)
  property! (constraint e) s = give true_literal

  -- "Property 2's gates stand among the step gates, after the last mover" (document 02, R-1): of a frame's state and the next frame's. Other properties have none there.
  -- "for property 2 the later state decides" (document 02, R-5)
  unfoldable pub step_property! : Property → Slots → Slots → Build Literal
  step_property! (invariant e) s next = give true_literal
  step_property! no_invalid_cell s next = give true_literal
  step_property! (constraint e) s next = unmarked! next (test! (layout d) (s ++ next) e)

  -- the results of all movers
  unfoldable pub step! : Slots → Build (List Slots)
  step! s = movers! (layout d) s (movers d)

  -- "Frame j holds S state bits, P property gates, w flags, G gates of the step out of it": the frame whose first variable is v, for property p
  unfoldable pub state_at : ℕ → Slots
  state_at v = slots_from v (widths d)

  module _ (p : Property) where
    unfoldable pub property_at : ℕ → Built Literal
    property_at v = property! p (state_at v) (v + S d)

    unfoldable pub flags_at : ℕ → Bits
    flags_at v = variables_from (property_at v).next (w d)

    unfoldable pub step_at : ℕ → Built (List Slots)
    step_at v = step! (state_at v) ((property_at v).next + w d)

    -- behind the movers' gates; `next` is the next frame's state
    unfoldable pub step_property_at : ℕ → Slots → Built Literal
    step_property_at v next = step_property! p (state_at v) next (step_at v).next

    unfoldable pub P : ℕ
    P = length (property_at 2).gates

    -- which variables the next frame has does not change the number of gates
    unfoldable pub G : ℕ
    G = length (step_at 2).gates + length (step_property_at 2 (state_at 2)).gates

    -- "so F=S+P+w+G"
    unfoldable pub F : ℕ
    F = S d + P + w d + G

    -- "Frame j starts at 2+jF."
    unfoldable pub frame : ℕ → ℕ
    frame j = 2 + j * F

    -- "Bound k is 0..100 and n=1+kF+S+P"
    unfoldable pub n : ℕ → ℕ
    n k = 1 + k * F + S d + P

    -- "Parts: 0 is (1) and S initial units."
    unfoldable pub first_part : List Clause
    first_part = (true_literal ∷ []) ∷ initial_units (state_at (frame 0)) (start d)

    -- "property gates"
    unfoldable pub property_clauses : ℕ → List Clause
    property_clauses j = gates_clauses (property_at (frame j)).gates

    -- property 2 in the step out of frame j
    unfoldable pub step_property_in : ℕ → Built Literal
    step_property_in j = step_property_at (frame j) (state_at (frame (suc j)))

    -- "the clause of all flags, (-f -h) for each flag pair in order, step gates, and for each mover and bit (-f -r b)(-f r -b)"
    unfoldable pub step_clauses : ℕ → List Clause
    step_clauses j =
        (flags_at (frame j) ∷ pairs (flags_at (frame j)))
        ++ (gates_clauses (step_at (frame j)).gates
        ++ (gates_clauses (step_property_in j).gates
        ++ all_ties (flags_at (frame j)) (step_at (frame j)).out (flat (state_at (frame (suc j))))))

    -- "Part j+1 is frame j: property gates; for j<k also .."
    unfoldable pub frame_part : ℕ → ℕ → List Clause
    frame_part k j = property_clauses j ++ cond (nat_lt j k) (step_clauses j) []

    -- the property's literal in frame j: of property 2, in the step out of it
    unfoldable pub property_literal_in : ℕ → Literal
    property_literal_in j = property_literal p (property_at (frame j)).out (step_property_in j).out

    -- "the negated property of frames" j, j + 1, .., so many of them
    unfoldable pub negated_from : ℕ → ℕ → Clause
    negated_from zero j = []
    negated_from (suc m) j = negate (property_literal_in j) ∷ negated_from m (suc j)

    -- "Part k+2 is one clause: the negated property of frames 0..k."; of property 2, "the last clause takes frames 0 to k-1", and "at bound 0 the last clause is empty"
    unfoldable pub last_clause : ℕ → Clause
    last_clause k = negated_from (frames_taken p k) 0

    -- part i of the formula for bound k, for i up to k + 2
    unfoldable pub part : ℕ → ℕ → List Clause
    part k zero = first_part
    part k (suc j) = cond (nat_le j k) (frame_part k j) (last_clause k ∷ [])

    -- so many parts from part i on
    unfoldable pub parts_from : ℕ → ℕ → ℕ → List Clause
    parts_from k zero i = []
    parts_from k (suc m) i = part k i ++ parts_from k m (suc i)

    -- "The formula for bound k is these parts joined."
    unfoldable pub formula : ℕ → List Clause
    formula k = parts_from k (k + 3) 0

    -- An assignment "decodes to the k choices whose choice j, from 0, is the mover with the one true flag of frame j": of so many frames from j on
    unfoldable pub choices_from : Assignment → ℕ → ℕ → List ℕ
    choices_from ρ zero j = []
    choices_from ρ (suc m) j = first_true ρ (flags_at (frame j)) ∷ choices_from ρ m (suc j)

    unfoldable pub choices : Assignment → ℕ → List ℕ
    choices ρ k = choices_from ρ k 0

-- Not part of the formula: to unfold this is to unfold all of it, for facts about given designs.
unfoldable pub encoding : ℕ
unfolding give ◌>>=◌ and! xor! mux! or! sum! difference! product! less! xors! chain! equal! mark! sum_passes! product_passes! signed wrap int! bool! test! mux_bits! muxes! statement! statements! status_and_event!
    enable! effect! mover! movers! no_invalid! movers layout widths start S w expression_of property_of unmarked! property! step_property! step! state_at property_at flags_at step_at
    step_property_at P G F frame n first_part property_clauses step_property_in step_clauses frame_part property_literal_in negated_from last_clause part parts_from formula choices_from choices
encoding = 0
