-- Which states fit a design, by the range of each slot, and the law that no step leaves them, nor clears the mark. Its proof is proofs/Ranges and Marks.
use Rattle.std.specs.Prelude.{◌≡◌, ℕ, ◌<◌, true, List, [], ◌∷◌, ◌++◌, map}
use Rattle.design.specs.Tree.{Kind, boolean, integer, external, Variable, Design}
use Rattle.design.specs.State.{State, layout, widths, start}
use Rattle.design.specs.WellFormed.{InRange}
use Rattle.step.specs.OneStep.{marked, step, run}
use Rattle.step.specs.Interface.{entries_right, slots_given, values_of, statuses_of, mark_of}
use Rattle.step.specs.Operations.{all_right}

-- how many values a variable may have: a Boolean or external is 0 or 1, an integer is a 16-bit pattern
abbrev pub value_count : Kind → ℕ
value_count boolean = 2
value_count integer = 65536
value_count external = 2

-- how many values each slot may have; a status is below its matrix's status count, and the mark is 0 or 1
unfoldable pub ranges : Design → List ℕ
ranges d = map (λ (x : Variable). value_count x.kind) d.variables ++ (d.statuses ++ (2 ∷ []))

-- as many numbers as there are ranges, each in its range
abbrev pub Below : List ℕ → List ℕ → Type 0
Below [] [] = Unit {0}
Below [] (v ∷ vs) = ⊥
Below (n ∷ ns) [] = ⊥
Below (n ∷ ns) (v ∷ vs) = (v < n) × Below ns vs

-- the state has the design's slots, each in its range
abbrev pub FitsDesign : Design → State → Type 0
FitsDesign d s = Below (ranges d) s

pub record KeepsRanges (d : Design) : Type 0 where
  -- the first state fits,
  pub first : FitsDesign d (start d)
  -- and so does where any choice, and any list of choices, leads from a state that fits
  pub after_step : (s : State) (c : ℕ) → FitsDesign d s → FitsDesign d (step d s c)
  pub after_run : (s : State) (cs : List ℕ) → FitsDesign d s → FitsDesign d (run d s cs)
  -- the mark: "Once set it remains set" (document 02, R-5)
  pub mark_stays : (s : State) (c : ℕ) → marked (layout d) s ≡ true → marked (layout d) (step d s c) ≡ true
  -- a state that fits has no slot beyond its width,
  pub in_widths : (s : State) → FitsDesign d s → InRange (widths d) s
  -- STEP and HOLDS do not refuse its entries by 11, and they give it back
  pub entries_right_lem : (s : State) → FitsDesign d s → all_right (entries_right d (values_of d s) (statuses_of d s) (mark_of d s)) ≡ true
  pub entries_back : (s : State) → FitsDesign d s → slots_given d (values_of d s) (statuses_of d s) (mark_of d s) ≡ s
