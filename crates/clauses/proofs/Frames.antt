-- The frames of a formula: where they stand, what their clauses say in terms of steps, and when the last clause is true.
use Rattle.std.proofs.Common.{◌≡◌, ℕ, zero, suc, ◌+◌, ◌*◌, ◌<◌, ◌≤◌, Bool, true, false, not, ◌||◌, List, [], ◌∷◌, ◌++◌, map, length, get_or, sym, refl, ap, ◌∙◌, ap₂, arith}
use mathlib.Core.Option.{Option, none, some}
use lib.ListN.{get_elem?}
use Rattle.design.specs.Tree.{BoolExpr, Design, Mover, movers}
use Rattle.design.specs.State.{State, Layout, layout, widths}
use Rattle.design.specs.WellFormed.{WellFormed}
use Rattle.step.specs.Property.{Property, invariant, no_invalid_cell, constraint, PropertyOk}
use Rattle.step.specs.OneStep.{move, moved, step, true_at, holds, breaks_from}
use Rattle.clauses.specs.Literal.{Literal, negate, Clause}
use Rattle.clauses.specs.Meaning.{Assignment, literal_true, clause_true, satisfies}
use Rattle.clauses.specs.Gate.{gates_clauses}
use Rattle.clauses.specs.Circuit.{Built}
use Rattle.clauses.specs.Expression.{Slots}
use Rattle.clauses.specs.Formula.{total, flat, pairs, all_ties, first_true, property_literal, S, w, state_at, property_at, flags_at, step_at, step_property_at, P, G, F, frame, property_clauses, step_property_in, step_clauses, property_literal_in, negated_from, last_clause, choices_from}
use Rattle.clauses.specs.Cost.{gates_in, movers_cost, property_cost, step_property_cost, step_cost}
use Rattle.clauses.proofs.Gates.{negate_true, all_apart, all_joined, Facts, to_facts, from_facts, both, both_l, both_r}
use Rattle.clauses.proofs.Correct.{LiteralBelow, Correct}
use Rattle.clauses.proofs.Expressions.{state_of, Fits, fits_up}
use Rattle.clauses.proofs.Actions.{AllFit, step_true, property_correct, step_property_correct, step_correct}
use Rattle.clauses.proofs.Costs.{Costs, Any, property_costs, step_property_costs, step_costs, gates_counted}
use Rattle.clauses.proofs.StateBits.{bits_of, state_bits_lem, slots_wide, slots_below, length_flat, length_variables}
use Rattle.clauses.proofs.Alike.{Alike, step_property_alike, SameTruth, truth_kept, facts_alike, slots_truth}
use Rattle.clauses.proofs.Flags.{OneHot, flags_one, one_flags, all_ties_to, all_ties_from}

pub or_false : (a : Bool) → a || false ≡ a
or_false true = refl
or_false false = refl

fit_at : (ws : List ℕ) (n : ℕ) (ss : List Slots) (c : ℕ) → AllFit ws n ss → c < length ss → Fits ws n (get_or ss c [])
fit_at ws n [] c f h = absurd (omega arith)
fit_at ws n (s ∷ ss) zero f h = f.0
fit_at ws n (s ∷ ss) (suc c) f h = fit_at ws n ss c f.1 (omega arith)

-- the result of the mover that a choice names
moved_at : (ρ : Assignment) (l : Layout) (s : State) (ms : List Mover) (rs : List Slots) (c : ℕ)
    → map (state_of ρ) rs ≡ map (move l s) ms → c < length ms → state_of ρ (get_or rs c []) ≡ moved l s (get_elem? ms c)
moved_at ρ l s [] rs c e h = absurd (omega arith)
moved_at ρ l s (m ∷ ms) [] c e h = absurd (omega (arith, ap length e))
moved_at ρ l s (m ∷ ms) (r ∷ rs) zero e h = let q : state_of ρ r ≡ move l s m = cc in q
moved_at ρ l s (m ∷ ms) (r ∷ rs) (suc c) e h =
    let q : map (state_of ρ) rs ≡ map (move l s) ms = cc in
    moved_at ρ l s ms rs c q (omega arith)

-- so many frames with the steps out of them from frame j on, and then the last frame
unfoldable pub frames_from : Design → Property → ℕ → ℕ → List Clause
frames_from d p zero j = property_clauses d p j
frames_from d p (suc m) j = (property_clauses d p j ++ step_clauses d p j) ++ frames_from d p m (suc j)

pub state_wide : (d : Design) (v : ℕ) → map length (state_at d v) ≡ widths d
unfolding state_at
state_wide d v = slots_wide v (widths d)

-- Where frames stand.
module _ (d : Design) (p : Property) where
  pub property_costs_at : (v : ℕ) → Costs (v + S d) (property_at d p v) (property_cost d p) Any
  unfolding property_at
  property_costs_at v = property_costs d p (state_at d v) (v + S d)

  pub P-is : P d p ≡ gates_in (property_cost d p)
  unfolding P
  P-is = let c = property_costs_at 2 in omega (arith, gates_counted (property_at d p 2).gates, c.ands, c.wides)

  pub property_next : (v : ℕ) → (property_at d p v).next ≡ v + S d + P d p
  property_next v = omega (arith, (property_costs_at v).next, P-is)

  pub frame_big : (j : ℕ) → 1 < frame d p j
  unfolding frame
  frame_big j = omega arith

  pub flags_wide : (v : ℕ) → length (flags_at d p v) ≡ w d
  unfolding flags_at
  flags_wide v = length_variables (property_at d p v).next (w d)

  w_low : (c : ℕ) → c < w d → c < length (movers d)
  unfolding w
  w_low c h = h

  pub step_property_costs_at : (v : ℕ) (next : Slots) → Costs (step_at d p v).next (step_property_at d p v next) (step_property_cost p) Any
  unfolding step_property_at
  step_property_costs_at v next = step_property_costs d p (state_at d v) next (step_at d p v).next

  -- the result of the mover that a choice names, and property 2 over it: its gates read smaller variables than their own
  abbrev pub result_of : ℕ → ℕ → Slots
  result_of j c = get_or (step_at d p (frame d p j)).out c []

  abbrev pub chosen_property : ℕ → ℕ → Built Literal
  chosen_property j c = step_property_at d p (frame d p j) (result_of j c)

module _ (d : Design) (wf : WellFormed d) (p : Property) where
  pub state_fits : (v : ℕ) → 1 < v → Fits (widths d) (v + S d) (state_at d v)
  unfolding state_at S
  state_fits v h = record { narrow = wf.narrow; known = omega arith; below = slots_below v (widths d) (omega arith); wide = slots_wide v (widths d) }

  pub property_at_lem : PropertyOk d p → (v : ℕ) → 1 < v
      → Correct (v + S d) (property_at d p v) LiteralBelow (λ ρ r. literal_true ρ r ≡ holds d p (state_of ρ (state_at d v)))
  unfolding property_at
  property_at_lem ok v h = property_correct d wf (state_at d v) (v + S d) (state_fits v h) p ok

  pub step_at_lem : (v : ℕ) → 1 < v
      → Correct ((property_at d p v).next + w d) (step_at d p v) (λ k rs. AllFit (widths d) k rs × (length rs ≡ w d))
      (λ ρ rs. map (state_of ρ) rs ≡ map (move (layout d) (state_of ρ (state_at d v))) (movers d))
  unfolding step_at w
  step_at_lem v h =
      step_correct d wf (state_at d v) ((property_at d p v).next + length (movers d))
      (fits_up (omega (arith, property_next d p v)) (state_fits v h))

  pub step_costs_at : (v : ℕ) → Costs ((property_at d p v).next + w d) (step_at d p v) (movers_cost (S d) (movers d)) (λ rs. length rs ≡ length (movers d))
  unfolding step_at
  step_costs_at v = step_costs d wf (state_at d v) ((property_at d p v).next + w d) (state_wide d v)

  pub step_property_at_lem : PropertyOk d p → (v : ℕ) → 1 < v → (r : Slots) → Fits (widths d) (step_at d p v).next r
      → Correct (step_at d p v).next (step_property_at d p v r) LiteralBelow (λ ρ x. literal_true ρ x ≡ step_true d p (state_of ρ (state_at d v)) (state_of ρ r))
  unfolding step_property_at
  step_property_at_lem ok v h r f =
      step_property_correct d wf (state_at d v) (step_at d p v).next (fits_up (omega (arith, property_next d p v, (step_costs_at v).next)) (state_fits v h)) p ok r f

  pub G-is : G d p ≡ gates_in (step_cost d p)
  unfolding G step_cost
  G-is =
      let c = step_costs_at 2 in
      let s = step_property_costs_at d p 2 (state_at d 2) in
      omega (arith, gates_counted (step_at d p 2).gates, gates_counted (step_property_at d p 2 (state_at d 2)).gates, c.ands, c.wides, s.ands, s.wides)

  -- the next frame starts where the step ends, whatever it is that property 2 reads as the next state
  pub step_ends : (j : ℕ) (next : Slots) → (step_property_at d p (frame d p j) next).next ≡ frame d p (suc j)
  unfolding frame F step_cost
  step_ends j next =
      let v = 2 + j * (S d + P d p + w d + G d p) in
      omega (arith, (step_property_costs_at d p v next).next, (step_costs_at v).next, property_next d p v, G-is)

  pub frame_next : (j : ℕ) → (step_property_in d p j).next ≡ frame d p (suc j)
  unfolding step_property_in
  frame_next j = step_ends j (state_at d (frame d p (suc j)))

  pub step_le : (j : ℕ) → (step_at d p (frame d p j)).next ≤ frame d p (suc j)
  step_le j = omega (arith, step_ends j [], (step_property_costs_at d p (frame d p j) []).next)

  -- What the clauses of a frame that is not the last say, with its choice c.
  pub record Frame (ρ : Assignment) (j c : ℕ) : Type 0 where
    pub property : Facts ρ (property_at d p (frame d p j)).gates
    pub flags : OneHot ρ (flags_at d p (frame d p j)) c
    pub steps : Facts ρ (step_at d p (frame d p j)).gates
    pub step_property : Facts ρ (step_property_in d p j).gates
    pub after : bits_of ρ (flat (result_of d p j c)) ≡ bits_of ρ (flat (state_at d (frame d p (suc j))))

  pub results : (j c : ℕ) → c < w d → Fits (widths d) (step_at d p (frame d p j)).next (result_of d p j c)
  results j c h =
      let g = step_at_lem (frame d p j) (frame_big d p j) in
      fit_at (widths d) (step_at d p (frame d p j)).next (step_at d p (frame d p j)).out c g.shape.0 (omega (arith, g.shape.1))

  result_wide : (j c : ℕ) → c < w d → map length (result_of d p j c) ≡ map length (state_at d (frame d p (suc j)))
  result_wide j c h = (results j c h).wide ∙ sym (state_wide d (frame d p (suc j)))

  bits_wide : (j c : ℕ) → c < w d → length (flat (result_of d p j c)) ≡ length (flat (state_at d (frame d p (suc j))))
  bits_wide j c h = length_flat (result_of d p j c) ∙ ap total (result_wide j c h) ∙ sym (length_flat (state_at d (frame d p (suc j))))

  -- where the next frame has the result's bits, property 2 over the one is as over the other
  pub chosen_alike : (ρ : Assignment) (j c : ℕ) → c < w d → bits_of ρ (flat (result_of d p j c)) ≡ bits_of ρ (flat (state_at d (frame d p (suc j))))
      → Alike (SameTruth ρ) (SameTruth ρ) (chosen_property d p j c) (step_property_in d p j)
  unfolding step_property_in step_property_at
  chosen_alike ρ j c h e =
      let v = frame d p j in
      step_property_alike (SameTruth ρ) (truth_kept ρ) d p (state_at d v) (step_at d p v).next
      (slots_truth ρ (result_of d p j c) (state_at d (frame d p (suc j))) (result_wide j c h) e)

  pub frame_to : (ρ : Assignment) (j : ℕ) → satisfies ρ (property_clauses d p j ++ step_clauses d p j) ≡ true → Frame ρ j (first_true ρ (flags_at d p (frame d p j)))
  unfolding property_clauses step_clauses
  frame_to ρ j s =
      let v = frame d p j in
      let fs = flags_at d p v in
      let bs = flat (state_at d (frame d p (suc j))) in
      let A = gates_clauses (property_at d p v).gates in
      let B = gates_clauses (step_at d p v).gates in
      let C = gates_clauses (step_property_in d p j).gates in
      let D = all_ties fs (step_at d p v).out bs in
      let s₁ = all_apart ρ A ((fs ∷ pairs fs) ++ (B ++ (C ++ D))) s in
      let s₂ = all_apart ρ (fs ∷ pairs fs) (B ++ (C ++ D)) s₁.1 in
      let s₃ = all_apart ρ B (C ++ D) s₂.1 in
      let s₄ = all_apart ρ C D s₃.1 in
      let h = flags_one ρ fs (both_l (clause_true ρ fs) (satisfies ρ (pairs fs)) s₂.0) (both_r (clause_true ρ fs) (satisfies ρ (pairs fs)) s₂.0) in
      record {
        property = to_facts ρ (property_at d p v).gates s₁.0;
        flags = h;
        steps = to_facts ρ (step_at d p v).gates s₃.0;
        step_property = to_facts ρ (step_property_in d p j).gates s₄.0;
        after = all_ties_to ρ fs (step_at d p v).out bs (first_true ρ fs) h
            ((step_at_lem v (frame_big d p j)).shape.1 ∙ sym (flags_wide d p v))
            (bits_wide j (first_true ρ fs) (omega (arith, h.low, flags_wide d p v)))
            s₄.1;
      }

  pub frame_from : (ρ : Assignment) (j c : ℕ) → Frame ρ j c → satisfies ρ (property_clauses d p j ++ step_clauses d p j) ≡ true
  unfolding property_clauses step_clauses
  frame_from ρ j c f =
      let v = frame d p j in
      let fs = flags_at d p v in
      let bs = flat (state_at d (frame d p (suc j))) in
      let A = gates_clauses (property_at d p v).gates in
      let B = gates_clauses (step_at d p v).gates in
      let C = gates_clauses (step_property_in d p j).gates in
      let D = all_ties fs (step_at d p v).out bs in
      let k = one_flags ρ fs c f.flags in
      all_joined ρ A ((fs ∷ pairs fs) ++ (B ++ (C ++ D))) (from_facts ρ (property_at d p v).gates f.property)
      (all_joined ρ (fs ∷ pairs fs) (B ++ (C ++ D)) (both (clause_true ρ fs) (satisfies ρ (pairs fs)) k.some k.one)
      (all_joined ρ B (C ++ D) (from_facts ρ (step_at d p v).gates f.steps)
      (all_joined ρ C D (from_facts ρ (step_property_in d p j).gates f.step_property)
      (all_ties_from ρ fs (step_at d p v).out bs c f.flags ((step_at_lem v (frame_big d p j)).shape.1 ∙ sym (flags_wide d p v)) f.after))))

  frame_low : (ρ : Assignment) (j c : ℕ) → Frame ρ j c → c < w d
  frame_low ρ j c f = omega (arith, f.flags.low, flags_wide d p (frame d p j))

  frame_result : (ρ : Assignment) (j c : ℕ) → Frame ρ j c → state_of ρ (result_of d p j c) ≡ state_of ρ (state_at d (frame d p (suc j)))
  frame_result ρ j c f = state_bits_lem ρ (result_of d p j c) (state_at d (frame d p (suc j))) (result_wide j c (frame_low ρ j c f)) f.after

  -- the next frame's state is the step's
  pub frame_step : (ρ : Assignment) → ρ 1 ≡ true → (j c : ℕ) → Frame ρ j c
      → state_of ρ (state_at d (frame d p (suc j))) ≡ step d (state_of ρ (state_at d (frame d p j))) c
  unfolding step
  frame_step ρ one j c f =
      let v = frame d p j in
      sym (frame_result ρ j c f)
      ∙ moved_at ρ (layout d) (state_of ρ (state_at d v)) (movers d) (step_at d p v).out c
      ((step_at_lem v (frame_big d p j)).means ρ one f.steps) (w_low d p c (frame_low ρ j c f))

  -- property 2's literal says of the two frames' states what the property says
  step_property_is_lem : PropertyOk d p → (ρ : Assignment) → ρ 1 ≡ true → (j c : ℕ) → Frame ρ j c
      → literal_true ρ (step_property_in d p j).out ≡ step_true d p (state_of ρ (state_at d (frame d p j))) (state_of ρ (state_at d (frame d p (suc j))))
  step_property_is_lem ok ρ one j c f =
      let v = frame d p j in
      let h = frame_low ρ j c f in
      let a = chosen_alike ρ j c h f.after in
      sym a.out
      ∙ (step_property_at_lem ok v (frame_big d p j) (result_of d p j c) (results j c h)).means ρ one ((facts_alike ρ a.gates).1 f.step_property)
      ∙ ap (step_true d p (state_of ρ (state_at d v))) (frame_result ρ j c f)

  property_is_lem : PropertyOk d p → (ρ : Assignment) → ρ 1 ≡ true → (j : ℕ) → Facts ρ (property_at d p (frame d p j)).gates
      → literal_true ρ (negate (property_at d p (frame d p j)).out) ≡ not (holds d p (state_of ρ (state_at d (frame d p j))))
  property_is_lem ok ρ one j f =
      negate_true ρ (property_at d p (frame d p j)).out ∙ ap not ((property_at_lem ok (frame d p j) (frame_big d p j)).means ρ one f)

  pub frames_apart : (ρ : Assignment) (m j : ℕ) → satisfies ρ (frames_from d p (suc m) j) ≡ true
      → (satisfies ρ (property_clauses d p j ++ step_clauses d p j) ≡ true) × (satisfies ρ (frames_from d p m (suc j)) ≡ true)
  unfolding frames_from
  frames_apart ρ m j s = all_apart ρ (property_clauses d p j ++ step_clauses d p j) (frames_from d p m (suc j)) s

  pub frames_joined : (ρ : Assignment) (m j : ℕ) → satisfies ρ (property_clauses d p j ++ step_clauses d p j) ≡ true → satisfies ρ (frames_from d p m (suc j)) ≡ true
      → satisfies ρ (frames_from d p (suc m) j) ≡ true
  unfolding frames_from
  frames_joined ρ m j f r = all_joined ρ (property_clauses d p j ++ step_clauses d p j) (frames_from d p m (suc j)) f r

  pub last_to : (ρ : Assignment) (j : ℕ) → satisfies ρ (frames_from d p 0 j) ≡ true → Facts ρ (property_at d p (frame d p j)).gates
  unfolding frames_from property_clauses
  last_to ρ j s = to_facts ρ (property_at d p (frame d p j)).gates s

  pub last_from : (ρ : Assignment) (j : ℕ) → Facts ρ (property_at d p (frame d p j)).gates → satisfies ρ (frames_from d p 0 j) ≡ true
  unfolding frames_from property_clauses
  last_from ρ j f = from_facts ρ (property_at d p (frame d p j)).gates f

-- The last clause. A property of a state has its literal in the frame's own state, and says the same whatever the state before.
module _ (d : Design) (wf : WellFormed d) (p : Property) (ok : PropertyOk d p) (plain : (a b : Literal) → property_literal p a b ≡ a)
    (now : (before : Option State) (s : State) → true_at d p before s ≡ holds d p s) where
  literal_of_state : (ρ : Assignment) → ρ 1 ≡ true → (before : Option State) (j : ℕ) → Facts ρ (property_at d p (frame d p j)).gates
      → literal_true ρ (negate (property_literal_in d p j)) ≡ not (true_at d p before (state_of ρ (state_at d (frame d p j))))
  unfolding property_literal_in
  literal_of_state ρ one before j f =
      ap (λ x. literal_true ρ (negate x)) (plain (property_at d p (frame d p j)).out (step_property_in d p j).out)
      ∙ property_is_lem d wf p ok ρ one j f ∙ ap not (sym (now before (state_of ρ (state_at d (frame d p j)))))

  states_negated : (ρ : Assignment) → ρ 1 ≡ true → (before : Option State) (m j : ℕ) → satisfies ρ (frames_from d p m j) ≡ true
      → clause_true ρ (negated_from d p (suc m) j) ≡ breaks_from d p before (state_of ρ (state_at d (frame d p j))) (choices_from d p ρ m j)
  unfolding negated_from breaks_from choices_from
  states_negated ρ one before zero j s =
      ap (λ b. b || false) (literal_of_state ρ one before j (last_to d wf p ρ j s)) ∙ or_false (not (true_at d p before (state_of ρ (state_at d (frame d p j)))))
  states_negated ρ one before (suc m) j s =
      let a = frames_apart d wf p ρ m j s in
      let f = frame_to d wf p ρ j a.0 in
      let t = state_of ρ (state_at d (frame d p j)) in
      ap₂ ◌||◌ (literal_of_state ρ one before j f.property)
      (states_negated ρ one (some t) m (suc j) a.1
      ∙ ap (λ x. breaks_from d p (some t) x (choices_from d p ρ m (suc j))) (frame_step d wf p ρ one j (first_true ρ (flags_at d p (frame d p j))) f))

-- The constraint has its literals in the steps, and is true in the first state.
module _ (d : Design) (wf : WellFormed d) (e : BoolExpr) (ok : PropertyOk d (constraint e)) where
  abbrev p : Property
  p = constraint e

  steps_negated : (ρ : Assignment) → ρ 1 ≡ true → (before : Option State) (m j : ℕ) → satisfies ρ (frames_from d p m j) ≡ true
      → breaks_from d p before (state_of ρ (state_at d (frame d p j))) (choices_from d p ρ m j)
      ≡ not (true_at d p before (state_of ρ (state_at d (frame d p j)))) || clause_true ρ (negated_from d p m j)
  unfolding negated_from property_literal_in breaks_from choices_from
  steps_negated ρ one before zero j s = sym (or_false (not (true_at d p before (state_of ρ (state_at d (frame d p j))))))
  steps_negated ρ one before (suc m) j s =
      let a = frames_apart d wf p ρ m j s in
      let c = first_true ρ (flags_at d p (frame d p j)) in
      let f = frame_to d wf p ρ j a.0 in
      let t = state_of ρ (state_at d (frame d p j)) in
      ap (λ b. not (true_at d p before t) || b)
      (ap (λ x. breaks_from d p (some t) x (choices_from d p ρ m (suc j))) (sym (frame_step d wf p ρ one j c f))
      ∙ steps_negated ρ one (some t) m (suc j) a.1
      ∙ ap (λ b. b || clause_true ρ (negated_from d p m (suc j))) (ap not (sym (step_property_is_lem d wf p ok ρ one j c f)) ∙ sym (negate_true ρ (step_property_in d p j).out)))

-- the last clause is true exactly when the decoded choices break the property
pub last_is : (d : Design) (wf : WellFormed d) (p : Property) → PropertyOk d p → (ρ : Assignment) → ρ 1 ≡ true → (k : ℕ) → satisfies ρ (frames_from d p k 0) ≡ true
    → clause_true ρ (last_clause d p k) ≡ breaks_from d p none (state_of ρ (state_at d (frame d p 0))) (choices_from d p ρ k 0)
unfolding last_clause true_at
last_is d wf (invariant e) ok ρ one k s = states_negated d wf (invariant e) ok (λ a b. refl) (λ b t. refl) ρ one none k 0 s
last_is d wf no_invalid_cell ok ρ one k s = states_negated d wf no_invalid_cell ok (λ a b. refl) (λ b t. refl) ρ one none k 0 s
last_is d wf (constraint e) ok ρ one k s = sym (steps_negated d wf e ok ρ one none k 0 s)
