-- The formula's parts taken apart, and the satisfying assignments of the formula for bound k: they are, one to one, the lists of k choices
-- that break the property.
use Rattle.std.proofs.Common.{◌≡◌, ℕ, zero, suc, ◌+◌, ◌<◌, ◌≤◌, true, false, ◌||◌, List, [], ◌∷◌, ◌++◌, length, sym, refl, ap, ◌∙◌, ap₂, append_assoc, append-nil, le_refl, arith, le-ltb, lt-ltb, le-leb}
use mathlib.Core.Option.{none}
use borrow.Author.Tests.{lt-leb}
use Rattle.design.specs.Tree.{Design}
use Rattle.design.specs.State.{widths, start}
use Rattle.design.specs.WellFormed.{WellFormed}
use Rattle.step.specs.Property.{Property, PropertyOk}
use Rattle.step.specs.OneStep.{breaks_from, breaks}
use Rattle.clauses.specs.Literal.{true_literal}
use Rattle.clauses.specs.Meaning.{Assignment, clause_true, satisfies}
use Rattle.clauses.specs.Circuit.{Bits}
use Rattle.clauses.specs.Formula.{total, flat, initial_units, S, w, state_at, P, frame, n, first_part, property_clauses, step_clauses, frame_part, last_clause, part, parts_from, formula, choices_from, choices}
use Rattle.step.specs.Breaking.{AllBelow}
use Rattle.clauses.proofs.Gates.{all_apart, all_joined, both, both_l}
use Rattle.clauses.proofs.Expressions.{state_of, SlotsBelow, constant_word}
use Rattle.clauses.proofs.Definitions.{Same, Definition, Ordered, Obeys, obeys_unique, define, define_same, define_obeys}
use Rattle.clauses.proofs.StateBits.{bits_of, state_bits_lem, flat_below, length_flat, constant_slots, constants_state, constants_wide, initial_units_to, initial_units_from}
use Rattle.clauses.proofs.Frames.{or_false, frames_from, state_wide, last_is}
use Rattle.clauses.proofs.Runs.{S-is, run, run_ordered, run_to, run_from, choices_below}

-- The parts joined: the first, those of the frames, and the last.
module _ (d : Design) (p : Property) (k : ℕ) where
  part_step : (j : ℕ) → j < k → part d p k (suc j) ≡ property_clauses d p j ++ step_clauses d p j
  unfolding part frame_part
  part_step j h = let l : j ≤ k = omega arith in rw (le-leb j k l, lt-ltb j k h)

  part_last : part d p k (suc k) ≡ property_clauses d p k
  unfolding part frame_part
  part_last = rw (le-leb k k (le_refl k), le-ltb k k (le_refl k)) (append-nil (property_clauses d p k))

  part_negated : part d p k (suc (suc k)) ≡ last_clause d p k ∷ []
  unfolding part
  part_negated = rw (lt-leb (suc k) k (le_refl (suc k)))

  parts_frames : (m j : ℕ) → j + m ≡ k → parts_from d p k (suc (suc m)) (suc j) ≡ frames_from d p m j ++ (last_clause d p k ∷ [])
  unfolding parts_from frames_from
  parts_frames zero j e =
      let q : j ≡ k = omega arith in
      rw q (ap₂ (λ a b. a ++ (b ++ [])) part_last part_negated)
  parts_frames (suc m) j e =
      ap₂ ◌++◌ (part_step j (omega arith)) (parts_frames m (suc j) (omega arith))
      ∙ sym (append_assoc (property_clauses d p j ++ step_clauses d p j) (frames_from d p m (suc j)) (last_clause d p k ∷ []))

  pub formula_is : formula d p k ≡ first_part d p ++ (frames_from d p k 0 ++ (last_clause d p k ∷ []))
  unfolding formula parts_from part
  formula_is =
      let q : k + 3 ≡ suc (suc (suc k)) = omega arith in
      ap (λ x. parts_from d p k x 0) q ∙ ap (λ l. first_part d p ++ l) (parts_frames k 0 (omega arith))

  pub frame_zero : frame d p 0 ≡ 2
  unfolding frame
  frame_zero = omega arith

  -- one past the last variable
  last_variable_lem : suc (n d p k) ≡ frame d p (0 + k) + S d + P d p
  unfolding n frame
  last_variable_lem = let q : 0 + k ≡ k = omega arith in rw q (omega arith)

  pub length_choices : (ρ : Assignment) (m j : ℕ) → length (choices_from d p ρ m j) ≡ m
  unfolding choices_from
  length_choices ρ zero j = refl
  length_choices ρ (suc m) j = ap suc (length_choices ρ m (suc j))

constants_below : (n : ℕ) → 1 < n → (ws vs : List ℕ) → SlotsBelow n (constant_slots ws vs)
constants_below n h [] vs = tt
constants_below n h (w ∷ ws) [] = tt
constants_below n h (w ∷ ws) (v ∷ vs) = ((constant_word n w v h).below, constants_below n h ws vs)

module _ (d : Design) (wf : WellFormed d) (p : Property) (ok : PropertyOk d p) (k : ℕ) where
  -- the first state, in constants
  abbrev first_bits : Bits
  first_bits = flat (constant_slots (widths d) (start d))

  first_wide : length first_bits ≡ S d
  first_wide = length_flat (constant_slots (widths d) (start d)) ∙ ap total (constants_wide (widths d) (start d) wf.start) ∙ S-is d

  -- what the parts say
  record Parts (ρ : Assignment) : Type 0 where
    one : ρ 1 ≡ true
    begin : bits_of ρ (flat (state_at d (frame d p 0))) ≡ bits_of ρ first_bits
    frames : satisfies ρ (frames_from d p k 0) ≡ true
    negated : clause_true ρ (last_clause d p k) ≡ true

  parts_to : (ρ : Assignment) → satisfies ρ (formula d p k) ≡ true → Parts ρ
  unfolding first_part
  parts_to ρ s =
      let A = initial_units (state_at d (frame d p 0)) (start d) in
      let L = last_clause d p k ∷ [] in
      let s₁ = all_apart ρ (first_part d p) (frames_from d p k 0 ++ L) (ap (satisfies ρ) (sym (formula_is d p k)) ∙ s) in
      let s₂ = all_apart ρ (frames_from d p k 0) L s₁.1 in
      let s₃ = all_apart ρ ((true_literal ∷ []) ∷ []) A s₁.0 in
      let one : ρ 1 ≡ true = sym (or_false (ρ 1)) ∙ both_l (ρ 1 || false) true s₃.0 in
      record {
        one = one;
        begin = initial_units_to ρ one (state_at d (frame d p 0)) (widths d) (start d) (state_wide d (frame d p 0)) wf.start s₃.1;
        frames = s₂.0;
        negated = both_l (clause_true ρ (last_clause d p k)) true s₂.1;
      }

  pub satisfies_frames : (ρ : Assignment) → satisfies ρ (formula d p k) ≡ true → satisfies ρ (frames_from d p k 0) ≡ true
  satisfies_frames ρ s = (parts_to ρ s).frames

  parts_from_lem : (ρ : Assignment) → Parts ρ → satisfies ρ (formula d p k) ≡ true
  unfolding first_part
  parts_from_lem ρ r =
      let A = initial_units (state_at d (frame d p 0)) (start d) in
      let L = last_clause d p k ∷ [] in
      ap (satisfies ρ) (formula_is d p k)
      ∙ all_joined ρ (first_part d p) (frames_from d p k 0 ++ L)
      (all_joined ρ ((true_literal ∷ []) ∷ []) A (both (ρ 1 || false) true (or_false (ρ 1) ∙ r.one) refl)
      (initial_units_from ρ r.one (state_at d (frame d p 0)) (widths d) (start d) (state_wide d (frame d p 0)) wf.start r.begin))
      (all_joined ρ (frames_from d p k 0) L r.frames (both (clause_true ρ (last_clause d p k)) true r.negated refl))

  -- the first frame's state is the first state
  begins : (ρ : Assignment) → ρ 1 ≡ true → bits_of ρ (flat (state_at d (frame d p 0))) ≡ bits_of ρ first_bits → state_of ρ (state_at d (frame d p 0)) ≡ start d
  begins ρ one e =
      state_bits_lem ρ (state_at d (frame d p 0)) (constant_slots (widths d) (start d))
      (state_wide d (frame d p 0) ∙ sym (constants_wide (widths d) (start d) wf.start)) e
      ∙ constants_state ρ one (widths d) (start d) wf.start

  negated_breaks : (ρ : Assignment) → ρ 1 ≡ true → bits_of ρ (flat (state_at d (frame d p 0))) ≡ bits_of ρ first_bits → satisfies ρ (frames_from d p k 0) ≡ true
      → clause_true ρ (last_clause d p k) ≡ breaks d p (choices d p ρ k)
  unfolding breaks choices
  negated_breaks ρ one e s = last_is d wf p ok ρ one k s ∙ ap (λ x. breaks_from d p none x (choices_from d p ρ k 0)) (begins ρ one e)

  -- a satisfying assignment decodes to k choices that break the property
  pub decodes_long : (ρ : Assignment) → length (choices d p ρ k) ≡ k
  unfolding choices
  decodes_long ρ = length_choices d p k ρ k 0

  pub decodes_movers : (ρ : Assignment) → satisfies ρ (formula d p k) ≡ true → AllBelow (w d) (choices d p ρ k)
  unfolding choices
  decodes_movers ρ s = choices_below d wf p ρ k 0 (parts_to ρ s).frames

  pub decodes_breaks : (ρ : Assignment) → satisfies ρ (formula d p k) ≡ true → breaks d p (choices d p ρ k) ≡ true
  decodes_breaks ρ s = let r = parts_to ρ s in sym (negated_breaks ρ r.one r.begin r.frames) ∙ r.negated

  -- the variables 2, 3, .., n, defined by a list of choices
  whole : List ℕ → List Definition
  whole cs = run d wf p 0 first_bits cs

  whole_ordered : (cs : List ℕ) → length cs ≡ k → AllBelow (w d) cs → Ordered 2 (whole cs) (suc (n d p k))
  unfolding whole
  whole_ordered cs e lo =
      rw (frame_zero d p k) at (run_ordered d wf p ok cs 0 first_bits (suc (n d p k)) first_wide
      (rw (frame_zero d p k) (flat_below 2 (constant_slots (widths d) (start d)) (constants_below 2 (le_refl 2) (widths d) (start d)))) lo
      (rw e (last_variable_lem d p k)))

  one_same : (ρ σ : Assignment) → ρ 1 ≡ σ 1 → Same 2 ρ σ
  one_same ρ σ e zero q h = absurd (omega arith)
  one_same ρ σ e (suc zero) q h = e
  one_same ρ σ e (suc (suc v)) q h = absurd (omega arith)

  -- two that decode to one list agree on 1..n
  pub decodes_once : (ρ σ : Assignment) → satisfies ρ (formula d p k) ≡ true → satisfies σ (formula d p k) ≡ true → choices d p ρ k ≡ choices d p σ k
      → Same (suc (n d p k)) ρ σ
  unfolding whole choices
  decodes_once ρ σ s s' e =
      let r = parts_to ρ s in
      let r' = parts_to σ s' in
      let cs = choices_from d p ρ k 0 in
      let f : Obeys ρ (whole cs) = run_from d wf p ρ r.one k 0 first_bits first_wide r.begin r.frames in
      let g : Obeys σ (whole cs) = rw e (run_from d wf p σ r'.one k 0 first_bits first_wide r'.begin r'.frames) in
      obeys_unique (whole_ordered cs (length_choices d p k ρ k 0) (choices_below d wf p ρ k 0 r.frames)) ρ σ (one_same ρ σ (r.one ∙ sym r'.one)) f g

  -- and every list of k choices that breaks the property is decoded from one
  pub is_decoded : (cs : List ℕ) → length cs ≡ k → AllBelow (w d) cs → breaks d p cs ≡ true
      → (ρ : Assignment) × (satisfies ρ (formula d p k) ≡ true) × (choices d p ρ k ≡ cs)
  unfolding whole choices
  is_decoded cs e lo b =
      let c = whole_ordered cs e lo in
      let ρ = define (λ v. true) (whole cs) in
      let one : ρ 1 ≡ true = define_same c (λ v. true) 1 (omega arith) (omega arith) in
      let told = run_to d wf p ρ one cs 0 first_bits first_wide lo (define_obeys (omega arith) c (λ v. true)) in
      let ch : choices_from d p ρ k 0 ≡ cs = rw e at told.choice in
      let fs : satisfies ρ (frames_from d p k 0) ≡ true = rw e at told.sat in (
        ρ,
        parts_from_lem ρ (record {
          one = one;
          begin = told.state;
          frames = fs;
          negated = negated_breaks ρ one told.state fs ∙ ap (breaks d p) ch ∙ b;
        }),
        ch,
      )
