-- The first part and the last clause. Assumes nothing.
use Rattle.std.proofs.Common.{◌≡◌, ℕ, zero, suc, ◌+◌, ◌-◌, ◌*◌, ◌<◌, ◌≤◌, cond, ◌&&◌, ◌||◌, eqb, leb, List, [], ◌∷◌, ◌++◌, map, length, get_or, take, drop, replicate, ℤ, pos, sym, refl, ap, ◌∙◌, subst, ap₂, append_assoc, le_refl, suc-mul, add-one, arith, drop-cons}
use lib.ListN.{length-map}
use Rattle.design.specs.Tree.{Variable, boolean, Design}
use Rattle.design.specs.State.{width, status_width, mark_width, widths, start}
use Rattle.design.specs.DesignFile.{Item, item, need, kind, at8, at16, variable_at}
use Rattle.design.specs.Check.{Checked, check, items_end, variable_count, matrix_count}
use Rattle.design.specs.Places.{Accepted}
use Rattle.design.specs.Sections.{Parts}
use Rattle.design.proofs.Sections.{need_inv, item_same, whole}
use Rattle.design.proofs.WellFormed.{well_formed}
use Rattle.design.proofs.Positions.{variable_stands}
use Rattle.design.proofs.Places.{read}
use Rattle.design.specs.Limits.{max_variables, max_matrices, max_bits}
use Rattle.design.specs.declared.shape.Shape.{Shape}
use Rattle.design.proofs.Indexed.{variables_inside}
use Rattle.step.specs.Property.{Property, invariant, no_invalid_cell, constraint, property_of}
use Rattle.design.proofs.Widths.{width_bound, variables_small, variable_is, kind_width, widths_run, matrix_count_lem}
use Rattle.clauses.specs.Literal.{Literal, negate, true_literal, Clause}
use Rattle.clauses.specs.Words.{word_of, clause_words, words}
use Rattle.clauses.specs.Circuit.{Bits}
use Rattle.clauses.specs.Expression.{Slots}
use Rattle.clauses.specs.Formula.{total, variables_from, slots_from, units_of, initial_units, S, state_at, property!, step_property!, property_at, step_at, step_property_at, P, F, frame, n, first_part, property_literal, frames_taken, step_property_in, property_literal_in, negated_from, last_clause}
use Rattle.clauses.specs.Limits.{last_variable}
use Rattle.clauses.specs.Writing.{from_code, from_codes, gate_words, variable_limit, Puts, Emits}
use Rattle.clauses.specs.FlatState.{widths_from, slots_of}
use Rattle.clauses.specs.Cost.{gates_in, step_property_cost, step_cost}
use Rattle.clauses.specs.FrameSizes.{HasGates, frame_sizes, frame_length}
use Rattle.clauses.specs.Ready.{ShapedFile, SmallFormula, property_literal_at, PropertyLiteralFits}
use Rattle.clauses.specs.declared.cost.GatesAt.{GatesAt}
use Rattle.clauses.specs.declared.frame.FrameSizes.{FrameSizes}
use Rattle.clauses.proofs.Costs.{gates_counted, words_counted}
use Rattle.clauses.proofs.StateBits.{variables_append}
use Rattle.clauses.proofs.Frames.{property_costs_at, step_costs_at, step_property_costs_at, property_next, P-is, G-is}
use Rattle.clauses.proofs.FrameNumbers.{length_is, small_numbers, frames_are}
use Rattle.clauses.proofs.Models.{frame_zero}
use Rattle.clauses.proofs.Within.{past_le, last_past}
use Rattle.clauses.proofs.EmitWords.{puts_then, puts_same, words_append, append-nil, code_yes}
use Rattle.clauses.proofs.EmitLists.{drop_all, drop_none}
use Rattle.clauses.proofs.EmitBuilds.{emits_same}
use Rattle.clauses.proofs.EmitClauses.{PutsLeft, puts_start, puts_on, puts_end}
use Rattle.clauses.proofs.EmitFrames.{state_is_lem}

abbrev widths_in : List Variable → List ℕ
widths_in vs = map (λ (x : Variable). width x.kind) vs

abbrev values_in : List Variable → List ℕ
values_in vs = map (λ (x : Variable). x.initial) vs

abbrev units_in : ℕ → List Variable → List ℤ
units_in x vs = words (initial_units (slots_from x (widths_in vs)) (values_in vs))

initial_is : (file : List ℕ) (end at n : ℕ) (x : Variable) → variable_at file end at ≡ item x n → x.initial ≡ at16 file (at + 1)
unfolding variable_at
initial_is file end at n x e =
    let right = leb (at8 file at) 2 && (eqb (at8 file at) 1 || leb (at16 file (at + 1)) 1) in
    let made : Item Variable = item (record { kind = kind (at8 file at); initial = at16 file (at + 1) }) (at + 3) in
    let (a, b) = need_inv (leb (at + 3) end) 4 at (need right 5 at made) x n e in
    let (c, f) = need_inv right 5 at made x n b in
    ap (λ (y : Variable). y.initial) (sym (item_same _ _ _ _ f))

-- the units of the variables, a variable at a time
pub record Valuing (file : List ℕ) (nv : ℕ) (xs₀ : List ℤ) (cur₀ : ℕ) (xs : List ℤ) (cur x v : ℕ) : Type 0 where
  pub within : v ≤ nv
  pub small : x ≤ 2 + 16 * v
  pub left : (d : Design) (w : Parts file d) → PutsLeft (units_in 2 d.variables) xs₀ cur₀ (units_in x (drop v d.variables)) xs cur

pub valuing_start : (file : List ℕ) (nv : ℕ) (xs : List ℤ) (cur : ℕ) → Valuing file nv xs cur xs cur 2 0
valuing_start file nv xs cur = record {
  within = omega arith;
  small = omega arith;
  left = λ d w. subst (λ (l : List Variable). PutsLeft (units_in 2 d.variables) xs cur (units_in 2 l) xs cur) (sym (drop_none d.variables)) (puts_start _ xs cur);
}

module _ (file : List ℕ) (a : Accepted file) (nv : ℕ) (e : nv ≡ variable_count file) where
  pub values_inside : (v : ℕ) → v < nv → (3 * v + 1 + 1 < length file) × (nv ≤ max_variables)
  values_inside v l = let b = variables_inside file a in let t = (read file a).all in (omega (arith, t.long), omega (arith, t.variables))

  pub valuing_on : {xs₀ : List ℤ} {cur₀ : ℕ} {xs : List ℤ} {cur x v : ℕ} → v < nv → Valuing file nv xs₀ cur₀ xs cur x v → (n value y : ℕ) → n ≡ cond (eqb (get_or file (3 * v) 0) 1) 16 1 → value ≡ at16 file (3 * v + 1) → y ≡ x + n
      → {ys : List ℤ} {c : ℕ} → (x + n ≤ variable_limit → Puts (words (units_of (variables_from x n) value)) xs ys cur c) → Valuing file nv xs₀ cur₀ ys c y (v + 1)
  valuing_on {xs₀} {cur₀} {xs} {cur} {x} {v} l k n value y en ev ey {ys} {c} p = record {
    within = omega arith;
    small = omega (arith, k.small, width_bound file v n en);
    left = λ d w.
        let vs = d.variables in
        let none : Variable = record { kind = boolean; initial = 0 } in
        let u = get_or vs v none in
        let rest = drop (v + 1) vs in
        let cons : drop v vs ≡ u ∷ rest = rw (add-one, drop-cons vs v none (omega (arith, w.variable_count_lem))) in
        let stands = variable_stands file d w v (omega arith) none in
        let (kd, few, past) = variable_is file (items_end file) (3 * v) (3 * v + 3) u stands in
        let wide : width u.kind ≡ n = ap width kd ∙ sym (kind_width (at8 file (3 * v)) few) ∙ sym en in
        let given : u.initial ≡ value = initial_is file (items_end file) (3 * v) (3 * v + 3) u stands ∙ sym ev in
        let one = words (units_of (variables_from x n) value) in
        let e1 : units_in x (drop v vs) ≡ one ++ units_in (x + n) rest =
        ap (units_in x) cons
        ∙ words_append (units_of (variables_from x (width u.kind)) u.initial) (initial_units (slots_from (x + width u.kind) (widths_in rest)) (values_in rest))
        ∙ ap₂ (λ (i j : ℕ). words (units_of (variables_from x i) j) ++ units_in (x + i) rest) wide given in
        subst (λ (j : ℕ). PutsLeft (units_in 2 vs) xs₀ cur₀ (units_in j rest) ys c) (sym ey)
        (puts_on one (units_in (x + n) rest) e1 (k.left d w) (p (omega (arith, k.small, width_bound file v n en, (values_inside v l).1))));
  }

  pub valuing_end : {xs₀ : List ℤ} {cur₀ : ℕ} {xs : List ℤ} {cur x v : ℕ} → nv ≤ v → Valuing file nv xs₀ cur₀ xs cur x v → (d : Design) (w : Parts file d) → Puts (units_in 2 d.variables) xs₀ xs cur₀ cur
  valuing_end {x = x} {v = v} l k d w = puts_end (ap (units_in x) (drop_all d.variables v (omega (arith, w.variable_count_lem)))) (k.left d w)

-- the statuses' units are those of one number 0
zero_units : (xs ys : Bits) → units_of (xs ++ ys) 0 ≡ units_of xs 0 ++ units_of ys 0
zero_units [] ys = refl
zero_units (x ∷ xs) ys = ap (λ (l : List Clause). (negate x ∷ []) ∷ l) (zero_units xs ys)

-- the statuses and, behind them, the mark
behind_units : (m x : ℕ) → initial_units (slots_from x (replicate m status_width ++ (mark_width ∷ []))) (replicate m 0 ++ (0 ∷ [])) ≡ units_of (variables_from x (4 * m + 1)) 0
behind_units zero x = refl
behind_units (suc m) x =
    ap (λ (l : List Clause). units_of (variables_from x 4) 0 ++ l) (behind_units m (x + 4)) ∙ sym (zero_units (variables_from x 4) (variables_from (x + 4) (4 * m + 1)))
    ∙ ap (λ (l : Bits). units_of l 0) (sym (variables_append x 4 (4 * m + 1)) ∙ ap (variables_from x) (let q : 4 + (4 * m + 1) ≡ 4 * suc m + 1 = omega arith in q))

-- slots after slots
units_apart : (x : ℕ) (ws rs vs us : List ℕ) → length ws ≡ length vs → initial_units (slots_from x (ws ++ rs)) (vs ++ us) ≡ initial_units (slots_from x ws) vs ++ initial_units (slots_from (x + total ws) rs) us
units_apart x [] rs [] us h = ap (λ (k : ℕ). initial_units (slots_from k rs) us) (let q : x ≡ x + 0 = omega arith in q)
units_apart x [] rs (v ∷ vs) us h = absurd (omega arith)
units_apart x (a ∷ ws) rs [] us h = absurd (omega arith)
units_apart x (a ∷ ws) rs (v ∷ vs) us h =
    ap (λ (l : List Clause). units_of (variables_from x a) v ++ l) (units_apart (x + a) ws rs vs us (omega arith) ∙ ap (λ (k : ℕ). initial_units (slots_from (x + a) ws) vs ++ initial_units (slots_from k rs) us) (let q : x + a + total ws ≡ x + (a + total ws) = omega arith in q))
    ∙ sym (append_assoc (units_of (variables_from x a) v) (initial_units (slots_from (x + a) ws) vs) (initial_units (slots_from (x + (a + total ws)) rs) us))

module _ (file : List ℕ) (h : Accepted file) (nv nm : ℕ) (e : nv ≡ variable_count file) (q : nm ≡ matrix_count file) (x : ℕ) (at : x ≡ total (widths_from file 0 nv)) where
  pub first_small : (x ≤ 16 * max_variables) × (nm ≤ max_matrices) × (nv ≤ max_variables) × (3 * nv ≤ length file)
  first_small = let b = variables_inside file h in let t = (read file h).all in (omega (arith, variables_small file 0 nv, t.variables), omega (arith, t.matrices), omega (arith, t.variables), omega (arith, t.long))

  pub first_puts : {x0 x1 x2 x3 : List ℤ} {c0 c1 c2 c3 : ℕ} (y : ℕ) → y ≡ 2 + x → Puts (clause_words (from_code 2 ∷ [])) x0 x1 c0 c1 → ((d : Design) (w : Parts file d) → Puts (units_in 2 d.variables) x1 x2 c1 c2)
      → (y + (4 * nm + 1) ≤ variable_limit → Puts (words (units_of (variables_from y (4 * nm + 1)) 0)) x2 x3 c2 c3) → (d : Design) (w : Parts file d) (p : Property) → Puts (words (first_part d p)) x0 x3 c0 c3
  unfolding first_part state_at start widths
  first_puts y ey p1 p2 p3 d w p =
      let vs = d.variables in
      let from : 2 + total (widths_in vs) ≡ y = ap (λ (k : ℕ). 2 + k) (ap total (sym (widths_run file (items_end file) 0 0 _ vs refl w.variable_run) ∙ ap (widths_from file 0) (w.variable_count_lem ∙ sym e)) ∙ sym at) ∙ sym ey in
      let count : length d.statuses ≡ nm = matrix_count_lem file d w ∙ sym q in
      let ws : List ℕ = replicate (length d.statuses) status_width ++ (mark_width ∷ []) in
      let zs : List ℕ = replicate (length d.statuses) 0 ++ (0 ∷ []) in
      let both : words (initial_units (slots_from 2 (widths_in vs ++ ws)) (values_in vs ++ zs)) ≡ units_in 2 vs ++ words (units_of (variables_from y (4 * nm + 1)) 0) =
      ap words (units_apart 2 (widths_in vs) ws (values_in vs) zs (length-map vs (λ (z : Variable). width z.kind) ∙ sym (length-map vs (λ (z : Variable). z.initial))))
      ∙ words_append (initial_units (slots_from 2 (widths_in vs)) (values_in vs)) (initial_units (slots_from (2 + total (widths_in vs)) ws) zs)
      ∙ ap (λ (l : List Clause). units_in 2 vs ++ words l) (behind_units (length d.statuses) (2 + total (widths_in vs)) ∙ ap₂ (λ (i j : ℕ). units_of (variables_from i (4 * j + 1)) 0) from count) in
      let one = puts_same (ap (λ (l : Literal). clause_words (l ∷ [])) code_yes) p1 in
      puts_same (ap (λ (v : ℕ). words ((true_literal ∷ []) ∷ initial_units (slots_from v (widths d)) (start d))) (sym (frame_zero d p 0)))
      (puts_then one (puts_same (sym both) (puts_then (p2 d w) (p3 (omega (arith, first_small))))))

-- the property's literal at a frame
pub property_out : {file : List ℕ} (piece : List ℕ) {shape : Shape} (h : ShapedFile file shape) (codes : List ℕ) (p v n y r : ℕ) → length codes ≡ max_bits → n ≡ shape.bits → (v + n ≤ variable_limit → take n (from_codes codes) ≡ variables_from v n) → y ≡ v + n
    → {xs ys : List ℤ} {c k : ℕ} → ((d : Design) (w : Parts file d) → Emits y (property! d (property_of file piece d p) (slots_of file shape codes) y) xs ys 0 (from_code r) c k)
    → (d : Design) (w : Parts file d) → v + n + P d (property_of file piece d p) ≤ variable_limit → from_code r ≡ (property_at d (property_of file piece d p) v).out
unfolding property_at gate_words
property_out {file} piece {shape} h codes p v n y r size en taken ey f d w room =
    let s : n ≡ S d = en ∙ h.bits.state d w in
    let state = state_is_lem h d w codes v size (ap (λ (k : ℕ). take k (from_codes codes)) (sym s) ∙ taken (omega arith) ∙ ap (variables_from v) s) in
    let same : property! d (property_of file piece d p) (slots_of file shape codes) y ≡ property! d (property_of file piece d p) (state_at d v) (v + S d) = ap₂ (λ (a : Slots) (k : ℕ). property! d (property_of file piece d p) a k) state (ey ∙ ap (λ (k : ℕ). v + k) s) in
    let b = property! d (property_of file piece d p) (state_at d v) (v + S d) in
    let costs = property_costs_at d (property_of file piece d p) v in
    let g = gates_counted b.gates in
    let ws = words_counted b.gates in
    ((emits_same _ _ same (f d w)).emits (record { numbers = omega (arith, costs.ands, costs.wides, P-is d (property_of file piece d p)); words = omega (arith, costs.ands, costs.wides, P-is d (property_of file piece d p)) })).result

-- property 2's literal in the step out of a frame: its gates are the last before the next frame
pub step_out : {file : List ℕ} (p v after y r : ℕ) (g : GatesAt) → ((i : ℕ) → get_or file i 0 < 256) → ((d : Design) → Parts file d → (piece : List ℕ) → HasGates g (step_property_cost (property_of file piece d p)))
    → (g.ands + g.wides ≤ after → y ≡ after - (g.ands + g.wides))
    → {xs ys : List ℤ} {c k : ℕ} → ((d : Design) (w : Parts file d) (piece : List ℕ) → v + S d ≤ variable_limit → after + S d ≤ variable_limit → Emits y (step_property! d (property_of file piece d p) (state_at d v) (state_at d after) y) xs ys 0 (from_code r) c k)
    → (d : Design) → check file ≡ Checked.accepted d → (piece : List ℕ) → after ≡ v + F d (property_of file piece d p) → after + S d ≤ variable_limit → from_code r ≡ (step_property_at d (property_of file piece d p) v (state_at d after)).out
unfolding step_property_at gate_words F step_cost
step_out {file} p v after y r g bytes gates less f d ok piece e room =
    let q = property_of file piece d p in
    let wf = well_formed file bytes d ok in
    let parts = (whole file d ok).parts in
    let k = gates d parts piece in
    let costs = step_property_costs_at d q v (state_at d after) in
    let ends : (step_at d q v).next + gates_in (step_property_cost q) ≡ after = omega (arith, (step_costs_at d wf q v).next, property_next d q v, G-is d wf q) in
    let same : y ≡ (step_at d q v).next = omega (arith, less (omega (arith, k.ands, k.wides)), k.ands, k.wides) in
    let b = step_property_at d q v (state_at d after) in
    let n = gates_counted b.gates in
    let ws = words_counted b.gates in
    ((emits_same _ _ (ap (step_property! d q (state_at d v) (state_at d after)) same) (f d parts piece (omega arith) room)).emits
    (record { numbers = omega (arith, costs.ands, costs.wides); words = omega (arith, costs.ands, costs.wides) })).result

-- the literal that counts, by the property's number
module _ (d : Design) where
  pub literal_of_state : (file piece : List ℕ) (p : ℕ) → p < 2 → (v n : ℕ) → n ≡ S d → (l : Literal) → (v + n + P d (property_of file piece d p) ≤ variable_limit → l ≡ (property_at d (property_of file piece d p) v).out)
      → PropertyLiteralFits d (property_of file piece d p) v → l ≡ property_literal_at d (property_of file piece d p) v
  unfolding property_of
  literal_of_state file piece zero h v n e l f room = f (omega arith)
  literal_of_state file piece (suc zero) h v n e l f room = f (omega arith)
  literal_of_state file piece (suc (suc p)) h v n e l f room = absurd (omega arith)

  pub literal_of_step : (file piece : List ℕ) (p : ℕ) → 2 ≤ p → (v after : ℕ) → after ≡ v + F d (property_of file piece d p) → (l : Literal) → (after + S d ≤ variable_limit → l ≡ (step_property_at d (property_of file piece d p) v (state_at d after)).out)
      → PropertyLiteralFits d (property_of file piece d p) v → l ≡ property_literal_at d (property_of file piece d p) v
  unfolding property_of
  literal_of_step file piece zero h v after e l f room = absurd (omega arith)
  literal_of_step file piece (suc zero) h v after e l f room = absurd (omega arith)
  literal_of_step file piece (suc (suc p)) h v after e l f room = f (omega arith) ∙ ap (λ (k : ℕ). (step_property_at d (constraint d.constraint) v (state_at d k)).out) e

  -- in the frames that count it is within the limit
  state_fits : (q : Property) (j k : ℕ) → j ≤ k → n d q k ≤ last_variable → frame d q j + S d + P d q ≤ variable_limit
  state_fits q j k l room = let e : j + (k - j) ≡ k = omega arith in omega (arith, rw e at (past_le d q j (k - j)), last_past d q k)

  next_is : (q : Property) (j : ℕ) → frame d q j + F d q ≡ frame d q (suc j)
  unfolding frame
  next_is q j = omega arith

  literal_fits : (q : Property) (j k : ℕ) → j < frames_taken q k → n d q k ≤ last_variable → PropertyLiteralFits d q (frame d q j)
  literal_fits (invariant e) j k l room = state_fits (invariant e) j k (omega arith) room
  literal_fits no_invalid_cell j k l room = state_fits no_invalid_cell j k (omega arith) room
  literal_fits (constraint e) j k l room = omega (arith, state_fits (constraint e) (suc j) k (omega arith) room, next_is (constraint e) j)

  property_literal_is : (q : Property) (j : ℕ) → property_literal_at d q (frame d q j) ≡ property_literal_in d q j
  unfolding property_literal_in step_property_in
  property_literal_is q j = ap (λ (k : ℕ). property_literal q (property_at d q (frame d q j)).out (step_property_at d q (frame d q j) (state_at d k)).out) (next_is q j)

  start_frame : (q : Property) (stride x j : ℕ) → stride ≡ F d q → x ≡ 2 + j * stride → x ≡ frame d q j
  unfolding frame
  start_frame q stride x j e at = at ∙ ap (λ (i : ℕ). 2 + j * i) e

  -- the frames that count, from the sizes
  counted : (q : Property) (s : FrameSizes) (k : ℕ) → s ≡ frame_sizes d q → k + s.last ≡ frames_taken q k
  unfolding frame_sizes
  counted q s k e = ap (λ (x : FrameSizes). k + x.last) e ∙ omega (arith, frames_are k q)

-- the last clause, a frame at a time
pub record Closing (file piece : List ℕ) (p stride frames : ℕ) (xs₀ : List ℤ) (cur₀ : ℕ) (xs : List ℤ) (cur x j : ℕ) : Type 0 where
  pub within : j ≤ frames
  pub start : x ≡ 2 + j * stride
  pub left : (d : Design) (bound : ℕ) → check file ≡ Checked.accepted d → stride ≡ F d (property_of file piece d p) → frames ≡ frames_taken (property_of file piece d p) bound → n d (property_of file piece d p) bound ≤ last_variable
      → PutsLeft (clause_words (last_clause d (property_of file piece d p) bound)) xs₀ cur₀ (clause_words (negated_from d (property_of file piece d p) (frames - j) j)) xs cur

module _ (file piece : List ℕ) (p stride frames : ℕ) (xs₀ : List ℤ) (cur₀ : ℕ) where
  pub closing_start : Closing file piece p stride frames xs₀ cur₀ xs₀ cur₀ 2 0
  unfolding last_clause
  closing_start = record {
    within = omega arith;
    start = omega arith;
    left = λ d bound ok e f room.
        let q = property_of file piece d p in
        subst (λ (m : ℕ). PutsLeft (clause_words (negated_from d q (frames_taken q bound) 0)) xs₀ cur₀ (clause_words (negated_from d q m 0)) xs₀ cur₀) (let z : frames_taken q bound ≡ frames - 0 = omega arith in z) (puts_start _ xs₀ cur₀);
  }

  pub closing_on : {xs : List ℤ} {cur x j : ℕ} → j < frames → Closing file piece p stride frames xs₀ cur₀ xs cur x j → (y : ℕ) (l m : Literal) → y ≡ x + stride
      → ((d : Design) → check file ≡ Checked.accepted d → stride ≡ F d (property_of file piece d p) → PropertyLiteralFits d (property_of file piece d p) x → l ≡ property_literal_at d (property_of file piece d p) x) → m ≡ negate l
      → {ys : List ℤ} {c : ℕ} → Puts (word_of m ∷ []) xs ys cur c → Closing file piece p stride frames xs₀ cur₀ ys c y (j + 1)
  unfolding negated_from
  closing_on {x = x} {j = j} lt k y l m ey el em {ys} {c} puts = record {
    within = omega arith;
    start = omega (arith, k.start, suc-mul j stride, ap (λ (i : ℕ). i * stride) (add-one j));
    left = λ d bound ok e f room.
        let q = property_of file piece d p in
        let at = start_frame d q stride x j e k.start in
        let fits = literal_fits d q j bound (omega arith) room in
        let lit : l ≡ property_literal_in d q j = el d ok e (subst (PropertyLiteralFits d q) (sym at) fits) ∙ ap (property_literal_at d q) at ∙ property_literal_is d q j in
        let one : word_of m ∷ [] ≡ word_of (negate (property_literal_in d q j)) ∷ [] = ap (λ (t : Literal). word_of t ∷ []) (em ∙ ap negate lit) in
        let rest = clause_words (negated_from d q (frames - (j + 1)) (suc j)) in
        let e1 : clause_words (negated_from d q (frames - j) j) ≡ (word_of (negate (property_literal_in d q j)) ∷ []) ++ rest = ap (λ (i : ℕ). clause_words (negated_from d q i j)) (let z : frames - j ≡ suc (frames - (j + 1)) = omega arith in z) in
        subst (λ (v : ℕ). PutsLeft (clause_words (last_clause d q bound)) xs₀ cur₀ (clause_words (negated_from d q (frames - (j + 1)) v)) ys c) (sym (add-one j))
        (puts_on (word_of (negate (property_literal_in d q j)) ∷ []) rest e1 (k.left d bound ok e f room) (puts_same one puts));
  }

  pub closing_end : {xs : List ℤ} {cur x j : ℕ} → frames ≤ j → Closing file piece p stride frames xs₀ cur₀ xs cur x j → {ys : List ℤ} {c : ℕ} → Puts (pos 0 ∷ []) xs ys cur c
      → ((i : ℕ) → get_or file i 0 < 256) → {s : FrameSizes} {bound : ℕ} → SmallFormula s bound → stride ≡ frame_length s → frames ≡ bound + s.last
      → (d : Design) → check file ≡ Checked.accepted d → s ≡ frame_sizes d (property_of file piece d p) → Puts (words (last_clause d (property_of file piece d p) bound ∷ [])) xs₀ ys cur₀ c
  unfolding negated_from
  closing_end {j = j} l k puts bytes {s} {bound} h es ef d ok e =
      let q = property_of file piece d p in
      let wf = well_formed file bytes d ok in
      let stride_is : stride ≡ F d q = es ∙ ap frame_length e ∙ length_is d wf q in
      let room = small_numbers d wf q h e bound (le_refl bound) in
      let z : frames - j ≡ 0 = omega (arith, k.within) in
      puts_same (sym (append-nil (clause_words (last_clause d q bound))))
      ((k.left d bound ok stride_is (ef ∙ counted d q s bound e) room).then _ _ (puts_same (sym (ap (λ (i : ℕ). clause_words (negated_from d q i j)) z)) puts))
