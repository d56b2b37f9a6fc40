-- The parts of the formula, from what the functions that write them put. Assumes nothing.
use Rattle.std.proofs.Common.{◌≡◌, ℕ, zero, suc, ◌+◌, ◌-◌, ◌*◌, ◌<◌, ◌≤◌, Bool, cond, List, [], ◌∷◌, ◌++◌, map, length, get_or, take, ℤ, sym, refl, ap, ◌∙◌, subst, add-one, arith, le-ltb, lt-ltb, le-leb}
use borrow.Author.Tests.{lt-leb}
use Rattle.step.specs.Property.{Property, property_of}
use Rattle.design.specs.Tree.{Design, movers}
use Rattle.design.specs.Check.{Checked, check}
use Rattle.design.specs.Places.{CellsIndexed, Measured, externals_from}
use Rattle.design.specs.WellFormed.{WellFormed}
use Rattle.design.proofs.WellFormed.{well_formed}
use Rattle.design.specs.Sections.{Parts}
use Rattle.design.proofs.Sections.{whole}
use Rattle.design.proofs.Places.{read}
use Rattle.design.specs.Limits.{max_movers, max_bits}
use Rattle.design.specs.declared.shape.Shape.{Shape}
use Rattle.design.proofs.Externals.{mover_count}
use Rattle.clauses.specs.Literal.{Literal, Clause}
use Rattle.clauses.specs.Words.{clause_words, words}
use Rattle.clauses.specs.Expression.{Slots}
use Rattle.clauses.specs.Action.{movers! }
use Rattle.clauses.specs.Formula.{variables_from, flat, pairs, all_ties, S, w, P, G, F, n, property!, step_property!, state_at, frame, first_part, property_clauses, step_clauses, frame_part, last_clause, part, parts_from, formula}
use Rattle.clauses.specs.Limits.{last_variable}
use Rattle.clauses.specs.Writing.{variable_limit, from_codes, Puts, Emits}
use Rattle.clauses.specs.FlatState.{slots_of, layout_of}
use Rattle.clauses.specs.FrameSizes.{frame_sizes, frame_length}
use Rattle.clauses.specs.Ready.{Ready, FormulaReady, Admitted, result_from}
use Rattle.clauses.specs.declared.instance.Instance.{Instance}
use Rattle.clauses.specs.declared.frame.FrameSizes.{FrameSizes}
use Rattle.clauses.proofs.Frames.{P-is, G-is}
use Rattle.clauses.proofs.Within.{frame_suc, last_past}
use Rattle.clauses.proofs.FrameNumbers.{small_numbers}
use Rattle.clauses.proofs.EmitWords.{append-nil, puts_same, words_append}
use Rattle.clauses.proofs.EmitSteps.{layout_is}
use Rattle.clauses.proofs.EmitClauses.{PutsLeft, puts_start, puts_on, puts_end}
use Rattle.clauses.proofs.EmitFrames.{state_is_lem, result_bits, firsts_within}
use Rattle.clauses.proofs.EmitRoom.{puts_clauses, property_puts, step_puts}

-- the numbers of a frame
pub record Numbers (d : Design) (p : Property) (s : FrameSizes) : Type 0 where
  pub bits : s.bits ≡ S d
  pub movers : s.movers ≡ w d
  pub property : s.property.ands + s.property.wides ≡ P d p
  pub length : frame_length s ≡ S d + P d p + w d + G d p

pub numbers : (d : Design) (p : Property) (s : FrameSizes) → WellFormed d → s ≡ frame_sizes d p → Numbers d p s
unfolding frame_sizes
numbers d p s wf e = subst (Numbers d p) (sym e) (record {
  bits = refl;
  movers = refl;
  property = sym (P-is d p);
  length = omega (arith, P-is d p, G-is d wf p);
})

pub frame_starts : (d : Design) (p : Property) (s : FrameSizes) → WellFormed d → s ≡ frame_sizes d p → (j : ℕ) → 2 + j * frame_length s ≡ frame d p j
unfolding frame F
frame_starts d p s wf e j = ap (λ (k : ℕ). 2 + j * k) (numbers d p s wf e).length

-- where frame j starts, as a product of machine numbers
pub start_is : (s : FrameSizes) (j l t : ℕ) → l ≡ frame_length s → t ≡ j * l → t ≡ j * frame_length s
start_is s j l t e q = q ∙ ap (λ (k : ℕ). j * k) e

module _ {file events : List ℕ} (piece : List ℕ) {shape : Shape} {z : Instance} (t : Ready file events shape) (bytes : (i : ℕ) → get_or file i 0 < 256) (h : FormulaReady file shape z) where
  abbrev s : FrameSizes
  s = z.sizes

  -- the step out of the frame at v
  pub step_written : (p v flags after var all bits : ℕ) (codes firsts : List ℕ) {x0 x1 x2 x3 x4 x5 : List ℤ} {c0 c1 c2 c3 c4 c5 u u' : ℕ} {out : Literal}
      → all ≡ s.movers → bits ≡ s.bits → flags ≡ v + (s.bits + s.property.ands + s.property.wides) → after ≡ v + frame_length s → var ≡ flags + all → length firsts ≡ max_movers
      → (flags + all ≤ variable_limit → Puts (clause_words (variables_from flags all)) x0 x1 c0 c1)
      → (flags + all ≤ variable_limit → Puts (words (pairs (variables_from flags all))) x1 x2 c1 c2)
      → ((d : Design) (w : Parts file d) → Emits var (movers! (layout_of shape) (slots_of file shape codes) (movers d) var) x2 x3 c2 (map (result_from file shape) (take (shape.normals + shape.externals) firsts)) c3 u)
      → ((d : Design) (w : Parts file d) → v + S d ≤ variable_limit → after + S d ≤ variable_limit → Emits u (step_property! d (property_of file piece d p) (state_at d v) (state_at d after) u) x3 x4 c3 out c4 u')
      → (flags + all ≤ variable_limit → after + bits ≤ variable_limit → ((k : ℕ) → k < all → get_or firsts k 0 + bits ≤ variable_limit) → (R : ℕ → Slots) → ((v : ℕ) → flat (R v) ≡ variables_from v bits)
      → Puts (words (all_ties (variables_from flags all) (map R (take all firsts)) (variables_from after bits))) x4 x5 c4 c5)
      → (d : Design) (j : ℕ) → check file ≡ Checked.accepted d → s ≡ frame_sizes d (property_of file piece d p) → j < z.bound → v ≡ frame d (property_of file piece d p) j → slots_of file shape codes ≡ state_at d v → Puts (words (step_clauses d (property_of file piece d p) j)) x0 x5 c0 c5
  unfolding w
  step_written p v flags after var all bits codes firsts {x0} {x1} {x2} {x3} {x4} {x5} {c0} {c1} {c2} {c3} {c4} {c5} {u} {u'} {out} ea eb ef et ev long any prs gates more ties d j ok es low at state =
      let wf = well_formed file bytes d ok in
      let ps = (whole file d ok).parts in
      let N = numbers d (property_of file piece d p) s wf es in
      let few = small_numbers d wf (property_of file piece d p) h.small es (suc j) low in
      let q : all ≡ w d = ea ∙ N.movers in
      let r : bits ≡ S d = eb ∙ N.bits in
      let fl : flags ≡ frame d (property_of file piece d p) j + S d + P d (property_of file piece d p) = omega (arith, N.bits, N.property) in
      let ft : after ≡ frame d (property_of file piece d p) (suc j) = omega (arith, N.length, frame_suc d (property_of file piece d p) j) in
      let fit : flags + all ≤ variable_limit = omega (arith, last_past d (property_of file piece d p) (suc j), frame_suc d (property_of file piece d p) j) in
      let fit' : after + bits ≤ variable_limit = omega (arith, last_past d (property_of file piece d p) (suc j)) in
      let R = result_from file shape in
      let sl = state ∙ ap (state_at d) at in
      step_puts d (property_of file piece d p) j flags after var (layout_of shape) (slots_of file shape codes) (map R (take all firsts)) wf few sl (layout_is t.shaped d ps) fl ft (omega arith)
      (subst (λ (k : ℕ). Puts (clause_words (variables_from flags k)) x0 x1 c0 c1) q (any fit))
      (subst (λ (k : ℕ). Puts (words (pairs (variables_from flags k))) x1 x2 c1 c2) q (prs fit))
      (subst (λ (k : ℕ). Emits var (movers! (layout_of shape) (slots_of file shape codes) (movers d) var) x2 x3 c2 (map R (take k firsts)) c3 u) (sym (ea ∙ h.movers)) (gates d ps))
      (subst (λ (k : ℕ). Emits u (step_property! d (property_of file piece d p) (state_at d k) (state_at d after) u) x3 x4 c3 out c4 u') at (more d ps (omega arith) (omega arith)))
      (λ out room. subst (λ (k : ℕ). Puts (words (all_ties (variables_from flags k) (map R (take all firsts)) (variables_from after (S d)))) x4 x5 c4 c5) q
      (subst (λ (k : ℕ). Puts (words (all_ties (variables_from flags all) (map R (take all firsts)) (variables_from after k))) x4 x5 c4 c5) r
      (ties fit fit'
      (λ k l. let z = firsts_within t.shaped d ps wf v (slots_of file shape codes) var all firsts state q (omega arith) out room k l in omega arith)
      R (λ x. result_bits t.shaped d ps x ∙ ap (variables_from x) (sym r)))))

  -- the state's literals of frame j, and its property's gates
  module _ (p j v bits : ℕ) (codes : List ℕ) (ev : v ≡ 2 + j * frame_length s) (eb : bits ≡ s.bits) (few : j ≤ z.bound) (long : length codes ≡ max_bits)
      (vars : v + bits ≤ variable_limit → take bits (from_codes codes) ≡ variables_from v bits) (d : Design) (ok : check file ≡ Checked.accepted d) (es : s ≡ frame_sizes d (property_of file piece d p)) where
    wf : WellFormed d
    wf = well_formed file bytes d ok

    pub frame_at : v ≡ frame d (property_of file piece d p) j
    frame_at = ev ∙ frame_starts d (property_of file piece d p) s wf es j

    low : n d (property_of file piece d p) j ≤ last_variable
    low = small_numbers d wf (property_of file piece d p) h.small es j few

    pub state_at_lem : slots_of file shape codes ≡ state_at d v
    state_at_lem =
        let r : bits ≡ S d = eb ∙ (numbers d (property_of file piece d p) s wf es).bits in
        let first = vars (omega (arith, last_past d (property_of file piece d p) j, low, frame_at)) in
        state_is_lem t.shaped d (whole file d ok).parts codes v long (subst (λ (k : ℕ). take k (from_codes codes) ≡ variables_from v k) r first)

    pub property_written : {var : ℕ} {xs ys : List ℤ} {cur : ℕ} {out : Literal} {c u : ℕ} → var ≡ v + bits
        → ((d : Design) (w : Parts file d) → Emits var (property! d (property_of file piece d p) (slots_of file shape codes) var) xs ys cur out c u) → Puts (words (property_clauses d (property_of file piece d p) j)) xs ys cur c
    property_written {var} e gates =
        property_puts d (property_of file piece d p) j var (slots_of file shape codes) low (state_at_lem ∙ ap (state_at d) frame_at) (omega (arith, (numbers d (property_of file piece d p) s wf es).bits, frame_at)) (gates d (whole file d ok).parts)

  pub step_state : (p v bits : ℕ) (codes : List ℕ) → bits ≡ s.bits → length codes ≡ max_bits → (v + bits ≤ variable_limit → take bits (from_codes codes) ≡ variables_from v bits)
      → (d : Design) (j : ℕ) → check file ≡ Checked.accepted d → s ≡ frame_sizes d (property_of file piece d p) → j < z.bound → v ≡ frame d (property_of file piece d p) j → slots_of file shape codes ≡ state_at d v
  step_state p v bits codes eb long vars d j ok es low at =
      state_at_lem p j v bits codes (at ∙ sym (frame_starts d (property_of file piece d p) s (well_formed file bytes d ok) es j)) eb (omega arith) long vars d ok es

-- a frame's part
module _ (d : Design) (p : Property) (k j : ℕ) {xs ys : List ℤ} {cur c : ℕ} (a : Puts (words (property_clauses d p j)) xs ys cur c) where
  pub frame_last : k ≤ j → Puts (words (frame_part d p k j)) xs ys cur c
  unfolding frame_part
  frame_last l = subst (λ (cs : List Clause). Puts (words cs) xs ys cur c) (sym (ap (λ (t : Bool). property_clauses d p j ++ cond t (step_clauses d p j) []) (le-ltb j k l) ∙ append-nil (property_clauses d p j))) a

  pub frame_more : j < k → {zs : List ℤ} {c' : ℕ} → Puts (words (step_clauses d p j)) ys zs c c' → Puts (words (frame_part d p k j)) xs zs cur c'
  unfolding frame_part
  frame_more l {zs} {c'} b = subst (λ (cs : List Clause). Puts (words cs) xs zs cur c') (sym (ap (λ (t : Bool). property_clauses d p j ++ cond t (step_clauses d p j) []) (lt-ltb j k l))) (puts_clauses (property_clauses d p j) (step_clauses d p j) a b)

-- a part by its number
module _ (d : Design) (p : Property) (k : ℕ) where
  first_is : (i : ℕ) → i ≡ 0 → first_part d p ≡ part d p k i
  unfolding part
  first_is zero e = refl
  first_is (suc j) e = absurd (omega arith)

  frame_is : (i : ℕ) → (i ≡ 0 → ⊥) → i ≤ k + 1 → frame_part d p k (i - 1) ≡ part d p k i
  unfolding part
  frame_is zero z l = absurd (z refl)
  frame_is (suc j) z l =
      ap (frame_part d p k) (let q : suc j - 1 ≡ j = omega arith in q)
      ∙ sym (ap (λ (t : Bool). cond t (frame_part d p k j) (last_clause d p k ∷ [])) (le-leb j k (let q : j ≤ k = omega arith in q)))

  last_is : (i : ℕ) → k + 1 < i → last_clause d p k ∷ [] ≡ part d p k i
  unfolding part
  last_is zero l = absurd (omega arith)
  last_is (suc j) l = sym (ap (λ (t : Bool). cond t (frame_part d p k j) (last_clause d p k ∷ [])) (lt-leb j k (let q : k < j = omega arith in q)))

module _ (file piece : List ℕ) (s : FrameSizes) (p k i : ℕ) {xs ys : List ℤ} {cur c : ℕ} (d : Design) (ok : check file ≡ Checked.accepted d) (es : s ≡ frame_sizes d (property_of file piece d p)) where
  pub first_part_lem : i ≡ 0 → ((d : Design) (w : Parts file d) (q : Property) → Puts (words (first_part d q)) xs ys cur c) → Puts (words (part d (property_of file piece d p) k i)) xs ys cur c
  first_part_lem e f = puts_same (ap words (first_is d (property_of file piece d p) k i e)) (f d (whole file d ok).parts (property_of file piece d p))

  pub frame_part_lem : (i ≡ 0 → ⊥) → i ≤ k + 1 → ((d : Design) → check file ≡ Checked.accepted d → s ≡ frame_sizes d (property_of file piece d p) → Puts (words (frame_part d (property_of file piece d p) k (i - 1))) xs ys cur c) → Puts (words (part d (property_of file piece d p) k i)) xs ys cur c
  frame_part_lem z l f = puts_same (ap words (frame_is d (property_of file piece d p) k i z l)) (f d ok es)

  pub last_part : k + 1 < i → ((d : Design) → check file ≡ Checked.accepted d → s ≡ frame_sizes d (property_of file piece d p) → Puts (words (last_clause d (property_of file piece d p) k ∷ [])) xs ys cur c)
      → Puts (words (part d (property_of file piece d p) k i)) xs ys cur c
  last_part l f = puts_same (ap words (last_is d (property_of file piece d p) k i l)) (f d ok es)

-- All parts, one after the other.
module _ (file piece : List ℕ) (s : FrameSizes) (p k : ℕ) (xs₀ : List ℤ) where
  pub record PartsLeft (xs : List ℤ) (cur i : ℕ) : Type 0 where
    pub within : i ≤ k + 3
    pub long : length xs ≡ length xs₀
    pub left : (d : Design) → check file ≡ Checked.accepted d → s ≡ frame_sizes d (property_of file piece d p) → PutsLeft (words (formula d (property_of file piece d p) k)) xs₀ 0 (words (parts_from d (property_of file piece d p) k (k + 3 - i) i)) xs cur

  pub parts_start : PartsLeft xs₀ 0 0
  unfolding formula
  parts_start = record {
    within = omega arith;
    long = refl;
    left = λ d ok es. subst (λ (m : ℕ). PutsLeft (words (formula d (property_of file piece d p) k)) xs₀ 0 (words (parts_from d (property_of file piece d p) k m 0)) xs₀ 0) (let q : k + 3 ≡ k + 3 - 0 = omega arith in q) (puts_start (words (formula d (property_of file piece d p) k)) xs₀ 0);
  }

  pub parts_on : {xs ys : List ℤ} {cur i c : ℕ} → i < k + 3 → PartsLeft xs cur i → length ys ≡ length xs
      → ((d : Design) → check file ≡ Checked.accepted d → s ≡ frame_sizes d (property_of file piece d p) → Puts (words (part d (property_of file piece d p) k i)) xs ys cur c) → PartsLeft ys c (i + 1)
  unfolding parts_from
  parts_on {i = i} l g e f = record {
    within = omega arith;
    long = e ∙ g.long;
    left = λ d ok es.
        let m = k + 3 - (i + 1) in
        let one : words (parts_from d (property_of file piece d p) k (k + 3 - i) i) ≡ words (part d (property_of file piece d p) k i) ++ words (parts_from d (property_of file piece d p) k m (i + 1)) =
        ap (λ (j : ℕ). words (parts_from d (property_of file piece d p) k j i)) (let q : k + 3 - i ≡ suc (k + 3 - (i + 1)) = omega arith in q)
        ∙ words_append (part d (property_of file piece d p) k i) (parts_from d (property_of file piece d p) k m (suc i)) ∙ ap (λ (j : ℕ). words (part d (property_of file piece d p) k i) ++ words (parts_from d (property_of file piece d p) k m j)) (sym (add-one i)) in
        puts_on (words (part d (property_of file piece d p) k i)) (words (parts_from d (property_of file piece d p) k m (i + 1))) one (g.left d ok es) (f d ok es);
  }

  pub parts_end : {xs : List ℤ} {cur i : ℕ} → k + 3 ≤ i → PartsLeft xs cur i → (d : Design) → check file ≡ Checked.accepted d → s ≡ frame_sizes d (property_of file piece d p) → Puts (words (formula d (property_of file piece d p) k)) xs₀ xs 0 cur
  unfolding parts_from
  parts_end {i = i} l g d ok es = puts_end (ap (λ (j : ℕ). words (parts_from d (property_of file piece d p) k j i)) (let q : k + 3 - i ≡ 0 = omega arith in q)) (g.left d ok es)

-- what the writer of parts is given, from the tables that were made
pub formula_ready : {file piece cells : List ℕ} {shape : Shape} {p k : ℕ} {s : FrameSizes} (count : ℕ) → Admitted file piece p k s → ((i : ℕ) → get_or file i 0 < 256)
    → CellsIndexed file cells count → Measured file count shape → FormulaReady file shape (record { cells = cells; sizes = s; property = p; bound = k })
unfolding w
formula_ready {file} {piece} {cells} {shape} {p} {k} {s} count a bytes ci m =
    let h = a.accepted in
    let t = read file h in
    let N = numbers t.tree (property_of file piece t.tree p) s (well_formed file bytes t.tree t.is) (a.sizes t.tree t.is) in
    let raised = m.externals ∙ ap (λ (n : ℕ). length (externals_from file 0 n)) m.shaped.variables in
    record {
      normals = subst (CellsIndexed file cells) (sym m.normals) ci;
      small = a.small;
      movers = omega (arith, N.movers, mover_count file t.tree t.all.parts, ci.count, m.normals, raised);
    }
