-- The gates of a frame are those of the file's cells and externals, and of the property.
use Rattle.std.proofs.Common.{◌≡◌, ℕ, zero, suc, ◌+◌, ◌*◌, ◌<◌, ◌≤◌, Bool, true, false, List, [], ◌∷◌, ◌++◌, map, length, get_or, sym, refl, ap, ◌∙◌, subst, ap₂, suc-mul, arith}
use Rattle.design.specs.Tree.{Cell, Design, Mover, cell, raise, externals, movers}
use Rattle.design.specs.DesignFile.{Entry, normal, invalid}
use Rattle.design.specs.Check.{Checked, check, normals, invalids, variable_count}
use Rattle.design.specs.Places.{Accepted, CellsIndexed, Measured}
use Rattle.design.specs.Sections.{Parts}
use Rattle.design.specs.declared.shape.Shape.{Shape}
use Rattle.design.proofs.Sections.{whole}
use Rattle.design.proofs.Places.{read}
use Rattle.step.specs.Piece.{piece_right, expression_of}
use Rattle.step.specs.Property.{Property, invariant, no_invalid_cell, constraint, property_of}
use Rattle.design.specs.Places.{externals_from}
use Rattle.design.proofs.Externals.{raises, mover_count}
use Rattle.clauses.specs.Formula.{S, w}
use Rattle.clauses.specs.Cost.{Cost, cost, add_costs, bool_cost, status_and_event_cost, enable_cost, effect_cost, mover_cost, movers_cost, invalid_cost, property_cost, step_property_cost, step_cost}
use Rattle.clauses.specs.FrameSizes.{entries_cost, HasGates, last_frames, frame_sizes, SmallFrame}
use Rattle.clauses.specs.Limits.{most_gates}
use Rattle.clauses.specs.declared.cost.GatesAt.{GatesAt}
use Rattle.clauses.specs.declared.frame.FrameSizes.{FrameSizes}
use Rattle.clauses.proofs.Bounds.{Bounded, bounded}

-- a cost is its two numbers
same_cost : (x y : Cost) → x.ands ≡ y.ands → x.wides ≡ y.wides → x ≡ y
same_cost x y p q = ap₂ cost p q

entries_normal : (bits : ℕ) (es : List Entry) → entries_cost bits false es ≡ movers_cost bits (map cell (normals es))
unfolding entries_cost movers_cost
entries_normal bits [] = refl
entries_normal bits (normal c ∷ es) = ap (add_costs (mover_cost bits (cell c))) (entries_normal bits es)
entries_normal bits (invalid p ∷ es) =
    let e = entries_normal bits es in
    same_cost _ _ (omega (arith, ap (λ (x : Cost). x.ands) e)) (omega (arith, ap (λ (x : Cost). x.wides) e))

entries_invalid : (bits : ℕ) (es : List Entry) → entries_cost bits true es ≡ invalid_cost (invalids es)
unfolding entries_cost invalid_cost
entries_invalid bits [] = refl
entries_invalid bits (normal c ∷ es) =
    let e = entries_invalid bits es in
    same_cost _ _ (omega (arith, ap (λ (x : Cost). x.ands) e)) (omega (arith, ap (λ (x : Cost). x.wides) e))
entries_invalid bits (invalid p ∷ es) = ap (add_costs (add_costs (status_and_event_cost p.event) (cost 1 0))) (entries_invalid bits es)

movers_ands : (bits : ℕ) (xs ys : List Mover) → (movers_cost bits (xs ++ ys)).ands ≡ (movers_cost bits xs).ands + (movers_cost bits ys).ands
unfolding movers_cost
movers_ands bits [] ys = omega arith
movers_ands bits (x ∷ xs) ys = let h = movers_ands bits xs ys in omega arith

movers_wides : (bits : ℕ) (xs ys : List Mover) → (movers_cost bits (xs ++ ys)).wides ≡ (movers_cost bits xs).wides + (movers_cost bits ys).wides
unfolding movers_cost
movers_wides bits [] ys = omega arith
movers_wides bits (x ∷ xs) ys = let h = movers_wides bits xs ys in omega arith

raises_ands : (bits : ℕ) (us : List ℕ) → (movers_cost bits (map raise us)).ands ≡ 0
unfolding movers_cost mover_cost enable_cost effect_cost
raises_ands bits [] = refl
raises_ands bits (u ∷ us) = let h = raises_ands bits us in omega arith

raises_wides : (bits : ℕ) (us : List ℕ) → (movers_cost bits (map raise us)).wides ≡ length us * bits
unfolding movers_cost mover_cost enable_cost effect_cost
raises_wides bits [] = omega arith
raises_wides bits (u ∷ us) = let h = raises_wides bits us in let q = suc-mul (length us) bits in omega arith

module _ (file : List ℕ) (d : Design) (w : Parts file d) (bits : ℕ) (b : bits ≡ S d) where
  abbrev cells_cost : Cost
  cells_cost = entries_cost bits false w.entries

  abbrev raised : List ℕ
  raised = externals_from file 0 (variable_count file)

  cells_are : movers_cost (S d) (map cell d.cells) ≡ cells_cost
  cells_are =
      ap (λ (l : List Cell). movers_cost (S d) (map cell l)) w.cells ∙ ap (λ (k : ℕ). movers_cost k (map cell (normals w.entries))) (sym b)
      ∙ sym (entries_normal bits w.entries)

  raises_are : movers_cost (S d) (externals 0 d.variables) ≡ movers_cost bits (map raise raised)
  raises_are = ap (movers_cost (S d)) (raises file d w) ∙ ap (λ (k : ℕ). movers_cost k (map raise raised)) (sym b)

  pub step_ands : (p : Property) → (step_cost d p).ands ≡ cells_cost.ands + (step_property_cost p).ands
  unfolding step_cost movers
  step_ands p =
      omega (arith, movers_ands (S d) (map cell d.cells) (externals 0 d.variables), ap (λ (x : Cost). x.ands) cells_are, ap (λ (x : Cost). x.ands) raises_are, raises_ands bits raised)

  pub step_wides : (p : Property) → (step_cost d p).wides ≡ cells_cost.wides + length raised * bits + (step_property_cost p).wides
  unfolding step_cost movers
  step_wides p =
      omega (arith, movers_wides (S d) (map cell d.cells) (externals 0 d.variables), ap (λ (x : Cost). x.wides) cells_are, ap (λ (x : Cost). x.wides) raises_are, raises_wides bits raised)

  pub property_cells : (piece : List ℕ) (p : ℕ) → p ≡ 1 → property_cost d (property_of file piece d p) ≡ add_costs (entries_cost bits true w.entries) (cost 1 0)
  unfolding property_cost property_of
  property_cells piece zero z = absurd (omega arith)
  property_cells piece (suc zero) z = ap (λ (c : Cost). add_costs c (cost 1 0)) (ap invalid_cost w.invalid ∙ sym (entries_invalid bits w.entries))
  property_cells piece (suc (suc p)) z = absurd (omega arith)

  pub property_expression : (piece : List ℕ) (p : ℕ) → p ≡ 0 → property_cost d (property_of file piece d p) ≡ add_costs (bool_cost false (expression_of file piece d)) (cost 1 0)
  unfolding property_cost property_of
  property_expression piece zero z = refl
  property_expression piece (suc p) z = absurd (omega arith)

  pub entries_few : Bounded d no_invalid_cell → (t : Bool) → ((entries_cost bits t w.entries).ands ≤ most_gates) × ((entries_cost bits t w.entries).wides ≤ most_gates)
  unfolding property_cost
  entries_few k false = (omega (arith, step_ands no_invalid_cell, k.gates), omega (arith, step_wides no_invalid_cell, k.gates))
  entries_few k true =
      let e = ap invalid_cost w.invalid ∙ sym (entries_invalid bits w.entries) in
      (omega (arith, ap (λ (x : Cost). x.ands) e, k.gates), omega (arith, ap (λ (x : Cost). x.wides) e, k.gates))

-- which properties have gates in a frame's state, and in the step out of it, and whether the last clause takes the last frame
module _ (file piece : List ℕ) (d : Design) where
  pub property_none : (p : ℕ) → (p ≡ 0 → ⊥) → (p ≡ 1 → ⊥) → property_cost d (property_of file piece d p) ≡ cost 0 0
  unfolding property_cost property_of
  property_none zero h z = absurd (h refl)
  property_none (suc zero) h z = absurd (z refl)
  property_none (suc (suc p)) h z = refl

  pub step_property_none : (p : ℕ) → p < 2 → step_property_cost (property_of file piece d p) ≡ cost 0 0
  unfolding step_property_cost property_of
  step_property_none zero h = refl
  step_property_none (suc zero) h = refl
  step_property_none (suc (suc p)) h = absurd (omega arith)

  pub step_property_cost_lem : (p : ℕ) → 2 ≤ p → step_property_cost (property_of file piece d p) ≡ add_costs (bool_cost false d.constraint) (cost 1 0)
  unfolding step_property_cost property_of
  step_property_cost_lem zero h = absurd (omega arith)
  step_property_cost_lem (suc zero) h = absurd (omega arith)
  step_property_cost_lem (suc (suc p)) h = refl

  pub last_one : (p : ℕ) → p < 2 → 1 ≡ last_frames (property_of file piece d p)
  unfolding property_of
  last_one zero h = refl
  last_one (suc zero) h = refl
  last_one (suc (suc p)) h = absurd (omega arith)

  pub last_none : (p : ℕ) → 2 ≤ p → 0 ≡ last_frames (property_of file piece d p)
  unfolding property_of
  last_none zero h = absurd (omega arith)
  last_none (suc zero) h = absurd (omega arith)
  last_none (suc (suc p)) h = refl

last_few : (p : Property) → last_frames p ≤ 1
last_few (invariant e) = omega arith
last_few no_invalid_cell = omega arith
last_few (constraint e) = omega arith

pub frame_bound : (d : Design) (q : Property) → Bounded d q → SmallFrame (frame_sizes d q)
unfolding frame_sizes
frame_bound d q k = record { bits = k.bits; movers = k.movers; gates = k.gates; last = last_few q }

-- the sizes of a frame, from what the loops answer
abbrev frame_of : ℕ → ℕ → ℕ → ℕ → ℕ → ℕ → ℕ → FrameSizes
frame_of bits m a b x y l = record { bits = bits; movers = m; property = record { ands = a; wides = b }; step = record { ands = x; wides = y }; last = l }

frame_same : {bits bits' m m' a a' b b' x x' y y' l l' : ℕ} → bits ≡ bits' → m ≡ m' → a ≡ a' → b ≡ b' → x ≡ x' → y ≡ y' → l ≡ l' → frame_of bits m a b x y l ≡ frame_of bits' m' a' b' x' y' l'
frame_same {bits} {bits'} {m} {m'} {a} {a'} {b} {b'} {x} {x'} {y} {y'} {l} {l'} e₁ e₂ e₃ e₄ e₅ e₆ e₇ =
    ap₂ (λ (i j : ℕ). frame_of i j a b x y l) e₁ e₂ ∙ ap₂ (λ (i j : ℕ). frame_of bits' m' i j x y l) e₃ e₄ ∙ ap₂ (λ (i j : ℕ). frame_of bits' m' a' b' i j l) e₅ e₆
    ∙ ap (frame_of bits' m' a' b' x' y') e₇

module _ (file piece : List ℕ) (h : Accepted file) (H : Shape) (normals : ℕ) (m : Measured file normals H) (p s q : GatesAt) (t prop last : ℕ) (cs : List ℕ) (c : CellsIndexed file cs normals)
    (hp : (d : Design) → Parts file d → HasGates p (property_cost d (property_of file piece d prop))) (hs : (d : Design) (w : Parts file d) → HasGates s (entries_cost H.bits false w.entries)) (hq : (d : Design) → Parts file d → HasGates q (step_property_cost (property_of file piece d prop)))
    (ht : t ≡ H.externals * H.bits) (hl : (d : Design) → last ≡ last_frames (property_of file piece d prop)) where
  abbrev made : FrameSizes
  made = frame_of H.bits (H.normals + H.externals) p.ands p.wides (s.ands + q.ands) (s.wides + t + q.wides) last

  raised_is : H.externals ≡ length (externals_from file 0 (variable_count file))
  raised_is = m.externals ∙ ap (λ (k : ℕ). length (externals_from file 0 k)) m.shaped.variables

  pub frame_made : (d : Design) → check file ≡ Checked.accepted d → made ≡ frame_sizes d (property_of file piece d prop)
  unfolding frame_sizes w
  frame_made d e =
      let w = (whole file d e).parts in
      let b = m.bits.state d w in
      let g = hp d w in
      let i = hs d w in
      let j = hq d w in
      let n : H.normals + H.externals ≡ length (movers d) = omega (arith, mover_count file d w, m.normals, c.count, raised_is) in
      let z : H.externals * H.bits ≡ length (externals_from file 0 (variable_count file)) * H.bits = ap (λ (k : ℕ). k * H.bits) raised_is in
      let x : s.ands + q.ands ≡ (step_cost d (property_of file piece d prop)).ands = omega (arith, i.ands, j.ands, step_ands file d w H.bits b (property_of file piece d prop)) in
      let y : s.wides + t + q.wides ≡ (step_cost d (property_of file piece d prop)).wides = omega (arith, i.wides, j.wides, step_wides file d w H.bits b (property_of file piece d prop)) in
      frame_same b n g.ands g.wides x y (hl d)

  pub frame_small : ((i : ℕ) → get_or file i 0 < 256) → piece_right file piece prop ≡ true → SmallFrame made
  frame_small bytes right =
      let t = read file h in
      subst SmallFrame (sym (frame_made t.tree t.is)) (frame_bound t.tree (property_of file piece t.tree prop) (bounded file piece bytes t.tree t.is prop right))
