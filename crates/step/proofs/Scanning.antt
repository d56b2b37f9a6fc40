-- The loop over the cells that looks at the invalid ones, and the properties of one state by what the code finds. Assumes nothing.
use Rattle.std.proofs.Common.{◌≡◌, ℕ, zero, suc, ◌+◌, ◌<◌, ◌≤◌, Bool, true, false, not, ◌&&◌, ltb, List, ◌∷◌, length, get_or, drop, sym, refl, ap, ◌∙◌, subst, add-one, arith, drop-cons, lt-ltb}
use lib.Seq.{drop-length}
use Rattle.design.specs.Tree.{BoolExpr, constant_b, Design, truth}
use Rattle.design.specs.State.{State, Layout, layout, layout_of}
use Rattle.design.specs.Expression.{Names}
use Rattle.design.specs.DesignFile.{Entry, normal, invalid, c_matrix, c_status, c_event, c_kind, c_past}
use Rattle.design.specs.Check.{invalids, names_of, names, items_end, matrices_offset, cells_offset, cell_count, invariant_offset, event_in}
use Rattle.design.specs.Places.{past_cells, Indexed, Shaped}
use Rattle.design.specs.Sections.{Parts, EntryRead, Standing, CellFields}
use Rattle.design.proofs.Places.{Read as Tree, read, cell_stands, cell_fields}
use Rattle.step.specs.Evaluation.{eval_bool}
use Rattle.step.specs.Limits.{last_state_property}
use Rattle.step.specs.Piece.{expression_of}
use Rattle.step.specs.Property.{property_of}
use Rattle.step.specs.OneStep.{marked, status_and_event, no_invalid, true_at, holds}
use Rattle.design.specs.declared.shape.Shape.{Shape}
use Rattle.design.proofs.Widths.{layout_is}
use Rattle.design.specs.Limits.{max_bytes}
use Rattle.step.proofs.Cells.{sizes, BothAre}

-- the layout of the tree, by the shape of the file
pub same_layout : (file : List ℕ) (d : Design) (w : Parts file d) (h : Shape) → Shaped file h → layout_of h ≡ layout d
same_layout file d w h s = layout_is file d w h.variables h.matrices s.variables s.matrices

-- what is found in a state counts where the mark is not set, and nothing does where it is
pub unmarked_counts : (a t : Bool) → t ≡ false → a ≡ (a && not t)
unmarked_counts true t e = ap not (sym e)
unmarked_counts false t e = refl

pub marked_fails : (a t : Bool) → t ≡ true → false ≡ (a && not t)
marked_fails true t e = ap not (sym e)
marked_fails false t e = refl

-- the mark by the number in its slot
pub set_is : (m n : ℕ) → m ≡ n → ltb 0 m ≡ truth n
set_is m zero e = ap (ltb 0) e
set_is m (suc n) e = lt-ltb 0 m (omega arith)

-- the properties of one state; t is what the code finds of the mark
module _ (file piece : List ℕ) (d : Design) (w : Parts file d) (h : Shape) (q : Shaped file h) (s : State) (t : Bool) (m : t ≡ marked (layout_of h) s) where
  mark_same : (b : Bool) → t ≡ b → marked (layout d) s ≡ b
  mark_same b e = sym (ap (λ (l : Layout). marked l s) (same_layout file d w h q)) ∙ sym m ∙ e

  pub marked_property : t ≡ true → (p : ℕ) → p ≤ last_state_property → false ≡ holds d (property_of file piece d p) s
  unfolding true_at property_of
  marked_property e zero l = marked_fails (eval_bool (layout d) s (expression_of file piece d)) _ (mark_same true e)
  marked_property e (suc zero) l = marked_fails (no_invalid (layout d) s d.invalid) _ (mark_same true e)
  marked_property e (suc (suc p)) l = absurd (omega arith)

  module _ (e : t ≡ false) (p : ℕ) (r : Bool) where
    pub expression_property : p ≡ 0 → r ≡ eval_bool (layout_of h) s (expression_of file piece d) → r ≡ holds d (property_of file piece d p) s
    unfolding true_at property_of
    expression_property z k =
        k ∙ ap (λ (l : Layout). eval_bool l s (expression_of file piece d)) (same_layout file d w h q) ∙ unmarked_counts _ _ (mark_same false e)
        ∙ ap (λ (j : ℕ). holds d (property_of file piece d j) s) (sym z)

    pub invalid_property : (p ≡ 0 → ⊥) → p ≤ last_state_property → r ≡ no_invalid (layout_of h) s d.invalid → r ≡ holds d (property_of file piece d p) s
    unfolding true_at property_of
    invalid_property z l k =
        k ∙ ap (λ (l : Layout). no_invalid l s d.invalid) (same_layout file d w h q) ∙ unmarked_counts _ _ (mark_same false e)
        ∙ ap (λ (j : ℕ). holds d (property_of file piece d j) s) (let y : 1 ≡ p = omega arith in y)

-- what is left to look at decides as the whole does
pub record Scanning (file : List ℕ) (h : Shape) (slots : State) (p i : ℕ) : Type 0 where
  pub here : p ≡ past_cells file i (cells_offset file)
  pub inside : i ≤ cell_count file
  pub same : (d : Design) (w : Parts file d) → no_invalid (layout_of h) slots (invalids (drop i w.entries)) ≡ no_invalid (layout_of h) slots d.invalid

pub scanning_start : (file : List ℕ) (h : Shape) (slots : State) (p : ℕ) → p ≡ cells_offset file → Scanning file h slots p 0
unfolding past_cells
scanning_start file h slots p e = record { here = e; inside = omega arith; same = λ d w. ap (no_invalid (layout_of h) slots) (sym w.invalid) }

module _ (file events' : List ℕ) (h : Shape) (slots : State) (ready : Indexed file events' h) where
  abbrev N : Names
  N = names_of file h

  tree : Tree file
  tree = read file ready.accepted

  abbrev l : Layout
  l = layout_of h

  module _ (p i : ℕ) (g : Scanning file h slots p i) (k : i < cell_count file) where
    none : Entry
    none = invalid (record { matrix = 0; status = 0; event = constant_b false })

    entry : (d : Design) → Parts file d → Entry
    entry d w = get_or w.entries i none

    stands : (d : Design) (w : Parts file d) → Standing file (event_in w.rows) p (entry d w)
    unfolding past_cells entry
    stands d w =
        let (b, c) = cell_stands file (event_in w.rows) w.entries (cells_offset file) (cells_offset file) (invariant_offset file) w.cell_run i (omega (arith, w.cell_count_lem)) none in
        subst (λ (j : ℕ). Standing file (event_in w.rows) j (get_or w.entries i none)) (sym g.here) (b, c)

    pub scan_fields : CellFields file p
    scan_fields = cell_fields file (event_in tree.all.parts.rows) p (entry tree.tree tree.all.parts) (stands tree.tree tree.all.parts)

    -- the cell's header is inside the file, which is short
    pub scan_room : (p + 8 ≤ length file) × (length file ≤ max_bytes)
    scan_room = (omega (arith, scan_fields.header, sizes file events' h ready), (sizes file events' h ready).1)

    split : (d : Design) (w : Parts file d) → drop i w.entries ≡ entry d w ∷ drop (suc i) w.entries
    unfolding entry
    split d w = drop-cons w.entries i none (omega (arith, w.cell_count_lem))

    -- an entry by its kind
    is_normal : (f : ℕ → ℕ → BoolExpr) (x : Entry) (es : List Entry) → EntryRead file (items_end file) (names file) (matrices_offset file) f p (c_kind file p) x → c_kind file p ≡ 0 → no_invalid l slots (invalids (x ∷ es)) ≡ no_invalid l slots (invalids es)
    is_normal f (normal c) es r e = refl
    is_normal f (invalid q) es r e = absurd (r.0 e)

    is_invalid : (f : ℕ → ℕ → BoolExpr) (x : Entry) (es : List Entry) → EntryRead file (items_end file) (names file) (matrices_offset file) f p (c_kind file p) x → (c_kind file p ≡ 0 → ⊥)
        → no_invalid l slots (invalids (x ∷ es)) ≡ (not (status_and_event l slots (c_matrix file p) (c_status file p) (f (c_matrix file p) (c_event file p))) && no_invalid l slots (invalids es))
    is_invalid f (normal c) es r e = absurd (e r.0)
    is_invalid f (invalid q) es r e =
        ap (λ (m : ℕ). not (status_and_event l slots m q.status q.event) && no_invalid l slots (invalids es)) r.1.matrix
        ∙ ap (λ (m : ℕ). not (status_and_event l slots (c_matrix file p) m q.event) && no_invalid l slots (invalids es)) r.1.status
        ∙ ap (λ (b : BoolExpr). not (status_and_event l slots (c_matrix file p) (c_status file p) b) && no_invalid l slots (invalids es)) r.1.event

    -- an invalid cell at which both hold decides
    pub scan_found : (c_kind file p ≡ 0 → ⊥) → (r : Bool) → BothAre file events' h ready slots p r → r ≡ true → (d : Design) (w : Parts file d) → false ≡ no_invalid l slots d.invalid
    scan_found e r s q d w =
        let t = is_invalid (event_in w.rows) (entry d w) (drop (suc i) w.entries) (stands d w).1.entry e in
        ap (λ (b : Bool). not b && no_invalid l slots (invalids (drop (suc i) w.entries))) (sym q ∙ s d w) ∙ sym t ∙ sym (ap (λ (es : List Entry). no_invalid l slots (invalids es)) (split d w)) ∙ g.same d w

    onward : (q : ℕ) → q ≡ c_past file p → ((d : Design) (w : Parts file d) → no_invalid l slots (invalids (drop (suc i) w.entries)) ≡ no_invalid l slots (invalids (drop i w.entries))) → Scanning file h slots q (i + 1)
    unfolding past_cells
    onward q e s = record {
      here = e ∙ ap (c_past file) g.here ∙ sym (ap (λ (n : ℕ). past_cells file n (cells_offset file)) (add-one i));
      inside = omega arith;
      same = λ d w. ap (λ (n : ℕ). no_invalid l slots (invalids (drop n w.entries))) (add-one i) ∙ s d w ∙ g.same d w;
    }

    pub scan_normal : c_kind file p ≡ 0 → (q : ℕ) → q ≡ c_past file p → Scanning file h slots q (i + 1)
    scan_normal e q f = onward q f (λ d w. sym (is_normal (event_in w.rows) (entry d w) (drop (suc i) w.entries) (stands d w).1.entry e) ∙ sym (ap (λ (es : List Entry). no_invalid l slots (invalids es)) (split d w)))

    pub scan_invalid : (c_kind file p ≡ 0 → ⊥) → (r : Bool) → BothAre file events' h ready slots p r → r ≡ false → (q : ℕ) → q ≡ c_past file p → Scanning file h slots q (i + 1)
    scan_invalid e r s z q f = onward q f (λ d w.
        ap (λ (b : Bool). not b && no_invalid l slots (invalids (drop (suc i) w.entries))) (sym z ∙ s d w) ∙ sym (is_invalid (event_in w.rows) (entry d w) (drop (suc i) w.entries) (stands d w).1.entry e) ∙ sym (ap (λ (es : List Entry). no_invalid l slots (invalids es)) (split d w)))

  pub scanning_end : (p i : ℕ) → cell_count file ≤ i → Scanning file h slots p i → (d : Design) (w : Parts file d) → true ≡ no_invalid l slots d.invalid
  scanning_end p i k g d w =
      let s = g.inside in
      let z : i ≡ length w.entries = omega (arith, w.cell_count_lem) in
      ap (λ (es : List Entry). no_invalid l slots (invalids es)) (sym (ap (λ (n : ℕ). drop n w.entries) z ∙ drop-length w.entries)) ∙ g.same d w
