-- Loops over movers and over invalid cells. Assumes nothing.
use Rattle.std.proofs.Common.{◌≡◌, ℕ, zero, suc, ◌+◌, ◌-◌, ◌*◌, ◌<◌, ◌≤◌, Bool, true, false, cond, eqb, List, [], ◌∷◌, ◌++◌, map, length, get_or, take, drop, set, ℤ, sym, refl, ap, ◌∙◌, subst, ap₂, append_assoc, add-one, arith, length-set, drop-cons, get_or-take, take-suc-set, get_or-append-add, eq-eqb, ne_eqb, eqb-true}
use mathlib.Core.Option.{some}
use lib.ListN.{get_elem?}
use Rattle.design.specs.Tree.{BoolExpr, constant_b, done, Cell, InvalidCell, Design, Mover, cell, raise, movers}
use Rattle.design.specs.Limits.{max_bytes, max_movers, max_depth}
use Rattle.design.specs.State.{Layout, layout, later_slot, widths}
use Rattle.design.specs.Reading.{got}
use Rattle.design.specs.Expression.{with_later, bool_expr}
use Rattle.design.specs.DesignFile.{Entry, normal, invalid, c_matrix, c_status, c_event, c_kind, c_past}
use Rattle.design.specs.Check.{names_of, has_constraint, items_end, constraint_offset, variable_count, matrices_offset, cells_offset, cell_count, invariant_offset, invalids, names, event_in}
use Rattle.design.specs.Places.{past_cells, normal_places, CellsIndexed}
use Rattle.design.specs.Sections.{Parts, EntryRead, Standing, CellFields}
use Rattle.design.proofs.Widths.{layout_is as layout-by-counts, widths_are as widths-by-bytes}
use Rattle.design.proofs.Indexed as indexed
use Rattle.design.proofs.Places.{Read as Tree, read, cell_fields, cell_stands, normal_stands}
use Rattle.design.specs.declared.shape.Shape.{Shape}
use Rattle.step.specs.Piece.{piece_right, expression_of}
use Rattle.step.specs.Ready.{expression_text}
use Rattle.step.specs.Property.{property_of}
use Rattle.step.proofs.Pieces.{expression_got}
use Rattle.design.specs.Sections.{NormalCell}
use Rattle.design.specs.Places.{externals_from}
use Rattle.design.proofs.Externals.{mover_count, cell_mover, raise_mover}
use Rattle.clauses.specs.Literal.{Literal, negate, true_literal}
use Rattle.clauses.specs.Circuit.{Build, give, ◌>>=◌, and! }
use Rattle.clauses.specs.Expression.{Slots, lowest, boolean_at, test!, mark_at}
use Rattle.clauses.specs.Action.{status_and_event!, mover!, movers!, no_invalid! }
use Rattle.clauses.specs.Formula.{slots_from, unmarked!, property!, step_property!, state_at}
use Rattle.clauses.specs.Writing.{from_code, Emits}
use Rattle.clauses.specs.Builders.{link! }
use Rattle.clauses.specs.FlatState.{slots_of, read_slots, layout_of}
use Rattle.clauses.specs.Ready.{ShapedFile, result_from}
use Rattle.clauses.specs.Encoders.{Gives, BoolHere, TestEncoded}
use Rattle.clauses.specs.declared.gate.Cursor.{Cursor}
use Rattle.clauses.specs.declared.gate.Out.{Out}
use Rattle.clauses.proofs.EmitWords.{append-nil}
use Rattle.clauses.proofs.EmitLists.{drop_all}
use Rattle.clauses.proofs.EmitBuilds.{emits_same, emits_result, emits_give, emits_bind, Left, left_start, left_on, left_map, left_same, left_result, left_end}
use Rattle.clauses.proofs.EmitSlots.{widths_length}
use Rattle.clauses.proofs.EmitStates.{built_same}
use Rattle.clauses.proofs.CellCounts.{sizes}

-- every external's kind byte is 2
kind_in : (file : List ℕ) (v : ℕ) (rest : List ℕ) → ((k : ℕ) → k < length rest → get_or file (3 * get_or rest k 0) 0 ≡ 2) → (t : Bool) → eqb (get_or file (3 * v) 0) 2 ≡ t → (k : ℕ) → k < length (cond t (v ∷ rest) rest) → get_or file (3 * get_or (cond t (v ∷ rest) rest) k 0) 0 ≡ 2
kind_in file v rest h true e zero l = eqb-true _ _ e
kind_in file v rest h true e (suc k) l = h k (omega arith)
kind_in file v rest h false e k l = h k l

external_kind : (file : List ℕ) (v n k : ℕ) → k < length (externals_from file v n) → get_or file (3 * get_or (externals_from file v n) k 0) 0 ≡ 2
unfolding externals_from
external_kind file v zero k h = absurd (omega arith)
external_kind file v (suc n) k h = kind_in file v (externals_from file (suc v) n) (λ j l. external_kind file (suc v) n j l) (eqb (get_or file (3 * v) 0) 2) refl k h

some_same : {A : Type 0} (a b : A) → some a ≡ some b → a ≡ b
some_same a b e = cc

module _ {file cells : List ℕ} {shape : Shape} (h : ShapedFile file shape) (x : CellsIndexed file cells shape.normals) where
  abbrev nv : ℕ
  nv = shape.variables

  abbrev count : ℕ
  count = shape.normals

  tree : Tree file
  tree = read file h.accepted

  place_is : (i : ℕ) → i < count → get_or cells i 0 ≡ get_or (normal_places file) i 0
  place_is i l = sym (get_or-take count cells i 0 l) ∙ ap (λ (t : List ℕ). get_or t i 0) x.entries

  -- the cell that entry i of the table names
  abbrev named : (d : Design) (w : Parts file d) (i : ℕ) → i < count → (c : Cell) → NormalCell file (get_or cells i 0)
  named d w i l c = record {
    tree = d;
    parts = w;
    cell = get_or d.cells i c;
    stands = subst (λ (p : ℕ). Standing file (event_in w.rows) p (normal (get_or d.cells i c))) (sym (place_is i l)) (let n = normal_stands file d w in n.reads i (omega (arith, n.count, x.count)) c);
  }

  abbrev anything : Cell
  anything = record { matrix = 0; status = 0; event = constant_b false; target = 0; guard = constant_b false; action = done }

  pub cell_here : (i : ℕ) → i < count → NormalCell file (get_or cells i 0)
  cell_here i l = named tree.tree tree.all.parts i l anything

  pub place_small : (i : ℕ) → i < count → get_or cells i 0 < max_bytes
  place_small i l =
      let c = cell_here i l in
      let f = cell_fields file (event_in c.parts.rows) (get_or cells i 0) (normal c.cell) c.stands in
      omega (arith, f.header, sizes h)

  externals_same : externals_from file 0 nv ≡ externals_from file 0 (variable_count file)
  externals_same = ap (externals_from file 0) h.counts.variables

  pub all_few : count + shape.externals ≤ max_movers
  all_few = indexed.few_movers file cells shape h.counts (record { normals = x; externals = h.externals }) h.accepted

  pub few_cells : count ≤ max_movers
  few_cells = omega (arith, all_few)

  -- mover i
  module _ (l : Layout) (s : Slots) {n : ℕ} {xs ys : List ℤ} {cur : ℕ} {out : Slots} {c v : ℕ} (i : ℕ) where
    pub cell_is : i < count → ((y : NormalCell file (get_or cells i 0)) → Emits n (mover! l s (cell y.cell) n) xs ys cur out c v) → (d : Design) (w : Parts file d) (m : Mover) → get_elem? (movers d) i ≡ some m → Emits n (mover! l s m n) xs ys cur out c v
    cell_is k f d w m e =
        let q : cell (get_or d.cells i anything) ≡ m = some_same _ _ (sym (cell_mover file d w i (omega (arith, x.count)) anything) ∙ e) in
        emits_same _ _ (ap (λ (y : Mover). mover! l s y n) q) (f (named d w i k anything))

    pub external_is : count ≤ i → (j : ℕ) → j ≡ get_or (externals_from file 0 nv) (i - count) 0 → i < count + shape.externals → Emits n (mover! l s (raise j) n) xs ys cur out c v → (d : Design) (w : Parts file d) (m : Mover) → get_elem? (movers d) i ≡ some m → Emits n (mover! l s m n) xs ys cur out c v
    external_is k j q b f d w m e =
        let z : length (externals_from file 0 nv) ≡ length (externals_from file 0 (variable_count file)) = ap length externals_same in
        let r : raise (get_or (externals_from file 0 (variable_count file)) (i - count) 0) ≡ m = some_same _ _ (sym (raise_mover file d w i (i - count) (omega (arith, x.count)) (omega (arith, h.externals))) ∙ e) in
        emits_same _ _ (ap (λ (y : Mover). mover! l s y n) (ap raise (q ∙ ap (λ (t : List ℕ). get_or t (i - count) 0) externals_same) ∙ r)) f

  pub raised_kind : (i j : ℕ) → count ≤ i → i < count + shape.externals → j ≡ get_or (externals_from file 0 nv) (i - count) 0 → get_or file (3 * j) 0 ≡ 2
  raised_kind i j k b q = ap (λ (t : ℕ). get_or file (3 * t) 0) q ∙ external_kind file 0 nv (i - count) (omega (arith, h.externals))

-- all movers
found : (ms : List Mover) (i : ℕ) → i < length ms → get_elem? ms i ≡ some (get_or ms i (raise 0))
found [] i h = absurd (omega arith)
found (m ∷ ms) zero h = refl
found (m ∷ ms) (suc i) h = found ms i (omega arith)

movers_step : (l : Layout) (s : Slots) (m : Mover) (ms : List Mover) (n : ℕ) → movers! l s (m ∷ ms) n ≡ (mover! l s m >>= (λ (r : Slots). movers! l s ms >>= (λ (rs : List Slots). give (r ∷ rs)))) n
unfolding movers!
movers_step l s m ms n = refl

movers_none : (l : Layout) (s : Slots) (n : ℕ) → movers! l s [] n ≡ give [] n
unfolding movers!
movers_none l s n = refl

map-append : {A B : Type 0} (f : A → B) (a b : List A) → map f (a ++ b) ≡ map f a ++ map f b
map-append f [] b = refl
map-append f (x ∷ a) b = ap (λ l. f x ∷ l) (map-append f a b)

module _ (file : List ℕ) (shape : Shape) (codes : List ℕ) where
  abbrev all : ℕ
  all = shape.normals + shape.externals

  abbrev R : ℕ → Slots
  R v = result_from file shape v

  abbrev S : Slots
  S = slots_of file shape codes

  pub record Moving (n₀ : ℕ) (xs₀ : List ℤ) (cur₀ : ℕ) (firsts : List ℕ) (xs : List ℤ) (cur n i : ℕ) : Type 0 where
    pub within : i ≤ all
    pub size : length firsts ≡ max_movers
    pub left : (d : Design) (w : Parts file d) → Left n₀ (movers! (layout_of shape) S (movers d) n₀) xs₀ cur₀ n (movers! (layout_of shape) S (drop i (movers d)) n) xs cur (λ (rs : List Slots). map R (take i firsts) ++ rs)

  pub moving_start : (n : ℕ) (xs : List ℤ) (cur : ℕ) (firsts : List ℕ) → length firsts ≡ max_movers → Moving n xs cur firsts xs cur n 0
  moving_start n xs cur firsts e = record {
    within = omega arith;
    size = e;
    left = λ d w. left_result _ _ (λ (rs : List Slots). ap (λ (l : List ℕ). map R l ++ rs) (sym (none firsts))) (left_same _ _ (ap (λ (ms : List Mover). movers! (layout_of shape) S ms n) (sym (whole (movers d)))) (left_start n (movers! (layout_of shape) S (movers d) n) xs cur));
  }
    where
      none : (l : List ℕ) → take 0 l ≡ []
      none [] = refl
      none (x ∷ l) = refl

      whole : (l : List Mover) → drop 0 l ≡ l
      whole [] = refl
      whole (x ∷ l) = refl

  pub moving_on : {n₀ : ℕ} {xs₀ : List ℤ} {cur₀ : ℕ} (firsts : List ℕ) {xs : List ℤ} {cur n i : ℕ} → i < all → all ≤ max_movers → ((d : Design) (w : Parts file d) → length (movers d) ≡ all) → Moving n₀ xs₀ cur₀ firsts xs cur n i
      → {ys : List ℤ} (first : ℕ) {cur' n' : ℕ} → ((d : Design) (w : Parts file d) (m : Mover) → get_elem? (movers d) i ≡ some m → Emits n (mover! (layout_of shape) S m n) xs ys cur (R first) cur' n') → Moving n₀ xs₀ cur₀ (set firsts i first) ys cur' n' (i + 1)
  moving_on firsts {n = n} {i = i} l few len k first e = record {
    within = omega arith;
    size = length-set firsts i first ∙ k.size;
    left = λ d w.
        let b = len d w in
        let c : drop i (movers d) ≡ get_or (movers d) i (raise 0) ∷ drop (i + 1) (movers d) = rw (add-one, drop-cons (movers d) i (raise 0) (omega arith)) in
        let m = get_or (movers d) i (raise 0) in
        let one = left_same _ _ (ap (λ (ms : List Mover). movers! (layout_of shape) S ms n) c ∙ movers_step (layout_of shape) S m (drop (i + 1) (movers d)) n) (k.left d w) in
        let two = left_on (mover! (layout_of shape) S m) _ one (e d w m (found (movers d) i (omega arith))) in
        let three = left_map (movers! (layout_of shape) S (drop (i + 1) (movers d))) (λ (rs : List Slots). R first ∷ rs) two in
        left_result _ _ (λ (rs : List Slots). more firsts i first rs (omega (arith, k.size))) three;
  }
    where
      more : (firsts : List ℕ) (i first : ℕ) (rs : List Slots) → i < length firsts → map R (take i firsts) ++ (R first ∷ rs) ≡ map R (take (i + 1) (set firsts i first)) ++ rs
      more firsts i first rs h =
          let tk : take (i + 1) (set firsts i first) ≡ take i firsts ++ (first ∷ []) = ap (λ (j : ℕ). take j (set firsts i first)) (add-one i) ∙ take-suc-set firsts i first h in
          sym (ap (λ (l : List ℕ). map R l ++ rs) tk ∙ ap (λ (l : List Slots). l ++ rs) (map-append R (take i firsts) (first ∷ [])) ∙ append_assoc (map R (take i firsts)) (R first ∷ []) rs)

  pub moving_end : {n₀ : ℕ} {xs₀ : List ℤ} {cur₀ : ℕ} (firsts : List ℕ) {xs : List ℤ} {cur n i : ℕ} → all ≤ i → ((d : Design) (w : Parts file d) → length (movers d) ≡ all) → Moving n₀ xs₀ cur₀ firsts xs cur n i
      → (d : Design) (w : Parts file d) → Emits n₀ (movers! (layout_of shape) S (movers d) n₀) xs₀ xs cur₀ (map R (take all firsts)) cur n
  moving_end firsts {n = n} {i = i} l len k d w =
      let b = len d w in
      let q : i ≡ all = omega (arith, k.within) in
      emits_result _ (append-nil (map R (take i firsts)) ∙ ap (λ (j : ℕ). map R (take j firsts)) q)
      (left_end [] (left_same _ _ (ap (λ (ms : List Mover). movers! (layout_of shape) S ms n) (drop_all (movers d) i (omega arith)) ∙ movers_none (layout_of shape) S n) (k.left d w)))

bind_assoc : {A B C : Type 0} (m : Build A) (f : A → Build B) (g : B → Build C) (n : ℕ) → ((m >>= f) >>= g) n ≡ (m >>= (λ x. f x >>= g)) n
unfolding ◌>>=◌
bind_assoc m f g n =
    let a = m n in
    let b = f a.out a.next in
    let c = g b.out b.next in
    built_same _ _ refl refl (append_assoc a.gates b.gates c.gates)

-- a cell of property 1's chain
pub link_pass : (l : Layout) (s : Slots) (c : Literal) (k m st : ℕ) (e : BoolExpr) (n : ℕ) (xs : List ℤ) (cur : ℕ) → k ≡ 0 → Emits n (link! l s c k m st e n) xs xs cur c cur n
unfolding link!
link_pass l s c k m st e n xs cur z =
    emits_same _ _ (ap (λ (t : Bool). cond t (give c) (status_and_event! l s m st e >>= (λ (x : Literal). and! c (negate x))) n) (sym (eq-eqb k 0 z)))
    (emits_give n c xs cur)

pub link_emits : (l : Layout) (s : Slots) (c : Literal) (k m st : ℕ) (e : BoolExpr) (a b : Literal) {y : Literal} {n : ℕ} {x0 x1 x2 : List ℤ} {c0 c1 c2 v1 v2 : ℕ} → (k ≡ 0 → ⊥) → b ≡ negate a
    → Emits n (status_and_event! l s m st e n) x0 x1 c0 a c1 v1 → Emits v1 (and! c b v1) x1 x2 c1 y c2 v2 → Emits n (link! l s c k m st e n) x0 x2 c0 y c2 v2
unfolding link!
link_emits l s c k m st e a b {n = n} {v1 = v1} z eb w1 w2 =
    emits_same _ _ (ap (λ (t : Bool). cond t (give c) (status_and_event! l s m st e >>= (λ (x : Literal). and! c (negate x))) n) (sym (ne_eqb k 0 z)))
    (emits_bind (status_and_event! l s m st e) (λ (x : Literal). and! c (negate x)) w1 (emits_same _ _ (ap (λ (t : Literal). and! c t v1) eb) w2))

-- the invalid cells
module _ (file : List ℕ) (shape : Shape) (codes : List ℕ) where
  abbrev SL : Slots
  SL = slots_of file shape codes

  pub record Scanning (n₀ : ℕ) (xs₀ : List ℤ) (cur₀ : ℕ) (p : ℕ) (xs : List ℤ) (part : Literal) (cur n i : ℕ) : Type 0 where
    pub within : i ≤ cell_count file
    pub place : p ≡ past_cells file i (cells_offset file)
    pub left : (d : Design) (w : Parts file d) → Left n₀ (no_invalid! (layout_of shape) SL true_literal d.invalid n₀) xs₀ cur₀ n (no_invalid! (layout_of shape) SL part (invalids (drop i w.entries)) n) xs cur (λ (l : Literal). l)

  pub scanning_start : (n : ℕ) (xs : List ℤ) (cur p : ℕ) (part : Literal) → p ≡ cells_offset file → part ≡ true_literal → Scanning n xs cur p xs part cur n 0
  unfolding past_cells
  scanning_start n xs cur p part e q = record {
    within = omega arith;
    place = e;
    left = λ d w. left_same _ _ (ap₂ (λ (ps : List InvalidCell) (l : Literal). no_invalid! (layout_of shape) SL l ps n) (w.invalid ∙ ap invalids (sym (whole w.entries))) (sym q)) (left_start n (no_invalid! (layout_of shape) SL true_literal d.invalid n) xs cur);
  }
    where
      whole : (l : List Entry) → drop 0 l ≡ l
      whole [] = refl
      whole (x ∷ l) = refl

  abbrev none : Entry
  none = invalid (record { matrix = 0; status = 0; event = constant_b false })

  module _ (d : Design) (w : Parts file d) (i : ℕ) (h : i < cell_count file) where
    here : Standing file (event_in w.rows) (past_cells file i (cells_offset file)) (get_or w.entries i none)
    unfolding past_cells
    here = cell_stands file (event_in w.rows) w.entries (cells_offset file) (cells_offset file) (invariant_offset file) w.cell_run i (omega (arith, w.cell_count_lem)) none

    cons : drop i w.entries ≡ get_or w.entries i none ∷ drop (i + 1) w.entries
    cons = rw (add-one, drop-cons w.entries i none (omega (arith, w.cell_count_lem)))

  pub scan_fields : (d : Design) (w : Parts file d) (p i : ℕ) → i < cell_count file → p ≡ past_cells file i (cells_offset file) → CellFields file p
  scan_fields d w p i h e = subst (CellFields file) (sym e) (cell_fields file (event_in w.rows) (past_cells file i (cells_offset file)) (get_or w.entries i none) (here d w i h))

  -- a cell and the cells after it
  link_is : (l : Layout) (s : Slots) (c : Literal) (f : ℕ → ℕ → BoolExpr) (p : ℕ) (x : Entry) (xs : List Entry) → EntryRead file (items_end file) (names file) (matrices_offset file) f p (c_kind file p) x → (n : ℕ)
      → no_invalid! l s c (invalids (x ∷ xs)) n ≡ (link! l s c (c_kind file p) (c_matrix file p) (c_status file p) (f (c_matrix file p) (c_event file p)) >>= (λ (y : Literal). no_invalid! l s y (invalids xs))) n
  unfolding no_invalid! link! ◌>>=◌ give
  link_is l s c f p (normal q) xs r n = ap (λ (t : Bool). (cond t (give c) (status_and_event! l s (c_matrix file p) (c_status file p) (f (c_matrix file p) (c_event file p)) >>= (λ (x : Literal). and! c (negate x))) >>= (λ (y : Literal). no_invalid! l s y (invalids xs))) n) (sym (eq-eqb _ _ r.0))
  link_is l s c f p (invalid q) xs r n =
      let same : status_and_event! l s q.matrix q.status q.event ≡ status_and_event! l s (c_matrix file p) (c_status file p) (f (c_matrix file p) (c_event file p)) =
      ap₂ (λ (a b : ℕ). status_and_event! l s a b q.event) r.1.matrix r.1.status ∙ ap (status_and_event! l s (c_matrix file p) (c_status file p)) r.1.event in
      ap (λ (m : Build Literal). (m >>= (λ (x : Literal). and! c (negate x) >>= (λ (y : Literal). no_invalid! l s y (invalids xs)))) n) same
      ∙ sym (bind_assoc (status_and_event! l s (c_matrix file p) (c_status file p) (f (c_matrix file p) (c_event file p))) (λ (x : Literal). and! c (negate x)) (λ (y : Literal). no_invalid! l s y (invalids xs)) n)
      ∙ ap (λ (t : Bool). (cond t (give c) (status_and_event! l s (c_matrix file p) (c_status file p) (f (c_matrix file p) (c_event file p)) >>= (λ (x : Literal). and! c (negate x))) >>= (λ (y : Literal). no_invalid! l s y (invalids xs))) n) (sym (ne_eqb _ _ r.0))

  module _ {n₀ : ℕ} {xs₀ : List ℤ} {cur₀ p : ℕ} {xs : List ℤ} (part : Literal) {cur n i : ℕ} (h : i < cell_count file) (k : Scanning n₀ xs₀ cur₀ p xs part cur n i) (p' : ℕ) (e : p' ≡ c_past file p) where
    next_place : p' ≡ past_cells file (i + 1) (cells_offset file)
    unfolding past_cells
    next_place = e ∙ ap (c_past file) k.place ∙ ap (λ (j : ℕ). past_cells file j (cells_offset file)) (sym (add-one i))

    pub scanning_on : {ys : List ℤ} (y : Literal) {c1 v1 : ℕ}
        → ((d : Design) (w : Parts file d) → Emits n (link! (layout_of shape) SL part (c_kind file p) (c_matrix file p) (c_status file p) (event_in w.rows (c_matrix file p) (c_event file p)) n) xs ys cur y c1 v1) → Scanning n₀ xs₀ cur₀ p' ys y c1 v1 (i + 1)
    scanning_on y e1 = record {
      within = omega arith;
      place = next_place;
      left = λ d w.
          let f = event_in w.rows in
          let rest = drop (i + 1) w.entries in
          let P = past_cells file i (cells_offset file) in
          let built = ap (λ (ps : List InvalidCell). no_invalid! (layout_of shape) SL part ps n) (ap invalids (cons d w i h))
          ∙ link_is (layout_of shape) SL part f P (get_or w.entries i none) rest (here d w i h).1.entry n
          ∙ ap (λ (j : ℕ). (link! (layout_of shape) SL part (c_kind file j) (c_matrix file j) (c_status file j) (f (c_matrix file j) (c_event file j)) >>= (λ (y : Literal). no_invalid! (layout_of shape) SL y (invalids rest))) n) (sym k.place) in
          left_on (link! (layout_of shape) SL part (c_kind file p) (c_matrix file p) (c_status file p) (f (c_matrix file p) (c_event file p))) (λ (y : Literal). no_invalid! (layout_of shape) SL y (invalids rest)) (left_same _ _ built (k.left d w)) (e1 d w);
    }

  pub scanning_end : {n₀ : ℕ} {xs₀ : List ℤ} {cur₀ p : ℕ} {xs : List ℤ} (part : Literal) {cur n i : ℕ} → cell_count file ≤ i → Scanning n₀ xs₀ cur₀ p xs part cur n i
      → (d : Design) (w : Parts file d) → Emits n₀ (no_invalid! (layout_of shape) SL true_literal d.invalid n₀) xs₀ xs cur₀ part cur n
  unfolding no_invalid!
  scanning_end part {n = n} {i = i} h k d w = left_end part (left_same _ _ (ap (λ (es : List Entry). no_invalid! (layout_of shape) SL part (invalids es) n) (drop_all w.entries i (omega (arith, w.cell_count_lem)))) (k.left d w))

-- where a property has no gates
pub gives_true : (b : Build Literal) → b ≡ give true_literal → {pen : Cursor} {xs : List ℤ} (r : Out ℕ) → (from_code r.value ≡ true_literal) × (r.pen ≡ pen) → Gives pen b xs xs r
gives_true b e {pen} {xs} r (l, q) =
    let one = emits_same _ _ (ap (λ (x : Build Literal). x pen.var) (sym e)) (emits_give pen.var true_literal xs pen.cur) in
    emits_result _ (sym l)
    (subst (λ (k : Cursor). Emits pen.var (b pen.var) xs xs pen.cur true_literal k.cur k.var) (sym q) one)

module _ (file piece : List ℕ) (d : Design) (s : Slots) where
  pub property_none : (p : ℕ) → (p ≡ 0 → ⊥) → (p ≡ 1 → ⊥) → property! d (property_of file piece d p) s ≡ give true_literal
  unfolding property! property_of
  property_none zero h z = absurd (h refl)
  property_none (suc zero) h z = absurd (z refl)
  property_none (suc (suc p)) h z = refl

  property_0 : (p : ℕ) → p ≡ 0 → unmarked! d s (test! (layout d) s (expression_of file piece d)) ≡ property! d (property_of file piece d p) s
  unfolding property! property_of
  property_0 zero e = refl
  property_0 (suc p) e = absurd (omega arith)

  property_1 : (p : ℕ) → p ≡ 1 → unmarked! d s (no_invalid! (layout d) s true_literal d.invalid) ≡ property! d (property_of file piece d p) s
  unfolding property! property_of
  property_1 zero e = absurd (omega arith)
  property_1 (suc zero) e = refl
  property_1 (suc (suc p)) e = absurd (omega arith)

  module _ (next : Slots) where
    pub step_property_none : (p : ℕ) → p < 2 → step_property! d (property_of file piece d p) s next ≡ give true_literal
    unfolding step_property! property_of
    step_property_none zero h = refl
    step_property_none (suc zero) h = refl
    step_property_none (suc (suc p)) h = absurd (omega arith)

    step_property_is_lem : (p : ℕ) → 2 ≤ p → unmarked! d next (test! (layout d) (s ++ next) d.constraint) ≡ step_property! d (property_of file piece d p) s next
    unfolding step_property! property_of
    step_property_is_lem zero h = absurd (omega arith)
    step_property_is_lem (suc zero) h = absurd (omega arith)
    step_property_is_lem (suc (suc p)) h = refl

-- a property's end: x is its literal so far, `mark` the code of the mark
pub unmarked_gives : (d : Design) (s : Slots) (property : Build Literal) {pen : Cursor} {xs ys zs : List ℤ} (x r : Out ℕ) (mark : ℕ) → from_code mark ≡ mark_at (layout d) s → Gives pen property xs ys x
    → Gives x.pen (and! (from_code x.value) (negate (from_code mark))) ys zs r → Gives pen (unmarked! d s property) xs zs r
unfolding unmarked!
unmarked_gives d s property x r mark e w u =
    emits_bind property (λ (y : Literal). and! y (negate (mark_at (layout d) s))) w (emits_same _ _ (ap (λ (l : Literal). and! (from_code x.value) (negate l) x.pen.var) e) u)

-- the mark of the later one of two states
later_mark : (l : Layout) (s next : Slots) → length s ≡ l.end → boolean_at (s ++ next) (later_slot l l.mark) ≡ mark_at l next
later_mark l s next e = ap lowest (ap (λ (k : ℕ). get_or (s ++ next) (k + l.mark) []) (sym e) ∙ get_or-append-add s next l.mark [])

slots_length : (v : ℕ) (ws : List ℕ) → length (slots_from v ws) ≡ length ws
slots_length v [] = refl
slots_length v (w ∷ ws) = ap suc (slots_length (v + w) ws)

-- the expressions of an accepted file, and the layout
module _ {file : List ℕ} {shape : Shape} (h : ShapedFile file shape) where
  pub layout_is : (d : Design) (w : Parts file d) → layout d ≡ layout_of shape
  layout_is d w = sym (layout-by-counts file d w shape.variables shape.matrices h.counts.variables h.counts.matrices)

  -- a state's slots: as many as the layout has
  pub state_length : (d : Design) (w : Parts file d) (v : ℕ) → length (state_at d v) ≡ (layout d).end
  unfolding state_at
  state_length d w v =
      slots_length v (widths d) ∙ ap length (sym (widths-by-bytes file d w shape.variables shape.matrices h.counts.variables h.counts.matrices))
      ∙ widths_length file shape.variables shape.matrices ∙ ap (λ (l : Layout). l.end) (sym (layout_is d w))

  pub cell_in : (p i : ℕ) → i < cell_count file → p ≡ past_cells file i (cells_offset file) → CellFields file p
  cell_in p i l e = let t = read file h.accepted in scan_fields file shape [] t.tree t.all.parts p i l e

  -- A property's gates over the literals of a state, whose mark's code is `mark`; x is what comes before its end.
  module _ (piece codes : List ℕ) (p mark : ℕ) (k : from_code mark ≡ mark_at (layout_of shape) (slots_of file shape codes)) (d : Design) (w : Parts file d) where
    mark_here : from_code mark ≡ mark_at (layout d) (slots_of file shape codes)
    mark_here = k ∙ ap (λ (l : Layout). mark_at l (slots_of file shape codes)) (sym (layout_is d w))

    pub property_1_gives : p ≡ 1 → {pen : Cursor} {xs ys zs : List ℤ} (x r : Out ℕ) → Gives pen (no_invalid! (layout_of shape) (slots_of file shape codes) true_literal d.invalid) xs ys x
        → Gives x.pen (and! (from_code x.value) (negate (from_code mark))) ys zs r → Gives pen (property! d (property_of file piece d p) (slots_of file shape codes)) xs zs r
    property_1_gives z {pen} x r g u =
        emits_same _ _ (ap (λ (b : Build Literal). b pen.var) (property_1 file piece d (slots_of file shape codes) p z))
        (unmarked_gives d (slots_of file shape codes) _ x r mark mark_here (emits_same _ _ (ap (λ (l : Layout). no_invalid! l (slots_of file shape codes) true_literal d.invalid pen.var) (sym (layout_is d w))) g) u)

    property_0_gives : p ≡ 0 → {pen : Cursor} {xs ys zs : List ℤ} (x r : Out ℕ) → Gives pen (test! (layout_of shape) (slots_of file shape codes) (expression_of file piece d)) xs ys x
        → Gives x.pen (and! (from_code x.value) (negate (from_code mark))) ys zs r → Gives pen (property! d (property_of file piece d p) (slots_of file shape codes)) xs zs r
    property_0_gives z {pen} x r g u =
        emits_same _ _ (ap (λ (b : Build Literal). b pen.var) (property_0 file piece d (slots_of file shape codes) p z))
        (unmarked_gives d (slots_of file shape codes) _ x r mark mark_here (emits_same _ _ (ap (λ (l : Layout). test! l (slots_of file shape codes) (expression_of file piece d) pen.var) (sym (layout_is d w))) g) u)

  -- the gates of property 0's expression, in the piece or in the file
  module _ (piece : List ℕ) (p : ℕ) (right : piece_right file piece p ≡ true) (z : p ≡ 0) (text : List ℕ) (e : text ≡ expression_text file piece) where
    text_got : (d : Design) (w : Parts file d) → bool_expr text (names_of file shape) (length text) max_depth 0 ≡ got (expression_of file piece d) (length text)
    text_got = expression_got file piece h.accepted (ap (piece_right file piece) (sym z) ∙ right) shape h.counts text e

    pub expression_here : BoolHere text file shape false 0
    expression_here =
        let t = read file h.accepted in
        record { end = length text; levels = max_depth; inside = omega arith; read = record { tree = expression_of file piece t.tree; past = length text; reads = text_got t.tree t.all.parts } }

    pub expression_gives : (codes : List ℕ) {pen : Cursor} {xs ys zs : List ℤ} (x r : Out ℕ) (mark : ℕ) → from_code mark ≡ mark_at (layout_of shape) (slots_of file shape codes) → TestEncoded text file shape false codes 0 pen xs ys x
        → Gives x.pen (and! (from_code x.value) (negate (from_code mark))) ys zs r
        → (d : Design) (w : Parts file d) → Gives pen (property! d (property_of file piece d p) (slots_of file shape codes)) xs zs r
    expression_gives codes x r mark k t u d w = property_0_gives piece codes p mark k d w z x r (t (length text) max_depth _ _ (omega arith) (text_got d w)) u

  -- the constraint's gates, over two states
  module _ (c : has_constraint file ≡ true) (at : ℕ) (a : at ≡ constraint_offset file) where
    constraint_got : (d : Design) (w : Parts file d) → bool_expr file (with_later true (names_of file shape)) (items_end file) max_depth at ≡ got d.constraint (items_end file)
    constraint_got d w = indexed.constraint_got file h.accepted shape h.counts at (items_end file) a refl d w c

    pub constraint_here : BoolHere file file shape true at
    constraint_here =
        let t = read file h.accepted in
        record { end = items_end file; levels = max_depth; inside = omega arith; read = record { tree = t.tree.constraint; past = items_end file; reads = constraint_got t.tree t.all.parts } }

    pub constraint_gives : (codes : List ℕ) {pen : Cursor} {xs ys : List ℤ} (r : Out ℕ) → TestEncoded file file shape true codes at pen xs ys r
        → (d : Design) (w : Parts file d) → Gives pen (test! (layout_of shape) (read_slots true file shape codes) d.constraint) xs ys r
    constraint_gives codes r t d w = t (items_end file) max_depth _ _ (omega arith) (constraint_got d w)

  pub step_property_gives : (p : ℕ) → 2 ≤ p → (codes : List ℕ) {pen : Cursor} {xs ys zs : List ℤ} (x r : Out ℕ) (mark : ℕ) → from_code mark ≡ boolean_at (read_slots true file shape codes) (later_slot (layout_of shape) (layout_of shape).mark)
      → ((d : Design) (w : Parts file d) → Gives pen (test! (layout_of shape) (read_slots true file shape codes) d.constraint) xs ys x)
      → Gives x.pen (and! (from_code x.value) (negate (from_code mark))) ys zs r
      → (d : Design) (w : Parts file d) (piece : List ℕ) (v after : ℕ) → read_slots true file shape codes ≡ state_at d v ++ state_at d after
      → Gives pen (step_property! d (property_of file piece d p) (state_at d v) (state_at d after)) xs zs r
  step_property_gives p l codes {pen = pen} x r mark k t u d w piece v after e =
      let s = state_at d v in
      let next = state_at d after in
      let q : from_code mark ≡ mark_at (layout d) next = k ∙ ap₂ (λ (z : Slots) (y : Layout). boolean_at z (later_slot y y.mark)) e (sym (layout_is d w)) ∙ later_mark (layout d) s next (state_length d w v) in
      emits_same _ _ (ap (λ (b : Build Literal). b pen.var) (step_property_is_lem file piece d s next p l))
      (unmarked_gives d next (test! (layout d) (s ++ next) d.constraint) x r mark q (emits_same _ _ (ap₂ (λ (y : Layout) (z : Slots). test! y z d.constraint pen.var) (sym (layout_is d w)) e) (t d w)) u)

  pub mover_total : {cells : List ℕ} → CellsIndexed file cells shape.normals → (d : Design) (w : Parts file d) → length (movers d) ≡ shape.normals + shape.externals
  mover_total x d w = omega (arith, mover_count file d w, x.count, h.externals, ap (λ (n : ℕ). length (externals_from file 0 n)) h.counts.variables)
