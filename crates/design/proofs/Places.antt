-- What stands at the positions that the tables hold: the walk of each item succeeds there and gives the item of the tree. Assumes nothing.
use mathlib.Core.Path.{◌≡◌, refl, sym, ap, subst, ◌∙◌}
use mathlib.Core.Bool.{false, ◌&&◌}
use mathlib.Core.List.{List, [], ◌∷◌}
use Prim.Native.Nat.{ℕ, zero, suc, ◌+◌, ◌*◌, ◌<◌, ◌≤◌}
use native.Mathlib.Omega.{arith}
use native.Mathlib.Numerals.{add-one}
use lib.ListN.{get_or, length}
use lib.Dec.{leb, ltb}
use borrow.Author.Tests.{eq-eqb, ne_eqb}
use Rattle.design.specs.Tree.{BoolExpr, constant_b, Cell, Design}
use Rattle.design.specs.Limits.{max_statuses, max_events}
use Rattle.design.specs.Expression.{Names}
use Rattle.design.specs.DesignFile.{item, need, Matrix, Entry, normal, invalid, matrix_at, event_at, fields, ordered, ending, statuses, events, at8, c_matrix, c_status, c_event, c_kind, c_past}
use Rattle.design.specs.Check.{check, accepted, normals, items_end, matrices_offset, matrix_count, events_offset, cells_offset, cell_count, invariant_offset, names, event_in}
use Rattle.design.specs.Places.{Accepted, past_events, past_cells, events_start, event_place, normals_from, normal_places}
use Rattle.design.specs.Sections.{Run, Rows, Cells, Parts, EventRead, CellRead, Standing, CellFields}
use Rattle.design.proofs.Sections.{Whole, whole, need_inv, and_inv}
use Rattle.design.proofs.Positions.{event_reads, cell_reads, matrix_stands}
use Rattle.design.proofs.Numbers.{zero_accepted}
use Rattle.design.proofs.Items.{matrix_ends}
use Rattle.design.specs.Answers.{walked}
use borrow.Author.Tests.{leb-true, ltb-true}

-- the tree of an accepted file, and all that is known of it
pub record Read (file : List ℕ) : Type 0 where
  pub tree : Design
  pub is : check file ≡ accepted tree
  pub all : Whole file tree

pub read : (file : List ℕ) → Accepted file → Read file
read file h = let (d, e) = zero_accepted file h in record { tree = d; is = e; all = whole file d e }

module _ (file : List ℕ) where
  abbrev E : ℕ
  E = items_end file

  abbrev N : Names
  N = names file

  events_front : (n at : ℕ) → past_events file n (at + 1 + at8 file at) ≡ past_events file (suc n) at
  unfolding past_events
  events_front zero at = refl
  events_front (suc n) at = ap (λ (p : ℕ). p + 1 + at8 file p) (events_front n at)

  cells_front : (n at : ℕ) → past_cells file n (c_past file at) ≡ past_cells file (suc n) at
  unfolding past_cells
  cells_front zero at = refl
  cells_front (suc n) at = ap (c_past file) (cells_front n at)

  -- event i of a row
  row_event : (row : List BoolExpr) (at past : ℕ) → Run (event_at file E N) at row past → (i : ℕ) → i < length row → (x : BoolExpr) → event_at file E N (past_events file i at) ≡ item (get_or row i x) (past_events file (suc i) at)
  unfolding past_events
  row_event [] at past r i h x = absurd (omega arith)
  row_event (y ∷ ys) at past r zero h x = r.1 ∙ ap (item y) (event_reads file E N at y r.0 r.1).past
  row_event (y ∷ ys) at past r (suc i) h x =
      let q = (event_reads file E N at y r.0 r.1).past in
      let t = row_event ys r.0 past r.2 i (omega arith) x in
      let g : (j : ℕ) → past_events file j r.0 ≡ past_events file (suc j) at = λ j. ap (past_events file j) q ∙ events_front j at in
      sym (ap (event_at file E N) (g i)) ∙ t ∙ ap (item (get_or ys i x)) (g (suc i))

  row_past : (row : List BoolExpr) (at past : ℕ) → Run (event_at file E N) at row past → past ≡ past_events file (length row) at
  unfolding past_events
  row_past [] at past r = sym r
  row_past (y ∷ ys) at past r =
      let q = (event_reads file E N at y r.0 r.1).past in
      row_past ys r.0 past r.2 ∙ ap (past_events file (length ys)) q ∙ events_front (length ys) at

  -- the row of matrix m + i
  rows_row : (rows : List (List BoolExpr)) (m at past : ℕ) → Rows file m at rows past → at ≡ events_start file m → (i k : ℕ) → k ≡ m + i → i < length rows → (length (get_or rows i []) ≡ events file (matrices_offset file) k) × (n : ℕ) × Run (event_at file E N) (events_start file k) (get_or rows i []) n
  unfolding events_start
  rows_row [] m at past r e i k q h = absurd (omega arith)
  rows_row (x ∷ xs) m at past r e zero k q h =
      let p : m ≡ k = omega arith in
      (r.1 ∙ ap (events file (matrices_offset file)) p, r.0, subst (λ (j : ℕ). Run (event_at file E N) j x r.0) (e ∙ ap (events_start file) p) r.2)
  rows_row (x ∷ xs) m at past r e (suc i) k q h =
      rows_row xs (m + 1) r.0 past r.3 (row_past x at r.0 r.2 ∙ ap (λ (j : ℕ). past_events file j at) r.1 ∙ ap (past_events file (events file (matrices_offset file) m)) e ∙ ap (events_start file) (sym (add-one m))) i k (omega arith) (omega arith)

  -- cell i
  pub cell_stands : (f : ℕ → ℕ → BoolExpr) (es : List Entry) (before at past : ℕ) → Cells file f before at es past → (i : ℕ) → i < length es → (x : Entry) → (b : ℕ) × CellRead file E N (matrices_offset file) f b (past_cells file i at) (get_or es i x) (past_cells file (suc i) at)
  unfolding past_cells
  cell_stands f [] before at past r i h x = absurd (omega arith)
  cell_stands f (y ∷ ys) before at past r zero h x =
      let c = cell_reads file E N (matrices_offset file) f before at y r.0 r.1 in
      (before, subst (CellRead file E N (matrices_offset file) f before at y) c.past c)
  cell_stands f (y ∷ ys) before at past r (suc i) h x =
      let q = (cell_reads file E N (matrices_offset file) f before at y r.0 r.1).past in
      let t = cell_stands f ys at r.0 past r.2 i (omega arith) x in
      let g : (j : ℕ) → past_cells file j r.0 ≡ past_cells file (suc j) at = λ j. ap (past_cells file j) q ∙ cells_front j at in
      (t.0, subst (λ (p : ℕ). CellRead file E N (matrices_offset file) f t.0 p (get_or ys i x) (c_past file p)) (g i) t.1)

  pub cell_fields : (f : ℕ → ℕ → BoolExpr) (p : ℕ) (x : Entry) → Standing file f p x → CellFields file p
  cell_fields f p x (b, c) =
      let i = c.inside in
      let t = (and_inv (fields file (matrices_offset file) N.matrices p) (ordered file b p) c.right).0 in
      let m = ltb (c_matrix file p) N.matrices in
      let s = ltb (c_status file p) (statuses file (matrices_offset file) (c_matrix file p)) in
      let e = ltb (c_event file p) (events file (matrices_offset file) (c_matrix file p)) in
      let u = (and_inv (m && s && e) (ending file (matrices_offset file) p (c_kind file p)) t).0 in
      let v = and_inv (m && s) e u in
      let w = and_inv m s v.0 in
      record { matrix = ltb-true _ _ w.0; status = ltb-true _ _ w.1; event = ltb-true _ _ v.1; header = omega arith; past = i }

  -- the normal cells
  pub record Normals (f : ℕ → ℕ → BoolExpr) (places : List ℕ) (cs : List Cell) : Type 0 where
    pub count : length places ≡ length cs
    pub reads : (j : ℕ) → j < length cs → (c : Cell) → Standing file f (get_or places j 0) (normal (get_or cs j c))

  normals_none : (f : ℕ → ℕ → BoolExpr) → Normals f [] []
  normals_none f = record { count = refl; reads = λ j h c. absurd (omega arith) }

  normals_more : (f : ℕ → ℕ → BoolExpr) (p : ℕ) (c : Cell) (ps : List ℕ) (cs : List Cell) → Standing file f p (normal c) → Normals f ps cs → Normals f (p ∷ ps) (c ∷ cs)
  normals_more f p c ps cs r h = record { count = ap suc h.count; reads = go }
    where
      go : (j : ℕ) → j < length (c ∷ cs) → (x : Cell) → Standing file f (get_or (p ∷ ps) j 0) (normal (get_or (c ∷ cs) j x))
      go zero l x = r
      go (suc j) l x = h.reads j (omega arith) x

  normals_stand : (f : ℕ → ℕ → BoolExpr) (es : List Entry) (before at past : ℕ) → Cells file f before at es past → Normals f (normals_from file (length es) at) (normals es)
  unfolding normals_from
  normals_stand f [] before at past r = normals_none f
  normals_stand f (normal c ∷ ys) before at past r =
      let q = cell_reads file E N (matrices_offset file) f before at (normal c) r.0 r.1 in
      let t = subst (λ (p : ℕ). Normals f (normals_from file (length ys) p) (normals ys)) q.past (normals_stand f ys at r.0 past r.2) in
      rw (eq-eqb _ _ q.entry.0) (normals_more f at c _ _ (before, subst (CellRead file E N (matrices_offset file) f before at (normal c)) q.past q) t)
  normals_stand f (invalid p ∷ ys) before at past r =
      let q = cell_reads file E N (matrices_offset file) f before at (invalid p) r.0 r.1 in
      let t = subst (λ (p : ℕ). Normals f (normals_from file (length ys) p) (normals ys)) q.past (normals_stand f ys at r.0 past r.2) in
      rw (ne_eqb _ _ q.entry.0) t

  module _ (d : Design) (w : Parts file d) where
    -- event e of matrix m
    pub event_count : (m : ℕ) → m < matrix_count file → length (get_or w.rows m []) ≡ events file (matrices_offset file) m
    unfolding events_start
    event_count m h = (rows_row w.rows 0 (events_offset file) (cells_offset file) w.row_run refl m m (omega arith) (omega (arith, w.row_count))).0

    pub event_stands : (m e : ℕ) → m < matrix_count file → e < events file (matrices_offset file) m → EventRead file E N (event_place file m e) (event_in w.rows m e) (past_events file (suc e) (events_start file m))
    unfolding events_start
    event_stands m e h k =
        let (c, n, r) = rows_row w.rows 0 (events_offset file) (cells_offset file) w.row_run refl m m (omega arith) (omega (arith, w.row_count)) in
        event_reads file E N _ _ _ (row_event (get_or w.rows m []) (events_start file m) n r e (omega arith) (constant_b false))

    pub matrix_inside : (m : ℕ) → m < matrix_count file → matrices_offset file + 2 * m + 2 ≤ E
    matrix_inside m h = (matrix_ends file E _ _ (sym (ap walked (matrix_stands file d w m h (record { statuses = 0; events = 0 }))))).1

    pub events_few : (m : ℕ) → m < matrix_count file → events file (matrices_offset file) m ≤ max_events
    unfolding matrix_at
    events_few m h =
        let none : Matrix = record { statuses = 0; events = 0 } in
        let at = matrices_offset file + 2 * m in
        let few = leb (at8 file (at + 1)) max_events in
        let others = leb 1 (at8 file at) && leb (at8 file at) max_statuses && leb 1 (at8 file (at + 1)) in
        let t = need_inv (leb (at + 2) E) 4 at (need (others && few) 6 at (item (record { statuses = at8 file at; events = at8 file (at + 1) }) (at + 2))) _ _ (matrix_stands file d w m h none) in
        let u = need_inv (others && few) 6 at (item (record { statuses = at8 file at; events = at8 file (at + 1) }) (at + 2)) _ _ t.1 in
        leb-true (at8 file (at + 1)) max_events (and_inv others few u.0).1

    -- the normal cells, in the tree's order
    pub normal_stands : Normals (event_in w.rows) (normal_places file) d.cells
    normal_stands =
        subst (λ (n : ℕ). Normals (event_in w.rows) (normals_from file n (cells_offset file)) d.cells) w.cell_count_lem
        (subst (λ (cs : List Cell). Normals (event_in w.rows) (normals_from file (length w.entries) (cells_offset file)) cs) (sym w.cells)
        (normals_stand (event_in w.rows) w.entries (cells_offset file) (cells_offset file) (invariant_offset file) w.cell_run))

    pub cell_inside : (i : ℕ) → i < cell_count file → (past_cells file i (cells_offset file) + 8 ≤ E) × (past_cells file (suc i) (cells_offset file) ≤ E)
    unfolding past_cells
    cell_inside i h =
        let none : Entry = invalid (record { matrix = 0; status = 0; event = constant_b false }) in
        let (b, c) = cell_stands (event_in w.rows) w.entries (cells_offset file) (cells_offset file) (invariant_offset file) w.cell_run i (omega (arith, w.cell_count_lem)) none in
        let k = c.inside in
        (omega arith, k)
