-- The sizes of an accepted design and a property of it: its state bits, its movers, and its gates of a frame, at most `most_gates`. So n is at most `most_variables` for any bound (Limits).
use Rattle.std.proofs.Common.{◌≡◌, ℕ, zero, suc, ◌+◌, ◌*◌, ◌<◌, ◌≤◌, Bool, true, false, List, [], ◌∷◌, ◌++◌, map, length, get_or, replicate, sym, refl, ap, ◌∙◌, arith}
use lib.ListN.{length-map}
use Rattle.design.specs.Tree.{BoolExpr, constant_b, Kind, boolean, integer, external, Variable, Cell, InvalidCell, Design, Mover, cell, raise, if_external, externals, movers}
use Rattle.design.specs.State.{width, status_width, mark_width, widths}
use Rattle.design.specs.Limits.{max_variables, max_cells, max_movers, max_depth, max_nest, max_bits}
use Rattle.design.specs.Expression.{Names, with_later, bool_expr}
use Rattle.design.specs.DesignFile.{item, Matrix, Entry, normal, invalid, event_at, guard, c_matrix, c_event, c_guard, c_middle, c_past, c_kind, cell_at}
use Rattle.design.specs.Check.{Checked, check, normals, invalids, items_end, has_constraint, constraint_offset, matrices_offset, events_offset, cells_offset, invariant_offset, names, event_in, refusal}
use Rattle.design.specs.Places.{Accepted}
use Rattle.design.specs.Sections.{Run, Rows, Cells, EntryRead}
use Rattle.design.proofs.Sections.{item_same, filling_inv, items_before, Whole, whole}
use Rattle.design.proofs.Widths.{total_append, statuses_total}
use Rattle.design.proofs.Positions.{event_reads, cell_reads, expressions_order, invariant_stands, constraint_stands, constraint_none}
use Rattle.step.specs.Piece.{piece_right, expression_of}
use Rattle.step.specs.Ready.{expression_text}
use Rattle.step.specs.Property.{Property, property_of}
use Rattle.step.proofs.Pieces.{text_got, text_short}
use Rattle.clauses.specs.Formula.{total, S, w}
use Rattle.clauses.specs.Cost.{gates_in, bool_cost, enable_cost, effect_cost, mover_cost, movers_cost, invalid_cost, property_cost, step_property_cost, step_cost}
use Rattle.clauses.specs.Limits.{gates_of_byte, gates_of_event, text_gates, most_gates}
use Rattle.clauses.proofs.Bytes.{bool_bytes, list_bytes}

-- an event has at most 255 bytes
abbrev Cheap : BoolExpr → Type 0
Cheap e = gates_in (bool_cost false e) ≤ gates_of_event

abbrev AllCheap : List BoolExpr → Type 0
AllCheap [] = Unit {0}
AllCheap (e ∷ es) = Cheap e × AllCheap es

abbrev RowsCheap : List (List BoolExpr) → Type 0
RowsCheap [] = Unit {0}
RowsCheap (r ∷ rs) = AllCheap r × RowsCheap rs

constant_cheap : Cheap (constant_b false)
unfolding bool_cost
constant_cheap = omega arith

event_cheap : (row : List BoolExpr) (e : ℕ) → AllCheap row → Cheap (get_or row e (constant_b false))
event_cheap [] e h = constant_cheap
event_cheap (x ∷ xs) zero h = h.0
event_cheap (x ∷ xs) (suc e) h = event_cheap xs e h.1

row_cheap : (rows : List (List BoolExpr)) (m : ℕ) → RowsCheap rows → AllCheap (get_or rows m [])
row_cheap [] m h = tt
row_cheap (r ∷ rs) zero h = h.0
row_cheap (r ∷ rs) (suc m) h = row_cheap rs m h.1

-- the slots' bits
variables_total : (vs : List Variable) → total (map (λ (x : Variable). width x.kind) vs) ≤ 16 * length vs
variables_total [] = omega arith
variables_total (x ∷ xs) = let h = variables_total xs in let k = narrow x.kind in omega arith
  where
    narrow : (k : Kind) → width k ≤ 16
    narrow boolean = omega arith
    narrow integer = omega arith
    narrow external = omega arith

-- movers one after the other
movers_append : (bits : ℕ) (xs ys : List Mover) → gates_in (movers_cost bits (xs ++ ys)) ≡ gates_in (movers_cost bits xs) + gates_in (movers_cost bits ys)
unfolding movers_cost
movers_append bits [] ys = omega arith
movers_append bits (x ∷ xs) ys = let h = movers_append bits xs ys in omega arith

raises_cost : (bits : ℕ) → bits ≤ max_bits → (vs : List Variable) (v : ℕ) → gates_in (movers_cost bits (externals v vs)) ≤ max_bits * length vs
unfolding movers_cost mover_cost enable_cost effect_cost
raises_cost bits few [] v = omega arith
raises_cost bits few (x ∷ xs) v = go x.kind (raises_cost bits few xs (suc v))
  where
    go : (k : Kind) → gates_in (movers_cost bits (externals (suc v) xs)) ≤ max_bits * length xs
        → gates_in (movers_cost bits (if_external k (raise v ∷ externals (suc v) xs) (externals (suc v) xs))) ≤ max_bits * suc (length xs)
    go boolean h = omega arith
    go integer h = omega arith
    go external h = omega arith

module _ (file : List ℕ) (bytes : (i : ℕ) → get_or file i 0 < 256) where
  abbrev E : ℕ
  E = items_end file

  abbrev N : Names
  N = names file

  events_cheap : (row : List BoolExpr) (at past : ℕ) → Run (event_at file E N) at row past → AllCheap row
  events_cheap [] at past r = tt
  events_cheap (x ∷ xs) at past r =
      let e = event_reads file E N at x r.0 r.1 in
      (omega (arith, (bool_bytes file N r.0 false max_depth (at + 1)).of x r.0 e.reads, e.past, bytes at), events_cheap xs r.0 past r.2)

  rows_cheap : (rows : List (List BoolExpr)) (m at past : ℕ) → Rows file m at rows past → RowsCheap rows
  rows_cheap [] m at past r = tt
  rows_cheap (x ∷ xs) m at past r = (events_cheap x at r.0 r.2, rows_cheap xs (m + 1) r.0 past r.3)

  guard_bytes : (at k : ℕ) (g : BoolExpr) (n : ℕ) → guard file E N at k ≡ item g n → gates_in (bool_cost false g) + gates_of_byte * (at + 8) ≤ gates_of_byte * c_middle file at
  unfolding bool_cost
  guard_bytes at zero g n e =
      let q : constant_b true ≡ g = item_same _ _ _ _ e in
      let z : gates_in (bool_cost false g) ≡ 0 = ap (λ x. gates_in (bool_cost false x)) (sym q) in
      omega arith
  guard_bytes at (suc k) g n e =
      (bool_bytes file N (c_middle file at) false max_depth (at + 8)).of g (c_middle file at)
      (filling_inv 8 at (c_middle file at) (bool_expr file N (c_middle file at) max_depth (at + 8)) g n e).0

  module _ (bits : ℕ) (few : bits ≤ max_bits) (f : ℕ → ℕ → BoolExpr) (cheap : (m e : ℕ) → Cheap (f m e)) where
    -- the gates of a cell's mover, or of an invalid cell in property 1
    abbrev entry_gates : Entry → ℕ
    entry_gates (normal c) = gates_in (mover_cost bits (cell c))
    entry_gates (invalid p) = gates_in (invalid_cost (p ∷ []))

    entry_bytes : (at : ℕ) (x : Entry) → EntryRead file E N (matrices_offset file) f at (c_kind file at) x → entry_gates x + gates_of_byte * at ≤ gates_of_byte * c_past file at + gates_of_event
    unfolding mover_cost enable_cost effect_cost invalid_cost
    entry_bytes at (normal c) r =
        let e = cheap (c_matrix file at) (c_event file at) in
        let q = ap (λ x. gates_in (bool_cost false x)) r.1.event in
        let g = guard_bytes at (c_guard file at) c.guard (c_middle file at) r.1.guard in
        let a = (list_bytes file N (c_past file at) bits few max_nest (c_middle file at)).of c.action (c_past file at) r.1.action in
        omega arith
    entry_bytes at (invalid p) r =
        let e = cheap (c_matrix file at) (c_event file at) in
        let q = ap (λ x. gates_in (bool_cost false x)) r.1.event in
        omega arith

    cell_bytes : (before at : ℕ) (x : Entry) (n : ℕ) → cell_at file E N (matrices_offset file) f before at ≡ item x n → entry_gates x + gates_of_byte * at ≤ gates_of_byte * n + gates_of_event
    cell_bytes before at x n e =
        let r = cell_reads file E N (matrices_offset file) f before at x n e in
        rw r.past (entry_bytes at x r.entry)

    cells_bytes : (es : List Entry) (before at past : ℕ) → Cells file f before at es past
        → gates_in (movers_cost bits (map cell (normals es))) + gates_in (invalid_cost (invalids es)) + gates_of_byte * at ≤ gates_of_byte * past + gates_of_event * length es
    unfolding movers_cost invalid_cost
    cells_bytes [] before at past r = omega arith
    cells_bytes (normal c ∷ xs) before at past r = let h = cell_bytes before at (normal c) r.0 r.1 in let k = cells_bytes xs at r.0 past r.2 in omega arith
    cells_bytes (invalid p ∷ xs) before at past r = let h = cell_bytes before at (invalid p) r.0 r.1 in let k = cells_bytes xs at r.0 past r.2 in omega arith

-- the state bits, the movers, and the gates of a frame
pub record Bounded (d : Design) (q : Property) : Type 0 where
  pub bits : S d ≤ max_bits
  pub movers : w d ≤ max_movers
  pub gates : gates_in (property_cost d q) + gates_in (step_cost d q) ≤ most_gates

module _ (file : List ℕ) (bytes : (i : ℕ) → get_or file i 0 < 256) (d : Design) (h : Whole file d) where
  S-bound : S d ≤ max_bits
  unfolding S widths
  S-bound =
      let v = variables_total d.variables in
      let statuses = replicate (length d.statuses) status_width in
      let q = total_append (map (λ (x : Variable). width x.kind) d.variables) (statuses ++ (mark_width ∷ [])) in
      let k = total_append statuses (mark_width ∷ []) in
      let s = statuses_total (length d.statuses) in
      let m : length d.statuses ≡ length h.parts.matrices = ap length h.parts.statuses ∙ length-map h.parts.matrices (λ (x : Matrix). x.statuses) in
      omega (arith, h.parts.variable_count_lem, h.parts.matrix_count_lem, h.variables, h.matrices)

  w_bound : w d ≤ max_movers
  unfolding w
  w_bound = h.movers

  cheap : (m e : ℕ) → Cheap (event_in h.parts.rows m e)
  cheap m e = event_cheap (get_or h.parts.rows m []) e (row_cheap h.parts.rows m (rows_cheap file bytes h.parts.rows 0 (events_offset file) (cells_offset file) h.parts.row_run))

  cells_bound : gates_in (movers_cost (S d) (map cell d.cells)) + gates_in (invalid_cost d.invalid) ≤ gates_of_byte * invariant_offset file + gates_of_event * max_cells
  cells_bound =
      let c = cells_bytes file bytes (S d) S-bound (event_in h.parts.rows) cheap h.parts.entries (cells_offset file) (cells_offset file) (invariant_offset file) h.parts.cell_run in
      let k : gates_of_event * length h.parts.entries ≤ gates_of_event * max_cells = omega (arith, h.parts.cell_count_lem, h.cells) in
      let a = ap (λ (l : List Cell). gates_in (movers_cost (S d) (map cell l))) h.parts.cells in
      let b = ap (λ (l : List InvalidCell). gates_in (invalid_cost l)) h.parts.invalid in
      omega arith

  movers_bound : gates_in (movers_cost (S d) (movers d)) ≤ gates_in (movers_cost (S d) (map cell d.cells)) + max_bits * max_variables
  unfolding movers
  movers_bound = omega (arith, movers_append (S d) (map cell d.cells) (externals 0 d.variables), raises_cost (S d) S-bound d.variables 0, h.parts.variable_count_lem, h.variables)

  invariant_bound : gates_in (bool_cost false d.invariant) + gates_of_byte * invariant_offset file ≤ gates_of_byte * constraint_offset file
  invariant_bound = (bool_bytes file (names file) (constraint_offset file) false max_depth (invariant_offset file)).of d.invariant (constraint_offset file) (invariant_stands file d h.parts)

  constraint_bound : gates_in (bool_cost false d.constraint) + gates_of_byte * constraint_offset file ≤ gates_of_byte * items_end file
  unfolding bool_cost
  constraint_bound = go (has_constraint file) refl
    where
      go : (t : Bool) → has_constraint file ≡ t → gates_in (bool_cost false d.constraint) + gates_of_byte * constraint_offset file ≤ gates_of_byte * items_end file
      go true e =
          (bool_bytes file (with_later true (names file)) (items_end file) false max_depth (constraint_offset file)).of d.constraint (items_end file)
          (constraint_stands file d h.parts e)
      go false e =
          let z : gates_in (bool_cost false d.constraint) ≡ 0 = ap (λ x. gates_in (bool_cost false x)) (constraint_none file d h.parts e) in
          omega (arith, expressions_order file d h.parts)

  -- wherever the expression stands, its text has at most so many bytes
  expression_bound : Accepted file → (piece : List ℕ) → piece_right file piece 0 ≡ true → gates_in (bool_cost false (expression_of file piece d)) ≤ text_gates
  expression_bound a piece t =
      let text = expression_text file piece in
      omega (arith, (bool_bytes text (names file) (length text) false max_depth 0).of (expression_of file piece d) (length text) (text_got file piece a t d h.parts), text_short file piece a t)

  gates_bound : Accepted file → (piece : List ℕ) (p : ℕ) → piece_right file piece p ≡ true → gates_in (property_cost d (property_of file piece d p)) + gates_in (step_cost d (property_of file piece d p)) ≤ most_gates
  unfolding property_cost step_cost step_property_cost property_of
  gates_bound a piece zero t = omega (arith, expression_bound a piece t, invariant_bound, constraint_bound, items_before file, cells_bound, movers_bound, h.short)
  gates_bound a piece (suc zero) t = omega (arith, invariant_bound, constraint_bound, items_before file, cells_bound, movers_bound, h.short)
  gates_bound a piece (suc (suc p)) t = omega (arith, invariant_bound, constraint_bound, items_before file, cells_bound, movers_bound, h.short)

-- of a file, a piece that is right, and a property
pub bounded : (file piece : List ℕ) → ((i : ℕ) → get_or file i 0 < 256) → (d : Design) → check file ≡ Checked.accepted d → (p : ℕ) → piece_right file piece p ≡ true → Bounded d (property_of file piece d p)
bounded file piece bytes d e p t =
    let h = whole file d e in
    record { bits = S-bound file bytes d h; movers = w_bound file bytes d h; gates = gates_bound file bytes d h (ap (λ (x : Checked). (refusal x).number) e) piece p t }
