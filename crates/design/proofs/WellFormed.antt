-- The tree of an accepted file is well formed. Assumes only that the file's bytes are bytes.
use mathlib.Core.Path.{◌≡◌, refl, sym, ap, subst, ◌∙◌}
use mathlib.Core.Bool.{Bool, true, false, false≢true, ◌&&◌, ◌||◌}
use mathlib.Core.Logic.{◌⊎◌, inl, inr, ⊎_elim}
use mathlib.Core.List.{List, [], ◌∷◌, ◌++◌, map}
use Prim.Native.Nat.{ℕ, zero, suc, ◌+◌, ◌*◌, ◌^◌, ◌<◌, ◌≤◌}
use native.Mathlib.Omega.{arith}
use lib.ListN.{length, get_or, replicate, length-append, length-map, length-replicate, get_or-replicate, get_or-append}
use lib.Seq.{get_or-append-add}
use lib.Dec.{ltb, leb, eqb}
use borrow.Author.Tests.{ltb-true, leb-true, eqb-true}
use Rattle.design.specs.Tree.{BoolExpr, constant_b, Stmts, Kind, boolean, integer, external, Variable, Cell, Design, Mover, cell, raise, if_external, externals, movers}
use Rattle.design.specs.State.{layout, status_slot, status_width, start, width, widths}
use Rattle.design.specs.Limits.{max_depth, max_nest, max_statuses, max_events, max_movers}
use Rattle.design.specs.Reading.{got, Read}
use Rattle.design.specs.Expression.{Names, with_later, bool_expr}
use Rattle.design.specs.DesignFile.{item, need, filling, Matrix, Entry, normal, invalid, kind, variable_at, matrix_at, event_at, events, statuses, cell_at, c_past, fields, ending, ordered, guard, action, entry}
use Rattle.design.specs.Check.{accepted, normals, invalids, has_constraint, items_end, constraint_offset, variable_count, matrices_offset, matrix_count, events_offset, invariant_offset, names, check, event_in}
use Rattle.design.specs.WellFormed.{Narrow, IsStatus, HasMark, IsInteger, IsBoolean, BoolOk, StmtsOk, InRange, CellOk, InvalidOk, MoversOk, InvalidsOk, CountsOk, StatusesOk, WellFormed}
use Rattle.design.proofs.Widths.{matrix_count_lem}
use Rattle.design.proofs.Trees.{All, Legal, number, NamesOk, two_states, bool_ok, list_ok}
use Rattle.design.specs.Sections.{Run, Rows, Cells, Parts}
use Rattle.design.proofs.Sections.{after_inv, need_inv, and_inv, item_same, item_past, filling_inv, whole}
use Rattle.design.proofs.Positions.{invariant_stands, constraint_stands, constraint_none}

or_inv : (a b : Bool) → (a || b) ≡ true → (a ≡ true) ⊎ (b ≡ true)
or_inv true b e = inl refl
or_inv false true e = inr refl
or_inv false false e = inr e

abbrev wide : Variable → ℕ
wide x = width x.kind

-- an initial value fits its width
initial_fits : (k v : ℕ) → v < 65536 → (eqb k 1 ≡ true) ⊎ (leb v 1 ≡ true) → v < 2 ^ width (kind k)
initial_fits zero v h s = ⊎_elim (λ e. let z : 0 ≡ 1 = eqb-true 0 1 e in absurd (omega arith)) (λ e. let z : v ≤ 1 = leb-true v 1 e in omega arith) s
initial_fits (suc zero) v h s = h
initial_fits (suc (suc k)) v h s = ⊎_elim (λ e. let z = eqb-true (suc (suc k)) 1 e in absurd (omega arith)) (λ e. let z : v ≤ 1 = leb-true v 1 e in omega arith) s

-- a kind's width
flag_width : (k : ℕ) → (k ≡ 1 → ⊥) → width (kind k) ≡ 1
flag_width zero h = refl
flag_width (suc zero) h = absurd (h refl)
flag_width (suc (suc k)) h = refl

int_width : (k : ℕ) → k ≡ 1 → width (kind k) ≡ 16
int_width k e = rw e

small_width : (k : Kind) → width k ≤ 16
small_width boolean = omega arith
small_width integer = omega arith
small_width external = omega arith

module _ (file : List ℕ) (end : ℕ) (bytes : (i : ℕ) → get_or file i 0 < 256) where
  pub record VariableRight (at : ℕ) (x : Variable) (n : ℕ) : Type 0 where
    pub is : x.kind ≡ kind (get_or file at 0)
    pub fits : x.initial < 2 ^ width x.kind
    pub past : n ≡ at + 3

  variable_right : (at : ℕ) (x : Variable) (n : ℕ) → variable_at file end at ≡ item x n → VariableRight at x n
  unfolding variable_at
  variable_right at x n e =
      let (t₁, h₁) = need_inv (leb (at + 3) end) 4 at _ x n e in
      let (t₂, h₂) = need_inv (leb (get_or file at 0) 2 && (eqb (get_or file at 0) 1 || leb (get_or file (at + 1) 0 + 256 * get_or file (at + 1 + 1) 0) 1)) 5 at _ x n h₁ in
      let s = or_inv _ _ (and_inv (leb (get_or file at 0) 2) (eqb (get_or file at 0) 1 || leb (get_or file (at + 1) 0 + 256 * get_or file (at + 1 + 1) 0) 1) t₂).1 in
      let same = item_same _ _ _ _ h₂ in
      record {
        is = sym (ap (λ (y : Variable). y.kind) same);
        fits = subst (λ (y : Variable). y.initial < 2 ^ width y.kind) same (initial_fits (get_or file at 0) _ (omega (arith, bytes (at + 1), bytes (at + 1 + 1))) s);
        past = sym (item_past _ _ _ _ h₂);
      }

  -- the width of a variable by its byte
  variable_width : (vs : List Variable) (at past : ℕ) → Run (variable_at file end) at vs past → (v p : ℕ) → p ≡ at + 3 * v → v < length vs → get_or (map wide vs) v 0 ≡ width (kind (get_or file p 0))
  variable_width [] at past r v p q h = absurd (omega arith)
  variable_width (x ∷ xs) at past r zero p q h =
      let f = variable_right at x r.0 r.1 in
      ap width f.is ∙ ap (λ (i : ℕ). width (kind (get_or file i 0))) (let z : at ≡ p = omega arith in z)
  variable_width (x ∷ xs) at past r (suc v) p q h =
      let f = variable_right at x r.0 r.1 in
      variable_width xs r.0 past r.2 v p (let z : r.0 ≡ at + 3 = f.past in omega arith) (omega arith)

  variables_small : (vs : List Variable) (at past : ℕ) → (rest : List ℕ) → Narrow rest → Narrow (map wide vs ++ rest)
  variables_small [] at past rest h = h
  variables_small (x ∷ xs) at past rest h = (small_width x.kind, variables_small xs at past rest h)

  variables_range : (vs : List Variable) (at past : ℕ) → Run (variable_at file end) at vs past → (ws ss : List ℕ) → InRange ws ss → InRange (map wide vs ++ ws) (map (λ (x : Variable). x.initial) vs ++ ss)
  variables_range [] at past r ws ss h = h
  variables_range (x ∷ xs) at past r ws ss h = ((variable_right at x r.0 r.1).fits, variables_range xs r.0 past r.2 ws ss h)

  pub record MatrixRight (at : ℕ) (x : Matrix) (n : ℕ) : Type 0 where
    pub count : x.statuses ≡ get_or file at 0
    pub some : 1 ≤ get_or file at 0
    pub statuses : get_or file at 0 ≤ 16
    pub past : n ≡ at + 2

  matrix_right : (at : ℕ) (x : Matrix) (n : ℕ) → matrix_at file end at ≡ item x n → MatrixRight at x n
  unfolding matrix_at
  matrix_right at x n e =
      let a = leb 1 (get_or file at 0) in
      let b = leb (get_or file at 0) max_statuses in
      let c = leb 1 (get_or file (at + 1) 0) in
      let d = leb (get_or file (at + 1) 0) max_events in
      let (t₁, h₁) = need_inv (leb (at + 2) end) 4 at _ x n e in
      let (t₂, h₂) = need_inv (a && b && c && d) 6 at _ x n h₁ in
      let s = and_inv a b (and_inv (a && b) c (and_inv (a && b && c) d t₂).0).0 in
      record {
        count = sym (ap (λ (y : Matrix). y.statuses) (item_same _ _ _ _ h₂));
        some = leb-true _ _ s.0;
        statuses = leb-true _ _ s.1;
        past = sym (item_past _ _ _ _ h₂);
      }

  matrix_small : (ms : List Matrix) (at past : ℕ) → Run (matrix_at file end) at ms past → (m p : ℕ) → p ≡ at + 2 * m → m < length ms → get_or file p 0 ≤ 16
  matrix_small [] at past r m p q h = absurd (omega arith)
  matrix_small (x ∷ xs) at past r zero p q h = subst (λ (i : ℕ). get_or file i 0 ≤ 16) (let z : at ≡ p = omega arith in z) (matrix_right at x r.0 r.1).statuses
  matrix_small (x ∷ xs) at past r (suc m) p q h =
      let f = matrix_right at x r.0 r.1 in
      matrix_small xs r.0 past r.2 m p (let z : r.0 ≡ at + 2 = f.past in omega arith) (omega arith)

  -- a matrix's status count by its byte
  matrix_counts : (ms : List Matrix) (at past : ℕ) → Run (matrix_at file end) at ms past → (m p : ℕ) → p ≡ at + 2 * m → m < length ms → get_or (map (λ (x : Matrix). x.statuses) ms) m 0 ≡ get_or file p 0
  matrix_counts [] at past r m p q h = absurd (omega arith)
  matrix_counts (x ∷ xs) at past r zero p q h = (matrix_right at x r.0 r.1).count ∙ ap (λ (i : ℕ). get_or file i 0) (let z : at ≡ p = omega arith in z)
  matrix_counts (x ∷ xs) at past r (suc m) p q h =
      let f = matrix_right at x r.0 r.1 in
      matrix_counts xs r.0 past r.2 m p (let z : r.0 ≡ at + 2 = f.past in omega arith) (omega arith)

  counts_ok : (ms : List Matrix) (at past : ℕ) → Run (matrix_at file end) at ms past → CountsOk (map (λ (x : Matrix). x.statuses) ms)
  counts_ok [] at past r = tt
  counts_ok (x ∷ xs) at past r =
      let f = matrix_right at x r.0 r.1 in
      (omega (arith, f.count, f.some), omega (arith, f.count, f.statuses), counts_ok xs r.0 past r.2)

fours : (k : ℕ) → Narrow (replicate k 4 ++ (1 ∷ []))
fours zero = (omega arith, tt)
fours (suc k) = (omega arith, fours k)

zeros : (k : ℕ) → InRange (replicate k 4 ++ (1 ∷ [])) (replicate k 0 ++ (0 ∷ []))
zeros zero = (omega arith, tt)
zeros (suc k) = (omega arith, zeros k)

-- what fills its length is what was read
filling_right : {A : Type 0} (P : A → Type 0) (i p past : ℕ) (r : Read A) → All P r → (a : A) (n : ℕ) → filling i p past r ≡ item a n → P a
filling_right P i p past r h a n e = h.of a past (filling_inv i p past r a n e).0

module _ (file : List ℕ) (bytes : (i : ℕ) → get_or file i 0 < 256) (d : Design) (p : Parts file d) where
  abbrev E : ℕ
  E = items_end file

  abbrev N : Names
  N = names file

  abbrev M : ℕ
  M = matrices_offset file

  -- the widths behind the variables
  abbrev behind : List ℕ
  behind = replicate (length d.statuses) 4 ++ (1 ∷ [])

  variable_widths : (v : ℕ) → v < variable_count file → get_or (widths d) v 0 ≡ width (kind (get_or file (3 * v) 0))
  unfolding widths
  variable_widths v h =
      get_or-append (map wide d.variables) behind 0 v (omega (arith, length-map d.variables wide, p.variable_count_lem))
      ∙ variable_width file E bytes d.variables 0 M p.variable_run v (3 * v) (omega arith) (omega (arith, p.variable_count_lem))

  flags : (v : ℕ) → v < variable_count file → (get_or file (3 * v) 0 ≡ 1 → ⊥) → IsBoolean (widths d) (layout d) v
  unfolding layout
  flags v h k = record { inside = omega (arith, p.variable_count_lem); width = variable_widths v h ∙ flag_width _ k }

  ints : (v : ℕ) → v < variable_count file → get_or file (3 * v) 0 ≡ 1 → IsInteger (widths d) (layout d) v
  unfolding layout
  ints v h k = record { inside = omega (arith, p.variable_count_lem); width = variable_widths v h ∙ int_width _ k }

  behind_at : (i : ℕ) → get_or (map wide d.variables ++ behind) (length d.variables + i) 0 ≡ get_or behind i 0
  behind_at i =
      ap (λ (j : ℕ). get_or (map wide d.variables ++ behind) (j + i) 0) (sym (length-map d.variables wide))
      ∙ get_or-append-add (map wide d.variables) behind i 0

  status_width_lem : (m : ℕ) → m < matrix_count file → IsStatus (widths d) (layout d) m
  unfolding widths layout
  status_width_lem m h =
      record {
        inside = omega (arith, matrix_count_lem file d p);
        width = behind_at m
            ∙ get_or-append (replicate (length d.statuses) 4) (1 ∷ []) 0 m (omega (arith, length-replicate {A = ℕ} (length d.statuses) 4, matrix_count_lem file d p))
            ∙ get_or-replicate (length d.statuses) m 4 0 (omega (arith, matrix_count_lem file d p));
      }

  mark_width_lem : HasMark (widths d) (layout d)
  unfolding widths layout
  mark_width_lem =
      record {
        inside = omega arith;
        behind = omega arith;
        width = behind_at (length d.statuses)
            ∙ ap (λ (i : ℕ). get_or behind i 0) (let b = length-replicate {A = ℕ} (length d.statuses) 4 in let z : length d.statuses ≡ length (replicate {A = ℕ} (length d.statuses) 4) + 0 = omega arith in z)
            ∙ get_or-append-add (replicate (length d.statuses) 4) (1 ∷ []) 0 0;
      }

  slots : length (widths d) ≡ variable_count file + matrix_count file + 1
  unfolding widths
  slots =
      length-append (map wide d.variables) behind
      ∙ (let a = length-map d.variables wide in let b = length-replicate {A = ℕ} (length d.statuses) 4 in let c : length behind ≡ length (replicate {A = ℕ} (length d.statuses) 4) + 1 = length-append (replicate (length d.statuses) 4) (1 ∷ []) in omega (arith, p.variable_count_lem, matrix_count_lem file d p))

  -- the names of a state have their widths, and with the next state those of two
  names_ok : NamesOk N (widths d) (layout d)
  names_ok = record { flags = now_flag; ints = now_int; statuses = now_status }
    where
      now_flag : (next : Bool) (v : ℕ) → Legal N next → v < variable_count file → (get_or file (3 * v) 0 ≡ 1 → ⊥) → get_or (widths d) (number N next v) 0 ≡ 1
      now_flag false v g h k = (flags v h k).width
      now_flag true v g h k = absurd (false≢true g)

      now_int : (next : Bool) (v : ℕ) → Legal N next → v < variable_count file → get_or file (3 * v) 0 ≡ 1 → get_or (widths d) (number N next v) 0 ≡ 16
      now_int false v g h k = (ints v h k).width
      now_int true v g h k = absurd (false≢true g)

      now_status : (next : Bool) (m : ℕ) → Legal N next → m < matrix_count file → get_or (widths d) (status_slot (layout d) (number N next m)) 0 ≡ status_width
      now_status false m g h = (status_width_lem m h).width
      now_status true m g h = absurd (false≢true g)

  later_ok : NamesOk (with_later true N) (widths d ++ widths d) (layout d)
  unfolding layout
  later_ok = two_states N (widths d) (layout d) p.variable_count_lem slots names_ok

  event_ok : (at : ℕ) (x : BoolExpr) (n : ℕ) → event_at file E N at ≡ item x n → BoolOk (widths d) (layout d) x
  unfolding event_at
  event_ok at x n e =
      let (t, h) = need_inv (leb (at + 1 + get_or file at 0) E) 4 at _ x n e in
      filling_right (BoolOk (widths d) (layout d)) 8 at (at + 1 + get_or file at 0) (bool_expr file N (at + 1 + get_or file at 0) max_depth (at + 1)) (bool_ok file N (widths d) (layout d) bytes names_ok (at + 1 + get_or file at 0) max_depth (at + 1)) x n h

  row_ok : (xs : List BoolExpr) (at past : ℕ) → Run (event_at file E N) at xs past → (e : ℕ) → BoolOk (widths d) (layout d) (get_or xs e (constant_b false))
  row_ok [] at past r e = tt
  row_ok (x ∷ xs) at past r zero = event_ok at x r.0 r.1
  row_ok (x ∷ xs) at past r (suc e) = row_ok xs r.0 past r.2 e

  rows_ok : (rows : List (List BoolExpr)) (m at past : ℕ) → Rows file m at rows past → (i e : ℕ) → BoolOk (widths d) (layout d) (event_in rows i e)
  rows_ok [] m at past r i e = tt
  rows_ok (x ∷ xs) m at past r zero e = row_ok x at r.0 r.2 e
  rows_ok (x ∷ xs) m at past r (suc i) e = rows_ok xs (m + 1) r.0 past r.3 i e

  abbrev evs : ℕ → ℕ → BoolExpr
  evs = event_in p.rows

  guard_ok : (at n : ℕ) (g : BoolExpr) (q : ℕ) → guard file E N at n ≡ item g q → BoolOk (widths d) (layout d) g
  guard_ok at zero g q e = subst (BoolOk (widths d) (layout d)) (item_same _ _ _ _ e) tt
  guard_ok at (suc n) g q e = filling_right (BoolOk (widths d) (layout d)) 8 at _ _ (bool_ok file N (widths d) (layout d) bytes names_ok _ max_depth (at + 8)) g q e

  action_ok : (at : ℕ) (a : Stmts) (q : ℕ) → action file E N at ≡ item a q → StmtsOk (widths d) (layout d) a
  action_ok at a q e = filling_right (StmtsOk (widths d) (layout d)) 9 at _ _ (list_ok file N (widths d) (layout d) bytes names_ok _ flags ints max_nest _) a q e

  -- an entry is right: a cell that the formula can take, or a place
  abbrev EntryOk : Entry → Type 0
  EntryOk (normal c) = CellOk (widths d) (layout d) c × (c.status < get_or d.statuses c.matrix 0) × (c.target < get_or d.statuses c.matrix 0)
  EntryOk (invalid c) = InvalidOk (widths d) (layout d) c

  abbrev F : ℕ → Bool
  F at = fields file M (matrix_count file) at

  few_statuses : (m : ℕ) → m < matrix_count file → statuses file M m ≤ 16
  few_statuses m h = matrix_small file E bytes p.matrices M (events_offset file) p.matrix_run m (M + 2 * m) refl (omega (arith, p.matrix_count_lem))

  status_counts : (m : ℕ) → m < matrix_count file → get_or d.statuses m 0 ≡ statuses file M m
  status_counts m h =
      ap (λ (l : List ℕ). get_or l m 0) p.statuses
      ∙ matrix_counts file E bytes p.matrices M (events_offset file) p.matrix_run m (M + 2 * m) refl (omega (arith, p.matrix_count_lem))

  event_of_lem : (at : ℕ) → BoolOk (widths d) (layout d) (evs (get_or file at 0) (get_or file (at + 2) 0))
  event_of_lem at = rows_ok p.rows 0 (events_offset file) _ p.row_run (get_or file at 0) (get_or file (at + 2) 0)

  entry_ok : (at k : ℕ) → get_or file at 0 < matrix_count file → get_or file (at + 1) 0 < statuses file M (get_or file at 0) → ending file M at k ≡ true → (x : Entry) (n : ℕ) → entry file E N M evs at k ≡ item x n → EntryOk x
  entry_ok at zero hm hs he x n e =
      let (g, q, e₁, h₁) = after_inv (guard file E N at (get_or file (at + 5) 0)) _ x n e in
      let (a, j, e₂, h₂) = after_inv (action file E N at) _ x n h₁ in
      let few = few_statuses (get_or file at 0) hm in
      let low = ltb-true (get_or file (at + 4) 0) (statuses file M (get_or file at 0)) he in
      let count = status_counts (get_or file at 0) hm in
      subst EntryOk (item_same _ _ _ _ h₂) (
        record {
          matrix = status_width_lem (get_or file at 0) hm;
          status = omega arith;
          event = event_of_lem at;
          target = omega arith;
          guard = guard_ok at (get_or file (at + 5) 0) g q e₁;
          action = action_ok at a j e₂;
        },
        omega arith,
        omega arith,
      )
  entry_ok at (suc k) hm hs he x n e =
      let few = few_statuses (get_or file at 0) hm in
      subst EntryOk (item_same _ _ _ _ e) (record { matrix = status_width_lem (get_or file at 0) hm; status = omega arith; event = event_of_lem at })

  cell_ok : (before at : ℕ) (x : Entry) (n : ℕ) → cell_at file E N M evs before at ≡ item x n → EntryOk x
  unfolding cell_at
  cell_ok before at x n e =
      let (t₁, h₁) = need_inv (leb (c_past file at) E) 4 at (need (F at && ordered file before at) 7 at (entry file E N M evs at (get_or file (at + 3) 0))) x n e in
      let (t₂, h₂) = need_inv (F at && ordered file before at) 7 at (entry file E N M evs at (get_or file (at + 3) 0)) x n h₁ in
      let f = (and_inv (F at) (ordered file before at) t₂).0 in
      let a = ltb (get_or file at 0) (matrix_count file) in
      let b = ltb (get_or file (at + 1) 0) (statuses file M (get_or file at 0)) in
      let c = ltb (get_or file (at + 2) 0) (events file M (get_or file at 0)) in
      let g = and_inv (a && b && c) (ending file M at (get_or file (at + 3) 0)) f in
      let m = and_inv a b (and_inv (a && b) c g.0).0 in
      entry_ok at (get_or file (at + 3) 0) (ltb-true _ _ m.0) (ltb-true _ _ m.1) g.1 x n h₂

  abbrev AllEntries : List Entry → Type 0
  AllEntries [] = Unit {0}
  AllEntries (x ∷ xs) = EntryOk x × AllEntries xs

  cells_ok : (es : List Entry) (before at past : ℕ) → Cells file evs before at es past → AllEntries es
  cells_ok [] before at past r = tt
  cells_ok (x ∷ xs) before at past r = (cell_ok before at x r.0 r.1, cells_ok xs at r.0 past r.2)

  normals_ok : (es : List Entry) → AllEntries es → (ms : List Mover) → MoversOk (widths d) (layout d) ms → MoversOk (widths d) (layout d) (map cell (normals es) ++ ms)
  normals_ok [] h ms k = k
  normals_ok (normal c ∷ es) h ms k = (h.0.0, normals_ok es h.1 ms k)
  normals_ok (invalid q ∷ es) h ms k = normals_ok es h.1 ms k

  statuses_ok : (es : List Entry) → AllEntries es → StatusesOk d.statuses (normals es)
  statuses_ok [] h = tt
  statuses_ok (normal c ∷ es) h = (h.0.1, h.0.2, statuses_ok es h.1)
  statuses_ok (invalid q ∷ es) h = statuses_ok es h.1

  invalids_ok : (es : List Entry) → AllEntries es → InvalidsOk (widths d) (layout d) (invalids es)
  invalids_ok [] h = tt
  invalids_ok (normal c ∷ es) h = invalids_ok es h.1
  invalids_ok (invalid q ∷ es) h = (h.0, invalids_ok es h.1)

  -- an external's width is 1
  externals_ok : (vs : List Variable) (v : ℕ) → v + length vs ≡ length d.variables → ((i : ℕ) → i < length vs → get_or (widths d) (v + i) 0 ≡ get_or (map wide vs) i 0)
      → MoversOk (widths d) (layout d) (externals v vs)
  unfolding layout
  externals_ok [] v n h = tt
  externals_ok (x ∷ xs) v n h =
      go x.kind refl
      (externals_ok xs (suc v) (omega arith) (λ i l. ap (λ (j : ℕ). get_or (widths d) j 0) (let z : suc v + i ≡ v + suc i = omega arith in z) ∙ h (suc i) (omega arith)))
    where
      go : (k : Kind) → x.kind ≡ k → MoversOk (widths d) (layout d) (externals (suc v) xs) → MoversOk (widths d) (layout d) (if_external k (raise v ∷ externals (suc v) xs) (externals (suc v) xs))
      go boolean q r = r
      go integer q r = r
      go external q r =
          let bits = ap (λ (j : ℕ). get_or (widths d) j 0) (let z : v ≡ v + 0 = omega arith in z) ∙ h 0 (omega arith) ∙ ap width q in
          (record { inside = omega arith; width = bits }, r)

  -- an expression of one state, in whatever text it stands
  pub expression_ok : (text : List ℕ) → ((i : ℕ) → get_or text i 0 < 256) → (end depth at : ℕ) (x : BoolExpr) (n : ℕ) → bool_expr text N end depth at ≡ got x n → BoolOk (widths d) (layout d) x
  expression_ok text all end depth at x n e = (bool_ok text N (widths d) (layout d) all names_ok end depth at).of x n e

  invariant_ok : BoolOk (widths d) (layout d) d.invariant
  invariant_ok =
      (bool_ok file N (widths d) (layout d) bytes names_ok (constraint_offset file) max_depth (invariant_offset file)).of d.invariant (constraint_offset file) (invariant_stands file d p)

  constraint_ok : BoolOk (widths d ++ widths d) (layout d) d.constraint
  constraint_ok = go (has_constraint file) refl
    where
      go : (t : Bool) → has_constraint file ≡ t → BoolOk (widths d ++ widths d) (layout d) d.constraint
      go true h = (bool_ok file (with_later true N) (widths d ++ widths d) (layout d) bytes later_ok E max_depth (constraint_offset file)).of d.constraint E (constraint_stands file d p h)
      go false h = subst (BoolOk (widths d ++ widths d) (layout d)) (sym (constraint_none file d p h)) tt

  pub right : 1 ≤ length (movers d) → length (movers d) ≤ max_movers → WellFormed d
  unfolding widths movers start
  right some few =
      let all : AllEntries p.entries = cells_ok p.entries _ _ _ p.cell_run in
      record {
        some_mover = some;
        few_movers = few;
        narrow = variables_small file E bytes d.variables 0 0 behind (fours (length d.statuses));
        mark = mark_width_lem;
        movers = subst (λ (l : List Cell). MoversOk (widths d) (layout d) (map cell l ++ externals 0 d.variables)) (sym p.cells)
            (normals_ok p.entries all (externals 0 d.variables) (externals_ok d.variables 0 (omega arith) (λ i l. ap (λ (j : ℕ). get_or (widths d) j 0) (let z : 0 + i ≡ i = omega arith in z) ∙ get_or-append (map wide d.variables) behind 0 i (omega (arith, length-map d.variables wide)))));
        counts = subst CountsOk (sym p.statuses) (counts_ok file E bytes p.matrices M (events_offset file) p.matrix_run);
        statuses = subst (StatusesOk d.statuses) (sym p.cells) (statuses_ok p.entries all);
        invariant = invariant_ok;
        constraint = constraint_ok;
        invalid = subst (InvalidsOk (widths d) (layout d)) (sym p.invalid) (invalids_ok p.entries all);
        start = variables_range file E bytes d.variables 0 M p.variable_run behind (replicate (length d.statuses) 0 ++ (0 ∷ [])) (zeros (length d.statuses));
      }

-- THE THEOREM: the tree of an accepted design is well formed.
pub well_formed : (file : List ℕ) → ((i : ℕ) → get_or file i 0 < 256) → (d : Design) → check file ≡ accepted d → WellFormed d
well_formed file bytes d e = let h = whole file d e in right file bytes d h.parts h.mover h.movers
