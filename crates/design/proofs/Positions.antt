-- What code that walks an accepted file may use: where each item stands, that its walk and its readers succeed there, and where it ends. Assumes nothing.
use Prim.Native.Nat.{ℕ, zero, suc, ◌+◌, ◌*◌, ◌<◌, ◌≤◌}
use mathlib.Core.Path.{◌≡◌, refl, sym, ap, subst, ◌∙◌}
use mathlib.Core.Bool.{true, false, ◌&&◌}
use mathlib.Core.List.{List, [], ◌∷◌}
use native.Mathlib.Omega.{arith}
use native.Mathlib.Nat.{mul-suc, mul-zero}
use lib.ListN.{get_or, length, take, drop}
use lib.Dec.{leb}
use borrow.Author.Tests.{leb-true}
use Rattle.design.specs.Tree.{BoolExpr, constant_b, Variable, Design}
use Rattle.design.specs.Limits.{max_depth, max_nest}
use Rattle.design.specs.Reading.{got}
use Rattle.design.specs.Expression.{Names, with_later, bool_expr}
use Rattle.design.specs.Action.{list}
use Rattle.design.specs.DesignFile.{item, Walk, Matrix, Entry, variable_at, matrix_at, event_at, constraint_at, fields, ordered, guard, action, entry, c_kind, c_guard, c_middle, c_past, cell_at, events}
use Rattle.design.specs.Check.{has_constraint, items_end, constraint_offset, variable_count, matrices_offset, matrix_count, events_offset, invariant_offset, names}
use Rattle.design.specs.Sections.{Run, Rows, Cells, Parts, EventRead, EntryRead, CellRead}
use Rattle.design.proofs.Sections.{after_inv, need_inv, item_past, item_same, filling_inv, invariant_inv, constraint_inv}
use Rattle.design.specs.Answers.{walked}
use Rattle.design.proofs.Items.{variable_ends, matrix_ends}

-- a run may be cut anywhere
pub run_split : {A : Type 0} (one : Walk A) (xs : List A) (at past i : ℕ) → Run one at xs past → i ≤ length xs → (p : ℕ) × Run one at (take i xs) p × Run one p (drop i xs) past
run_split one xs at past zero r h = (at, refl, r)
run_split one [] at past (suc i) r h = absurd (omega arith)
run_split one (x ∷ xs) at past (suc i) r h = let (p, a, b) = run_split one xs r.0 past i r.2 (omega arith) in (p, (r.0, r.1, a), b)

-- items of one size stand at multiples of it
pub run_fixed : {A : Type 0} (one : Walk A) (k : ℕ) → ((at n : ℕ) (x : A) → one at ≡ item x n → n ≡ at + k) → (xs : List A) (at past : ℕ) → Run one at xs past → (i p : ℕ) → p ≡ at + k * i → i < length xs → (d : A) → one p ≡ item (get_or xs i d) (p + k)
run_fixed one k f [] at past r i p e h d = absurd (omega arith)
run_fixed {A} one k f (x ∷ xs) at past r zero p e h d =
    let q : p ≡ at = e ∙ ap (λ (j : ℕ). at + j) (mul-zero k) ∙ (let z : at + 0 ≡ at = omega arith in z) in
    ap one q ∙ r.1 ∙ ap (item x) (f at r.0 x r.1 ∙ ap (λ (j : ℕ). j + k) (sym q))
run_fixed one k f (x ∷ xs) at past r (suc i) p e h d =
    run_fixed one k f xs r.0 past r.2 i p (let g = f at r.0 x r.1 in let z = mul-suc k i in omega arith) (omega arith) d

module _ (file : List ℕ) (end : ℕ) where
  pub event_reads : (N : Names) (at : ℕ) (x : BoolExpr) (n : ℕ) → event_at file end N at ≡ item x n → EventRead file end N at x n
  unfolding event_at
  event_reads N at x n e =
      let (t, h) = need_inv (leb (at + 1 + get_or file at 0) end) 4 at _ x n e in
      let (r, q) = filling_inv 8 at (at + 1 + get_or file at 0) (bool_expr file N (at + 1 + get_or file at 0) max_depth (at + 1)) x n h in
      let l = leb-true (at + 1 + get_or file at 0) end t in
      record { past = q; inside = omega arith; reads = subst (λ (j : ℕ). bool_expr file N j max_depth (at + 1) ≡ got x j) (sym q) r }

  module _ (N : Names) (M : ℕ) (f : ℕ → ℕ → BoolExpr) where
    guard_past : (at k : ℕ) (g : BoolExpr) (n : ℕ) → guard file end N at k ≡ item g n → n ≡ c_middle file at
    guard_past at zero g n e = sym (item_past _ _ _ _ e)
    guard_past at (suc k) g n e = (filling_inv 8 at (c_middle file at) (bool_expr file N (c_middle file at) max_depth (at + 8)) g n e).1

    entry_reads : (at k : ℕ) (x : Entry) (n : ℕ) → entry file end N M f at k ≡ item x n → (n ≡ c_past file at) × EntryRead file end N M f at k x
    entry_reads at zero x n e =
        let (g, p, e₁, h₁) = after_inv (guard file end N at (c_guard file at)) _ x n e in
        let (a, q, e₂, h₂) = after_inv (action file end N at) _ x n h₁ in (
          sym (item_past _ _ _ _ h₂),
          subst (EntryRead file end N M f at 0) (item_same _ _ _ _ h₂) (
            refl,
            record {
              matrix = refl;
              status = refl;
              event = refl;
              target = refl;
              guard = e₁ ∙ ap (item g) (guard_past at (c_guard file at) g p e₁);
              action = (filling_inv 9 at (c_past file at) (list file N (c_past file at) max_nest (c_middle file at)) a q e₂).0;
            },
          ),
        )
    entry_reads at (suc k) x n e =
        (sym (item_past _ _ _ _ e), subst (EntryRead file end N M f at (suc k)) (item_same _ _ _ _ e) ((λ z. omega arith), record { matrix = refl; status = refl; event = refl }))

    pub cell_reads : (before at : ℕ) (x : Entry) (n : ℕ) → cell_at file end N M f before at ≡ item x n → CellRead file end N M f before at x n
    unfolding cell_at
    cell_reads before at x n e =
        let (t, h) = need_inv (leb (c_past file at) end) 4 at _ x n e in
        let (u, k) = need_inv (fields file M N.matrices at && ordered file before at) 7 at _ x n h in
        let (a, b) = entry_reads at (c_kind file at) x n k in
        let l = leb-true (c_past file at) end t in
        record { past = a; inside = omega arith; right = u; entry = b }

-- the items of an accepted file by number
module _ (file : List ℕ) (d : Design) (w : Parts file d) where
  abbrev E : ℕ
  E = items_end file

  pub variable_stands : (v : ℕ) → v < variable_count file → (x : Variable) → variable_at file E (3 * v) ≡ item (get_or d.variables v x) (3 * v + 3)
  variable_stands v h x =
      run_fixed (variable_at file E) 3 (λ at n y e. (variable_ends file E at n (sym (ap walked e))).0) d.variables 0 (matrices_offset file) w.variable_run v (3 * v) (omega arith) (omega (arith, w.variable_count_lem)) x

  pub matrix_stands : (m : ℕ) → m < matrix_count file → (x : Matrix) → matrix_at file E (matrices_offset file + 2 * m) ≡ item (get_or w.matrices m x) (matrices_offset file + 2 * m + 2)
  matrix_stands m h x =
      run_fixed (matrix_at file E) 2 (λ at n y e. (matrix_ends file E at n (sym (ap walked e))).0) w.matrices (matrices_offset file) (events_offset file) w.matrix_run m (matrices_offset file + 2 * m) refl (omega (arith, w.matrix_count_lem)) x

  -- row i of the events: where it starts and ends
  pub row_stands : (rows : List (List BoolExpr)) (m at past : ℕ) → Rows file m at rows past → (i : ℕ) → i < length rows → (p : ℕ) × (n : ℕ) × (length (get_or rows i []) ≡ events file (matrices_offset file) (m + i)) × Run (event_at file E (names file)) p (get_or rows i []) n
  row_stands [] m at past r i h = absurd (omega arith)
  row_stands (x ∷ xs) m at past r zero h = (at, r.0, r.1 ∙ ap (events file (matrices_offset file)) (let z : m ≡ m + 0 = omega arith in z), r.2)
  row_stands (x ∷ xs) m at past r (suc i) h =
      let (p, n, c, q) = row_stands xs (m + 1) r.0 past r.3 i (omega arith) in
      (p, n, c ∙ ap (events file (matrices_offset file)) (let z : m + 1 + i ≡ m + suc i = omega arith in z), q)

  -- the cells may be cut anywhere
  pub cells_split : (f : ℕ → ℕ → BoolExpr) (es : List Entry) (before at past i : ℕ) → Cells file f before at es past → i ≤ length es → (b : ℕ) × (p : ℕ) × Cells file f before at (take i es) p × Cells file f b p (drop i es) past
  cells_split f es before at past zero r h = (before, at, refl, r)
  cells_split f [] before at past (suc i) r h = absurd (omega arith)
  cells_split f (x ∷ xs) before at past (suc i) r h = let (b, p, a, q) = cells_split f xs at r.0 past i r.2 (omega arith) in (b, p, (r.0, r.1, a), q)

  -- the invariant up to the constraint, and the constraint, if there is one, up to the items' end
  pub expressions_order : (invariant_offset file ≤ constraint_offset file) × (constraint_offset file ≤ E)
  expressions_order = let (a, b, r, q) = invariant_inv file E (names file) _ _ _ _ w.invariant in (a, b)

  pub invariant_stands : bool_expr file (names file) (constraint_offset file) max_depth (invariant_offset file) ≡ got d.invariant (constraint_offset file)
  invariant_stands = (invariant_inv file E (names file) _ _ _ _ w.invariant).2

  pub constraint_stands : has_constraint file ≡ true → bool_expr file (with_later true (names file)) E max_depth (constraint_offset file) ≡ got d.constraint E
  constraint_stands h =
      (constraint_inv file E (names file) (constraint_offset file) d.constraint w.past
      (subst (λ t. constraint_at file E (names file) t (constraint_offset file) ≡ item d.constraint w.past) h w.constraint)).0

  pub constraint_none : has_constraint file ≡ false → d.constraint ≡ constant_b true
  unfolding constraint_at
  constraint_none h =
      sym (item_same _ _ _ _ (subst (λ t. constraint_at file E (names file) t (constraint_offset file) ≡ item d.constraint w.past) h w.constraint))
