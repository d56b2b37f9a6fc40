-- What an accepted file is made of: where each section and each item stands, and that the walk of each item gives the item of the tree. Assumes nothing.
use mathlib.Core.Path.{◌≡◌, refl, sym, ap, subst, ◌∙◌}
use mathlib.Core.Bool.{Bool, true, false, cond, ◌&&◌}
use mathlib.Core.List.{List, [], ◌∷◌, map}
use Prim.Native.Nat.{ℕ, zero, suc, ◌+◌, ◌<◌, ◌≤◌}
use native.Mathlib.Omega.{arith}
use lib.ListN.{length, get_or}
use lib.Dec.{leb, eqb}
use borrow.Author.Tests.{leb-true, eqb-true}
use Rattle.design.specs.Tree.{BoolExpr, Variable, Design, movers}
use Rattle.design.specs.Limits.{max_bytes, trailer_bytes, constrained, tail_bytes, offset_bytes, max_variables, max_matrices, max_cells, max_movers, max_depth, length_right, version_right, counts_right, movers_right}
use Rattle.design.specs.Reading.{Read, got, bad}
use Rattle.design.specs.Expression.{Names, with_later, bool_expr}
use Rattle.design.specs.DesignFile.{Item, item, refused, Walk, need, filling, after, items, offset, Matrix, Entry, variable_at, matrix_at, event_at, events, events_from, cell_at, cells_from, invariant_at, constraint_at}
use Rattle.design.specs.Check.{Checked, accepted, event_in, normals, invalids, trailer, version, has_constraint, items_end, constraint_offset, variable_count, matrices_offset, matrix_count, events_offset, cells_offset, cell_count, invariant_offset, names, sections, body, last, check}
use Rattle.design.specs.Sections.{Run, Rows, Cells, Parts}

pub after_inv : {A B : Type 0} (x : Item A) (k : A → ℕ → Item B) (b : B) (n : ℕ) → after x k ≡ item b n → (a : A) × (m : ℕ) × (x ≡ item a m) × (k a m ≡ item b n)
after_inv (item a m) k b n e = (a, m, refl, e)
after_inv (refused i p) k b n e = let z : ◌≡◌ {A = ℕ} 0 1 = cc in absurd (omega arith)

pub need_inv : {A : Type 0} (t : Bool) (i p : ℕ) (r : Item A) (a : A) (n : ℕ) → need t i p r ≡ item a n → (t ≡ true) × (r ≡ item a n)
need_inv true i p r a n e = (refl, e)
need_inv false i p r a n e = let z : ◌≡◌ {A = ℕ} 0 1 = cc in absurd (omega arith)

pub and_inv : (a b : Bool) → (a && b) ≡ true → (a ≡ true) × (b ≡ true)
and_inv true true e = (refl, refl)
and_inv true false e = (refl, e)
and_inv false true e = (e, refl)
and_inv false false e = (e, e)

pub item_past : {A : Type 0} (a b : A) (m n : ℕ) → item a m ≡ item b n → m ≡ n
item_past a b m n e = cc

pub item_same : {A : Type 0} (a b : A) (m n : ℕ) → item a m ≡ item b n → a ≡ b
item_same a b m n e = cc

pub items_run : {A : Type 0} (one : Walk A) (n at : ℕ) (xs : List A) (past : ℕ) → items one n at ≡ item xs past → (length xs ≡ n) × Run one at xs past
unfolding items
items_run one zero at [] past e = (refl, item_past _ _ _ _ e)
items_run one zero at (x ∷ xs) past e = let z : ◌≡◌ {A = ℕ} 0 1 = (let q : [] ≡ x ∷ xs = item_same _ _ _ _ e in cc) in absurd (omega arith)
items_run {A} one (suc n) at l past e =
    let (x, m, e₁, h) = after_inv (one at) _ l past e in
    let (xs, j, e₂, h') = after_inv (items one n m) _ l past h in
    let r = items_run one n m xs j e₂ in
    go x xs m j e₁ h' r.0 r.1 l (sym (item_same _ _ _ _ h')) (item_past _ _ _ _ h')
  where
    go : (x : A) (xs : List A) (m j : ℕ) → one at ≡ item x m → item (x ∷ xs) j ≡ item l past → length xs ≡ n → Run one m xs j → (l' : List A) → l' ≡ x ∷ xs → j ≡ past → (length l' ≡ suc n) × Run one at l' past
    go x xs m j e h c r l' q p = subst (λ (k : List A). (length k ≡ suc n) × Run one at k past) (sym q) (ap suc c, (m, e, subst (λ (i : ℕ). Run one m xs i) p r))

-- what fills its length was read up to there
pub filling_inv : {A : Type 0} (i p past : ℕ) (r : Read A) (a : A) (n : ℕ) → filling i p past r ≡ item a n → (r ≡ got a past) × (n ≡ past)
filling_inv i p past (got b m) a n e =
    let (t, h) = need_inv (eqb m past) i p (item b past) a n e in
    (ap (λ (j : ℕ). got b j) (eqb-true m past t) ∙ ap (λ (x : _). got x past) (item_same _ _ _ _ h), sym (item_past _ _ _ _ h))
filling_inv i p past bad a n e = let z : ◌≡◌ {A = ℕ} 0 1 = cc in absurd (omega arith)

-- the item at an index, and where it stands
unfoldable pub position : {A : Type 0} (one : Walk A) (at : ℕ) (xs : List A) (past : ℕ) → Run one at xs past → ℕ → ℕ
position one at [] past r i = at
position one at (x ∷ xs) past r zero = at
position one at (x ∷ xs) past r (suc i) = position one r.0 xs past r.2 i

pub at_position : {A : Type 0} (one : Walk A) (at : ℕ) (xs : List A) (past : ℕ) (r : Run one at xs past) (i : ℕ) (d : A) → i < length xs → one (position one at xs past r i) ≡ item (get_or xs i d) (position one at xs past r (suc i))
unfolding position
at_position one at [] past r i d h = absurd (omega arith)
at_position one at (x ∷ []) past r zero d h = r.1
at_position one at (x ∷ (y ∷ ys)) past r zero d h = r.1
at_position one at (x ∷ xs) past r (suc i) d h = at_position one r.0 xs past r.2 i d (omega arith)

-- an invariant, and a constraint: where they end, and what was read
module _ (file : List ℕ) (end : ℕ) (N : Names) where
  pub invariant_inv : (past at : ℕ) (x : BoolExpr) (n : ℕ) → invariant_at file end N past at ≡ item x n → (at ≤ past) × (past ≤ end) × (bool_expr file N past max_depth at ≡ got x past) × (n ≡ past)
  unfolding invariant_at
  invariant_inv past at x n e =
      let (t, h) = need_inv (leb at past && leb past end) 4 at _ x n e in
      let (a, b) = and_inv (leb at past) (leb past end) t in
      let (r, q) = filling_inv 8 at past (bool_expr file N past max_depth at) x n h in
      (leb-true _ _ a, leb-true _ _ b, r, q)

  pub constraint_inv : (at : ℕ) (x : BoolExpr) (n : ℕ) → constraint_at file end N true at ≡ item x n → (bool_expr file (with_later true N) end max_depth at ≡ got x end) × (n ≡ end)
  unfolding constraint_at
  constraint_inv at x n e = filling_inv 8 at end (bool_expr file (with_later true N) end max_depth at) x n e

-- the bytes behind the items: the trailer is among them
pub tail_least : (v : ℕ) → trailer_bytes ≤ tail_bytes v
tail_least v = go (constrained v)
  where
    go : (t : Bool) → trailer_bytes ≤ cond t (offset_bytes + trailer_bytes) trailer_bytes
    go true = omega arith
    go false = omega arith

pub items_before : (file : List ℕ) → items_end file ≤ trailer file
items_before file = let h = tail_least (version file) in omega arith

module _ (file : List ℕ) where
  abbrev E : ℕ
  E = items_end file

  rows_run : (m n at : ℕ) (rows : List (List BoolExpr)) (past : ℕ) → events_from file E (names file) (matrices_offset file) m n at ≡ item rows past → (length rows ≡ n) × Rows file m at rows past
  unfolding events_from
  rows_run m zero at [] past e = (refl, item_past _ _ _ _ e)
  rows_run m zero at (x ∷ xs) past e = let z : ◌≡◌ {A = ℕ} 0 1 = (let q : [] ≡ x ∷ xs = item_same _ _ _ _ e in cc) in absurd (omega arith)
  rows_run m (suc n) at l past e =
      let (x, j, e₁, h) = after_inv (items (event_at file E (names file)) (events file (matrices_offset file) m) at) _ l past e in
      let (xs, i, e₂, h') = after_inv (events_from file E (names file) (matrices_offset file) (m + 1) n j) _ l past h in
      let r = rows_run (m + 1) n j xs i e₂ in
      go x xs j i (items_run _ _ at x j e₁) r.0 r.1 l (sym (item_same _ _ _ _ h')) (item_past _ _ _ _ h')
    where
      go : (x : List BoolExpr) (xs : List (List BoolExpr)) (j i : ℕ) → (length x ≡ events file (matrices_offset file) m) × Run (event_at file E (names file)) at x j → length xs ≡ n → Rows file (m + 1) j xs i → (l' : List (List BoolExpr)) → l' ≡ x ∷ xs → i ≡ past → (length l' ≡ suc n) × Rows file m at l' past
      go x xs j i e c r l' q p = subst (λ (k : List (List BoolExpr)). (length k ≡ suc n) × Rows file m at k past) (sym q) (ap suc c, (j, e.0, e.1, subst (λ (b : ℕ). Rows file (m + 1) j xs b) p r))

  cells_run : (event_of : ℕ → ℕ → BoolExpr) (n before at : ℕ) (es : List Entry) (past : ℕ) → cells_from file E (names file) (matrices_offset file) event_of n before at ≡ item es past → (length es ≡ n) × Cells file event_of before at es past
  unfolding cells_from
  cells_run f zero before at [] past e = (refl, item_past _ _ _ _ e)
  cells_run f zero before at (x ∷ xs) past e = let z : ◌≡◌ {A = ℕ} 0 1 = (let q : [] ≡ x ∷ xs = item_same _ _ _ _ e in cc) in absurd (omega arith)
  cells_run f (suc n) before at l past e =
      let (x, m, e₁, h) = after_inv (cell_at file E (names file) (matrices_offset file) f before at) _ l past e in
      let (xs, j, e₂, h') = after_inv (cells_from file E (names file) (matrices_offset file) f n at m) _ l past h in
      let r = cells_run f n at m xs j e₂ in
      go x xs m j e₁ r.0 r.1 l (sym (item_same _ _ _ _ h')) (item_past _ _ _ _ h')
    where
      go : (x : Entry) (xs : List Entry) (m j : ℕ) → cell_at file E (names file) (matrices_offset file) f before at ≡ item x m → length xs ≡ n → Cells file f at m xs j → (l' : List Entry) → l' ≡ x ∷ xs → j ≡ past → (length l' ≡ suc n) × Cells file f before at l' past
      go x xs m j e c r l' q p = subst (λ (k : List Entry). (length k ≡ suc n) × Cells file f before at k past) (sym q) (ap suc c, (m, e, subst (λ (i : ℕ). Cells file f at m xs i) p r))

  elim_after : {A B R : Type 0} (x : Item A) (k : A → ℕ → Item B) (b : B) (n : ℕ) → after x k ≡ item b n → ((a : A) (m : ℕ) → x ≡ item a m → k a m ≡ item b n → R) → R
  elim_after (item a m) k b n e f = f a m refl e
  elim_after (refused i p) k b n e f = let z : ◌≡◌ {A = ℕ} 0 1 = cc in absurd (omega arith)

  -- past an offset that is right the walk goes on from the offset
  elim_offset : {B R : Type 0} (o at : ℕ) (k : Walk B) (b : B) (n : ℕ) → after (offset o at) (λ a m. k m) ≡ item b n → (at ≡ o → k o ≡ item b n → R) → R
  elim_offset o at k b n e f =
      elim_after (offset o at) (λ a m. k m) b n e λ a m q h.
      let r = need_inv (eqb o at) 4 at (item tt at) a m q in
      let t : at ≡ o = sym (eqb-true o at r.0) in
      f t (subst (λ (p : ℕ). k p ≡ item b n) (sym (item_past _ _ _ _ r.1) ∙ t) h)

  module _ (vs : List Variable) (ms : List Matrix) (rows : List (List BoolExpr)) (es : List Entry) (inv con : BoolExpr) where
    abbrev tree : Design
    tree = record { variables = vs; statuses = map (λ (m : Matrix). m.statuses) ms; cells = normals es; invalid = invalids es; invariant = inv; constraint = con }

    make : (p₁ p₂ p₃ p₄ p₅ p₆ : ℕ)
        → items (variable_at file E) (variable_count file) 0 ≡ item vs p₁ → p₁ ≡ matrices_offset file
        → items (matrix_at file E) (matrix_count file) (matrices_offset file) ≡ item ms p₂ → p₂ ≡ events_offset file
        → events_from file E (names file) (matrices_offset file) 0 (matrix_count file) (events_offset file) ≡ item rows p₃ → p₃ ≡ cells_offset file
        → cells_from file E (names file) (matrices_offset file) (event_in rows) (cell_count file) (cells_offset file) (cells_offset file) ≡ item es p₄ → p₄ ≡ invariant_offset file
        → invariant_at file E (names file) (constraint_offset file) (invariant_offset file) ≡ item inv p₅
        → constraint_at file E (names file) (has_constraint file) p₅ ≡ item con p₆ → Parts file tree
    make p₁ p₂ p₃ p₄ p₅ p₆ e₁ o₁ e₂ o₂ e₃ o₃ e₄ o₄ e₅ e₆ = record {
      matrices = ms;
      rows = rows;
      entries = es;
      variable_count_lem = (items_run (variable_at file E) (variable_count file) 0 vs p₁ e₁).0;
      variable_run = subst (λ (p : ℕ). Run (variable_at file E) 0 vs p) o₁ (items_run (variable_at file E) (variable_count file) 0 vs p₁ e₁).1;
      matrix_count_lem = (items_run (matrix_at file E) (matrix_count file) (matrices_offset file) ms p₂ e₂).0;
      matrix_run = subst (λ (p : ℕ). Run (matrix_at file E) (matrices_offset file) ms p) o₂ (items_run (matrix_at file E) (matrix_count file) (matrices_offset file) ms p₂ e₂).1;
      statuses = refl;
      row_count = (rows_run 0 (matrix_count file) (events_offset file) rows p₃ e₃).0;
      row_run = subst (λ (p : ℕ). Rows file 0 (events_offset file) rows p) o₃ (rows_run 0 (matrix_count file) (events_offset file) rows p₃ e₃).1;
      cell_count_lem = (cells_run (event_in rows) (cell_count file) (cells_offset file) (cells_offset file) es p₄ e₄).0;
      cell_run = subst (λ (p : ℕ). Cells file (event_in rows) (cells_offset file) (cells_offset file) es p) o₄ (cells_run (event_in rows) (cell_count file) (cells_offset file) (cells_offset file) es p₄ e₄).1;
      cells = refl;
      invalid = refl;
      invariant = e₅ ∙ ap (item inv) o₅;
      past = p₆;
      constraint = sym (ap (constraint_at file E (names file) (has_constraint file)) o₅) ∙ e₆;
    }
      where
        o₅ : p₅ ≡ constraint_offset file
        o₅ = (invariant_inv file E (names file) (constraint_offset file) (invariant_offset file) inv p₅ e₅).3

  pub body_parts : (d : Design) (past : ℕ) → body file 0 ≡ item d past → Parts file d
  unfolding sections
  body_parts d past e =
      elim_after (items (variable_at file E) (variable_count file) 0) _ d past e λ vs p₁ e₁ h₁.
      elim_offset (matrices_offset file) p₁ _ d past h₁ λ o₁ k₁.
      elim_after (items (matrix_at file E) (matrix_count file) (matrices_offset file)) _ d past k₁ λ ms p₂ e₂ h₂.
      elim_offset (events_offset file) p₂ _ d past h₂ λ o₂ k₂.
      elim_after (events_from file E (names file) (matrices_offset file) 0 (matrix_count file) (events_offset file)) _ d past k₂ λ rows p₃ e₃ h₃.
      elim_offset (cells_offset file) p₃ _ d past h₃ λ o₃ k₃.
      elim_after (cells_from file E (names file) (matrices_offset file) (event_in rows) (cell_count file) (cells_offset file) (cells_offset file)) _ d past k₃ λ es p₄ e₄ h₄.
      elim_offset (invariant_offset file) p₄ _ d past h₄ λ o₄ k₄.
      elim_after (invariant_at file E (names file) (constraint_offset file) (invariant_offset file)) _ d past k₄ λ inv p₅ e₅ h₅.
      elim_after (constraint_at file E (names file) (has_constraint file) p₅) _ d past h₅ λ con p₆ e₆ h₆.
      subst (Parts file) (item_same (tree vs ms rows es inv con) d p₆ past h₆) (make vs ms rows es inv con p₁ p₂ p₃ p₄ p₅ p₆ e₁ o₁ e₂ o₂ e₃ o₃ e₄ o₄ e₅ e₆)

  -- an accepted file: its length, version and counts, its body, and the number of movers
  pub record Whole (d : Design) : Type 0 where
    pub long : trailer_bytes ≤ length file
    pub short : length file ≤ max_bytes
    pub tail : tail_bytes (version file) ≤ length file
    pub version : version_right (version file) ≡ true
    pub variables : variable_count file ≤ max_variables
    pub matrix : 1 ≤ matrix_count file
    pub matrices : matrix_count file ≤ max_matrices
    pub cells : cell_count file ≤ max_cells
    pub parts : Parts file d
    pub mover : 1 ≤ length (movers d)
    pub movers : length (movers d) ≤ max_movers

  last_inv : (r : Item Design) (d : Design) → last file r ≡ accepted d → (past : ℕ) × (r ≡ item d past) × (1 ≤ length (movers d)) × (length (movers d) ≤ max_movers)
  last_inv (item d' past) d e = go (movers_right (length (movers d'))) refl e
    where
      go : (t : Bool) → movers_right (length (movers d')) ≡ t → cond t (accepted d') (Checked.refused 10 (length file)) ≡ accepted d → (p : ℕ) × (item d' past ≡ item d p) × (1 ≤ length (movers d)) × (length (movers d) ≤ max_movers)
      go true q e' =
          let s : d' ≡ d = cc in
          let r = and_inv _ _ q in
          (past, ap (λ (x : Design). item x past) s, subst (λ (x : Design). 1 ≤ length (movers x)) s (leb-true _ _ r.0), subst (λ (x : Design). length (movers x) ≤ max_movers) s (leb-true _ _ r.1))
      go false q e' = let z : ◌≡◌ {A = ℕ} 0 1 = cc in absurd (omega arith)
  last_inv (refused i p) d e = let z : ◌≡◌ {A = ℕ} 0 1 = cc in absurd (omega arith)

  abbrev counts : Bool
  counts = counts_right (variable_count file) (matrix_count file) (cell_count file)

  pub whole : (d : Design) → check file ≡ accepted d → Whole d
  unfolding check
  whole d e =
      let r₃ = need counts 3 (trailer file) (body file 0) in
      let r₂ = need (version_right (version file)) 2 (trailer file) r₃ in
      let r₁ = need (leb (tail_bytes (version file)) (length file)) 1 (length file) r₂ in
      let (past, h, lo, hi) = last_inv (need (length_right (length file)) 1 (length file) r₁) d e in
      let (t₁, h₁) = need_inv (length_right (length file)) 1 (length file) r₁ d past h in
      let (t₀, h₀) = need_inv (leb (tail_bytes (version file)) (length file)) 1 (length file) r₂ d past h₁ in
      let (t₂, h₂) = need_inv (version_right (version file)) 2 (trailer file) r₃ d past h₀ in
      let (t₃, h₃) = need_inv counts 3 (trailer file) (body file 0) d past h₂ in
      let a = and_inv (leb trailer_bytes (length file)) (leb (length file) max_bytes) t₁ in
      let few = leb 1 (matrix_count file) && leb (matrix_count file) max_matrices in
      let b = and_inv (leb (variable_count file) max_variables && few) (leb (cell_count file) max_cells) t₃ in
      let b' = and_inv (leb (variable_count file) max_variables) few b.0 in
      let m = and_inv (leb 1 (matrix_count file)) (leb (matrix_count file) max_matrices) b'.1 in
      record {
        long = leb-true _ _ a.0;
        short = leb-true _ _ a.1;
        tail = leb-true _ _ t₀;
        version = t₂;
        variables = leb-true _ _ b'.0;
        matrix = leb-true _ _ m.0;
        matrices = leb-true _ _ m.1;
        cells = leb-true _ _ b.1;
        parts = body_parts d past h₃;
        mover = lo;
        movers = hi;
      }
