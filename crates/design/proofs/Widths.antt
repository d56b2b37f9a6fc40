-- The state's bits by the file's bytes: widths and offsets, and that they are the design's. Assumes nothing.
use mathlib.Core.Path.{◌≡◌, refl, sym, ap, ap₂, ◌∙◌}
use mathlib.Core.Bool.{Bool, true, false, cond, ◌&&◌, ◌||◌}
use mathlib.Core.List.{List, [], ◌∷◌, ◌++◌, map}
use Prim.Native.Nat.{ℕ, zero, suc, ◌+◌, ◌*◌, ◌<◌, ◌≤◌}
use native.Mathlib.Omega.{arith}
use native.Mathlib.Numerals.{add-one}
use lib.ListN.{length, get_or, replicate, length-map}
use lib.Dec.{eqb, leb}
use borrow.Author.Tests.{leb-true}
use Rattle.design.specs.Tree.{Variable, Design}
use Rattle.design.specs.State.{layout_in, layout, width, status_width, mark_width, widths, widths_from, widths_of, total, S}
use Rattle.design.specs.DesignFile.{Item, item, need, kind, at8, at16, Matrix, variable_at}
use Rattle.design.specs.Check.{items_end, variable_count, matrix_count}
use Rattle.design.specs.Sections.{Run, Parts}
use Rattle.design.proofs.Sections.{need_inv, and_inv, item_same, item_past}

pub total_append : (xs ys : List ℕ) → total (xs ++ ys) ≡ total xs + total ys
total_append [] ys = omega arith
total_append (x ∷ xs) ys = omega (arith, total_append xs ys)

pub statuses_total : (m : ℕ) → total (replicate m status_width) ≡ 4 * m
statuses_total zero = refl
statuses_total (suc m) = omega (arith, statuses_total m)

-- the width of variable v by its kind byte
abbrev pub width_at : List ℕ → ℕ → ℕ
width_at file v = cond (eqb (get_or file (3 * v) 0) 1) 16 1

width_small : (t : Bool) → cond t 16 1 ≤ 16
width_small true = omega arith
width_small false = omega arith

pub width_bound : (file : List ℕ) (i w : ℕ) → w ≡ width_at file i → w ≤ 16
width_bound file i w e = omega (arith, width_small (eqb (get_or file (3 * i) 0) 1), e)

total_more : (file : List ℕ) (u n : ℕ) → total (widths_from file u (suc n)) ≡ total (widths_from file u n) + width_at file (u + n)
unfolding widths_from
total_more file u zero = let q : u ≡ u + 0 = omega arith in omega (arith, ap (width_at file) q)
total_more file u (suc n) = let q : suc u + n ≡ u + suc n = omega arith in omega (arith, total_more file (suc u) n, ap (width_at file) q)

pub variables_small : (file : List ℕ) (v n : ℕ) → total (widths_from file v n) ≤ 16 * n
unfolding widths_from
variables_small file v zero = omega arith
variables_small file v (suc n) = omega (arith, width_small (eqb (get_or file (3 * v) 0) 1), variables_small file (suc v) n)

-- the bits of the first i variables are added
pub record Adding (file : List ℕ) (v sum i : ℕ) : Type 0 where
  pub within : i ≤ v
  pub same : sum ≡ total (widths_from file 0 i)
  pub small : sum ≤ 16 * i

pub adding_start : (file : List ℕ) (v : ℕ) → Adding file v 0 0
unfolding widths_from
adding_start file v = record { within = omega arith; same = refl; small = omega arith }

pub adding_on : (file : List ℕ) (v sum i w : ℕ) → i < v → w ≡ width_at file i → Adding file v sum i → Adding file v (sum + w) (i + 1)
adding_on file v sum i w h e l =
    record {
      within = omega arith;
      same = ap₂ (λ (a b : ℕ). a + b) l.same e
          ∙ ap (λ (k : ℕ). total (widths_from file 0 i) + width_at file k) (let q : i ≡ 0 + i = omega arith in q)
          ∙ sym (total_more file 0 i) ∙ ap (λ (k : ℕ). total (widths_from file 0 k)) (sym (add-one i));
      small = omega (arith, l.small, width_bound file i w e);
    }

pub adding_end : (file : List ℕ) (v sum i : ℕ) → v ≤ i → Adding file v sum i → sum ≡ total (widths_from file 0 v)
adding_end file v sum i h l = l.same ∙ ap (λ (k : ℕ). total (widths_from file 0 k)) (let q : i ≡ v = omega (arith, l.within) in q)

-- the variables' bits, 4 for each status, and 1 for the mark
pub state_size : (file : List ℕ) (nv nm o : ℕ) → o ≡ total (widths_from file 0 nv) → o + 4 * nm + 1 ≡ total (widths_of file nv nm)
unfolding widths_of
state_size file nv nm o e = omega (arith, total_append (widths_from file 0 nv) (replicate nm 4 ++ (1 ∷ [])), total_append (replicate nm 4) (1 ∷ []), statuses_total nm)

-- a variable of an accepted file: its kind is that of its byte
pub variable_is : (file : List ℕ) (end at n : ℕ) (x : Variable) → variable_at file end at ≡ item x n
    → (x.kind ≡ kind (at8 file at)) × (at8 file at ≤ 2) × (n ≡ at + 3)
unfolding variable_at
variable_is file end at n x e =
    let right = leb (at8 file at) 2 && (eqb (at8 file at) 1 || leb (at16 file (at + 1)) 1) in
    let made : Item Variable = item (record { kind = kind (at8 file at); initial = at16 file (at + 1) }) (at + 3) in
    let (a, b) = need_inv (leb (at + 3) end) 4 at (need right 5 at made) x n e in
    let (c, f) = need_inv right 5 at made x n b in (
      ap (λ (y : Variable). y.kind) (sym (item_same _ _ _ _ f)),
      leb-true _ _ (and_inv (leb (at8 file at) 2) (eqb (at8 file at) 1 || leb (at16 file (at + 1)) 1) c).0,
      sym (item_past _ _ _ _ f),
    )

pub kind_width : (k : ℕ) → k ≤ 2 → cond (eqb k 1) 16 1 ≡ width (kind k)
kind_width zero h = refl
kind_width (suc zero) h = refl
kind_width (suc (suc zero)) h = refl
kind_width (suc (suc (suc k))) h = absurd (omega arith)

-- the widths that the kind bytes say are those of the tree
pub widths_run : (file : List ℕ) (end v at past : ℕ) (xs : List Variable) → at ≡ 3 * v → Run (variable_at file end) at xs past
    → widths_from file v (length xs) ≡ map (λ (x : Variable). width x.kind) xs
unfolding widths_from
widths_run file end v at past [] q r = refl
widths_run file end v at past (x ∷ xs) q r =
    let (k, s, n) = variable_is file end at r.0 x r.1 in
    ap₂ (λ (a : ℕ) (l : List ℕ). a ∷ l)
    (ap (λ (j : ℕ). cond (eqb (get_or file j 0) 1) 16 1) (sym q) ∙ kind_width (at8 file at) s ∙ ap width (sym k))
    (widths_run file end (suc v) r.0 past xs (omega arith) r.2)

module _ (file : List ℕ) (d : Design) (p : Parts file d) where
  pub matrix_count_lem : length d.statuses ≡ matrix_count file
  matrix_count_lem = ap length p.statuses ∙ length-map p.matrices (λ (m : Matrix). m.statuses) ∙ p.matrix_count_lem

  module _ (nv nm : ℕ) (e : nv ≡ variable_count file) (q : nm ≡ matrix_count file) where
    pub widths_are : widths_of file nv nm ≡ widths d
    unfolding widths_of widths
    widths_are =
        ap₂ (λ (a b : List ℕ). a ++ b)
        (ap (widths_from file 0) (e ∙ sym p.variable_count_lem) ∙ widths_run file (items_end file) 0 0 _ d.variables refl p.variable_run)
        (ap (λ (n : ℕ). replicate n status_width ++ (mark_width ∷ [])) (q ∙ sym matrix_count_lem))

    pub layout_is : layout_in nv nm ≡ layout d
    unfolding layout
    layout_is = ap₂ layout_in (e ∙ sym p.variable_count_lem) (q ∙ sym matrix_count_lem)

    pub bits_are : total (widths_of file nv nm) ≡ S d
    unfolding S
    bits_are = ap total widths_are
