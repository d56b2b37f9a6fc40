-- The loops that fill the tables: what has been filled so far. Assumes nothing.
use mathlib.Core.Path.{◌≡◌, refl, sym, ap, subst, ◌∙◌}
use mathlib.Core.Bool.{cond}
use mathlib.Core.List.{List, [], ◌∷◌, ◌++◌, append_assoc, map}
use mathlib.Core.Logic.{⊎_elim}
use Prim.Native.Nat.{ℕ, suc, ◌+◌, ◌*◌, ◌-◌, ◌<◌, ◌≤◌}
use native.Mathlib.Omega.{arith}
use native.Mathlib.Numerals.{add-one}
use native.Mathlib.Nat.{eq-or-lt_of_le}
use lib.ListN.{get_or, length, take, set, length-set, length-append, length-map}
use lib.Seq.{get_or-set_same, get_or-set_other, take-suc-set, length-take-le}
use lib.Dec.{eqb}
use borrow.Author.Tests.{eq-eqb, ne_eqb}
use Rattle.design.specs.Tree.{cell, movers, externals}
use Rattle.design.specs.DesignFile.{events, at8, c_kind, c_past}
use Rattle.design.specs.Check.{items_end, matrices_offset, matrix_count, events_offset, cells_offset, cell_count}
use Rattle.design.specs.Places.{Accepted, past_events, past_cells, events_start, event_place, normals_from, normal_places, EventsIndexed, CellsIndexed}
use Rattle.design.proofs.Places.{read, event_stands, matrix_inside, events_few, normal_stands, cell_inside}
use Rattle.design.specs.Limits.{max_bytes, max_matrices, max_movers, event_places, max_events, trailer_bytes}

less_or_same : (k i : ℕ) → k < i + 1 → (P : ℕ → Type 0) → (k < i → P k) → P i → P k
less_or_same k i l P f p = ⊎_elim (λ e. subst P (sym e) p) f (eq-or-lt_of_le (let z : k ≤ i = omega arith in z))

-- what is known of an accepted file
module _ (file : List ℕ) (h : Accepted file) where
  pub record Bounds : Type 0 where
    pub long : trailer_bytes ≤ length file
    pub short : length file ≤ max_bytes
    pub matrices : matrix_count file ≤ max_matrices

  pub bounds : Bounds
  bounds = let w = (read file h).all in record { long = w.long; short = w.short; matrices = w.matrices }

  pub few_events : (m : ℕ) → m < matrix_count file → events file (matrices_offset file) m ≤ max_events
  few_events m l = let r = read file h in events_few file r.tree r.all.parts m l

  pub matrix_in : (m : ℕ) → m < matrix_count file → matrices_offset file + 2 * m + 2 ≤ items_end file
  matrix_in m l = let r = read file h in matrix_inside file r.tree r.all.parts m l

  pub event_in_lem : (m e : ℕ) → m < matrix_count file → e < events file (matrices_offset file) m → event_place file m e < items_end file
  event_in_lem m e l k =
      let r = read file h in
      let t = event_stands file r.tree r.all.parts m e l k in
      let a = t.past in
      let b = t.inside in
      omega arith

  pub cell_in : (i : ℕ) → i < cell_count file → (past_cells file i (cells_offset file) + 8 ≤ items_end file) × (past_cells file (suc i) (cells_offset file) ≤ items_end file)
  cell_in i l = let r = read file h in cell_inside file r.tree r.all.parts i l

  pub few_normals : length (normal_places file) ≤ max_movers
  unfolding movers
  few_normals =
      let r = read file h in
      let a = (normal_stands file r.tree r.all.parts).count in
      let b = length-append (map cell r.tree.cells) (externals 0 r.tree.variables) in
      let c = length-map r.tree.cells cell in
      let e = r.all.movers in
      omega arith

-- a row of events
module _ (file : List ℕ) (at m : ℕ) (table₀ : List ℕ) where
  pub record RowGoing (p i : ℕ) (table : List ℕ) : Type 0 where
    pub here : p ≡ past_events file i at
    pub filled : (j : ℕ) → j < i → get_or table (max_events * m + j) 0 ≡ past_events file j at
    pub kept : (j : ℕ) → j < max_events * m → get_or table j 0 ≡ get_or table₀ j 0
    pub size : length table ≡ event_places

  pub row_start : length table₀ ≡ event_places → RowGoing at 0 table₀
  unfolding past_events
  row_start s = record { here = refl; filled = λ j l. absurd (omega arith); kept = λ j l. refl; size = s }

  pub row_on : (p i w : ℕ) (table : List ℕ) → RowGoing p i table → max_events * m + i < event_places → w ≡ get_or file p 0 → RowGoing (p + 1 + w) (i + 1) (set table (max_events * m + i) p)
  unfolding past_events
  row_on p i w table g l q = record {
    here = ap (λ (x : ℕ). p + 1 + x) q ∙ ap (λ (x : ℕ). x + 1 + at8 file x) g.here ∙ sym (ap (λ (n : ℕ). past_events file n at) (add-one i));
    filled = λ j k. less_or_same j i k (λ (n : ℕ). get_or (set table (max_events * m + i) p) (max_events * m + n) 0 ≡ past_events file n at) (λ k'. get_or-set_other table (max_events * m + i) (max_events * m + j) p 0 (λ e. omega arith) ∙ g.filled j k') (get_or-set_same table (max_events * m + i) p 0 (omega (arith, g.size)) ∙ g.here);
    kept = λ j k. get_or-set_other table (max_events * m + i) j p 0 (λ e. omega arith) ∙ g.kept j k;
    size = length-set table (max_events * m + i) p ∙ g.size;
  }

-- the rows of all matrices
pub record EventsGoing (file : List ℕ) (p m : ℕ) (table : List ℕ) : Type 0 where
  pub here : p ≡ events_start file m
  pub filled : (k e : ℕ) → k < m → e < events file (matrices_offset file) k → get_or table (max_events * k + e) 0 ≡ event_place file k e
  pub inside : m ≤ matrix_count file

pub events_start_lem : (file : List ℕ) (p : ℕ) (table : List ℕ) → p ≡ events_offset file → EventsGoing file p 0 table
unfolding events_start
events_start_lem file p table e = record { here = e; filled = λ k e l. absurd (omega arith); inside = omega arith }

module _ (file : List ℕ) (h : Accepted file) where
  pub row_inside : (p m c : ℕ) (table : List ℕ) → EventsGoing file p m table → m < matrix_count file → c ≡ events file (matrices_offset file) m → (i : ℕ) → i < c → past_events file i p < length file
  row_inside p m c table g l e i k =
      let t = event_in_lem file h m i l (omega arith) in
      let q : past_events file i p ≡ event_place file m i = ap (past_events file i) g.here in
      let b = (bounds file h).long in
      omega arith

  pub events_on : (p q m c : ℕ) (table₀ table : List ℕ) → EventsGoing file p m table₀ → m < matrix_count file → c ≡ events file (matrices_offset file) m
      → (q ≡ past_events file c p) × ((i : ℕ) → i < c → get_or table (max_events * m + i) 0 ≡ past_events file i p) × ((i : ℕ) → i < max_events * m → get_or table i 0 ≡ get_or table₀ i 0) → EventsGoing file q (m + 1) table
  unfolding events_start
  events_on p q m c table₀ table g l e r = record {
    here = r.0 ∙ ap (λ (n : ℕ). past_events file n p) e ∙ ap (past_events file (events file (matrices_offset file) m)) g.here ∙ sym (ap (events_start file) (add-one m));
    filled = λ k i t u. less_or_same k m t (λ (n : ℕ). i < events file (matrices_offset file) n → get_or table (max_events * n + i) 0 ≡ event_place file n i)
        (λ t' u'. r.2 (max_events * k + i) (omega (arith, few_events file h k (omega arith))) ∙ g.filled k i t' u')
        (λ u'. r.1 i (omega arith) ∙ ap (past_events file i) g.here) u;
    inside = omega arith;
  }

pub events_end : (file : List ℕ) (p m : ℕ) (table : List ℕ) → matrix_count file ≤ m → EventsGoing file p m table → EventsIndexed file table
events_end file p m table l g = record { entry = λ k e t u. g.filled k e (omega arith) u }

-- the normal cells
pub record CellsGoing (file : List ℕ) (p i n : ℕ) (table : List ℕ) : Type 0 where
  pub here : p ≡ past_cells file i (cells_offset file)
  pub inside : i ≤ cell_count file
  pub same : take n table ++ normals_from file (cell_count file - i) p ≡ normal_places file
  pub size : length table ≡ max_movers
  pub few : n ≤ max_movers

pub cells_start : (file : List ℕ) (p : ℕ) (table : List ℕ) → p ≡ cells_offset file → length table ≡ max_movers → CellsGoing file p 0 0 table
unfolding past_cells
cells_start file p table e s = record { here = e; inside = omega arith; same = ap (λ (k : ℕ). normals_from file k p) (let z : cell_count file - 0 ≡ cell_count file = omega arith in z) ∙ ap (normals_from file (cell_count file)) e; size = s; few = omega arith }

module _ (file : List ℕ) (h : Accepted file) where
  module _ (p i n : ℕ) (table : List ℕ) (g : CellsGoing file p i n table) (l : i < cell_count file) where
    pub cell_here : (p + 8 ≤ items_end file) × (c_past file p ≤ items_end file)
    unfolding past_cells
    cell_here =
        let t = cell_in file h i l in
        (subst (λ (x : ℕ). x + 8 ≤ items_end file) (sym g.here) t.0, subst (λ (x : ℕ). c_past file x ≤ items_end file) (sym g.here) t.1)

    ahead : (q : ℕ) → q ≡ c_past file p → (q ≡ past_cells file (i + 1) (cells_offset file)) × (i + 1 ≤ cell_count file)
    unfolding past_cells
    ahead q e = (e ∙ ap (c_past file) g.here ∙ sym (ap (λ (k : ℕ). past_cells file k (cells_offset file)) (add-one i)), omega arith)

    step : normals_from file (cell_count file - i) p ≡ cond (eqb (c_kind file p) 0) (p ∷ normals_from file (cell_count file - (i + 1)) (c_past file p)) (normals_from file (cell_count file - (i + 1)) (c_past file p))
    unfolding normals_from
    step = ap (λ (k : ℕ). normals_from file k p) (let z : cell_count file - i ≡ suc (cell_count file - (i + 1)) = omega arith in z)

    module _ (e : get_or file (p + 3) 0 ≡ 0) where
      front : normals_from file (cell_count file - i) p ≡ p ∷ normals_from file (cell_count file - (i + 1)) (c_past file p)
      front = step ∙ (rw (eq-eqb _ _ e))

      pub cells_room : n < max_movers
      cells_room =
          let a = ap length (sym g.same ∙ refl) in
          let b = length-append (take n table) (normals_from file (cell_count file - i) p) in
          let c = length-take-le n table (omega (arith, g.few, g.size)) in
          let f = ap length front in
          let t = few_normals file h in
          omega arith

      cells_stored : (q : ℕ) → q ≡ c_past file p → CellsGoing file q (i + 1) (n + 1) (set table n p)
      cells_stored q f = record {
        here = (ahead q f).0;
        inside = (ahead q f).1;
        same =
            ap (λ (k : ℕ). take k (set table n p) ++ normals_from file (cell_count file - (i + 1)) q) (add-one n)
            ∙ ap (λ (x : List ℕ). x ++ normals_from file (cell_count file - (i + 1)) q) (take-suc-set table n p (omega (arith, cells_room, g.size)))
            ∙ append_assoc (take n table) (p ∷ []) (normals_from file (cell_count file - (i + 1)) q)
            ∙ ap (λ (x : ℕ). take n table ++ (p ∷ normals_from file (cell_count file - (i + 1)) x)) f
            ∙ ap (λ (x : List ℕ). take n table ++ x) (sym front) ∙ g.same;
        size = length-set table n p ∙ g.size;
        few = omega (arith, cells_room);
      }

      pub cells_normal : (q n' : ℕ) (table' : List ℕ) → q ≡ c_past file p → n' ≡ n + 1 → table' ≡ set table n p → CellsGoing file q (i + 1) n' table'
      cells_normal q n' table' f a b = subst (λ (k : ℕ). CellsGoing file q (i + 1) k table') (sym a) (subst (CellsGoing file q (i + 1) (n + 1)) (sym b) (cells_stored q f))

    cells_passed : (get_or file (p + 3) 0 ≡ 0 → ⊥) → (q : ℕ) → q ≡ c_past file p → CellsGoing file q (i + 1) n table
    cells_passed e q f = record {
      here = (ahead q f).0;
      inside = (ahead q f).1;
      same = ap (λ (x : ℕ). take n table ++ normals_from file (cell_count file - (i + 1)) x) f ∙ ap (λ (x : List ℕ). take n table ++ x) (sym (step ∙ (rw (ne_eqb _ _ e)))) ∙ g.same;
      size = g.size;
      few = g.few;
    }

    pub cells_invalid : (get_or file (p + 3) 0 ≡ 0 → ⊥) → (q n' : ℕ) (table' : List ℕ) → q ≡ c_past file p → n' ≡ n → table' ≡ table → CellsGoing file q (i + 1) n' table'
    cells_invalid e q n' table' f a b = subst (λ (k : ℕ). CellsGoing file q (i + 1) k table') (sym a) (subst (CellsGoing file q (i + 1) n) (sym b) (cells_passed e q f))

pub cells_end : (file : List ℕ) (p i n : ℕ) (table : List ℕ) → cell_count file ≤ i → CellsGoing file p i n table → CellsIndexed file table n
unfolding normals_from
cells_end file p i n table l g =
    let z : cell_count file - i ≡ 0 = omega arith in
    let e : take n table ≡ normal_places file = nil (take n table) ∙ sym (ap (λ (k : ℕ). take n table ++ normals_from file k p) z) ∙ g.same in
    record { count = sym (length-take-le n table (omega (arith, g.few, g.size))) ∙ ap length e; entries = e }
  where
    nil : (xs : List ℕ) → xs ≡ xs ++ []
    nil [] = refl
    nil (x ∷ xs) = ap (λ (l : List ℕ). x ∷ l) (nil xs)
