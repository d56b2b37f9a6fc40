-- Facts about an accepted file with its table of events and its shape, for every layer that walks it. Assumes nothing.
use mathlib.Core.Path.{◌≡◌, refl, sym, ap, ap₂, subst, ◌∙◌}
use mathlib.Core.Bool.{Bool, true}
use mathlib.Core.List.{List}
use Prim.Native.Nat.{ℕ, zero, suc, ◌+◌, ◌*◌, ◌<◌, ◌≤◌}
use native.Mathlib.Omega.{arith}
use lib.ListN.{get_or, length}
use Rattle.design.specs.Tree.{BoolExpr, constant_b, boolean, Variable, Design, movers}
use Rattle.design.specs.State.{slot_count}
use Rattle.design.specs.Limits.{trailer_bytes, tail_bytes, max_bytes, max_variables, max_matrices, max_events, max_movers, max_depth, max_nest, event_places, max_slots}
use Rattle.design.specs.Reading.{got}
use Rattle.design.specs.Expression.{Names, with_later, bool_expr}
use Rattle.design.specs.Action.{list}
use Rattle.design.specs.DesignFile.{item, guard, normal, events, c_matrix, c_event, c_guard, c_middle, c_past}
use Rattle.design.specs.Check.{check, accepted, names_in, names_of, names, version, has_constraint, items_end, constraint_offset, variable_count, matrix_count, matrices_offset, event_in}
use Rattle.design.specs.Places.{Accepted, Shaped, MoversIndexed, Indexed, externals_from, past_events, events_start}
use Rattle.design.specs.Answers.{walked}
use Rattle.design.specs.Sections.{Parts, EventRead, NormalRead, CellFields, NormalCell}
use Rattle.design.specs.declared.shape.Shape.{Shape}
use Rattle.design.proofs.Sections.{filling_inv, item_same, whole}
use Rattle.design.proofs.Items.{variable_ends}
use Rattle.design.proofs.Positions.{variable_stands, constraint_stands}
use Rattle.design.proofs.Places.{Read as Tree, read, event_stands, cell_fields}
use Rattle.design.proofs.Tables.{few_events}
use Rattle.design.proofs.Externals.{mover_count}

-- the file has the bytes behind its items
pub tail_inside : (file : List ℕ) → Accepted file → tail_bytes (version file) ≤ length file
tail_inside file a = (read file a).all.tail

-- the variables stand in the file
pub variables_inside : (file : List ℕ) → Accepted file → 3 * variable_count file ≤ items_end file
variables_inside file a = go (variable_count file) refl
  where
    go : (n : ℕ) → n ≡ variable_count file → 3 * n ≤ items_end file
    go zero q = omega arith
    go (suc v) q =
        let t = read file a in
        let x : Variable = record { kind = boolean; initial = 0 } in
        let k = (variable_ends file (items_end file) (3 * v) (3 * v + 3) (sym (ap walked (variable_stands file t.tree t.all.parts v (omega arith) x)))).1 in
        omega arith

module _ (file : List ℕ) (a : Accepted file) (h : Shape) (s : Shaped file h) where
  -- the names of the file, by its shape
  pub names_here : names_of file h ≡ names file
  names_here = ap₂ (names_in file) s.variables s.matrices

  pub sizes : (trailer_bytes ≤ length file) × (length file ≤ max_bytes) × (h.matrices ≤ max_matrices) × (h.variables ≤ max_variables)
  sizes = let b = (read file a).all in (b.long, b.short, omega (arith, b.matrices, s.matrices), omega (arith, b.variables, s.variables))

  pub kinds : 3 * h.variables ≤ length file
  kinds = let q = variables_inside file a in let b = sizes in omega (arith, s.variables)

-- a state has few slots
pub sized : (file : List ℕ) → Accepted file → (h : Shape) → Shaped file h → (h.variables ≤ max_variables) × (h.matrices ≤ max_matrices) × (slot_count h ≤ max_slots)
sized file a h s = let z = sizes file a h s in (z.3, z.2, omega arith)

-- the movers by the shape are those of the tree, and few
module _ (file cells : List ℕ) (h : Shape) (s : Shaped file h) (m : MoversIndexed file cells h) where
  pub count_movers : (d : Design) → check file ≡ accepted d → h.normals + h.externals ≡ length (movers d)
  count_movers d c =
      let k = mover_count file d (whole file d c).parts in
      let n = ap (λ (j : ℕ). length (externals_from file 0 j)) s.variables in
      omega (arith, m.normals.count, m.externals)

  pub few_movers : Accepted file → h.normals + h.externals ≤ max_movers
  few_movers a = let t = read file a in omega (arith, count_movers t.tree t.is, t.all.movers)

module _ (file table : List ℕ) (h : Shape) (i : Indexed file table h) where
  abbrev N : Names
  N = names_of file h

  abbrev E : ℕ
  E = items_end file

  names_same : N ≡ names file
  names_same = names_here file i.accepted h i.shaped

  tree : Tree file
  tree = read file i.accepted

  -- event e of matrix m
  module _ (m e : ℕ) (a : m < h.matrices) (b : e < events file (matrices_offset file) m) where
    abbrev pub place : ℕ
    place = get_or table (max_events * m + e) 0

    in_file : m < matrix_count file
    in_file = omega (arith, i.shaped.matrices)

    pub event_slot : max_events * m + e < event_places
    event_slot = omega (arith, few_events file i.accepted m in_file, sizes file i.accepted h i.shaped)

    module _ (d : Design) (w : Parts file d) where
      event_read : EventRead file E (names file) place (event_in w.rows m e) (past_events file (suc e) (events_start file m))
      event_read =
          subst (λ (p : ℕ). EventRead file E (names file) p (event_in w.rows m e) (past_events file (suc e) (events_start file m)))
          (sym (i.events.entry m e in_file b)) (event_stands file d w m e in_file b)

      pub event_got : (n at : ℕ) → n ≡ place + 1 + get_or file place 0 → at ≡ place + 1 → bool_expr file N n max_depth at ≡ got (event_in w.rows m e) n
      event_got n at p q =
          let t = event_read in
          let z : past_events file (suc e) (events_start file m) ≡ n = t.past ∙ sym p in
          ap (λ (x : Names). bool_expr file x n max_depth at) names_same ∙ ap (bool_expr file (names file) n max_depth) q
          ∙ subst (λ (j : ℕ). bool_expr file (names file) j max_depth (place + 1) ≡ got (event_in w.rows m e) j) z t.reads

    pub event_inside : place + 1 + get_or file place 0 ≤ E
    event_inside = let t = event_read tree.tree tree.all.parts in omega (arith, t.past, t.inside)

    -- some tree stands there
    pub event_some : (n at : ℕ) → n ≡ place + 1 + get_or file place 0 → at ≡ place + 1 → (x : BoolExpr) × (bool_expr file N n max_depth at ≡ got x n)
    event_some n at p q = (event_in tree.all.parts.rows m e, event_got tree.tree tree.all.parts n at p q)

  -- what a cell's bytes name is there
  pub cell_names : (p m e : ℕ) → m ≡ c_matrix file p → e ≡ c_event file p → CellFields file p → (m < h.matrices) × (e < events file (matrices_offset file) m)
  cell_names p m e a c g =
      let q = g.matrix in
      (omega (arith, i.shaped.matrices), subst (λ (j : ℕ). e < events file (matrices_offset file) j) (sym a) (subst (λ (j : ℕ). j < events file (matrices_offset file) (c_matrix file p)) (sym c) g.event))

  -- a normal cell
  module _ (p : ℕ) (x : NormalCell file p) where
    pub normal_fields : CellFields file p
    normal_fields = cell_fields file (event_in x.parts.rows) p (normal x.cell) x.stands

    pub cell_is : NormalRead file E (names file) (matrices_offset file) (event_in x.parts.rows) p x.cell
    cell_is = x.stands.1.entry.1

    pub guard_none : c_guard file p ≡ 0 → x.cell.guard ≡ constant_b true
    guard_none e = sym (item_same _ _ _ _ (sym (ap (guard file E (names file) p) e) ∙ cell_is.guard))

    filled : (k : ℕ) → (k ≡ 0 → ⊥) → (g : BoolExpr) (n : ℕ) → guard file E (names file) p k ≡ item g n → bool_expr file (names file) (c_middle file p) max_depth (p + 8) ≡ got g (c_middle file p)
    filled zero z g n e = absurd (z refl)
    filled (suc k) z g n e = (filling_inv 8 p (c_middle file p) (bool_expr file (names file) (c_middle file p) max_depth (p + 8)) g n e).0

    pub guard_got : (n : ℕ) → n ≡ c_guard file p → (n ≡ 0 → ⊥) → bool_expr file N (p + 8 + n) max_depth (p + 8) ≡ got x.cell.guard (c_middle file p)
    guard_got n e z =
        ap (λ (k : ℕ). bool_expr file N (p + 8 + k) max_depth (p + 8)) e ∙ ap (λ (y : Names). bool_expr file y (c_middle file p) max_depth (p + 8)) names_same
        ∙ filled (c_guard file p) (λ q. z (e ∙ q)) x.cell.guard (c_middle file p) cell_is.guard

    pub action_got : (m n : ℕ) → m ≡ c_middle file p → n ≡ c_past file p → list file N n max_nest m ≡ got x.cell.action n
    action_got m n a b =
        ap (λ (y : Names). list file y n max_nest m) names_same ∙ ap (λ (j : ℕ). list file (names file) j max_nest m) b
        ∙ ap (list file (names file) (c_past file p) max_nest) a ∙ cell_is.action ∙ ap (got x.cell.action) (sym b)

-- a reader by the shape's names is the file's
named : (file : List ℕ) (h : Shape) (later : Bool) (at at' end : ℕ) (x : BoolExpr) → names_of file h ≡ names file → at ≡ at' → bool_expr file (with_later later (names file)) end max_depth at' ≡ got x end → bool_expr file (with_later later (names_of file h)) end max_depth at ≡ got x end
named file h later at at' end x n p r = ap (λ (y : Names). bool_expr file (with_later later y) end max_depth at) n ∙ ap (bool_expr file (with_later later (names file)) end max_depth) p ∙ r

-- the constraint, of which some tree stands there
module _ (file : List ℕ) (a : Accepted file) (h : Shape) (s : Shaped file h) (at end : ℕ) (p : at ≡ constraint_offset file) (e : end ≡ items_end file) where
  pub constraint_got : (d : Design) (w : Parts file d) → has_constraint file ≡ true → bool_expr file (with_later true (names_of file h)) end max_depth at ≡ got d.constraint end
  constraint_got d w c =
      named file h true at (constraint_offset file) end d.constraint (names_here file a h s) p
      (subst (λ (j : ℕ). bool_expr file (with_later true (names file)) j max_depth (constraint_offset file) ≡ got d.constraint j) (sym e) (constraint_stands file d w c))

  pub constraint_some : has_constraint file ≡ true → (x : BoolExpr) × (bool_expr file (with_later true (names_of file h)) end max_depth at ≡ got x end)
  constraint_some c = let t = read file a in (t.tree.constraint, constraint_got t.tree t.all.parts c)
