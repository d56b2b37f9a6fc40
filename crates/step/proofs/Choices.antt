-- What the mover that a choice names does is the step. Assumes nothing.
use Rattle.std.proofs.Common.{◌≡◌, ℕ, ◌+◌, ◌-◌, ◌<◌, ◌≤◌, false, List, length, get_or, sym, ap, ◌∙◌, subst, arith, get_or-take}
use mathlib.Core.Option.{Option, some}
use lib.ListN.{get_elem?}
use Rattle.design.specs.Tree.{Cell, Design, Mover, cell, raise, constant_b, done, movers}
use Rattle.design.specs.State.{State, Layout, layout, layout_of}
use Rattle.design.specs.DesignFile.{normal}
use Rattle.design.specs.Check.{check, accepted, variable_count, event_in}
use Rattle.design.specs.Places.{Accepted, Shaped, Measured, CellsIndexed, MoversIndexed, normal_places, externals_from}
use Rattle.design.specs.Sections.{Parts, Standing, NormalCell}
use Rattle.design.proofs.Sections.{whole}
use Rattle.design.proofs.Places.{read, normal_stands, cell_fields}
use Rattle.design.proofs.Tables.{few_normals}
use Rattle.step.specs.OneStep.{move, moved, idles, step, idle}
use Rattle.step.specs.StatusEventGuard.{event_read_of, guard_read_of, of_named, event_read_by, guard_read_by}
use Rattle.step.specs.Ready.{tested_of, tested_by}
use Rattle.step.specs.declared.mover.Tested.{Tested}
use Rattle.design.specs.declared.shape.Shape.{Shape}
use Rattle.design.proofs.Externals.{cell_mover, raise_mover}
use Rattle.step.proofs.Scanning.{same_layout}
use Rattle.design.specs.Limits.{max_movers}

-- stands in where there is no cell
no_cell : Cell
no_cell = record { matrix = 0; status = 0; event = constant_b false; target = 0; guard = constant_b false; action = done }

module _ (file cells : List ℕ) (normals : ℕ) (h : CellsIndexed file cells normals) (j : ℕ) (l : j < normals) where
  place : get_or cells j 0 ≡ get_or (normal_places file) j 0
  place = sym (get_or-take normals cells j 0 l) ∙ ap (λ (xs : List ℕ). get_or xs j 0) h.entries

  -- the normal cell that the table names, in a tree of the file
  pub named : (d : Design) → Parts file d → NormalCell file (get_or cells j 0)
  named d w = record {
    tree = d;
    parts = w;
    cell = get_or d.cells j no_cell;
    stands = subst (λ (p : ℕ). Standing file (event_in w.rows) p (normal (get_or d.cells j no_cell))) (sym place) ((normal_stands file d w).reads j (omega (arith, h.count, (normal_stands file d w).count)) no_cell);
  }

  pub chosen : Accepted file → NormalCell file (get_or cells j 0)
  chosen a = let t = read file a in named t.tree t.all.parts

  pub slot : Accepted file → j < max_movers
  slot a = omega (arith, h.count, few_normals file a)

  pub place_small : Accepted file → get_or cells j 0 < 65536
  place_small a =
      let x = chosen a in
      let f = cell_fields file (event_in x.parts.rows) (get_or cells j 0) (normal x.cell) x.stands in
      let b = f.header in
      let c = (read file a).all.short in
      omega arith

-- the table of normal cells is that of a shape with their count
pub movers_here : (file cells : List ℕ) (normals : ℕ) (h : Shape) → Measured file normals h → CellsIndexed file cells normals → MoversIndexed file cells h
movers_here file cells normals h m c = record { normals = subst (CellsIndexed file cells) (sym m.normals) c; externals = m.externals }

module _ (file : List ℕ) (h : Shape) (q : Shaped file h) (s s' : State) (r : Tested) (d : Design) (e : check file ≡ accepted d) where
  w : Parts file d
  w = (whole file d e).parts

  -- of the mover that a choice names, if it names one
  abbrev tested : Option Mover → Tested
  tested o = record { event = of_named (event_read_of (layout d) s) o; guard = of_named (guard_read_of (layout d) s) o; idle = idles (layout d) s o }

  made : (c : ℕ) (m : Mover) → get_elem? (movers d) c ≡ some m → (s' ≡ move (layout_of h) s m) × (r ≡ tested_of (layout_of h) s m) → (s' ≡ step d s c) × (r ≡ tested_by d s c)
  unfolding step idle event_read_by guard_read_by
  made c m g k =
      let y = same_layout file d w h q in (
        k.0 ∙ ap (λ (z : Layout). move z s m) y ∙ sym (ap (moved (layout d) s) g),
        k.1 ∙ ap (λ (z : Layout). tested_of z s m) y ∙ sym (ap tested g),
      )

  pub step_cell : (cells : List ℕ) → MoversIndexed file cells h → (c : ℕ) → c < h.normals
      → ((x : NormalCell file (get_or cells c 0)) → (s' ≡ move (layout_of h) s (cell x.cell)) × (r ≡ tested_of (layout_of h) s (cell x.cell))) → (s' ≡ step d s c) × (r ≡ tested_by d s c)
  unfolding named
  step_cell cells m c l k = made c (cell (get_or d.cells c no_cell)) (cell_mover file d w c (omega (arith, m.normals.count)) no_cell) (k (named file cells h.normals m.normals c l d w))

  pub step_external : (cells : List ℕ) → MoversIndexed file cells h → (c v : ℕ) → h.normals ≤ c → c < h.normals + h.externals → v ≡ get_or (externals_from file 0 h.variables) (c - h.normals) 0
      → (s' ≡ move (layout_of h) s (raise v)) × (r ≡ tested_of (layout_of h) s (raise v)) → (s' ≡ step d s c) × (r ≡ tested_by d s c)
  step_external cells m c v l b g k =
      let j = c - h.normals in
      let b' : j < length (externals_from file 0 (variable_count file)) = subst (λ (n : ℕ). j < length (externals_from file 0 n)) q.variables (omega (arith, m.externals)) in
      let g' : v ≡ get_or (externals_from file 0 (variable_count file)) j 0 = g ∙ ap (λ (n : ℕ). get_or (externals_from file 0 n) j 0) q.variables in
      made c (raise v) (raise_mover file d w c j (omega (arith, m.normals.count)) b' ∙ ap (λ (n : ℕ). some (raise n)) (sym g')) k
