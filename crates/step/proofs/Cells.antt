-- What the readers find at a cell of an accepted file, and what the cell does. Assumes nothing.
use Rattle.std.proofs.Common.{◌≡◌, ℕ, zero, suc, ◌+◌, ◌*◌, ◌<◌, ◌≤◌, Bool, true, false, cond, not, ◌&&◌, eqb, List, length, get_or, set, sym, refl, ap, ◌∙◌, ap₂, arith, ne_eqb}
use Rattle.design.specs.Tree.{Stmts, Cell, Design, cell, raise, truth}
use Rattle.design.specs.Limits.{trailer_bytes, max_bytes, max_variables, max_matrices, max_events, max_depth, max_nest}
use Rattle.design.specs.State.{State, Layout, layout_of}
use Rattle.design.specs.Reading.{Read}
use Rattle.design.specs.Expression.{Names, bool_expr}
use Rattle.design.specs.Action.{list}
use Rattle.design.specs.DesignFile.{c_matrix, c_status, c_event, c_target, c_guard, c_middle, c_past, events}
use Rattle.design.specs.Check.{names_of, names, items_end, matrices_offset, event_in}
use Rattle.design.specs.Places.{Indexed}
use Rattle.design.specs.Sections.{Parts, NormalRead, CellFields, NormalCell}
use Rattle.design.specs.declared.shape.Shape.{Shape}
use Rattle.design.proofs.Indexed.{cell_names, event_some, event_got, cell_is, guard_none, guard_got, action_got}
use Rattle.design.proofs.Indexed as indexed
use Rattle.step.specs.Evaluation.{eval_bool}
use Rattle.step.specs.OneStep.{execute_all, status_stands, status_and_event, enabled, effect, move}
use Rattle.step.specs.StatusEventGuard.{event_read_of, guard_read_of}
use Rattle.step.specs.Accepted.{is_read, bool_value, after_list}
use Rattle.step.specs.Ready.{tested_of}
use Rattle.step.specs.declared.mover.Tested.{Tested}

module _ (file events' : List ℕ) (h : Shape) (ready : Indexed file events' h) where
  abbrev E : ℕ
  E = items_end file

  abbrev N : Names
  N = names_of file h

  abbrev l : Layout
  l = layout_of h

  abbrev nv : ℕ
  nv = h.variables

  pub sizes : (trailer_bytes ≤ length file) × (length file ≤ max_bytes) × (h.matrices ≤ max_matrices) × (h.variables ≤ max_variables)
  sizes = indexed.sizes file ready.accepted h ready.shaped

  pub kinds : 3 * h.variables ≤ length file
  kinds = indexed.kinds file ready.accepted h ready.shaped

  -- event e of matrix m
  module _ (m e : ℕ) (a : m < h.matrices) (b : e < events file (matrices_offset file) m) where
    abbrev place : ℕ
    place = get_or events' (max_events * m + e) 0

    pub event_reads : (n at : ℕ) → n ≡ place + 1 + get_or file place 0 → at ≡ place + 1 → is_read (bool_expr file N n max_depth at) ≡ true
    event_reads n at p q = ap is_read (event_some file events' h ready m e a b n at p q).1

  pub in_range : (p m e : ℕ) → m ≡ c_matrix file p → e ≡ c_event file p → CellFields file p → (m < h.matrices) × (e < events file (matrices_offset file) m)
  in_range p m e a c g = cell_names file events' h ready p m e a c g

  -- a normal cell
  module _ (p : ℕ) (x : NormalCell file p) where
    abbrev is : NormalRead file E (names file) (matrices_offset file) (event_in x.parts.rows) p x.cell
    is = cell_is file events' h ready p x

    pub guard_reads : (n : ℕ) → n ≡ c_guard file p → (n ≡ 0 → ⊥) → is_read (bool_expr file N (p + 8 + n) max_depth (p + 8)) ≡ true
    guard_reads n e z = ap is_read (guard_got file events' h ready p x n e z)

    pub action_reads : (m n : ℕ) → m ≡ c_middle file p → n ≡ c_past file p → is_read (list file N n max_nest m) ≡ true
    action_reads m n a b = ap is_read (action_got file events' h ready p x m n a b)

  -- the same in a state
  module _ (slots : State) where
    -- r is whether a cell's event is true, and whether its status stands as well, by the file's bytes
    abbrev pub EventIs : ℕ → Bool → Type 0
    EventIs p r = (d : Design) (w : Parts file d) → r ≡ eval_bool l slots (event_in w.rows (c_matrix file p) (c_event file p))

    abbrev pub BothAre : ℕ → Bool → Type 0
    BothAre p r = (d : Design) (w : Parts file d) → r ≡ status_and_event l slots (c_matrix file p) (c_status file p) (event_in w.rows (c_matrix file p) (c_event file p))

    -- a cell's status and event
    pub status_read : (p m s : ℕ) → m ≡ c_matrix file p → s ≡ c_status file p → eqb (get_or slots (nv + m) 0) s ≡ status_stands l slots (c_matrix file p) (c_status file p)
    status_read p m s a b = ap₂ (λ (x y : ℕ). eqb (get_or slots (nv + x) 0) y) a b

    module _ (p m e : ℕ) (a : m ≡ c_matrix file p) (c : e ≡ c_event file p) where
      pub event_read : (r : Bool) → ((d : Design) (w : Parts file d) → r ≡ eval_bool l slots (event_in w.rows m e)) → EventIs p r
      event_read r k d w = k d w ∙ ap₂ (λ (x y : ℕ). eval_bool l slots (event_in w.rows x y)) a c

    -- both, the event read only where the status stands
    module _ (p : ℕ) (t : Bool) (stands : t ≡ status_stands l slots (c_matrix file p) (c_status file p)) where
      pub other_status : t ≡ false → BothAre p false
      other_status f d w = ap (λ (b : Bool). b && eval_bool l slots (event_in w.rows (c_matrix file p) (c_event file p))) (sym f ∙ stands)

      pub same_status : t ≡ true → (r : Bool) → EventIs p r → BothAre p r
      same_status f r k d w = k d w ∙ ap (λ (b : Bool). b && eval_bool l slots (event_in w.rows (c_matrix file p) (c_event file p))) (sym f ∙ stands)

    pub event_value : (m e : ℕ) (a : m < h.matrices) (b : e < events file (matrices_offset file) m) (n at : ℕ) → n ≡ place m e a b + 1 + get_or file (place m e a b) 0 → at ≡ place m e a b + 1 → (t : Bool) → t ≡ bool_value l slots (bool_expr file N n max_depth at)
        → (d : Design) (w : Parts file d) → t ≡ eval_bool l slots (event_in w.rows m e)
    event_value m e a b n at p q t v d w = v ∙ ap (bool_value l slots) (event_got file events' h ready m e a b d w n at p q)

    -- a normal cell
    module _ (p : ℕ) (x : NormalCell file p) where
      pub guard_empty : c_guard file p ≡ 0 → true ≡ eval_bool l slots x.cell.guard
      unfolding eval_bool
      guard_empty e = ap (eval_bool l slots) (sym (guard_none file events' h ready p x e))

      pub guard_value : (n : ℕ) → n ≡ c_guard file p → (n ≡ 0 → ⊥) → (r : Bool) → r ≡ bool_value l slots (bool_expr file N (p + 8 + n) max_depth (p + 8)) → r ≡ eval_bool l slots x.cell.guard
      guard_value n e z r v = v ∙ ap (bool_value l slots) (guard_got file events' h ready p x n e z)

      abbrev c : Cell
      c = x.cell

      abbrev Answer : State → Tested → Type 0
      Answer s' r = (s' ≡ move l slots (cell c)) × (r ≡ tested_of l slots (cell c))

      -- what the three tests say, each made where the one before it is true, is what comes of testing the cell
      pub tested : (t b e : Bool) → t ≡ status_stands l slots (c_matrix file p) (c_status file p) → BothAre p b → e ≡ (b && eval_bool l slots c.guard)
          → (s' : State) → s' ≡ cond e (effect l slots (cell c)) slots → Answer s' (record { event = t; guard = b; idle = not e })
      unfolding enabled move event_read_of guard_read_of
      tested t b e i j k s' q =
          let stands : t ≡ status_stands l slots c.matrix c.status = i ∙ ap₂ (λ (x y : ℕ). status_stands l slots x y) (sym (is p x).matrix) (sym (is p x).status) in
          let both : b ≡ status_and_event l slots c.matrix c.status c.event = j x.tree x.parts
          ∙ ap₂ (λ (i j : ℕ). status_and_event l slots i j (event_in x.parts.rows (c_matrix file p) (c_event file p))) (sym (is p x).matrix) (sym (is p x).status)
          ∙ ap (status_and_event l slots c.matrix c.status) (sym (is p x).event) in
          let all : e ≡ enabled l slots (cell c) = k ∙ ap (λ (y : Bool). y && eval_bool l slots c.guard) both in (
            q ∙ ap (λ (y : Bool). cond y (effect l slots (cell c)) slots) all,
            ap (λ (y : Bool). record { event = y; guard = b; idle = not e }) stands
                ∙ ap₂ (λ (y z : Bool). record { event = status_stands l slots c.matrix c.status; guard = y; idle = not z }) both all,
          )

      pub acted : (m n : ℕ) → m ≡ c_middle file p → n ≡ c_past file p → (s : State) → s ≡ after_list l (list file N n max_nest m) slots
          → (i v : ℕ) → i ≡ c_matrix file p → v ≡ c_target file p → set s (nv + i) v ≡ effect l slots (cell c)
      unfolding effect
      acted m n a b s u i v y z =
          let ran : s ≡ execute_all c.action l slots = u ∙ ap (λ (t : Read Stmts). after_list l t slots) (action_got file events' h ready p x m n a b) in
          ap (λ (t : State). set t (nv + i) v) ran
          ∙ ap₂ (λ (k : ℕ) (t : ℕ). set (execute_all c.action l slots) (nv + k) t) (y ∙ sym (is p x).matrix) (z ∙ sym (is p x).target)

-- a test made where the one before it is true
pub and_made : (a b c : Bool) → a ≡ true → b ≡ c → b ≡ (a && c)
and_made a b c e q = q ∙ ap (λ (t : Bool). t && c) (sym e)

pub and_left : (a b c : Bool) → a ≡ false → b ≡ a → b ≡ (a && c)
and_left a b c e q = q ∙ e ∙ ap (λ (t : Bool). t && c) (sym e)

-- an external
zero_false : (n : ℕ) → eqb n 0 ≡ not (truth n)
zero_false zero = refl
zero_false (suc n) = ne_eqb (suc n) 0 (λ e. omega arith)

abbrev external : Bool → Tested
external idle = record { event = false; guard = false; idle = idle }

module _ (y : Layout) (s : State) (v : ℕ) where
  pub raised : (s' : State) → s' ≡ cond (eqb (get_or s v 0) 0) (set s v 1) s → (s' ≡ move y s (raise v)) × (external (not (eqb (get_or s v 0) 0)) ≡ tested_of y s (raise v))
  unfolding move enabled effect event_read_of guard_read_of
  raised s' q = let e = zero_false (get_or s v 0) in (q ∙ ap (λ (t : Bool). cond t (set s v 1) s) e, ap (λ (t : Bool). external (not t)) e)
