-- A refusal has a number from 1 to 10, so that 0 means accepted. Assumes nothing.
use Prim.Native.Nat.{ℕ, zero, suc, ◌+◌, ◌≤◌}
use mathlib.Core.Path.{◌≡◌, refl}
use mathlib.Core.Bool.{Bool, true, false, cond, ◌&&◌, ◌||◌}
use mathlib.Core.List.{List, [], ◌∷◌}
use native.Mathlib.Omega.{arith}
use lib.ListN.{get_or, length}
use lib.Dec.{leb, eqb}
use Rattle.design.specs.Tree.{BoolExpr, constant_b, Design, movers}
use Rattle.design.specs.Limits.{tail_bytes, length_right, version_right, movers_right, max_depth, max_nest, max_statuses, max_events}
use Rattle.design.specs.Reading.{Read, got, bad}
use Rattle.design.specs.Expression.{Names, with_later, bool_expr}
use Rattle.design.specs.Action.{list}
use Rattle.design.specs.DesignFile.{Item, item, refused, Walk, need, filling, after, items, offset, variable_at, matrix_at, event_at, events_from, events, guard, action, entry, cell_at, cells_from, c_guard, c_kind, c_middle, c_past, at8, at16, fields, ordered, invariant_at, constraint_at}
use Rattle.design.specs.Check.{Checked, accepted, sections, last, check, trailer, version, items_end, body, names_by, trailer_counts, trailer_offsets, refusal}
use Rattle.design.specs.declared.shape.Counts.{Counts}
use Rattle.design.specs.declared.shape.Offsets.{Offsets}
use Rattle.design.proofs.File.{counts, R1, R2, R3}

abbrev Number : ℕ → Type 0
Number i = (1 ≤ i) × (i ≤ 10)

record Numbered {A : Type 0} (x : Item A) : Type 0 where
  of : (i p : ℕ) → x ≡ refused i p → Number i

module _ {A : Type 0} where
  n_item : (a : A) (n : ℕ) → Numbered (item a n)
  n_item a n = record { of = λ i p e. let z : ◌≡◌ {A = ℕ} 0 1 = cc in absurd (omega arith) }

  n_refused : (i p : ℕ) → Number i → Numbered {A = A} (refused i p)
  n_refused i p h = record { of = λ j q e. let z : i ≡ j = cc in omega arith }

  n_need : (t : Bool) (i p : ℕ) (r : Item A) → Number i → Numbered r → Numbered (need t i p r)
  n_need true i p r h k = k
  n_need false i p r h k = n_refused i p h

  n_filling : (i p past : ℕ) (r : Read A) → Number i → Numbered (filling i p past r)
  n_filling i p past (got a n) h = n_need (eqb n past) i p (item a past) h (n_item a past)
  n_filling i p past bad h = n_refused i p h

n_after : {A B : Type 0} (x : Item A) (k : A → ℕ → Item B) → Numbered x → ((a : A) (n : ℕ) → Numbered (k a n)) → Numbered (after x k)
n_after (item a n) k h f = f a n
n_after (refused i p) k h f = n_refused i p (h.of i p refl)

n_items : {A : Type 0} (one : Walk A) → ((at : ℕ) → Numbered (one at)) → (n at : ℕ) → Numbered (items one n at)
unfolding items
n_items one h zero at = n_item [] at
n_items one h (suc n) at = n_after (one at) _ (h at) (λ x m. n_after (items one n m) _ (n_items one h n m) (λ xs p. n_item (x ∷ xs) p))

n_offset : (o at : ℕ) → Numbered (offset o at)
n_offset o at = n_need (eqb o at) 4 at (item tt at) (omega arith) (n_item tt at)

module _ (file : List ℕ) (end : ℕ) where
  n_variable : (at : ℕ) → Numbered (variable_at file end at)
  unfolding variable_at
  n_variable at = n_need (leb (at + 3) end) 4 at _ (omega arith) (n_need (leb (at8 file at) 2 && (eqb (at8 file at) 1 || leb (at16 file (at + 1)) 1)) 5 at _ (omega arith) (n_item _ (at + 3)))

  n_matrix : (at : ℕ) → Numbered (matrix_at file end at)
  unfolding matrix_at
  n_matrix at = n_need (leb (at + 2) end) 4 at _ (omega arith) (n_need (leb 1 (at8 file at) && leb (at8 file at) max_statuses && leb 1 (at8 file (at + 1)) && leb (at8 file (at + 1)) max_events) 6 at _ (omega arith) (n_item _ (at + 2)))

  module _ (N : Names) where
    n_event : (at : ℕ) → Numbered (event_at file end N at)
    unfolding event_at
    n_event at = n_need (leb (at + 1 + at8 file at) end) 4 at _ (omega arith) (n_filling 8 at (at + 1 + at8 file at) (bool_expr file N (at + 1 + at8 file at) max_depth (at + 1)) (omega arith))

    n_guard : (at k : ℕ) → Numbered (guard file end N at k)
    n_guard at zero = n_item (constant_b true) (c_middle file at)
    n_guard at (suc k) = n_filling 8 at (c_middle file at) (bool_expr file N (c_middle file at) max_depth (at + 8)) (omega arith)

    n_action : (at : ℕ) → Numbered (action file end N at)
    n_action at = n_filling 9 at (c_past file at) (list file N (c_past file at) max_nest (c_middle file at)) (omega arith)

    n_invariant : (past at : ℕ) → Numbered (invariant_at file end N past at)
    unfolding invariant_at
    n_invariant past at = n_need (leb at past && leb past end) 4 at _ (omega arith) (n_filling 8 at past (bool_expr file N past max_depth at) (omega arith))

    n_constraint : (t : Bool) (at : ℕ) → Numbered (constraint_at file end N t at)
    unfolding constraint_at
    n_constraint true at = n_filling 8 at end (bool_expr file (with_later true N) end max_depth at) (omega arith)
    n_constraint false at = n_item (constant_b true) at

    module _ (M : ℕ) where
      n_events : (m n at : ℕ) → Numbered (events_from file end N M m n at)
      unfolding events_from
      n_events m zero at = n_item [] at
      n_events m (suc n) at =
          n_after (items (event_at file end N) (events file M m) at) _ (n_items (event_at file end N) n_event (events file M m) at)
          (λ row j. n_after (events_from file end N M (m + 1) n j) _ (n_events (m + 1) n j) (λ rows p. n_item (row ∷ rows) p))

      module _ (f : ℕ → ℕ → BoolExpr) where
        n_entry : (at k : ℕ) → Numbered (entry file end N M f at k)
        n_entry at zero = n_after (guard file end N at (c_guard file at)) _ (n_guard at (c_guard file at)) (λ g p. n_after (action file end N at) _ (n_action at) (λ a q. n_item _ _))
        n_entry at (suc k) = n_item _ _

        n_cell : (before at : ℕ) → Numbered (cell_at file end N M f before at)
        unfolding cell_at
        n_cell before at = n_need (leb (c_past file at) end) 4 at _ (omega arith) (n_need (fields file M N.matrices at && ordered file before at) 7 at _ (omega arith) (n_entry at (c_kind file at)))

        n_cells : (n before at : ℕ) → Numbered (cells_from file end N M f n before at)
        unfolding cells_from
        n_cells zero before at = n_item [] at
        n_cells (suc n) before at =
            n_after (cell_at file end N M f before at) _ (n_cell before at)
            (λ c j. n_after (cells_from file end N M f n at j) _ (n_cells n at j) (λ cs p. n_item (c ∷ cs) p))

  n_sections : (cs : Counts) (os : Offsets) → Numbered (sections file end cs os 0)
  unfolding sections
  n_sections cs os =
      n_after (items (variable_at file end) cs.variables 0) _ (n_items (variable_at file end) n_variable cs.variables 0) λ vs p.
      n_after (offset os.matrices p) _ (n_offset os.matrices p) λ u₁ a₁.
      n_after (items (matrix_at file end) cs.matrices a₁) _ (n_items (matrix_at file end) n_matrix cs.matrices a₁) λ ms q.
      n_after (offset os.events q) _ (n_offset os.events q) λ u₂ a₂.
      n_after (events_from file end (names_by file cs) os.matrices 0 cs.matrices a₂) _ (n_events (names_by file cs) os.matrices 0 cs.matrices a₂) λ rows s.
      n_after (offset os.cells s) _ (n_offset os.cells s) λ u₃ a₃.
      n_after (cells_from file end (names_by file cs) os.matrices (λ m e. get_or (get_or rows m []) e (constant_b false)) cs.cells a₃ a₃) _ (n_cells (names_by file cs) os.matrices (λ m e. get_or (get_or rows m []) e (constant_b false)) cs.cells a₃ a₃) λ es t.
      n_after (offset os.invariant t) _ (n_offset os.invariant t) λ u₄ a₄.
      n_after (invariant_at file end (names_by file cs) os.constraint a₄) _ (n_invariant (names_by file cs) os.constraint a₄) λ inv a₅.
      n_after (constraint_at file end (names_by file cs) os.constrained a₅) _ (n_constraint (names_by file cs) os.constrained a₅) λ con n.
      n_item _ n

-- an answer of number 0 is an accepted file
last_zero : (file : List ℕ) (x : Item Design) → Numbered x → (refusal (last file x)).number ≡ 0 → (d : Design) × (last file x ≡ accepted d)
last_zero file (item d n) h e = go (movers_right (length (movers d))) e
  where
    go : (t : Bool) → (refusal (cond t (accepted d) (Checked.refused 10 (length file)))).number ≡ 0 → (d' : Design) × (cond t (accepted d) (Checked.refused 10 (length file)) ≡ accepted d')
    go true q = (d, refl)
    go false q = absurd (omega arith)
last_zero file (refused i p) h e = let k = h.of i p refl in absurd (omega arith)

pub zero_accepted : (file : List ℕ) → (refusal (check file)).number ≡ 0 → (d : Design) × (check file ≡ accepted d)
unfolding check
zero_accepted file e =
    last_zero file (need (length_right (length file)) 1 (length file) (R1 file))
    (n_need (length_right (length file)) 1 (length file) (R1 file) (omega arith)
    (n_need (leb (tail_bytes (version file)) (length file)) 1 (length file) (R2 file) (omega arith)
    (n_need (version_right (version file)) 2 (trailer file) (R3 file) (omega arith)
    (n_need (counts file) 3 (trailer file) (body file 0) (omega arith)
    (n_sections file (items_end file) (trailer_counts file) (trailer_offsets file))))))
    e
