-- Laws of cells that the code's proofs cite. Assumes nothing.
use Prim.Native.Nat.{ℕ, zero, suc, ◌+◌, ◌-◌, ◌<◌, ◌≤◌}
use mathlib.Core.Path.{◌≡◌, refl, sym, ap, ◌∙◌}
use mathlib.Core.Bool.{Bool, true, false, ◌&&◌}
use mathlib.Core.List.{List, ◌∷◌}
use native.Mathlib.Omega.{arith}
use native.Mathlib.Numerals.{sub-one}
use lib.ListN.{get_or}
use lib.Dec.{ltb, leb, eqb}
use borrow.Author.Tests.{le-ltb, lt-ltb, le-leb, lt-leb, eq-eqb, ne_eqb, leb-true, eqb-true, eqb-false}
use Rattle.design.specs.Tree.{BoolExpr, Stmts}
use Rattle.design.specs.Limits.{max_depth, max_nest}
use Rattle.design.specs.Reading.{Read, got, bad}
use Rattle.design.specs.Expression.{Names, bool_expr}
use Rattle.design.specs.Action.{list}
use Rattle.design.specs.DesignFile.{Entry, normal, events, statuses, ending, fields, ordered, guard, action, entry, c_matrix, c_status, c_event, c_target, c_middle, c_past, c_guard, c_kind, cell_at, cells_from, Item, item, refused, need, filling, after}
use Rattle.design.specs.Answers.{found, walked, length_filled, counted, moves}
use Rattle.design.proofs.Sections.{after_inv, need_inv, item_past, item_same}
use Rattle.design.proofs.Items.{passed, stopped, met, unmet, count_cons, filled_read}
use Rattle.std.specs.Prelude.{Option}
use Rattle.design.specs.Answer.{Answer, answer}

-- tests of equal numbers
module _ (a b x y : ℕ) (p : a ≡ x) (q : b ≡ y) where
  pub lt_ltb_of : a < b → ltb x y ≡ true
  lt_ltb_of h = lt-ltb x y (omega arith)

  pub le_ltb_of : b ≤ a → ltb x y ≡ false
  le_ltb_of h = le-ltb x y (omega arith)

  pub eq_eqb_of : a ≡ b → eqb x y ≡ true
  eq_eqb_of h = eq-eqb x y (omega arith)

  pub ne_eqb_of : (a ≡ b → ⊥) → eqb x y ≡ false
  ne_eqb_of h = ne_eqb x y (λ e. h (omega arith))

pub and_false : (a b : Bool) → b ≡ false → (a && b) ≡ false
and_false true b e = e
and_false false b e = refl

pub and_true : (a b : Bool) → a ≡ true → b ≡ true → (a && b) ≡ true
and_true a b e h = rw (e, h)

module _ (file : List ℕ) (M nm at : ℕ) where
  pub ending_other : (k : ℕ) → (k ≡ 0 → ⊥) → (k ≡ 1 → ⊥) → ending file M at k ≡ false
  ending_other zero h g = absurd (h refl)
  ending_other (suc zero) h g = absurd (g refl)
  ending_other (suc (suc k)) h g = refl

  pub fields_ending : (k : ℕ) (t : Bool) → get_or file (at + 3) 0 ≡ k → ending file M at k ≡ t → get_or file at 0 < nm → get_or file (at + 1) 0 < statuses file M (get_or file at 0) → get_or file (at + 2) 0 < events file M (get_or file at 0) → t ≡ fields file M nm at
  fields_ending k t e g a b c = sym (simp (lt-ltb _ _ a, lt-ltb _ _ b, lt-ltb _ _ c) (ap (ending file M at) e ∙ g))

module _ (file : List ℕ) (end : ℕ) (names : Names) (at : ℕ) where
  pub guard_none : (k : ℕ) → k ≡ 0 → (m : ℕ) → m ≡ c_middle file at → answer m ≡ walked (guard file end names at k)
  guard_none zero e m h = ap answer h
  guard_none (suc k) e m h = absurd (omega arith)

  pub guard_read : (k : ℕ) → (k ≡ 0 → ⊥) → (m : ℕ) → m ≡ c_middle file at → (r : Answer ℕ) → r ≡ walked (filling 8 at m (bool_expr file names m max_depth (at + 8))) → r ≡ walked (guard file end names at k)
  guard_read zero h m p r e = absurd (h refl)
  guard_read (suc k) h m p r e =
      e
      ∙ ap (λ (j : ℕ). walked (filling 8 at j (bool_expr file names j max_depth (at + 8)))) p

  pub action_read : (m past : ℕ) → m ≡ c_middle file at → past ≡ c_past file at → (f : Option ℕ) (r : Answer ℕ) → r ≡ length_filled 9 at past f → f ≡ found (list file names past max_nest m) → r ≡ walked (action file end names at)
  action_read m past p s f r e q =
      filled_read 9 at past (list file names past max_nest m) f r e q
      ∙ ap (λ (j : ℕ). walked (filling 9 at past (list file names past max_nest j))) p
      ∙ ap (λ (j : ℕ). walked (filling 9 at j (list file names j max_nest (c_middle file at)))) s

-- a cell by its tests
module _ (file : List ℕ) (end : ℕ) (names : Names) (M : ℕ) (f : ℕ → ℕ → BoolExpr) (before at : ℕ) where
  abbrev cell : Item Entry
  cell = cell_at file end names M f before at

  abbrev right : Bool
  right = fields file M names.matrices at

  pub cell_passes : (past : ℕ) → past ≡ c_past file at → end < past → Answer.refused 4 at ≡ walked cell
  unfolding cell_at
  cell_passes past e h = sym (ap walked (unmet (leb (c_past file at) end) 4 at _ (lt-leb (c_past file at) end (omega arith))))

  module _ (past : ℕ) (e : past ≡ c_past file at) (l : past ≤ end) where
    cell_in : cell ≡ need (right && ordered file before at) 7 at (entry file end names M f at (c_kind file at))
    unfolding cell_at
    cell_in = met (leb (c_past file at) end) 4 at _ (le-leb (c_past file at) end (omega arith))

    pub cell_fields : (t : Bool) → t ≡ right → t ≡ false → Answer.refused 7 at ≡ walked cell
    cell_fields t q z = sym (ap walked (cell_in ∙ unmet (right && ordered file before at) 7 at _ (ap (λ (b : Bool). b && ordered file before at) (sym q ∙ z))))

    pub cell_order : (t u : Bool) → t ≡ right → t ≡ true → u ≡ ordered file before at → u ≡ false → Answer.refused 7 at ≡ walked cell
    cell_order t u q z r w = sym (ap walked (cell_in ∙ unmet (right && ordered file before at) 7 at _ (and_false right (ordered file before at) (sym r ∙ w))))

    module _ (t u : Bool) (q : t ≡ right) (z : t ≡ true) (r : u ≡ ordered file before at) (w : u ≡ true) where
      cell_right : cell ≡ entry file end names M f at (c_kind file at)
      cell_right = cell_in ∙ met (right && ordered file before at) 7 at _ (and_true right (ordered file before at) (sym q ∙ z) (sym r ∙ w))

      entry_invalid : (k : ℕ) → (k ≡ 0 → ⊥) → answer past ≡ walked (entry file end names M f at k)
      entry_invalid zero h = absurd (h refl)
      entry_invalid (suc k) h = ap answer e

      pub cell_invalid : (c_kind file at ≡ 0 → ⊥) → answer past ≡ walked cell
      cell_invalid h = entry_invalid (c_kind file at) h ∙ sym (ap walked cell_right)

      abbrev G : Item BoolExpr
      G = guard file end names at (c_guard file at)

      made : BoolExpr → Stmts → Entry
      made g a = normal (record { matrix = c_matrix file at; status = c_status file at; event = f (c_matrix file at) (c_event file at); target = c_target file at; guard = g; action = a })

      abbrev rest : BoolExpr → ℕ → Item Entry
      rest g p = after (action file end names at) (λ a q. item (made g a) (c_past file at))

      entry_guard : (k i p : ℕ) → k ≡ 0 → G ≡ refused i p → Answer.refused i p ≡ walked (entry file end names M f at k)
      unfolding made
      entry_guard zero i p h g = sym (ap walked (ap (λ (x : Item BoolExpr). after x rest) g))
      entry_guard (suc k) i p h g = absurd (omega arith)

      pub cell_guard : (i p : ℕ) → c_kind file at ≡ 0 → Answer.refused i p ≡ walked G → Answer.refused i p ≡ walked cell
      cell_guard i p h g = entry_guard (c_kind file at) i p h (stopped G i p g) ∙ sym (ap walked cell_right)

      filling_walked : {A B : Type 0} (i p j : ℕ) (x : Read A) (k : A → B) → walked (filling i p j x) ≡ walked (after (filling i p j x) (λ a m. item (k a) j))
      filling_walked i p j (got a n) k = go (eqb n j)
        where
          go : (t : Bool) → walked (need t i p (item a j)) ≡ walked (after (need t i p (item a j)) (λ a m. item (k a) j))
          go true = refl
          go false = refl
      filling_walked i p j bad k = refl

      entry_action : (k : ℕ) (g : BoolExpr) (n : ℕ) → k ≡ 0 → G ≡ item g n → walked (action file end names at) ≡ walked (entry file end names M f at k)
      unfolding made
      entry_action zero g n h e' =
          filling_walked 9 at (c_past file at) (list file names (c_past file at) max_nest (c_middle file at)) (made g)
          ∙ sym (ap walked (ap (λ (x : Item BoolExpr). after x rest) e'))
      entry_action (suc k) g n h e' = absurd (omega arith)

      pub cell_action : (n : ℕ) (x : Answer ℕ) → c_kind file at ≡ 0 → answer n ≡ walked G → x ≡ walked (action file end names at) → x ≡ walked cell
      cell_action n x h g a = let (b, s) = passed G n g in a ∙ entry_action (c_kind file at) b n h s ∙ sym (ap walked cell_right)

-- how far a cell goes, and whether it moves
module _ (file : List ℕ) (end : ℕ) (names : Names) (M : ℕ) (f : ℕ → ℕ → BoolExpr) where
  entry_ends : (at k n : ℕ) (x : Entry) → entry file end names M f at k ≡ item x n → (n ≡ c_past file at) × (k ≡ 0 → moves x ≡ 1) × ((k ≡ 0 → ⊥) → moves x ≡ 0)
  entry_ends at zero n x e =
      let (g, p, e₁, h₁) = after_inv (guard file end names at (c_guard file at)) _ x n e in
      let (a, q, e₂, h₂) = after_inv (action file end names at) _ x n h₁ in
      (sym (item_past _ _ _ _ h₂), (λ z. sym (ap moves (item_same _ _ _ _ h₂))), (λ z. absurd (z refl)))
  entry_ends at (suc k) n x e = (sym (item_past _ _ _ _ e), (λ z. absurd (omega arith)), (λ z. sym (ap moves (item_same _ _ _ _ e))))

  cell_item : (before at n : ℕ) (x : Entry) → cell_at file end names M f before at ≡ item x n → (n ≡ c_past file at) × (c_past file at ≤ end) × (c_kind file at ≡ 0 → moves x ≡ 1) × ((c_kind file at ≡ 0 → ⊥) → moves x ≡ 0)
  unfolding cell_at
  cell_item before at n x e =
      let (t, h) = need_inv (leb (c_past file at) end) 4 at _ x n e in
      let (u, k) = need_inv (fields file M names.matrices at && ordered file before at) 7 at _ x n h in
      let (a, b, c) = entry_ends at (c_kind file at) n x k in
      (a, leb-true (c_past file at) end t, b, c)

  pub cell_ends : (before at n : ℕ) → answer n ≡ walked (cell_at file end names M f before at) → (at + 8 ≤ n) × (n ≤ end)
  cell_ends before at n e =
      let (x, q) = passed (cell_at file end names M f before at) n e in
      let (a, b, c, d) = cell_item before at n x q in
      (omega arith, omega arith)

  cells_step : (n before at : ℕ) → 0 < n → cells_from file end names M f n before at ≡ after (cell_at file end names M f before at) (λ c next. after (cells_from file end names M f (n - 1) at next) (λ cs past. item (c ∷ cs) past))
  unfolding cells_from
  cells_step zero before at h = absurd (omega arith)
  cells_step (suc n) before at h = rw sub-one

  pub cells_none : (k n before at : ℕ) → n ≤ 0 → answer (at, k) ≡ counted moves k (cells_from file end names M f n before at)
  unfolding cells_from
  cells_none k zero before at h = ap (λ (j : ℕ). answer (at, j)) (let q : k ≡ k + 0 = omega arith in q)
  cells_none k (suc n) before at h = absurd (omega arith)

  module _ (k n before at : ℕ) (h : 0 < n) where
    abbrev onward : Entry → ℕ → Item (List Entry)
    onward c next = after (cells_from file end names M f (n - 1) at next) (λ cs past. item (c ∷ cs) past)

    pub cells_refused : (i p : ℕ) → Answer.refused i p ≡ walked (cell_at file end names M f before at) → Answer.refused i p ≡ counted moves k (cells_from file end names M f n before at)
    cells_refused i p e = sym (ap (counted moves k) (cells_step n before at h ∙ ap (λ (x : Item Entry). after x onward) (stopped (cell_at file end names M f before at) i p e)))

    pub cells_more : (m b : ℕ) → answer m ≡ walked (cell_at file end names M f before at) → (c_kind file at ≡ 0 → b ≡ k + 1) → ((c_kind file at ≡ 0 → ⊥) → b ≡ k) → counted moves b (cells_from file end names M f (n - 1) at m) ≡ counted moves k (cells_from file end names M f n before at)
    cells_more m b e more same =
        let (x, q) = passed (cell_at file end names M f before at) m e in
        let (a, s, c, d) = cell_item before at m x q in
        ap (λ (j : ℕ). counted moves j (cells_from file end names M f (n - 1) at m)) (pick x (eqb (c_kind file at) 0) refl c d)
        ∙ count_cons (cell_at file end names M f before) moves k x (cells_from file end names M f (n - 1) at m)
        ∙ sym (ap (counted moves k) (cells_step n before at h ∙ ap (λ (y : Item Entry). after y onward) q))
      where
        pick : (x : Entry) (t : Bool) → eqb (c_kind file at) 0 ≡ t → (c_kind file at ≡ 0 → moves x ≡ 1) → ((c_kind file at ≡ 0 → ⊥) → moves x ≡ 0) → b ≡ k + moves x
        pick x true g c d = let z = eqb-true (c_kind file at) 0 g in let u = more z in let v = c z in omega arith
        pick x false g c d = let z = eqb-false (c_kind file at) 0 g in let u = same z in let v = d z in omega arith

  pub cells_next : (k n i before at : ℕ) → i < n → (m b : ℕ) → answer m ≡ walked (cell_at file end names M f before at) → (c_kind file at ≡ 0 → b ≡ k + 1) → ((c_kind file at ≡ 0 → ⊥) → b ≡ k) → counted moves b (cells_from file end names M f (n - (i + 1)) at m) ≡ counted moves k (cells_from file end names M f (n - i) before at)
  cells_next k n i before at h m b e more same =
      ap (λ (j : ℕ). counted moves b (cells_from file end names M f j at m)) (let q : n - (i + 1) ≡ n - i - 1 = omega arith in q)
      ∙ cells_more k (n - i) before at (omega arith) m b e more same
