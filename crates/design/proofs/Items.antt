-- Laws of items and sections that the code's proofs cite. Assumes nothing.
use Prim.Native.Nat.{ℕ, zero, suc, ◌+◌, ◌-◌, ◌*◌, ◌<◌, ◌≤◌}
use mathlib.Core.Path.{◌≡◌, refl, sym, ap, ◌∙◌}
use mathlib.Core.Bool.{Bool, true, false, cond, ◌&&◌, ◌||◌}
use mathlib.Core.List.{List, ◌∷◌}
use native.Mathlib.Omega.{arith}
use native.Mathlib.Numerals.{sub-one}
use lib.ListN.{get_or}
use lib.Dec.{leb, eqb}
use borrow.Author.Tests.{le-leb, lt-leb, eq-eqb, ne_eqb, leb-true, eqb-true, eqb-false}
use mathlib.Core.Logic.{◌⊎◌, inl, inr, ⊎_elim}
use Rattle.design.specs.Tree.{BoolExpr, Variable, Kind, if_external}
use Rattle.design.specs.Limits.{max_depth, max_statuses, max_events}
use Rattle.design.specs.Reading.{Read, got, bad}
use Rattle.design.specs.Expression.{Names, with_later, bool_expr}
use Rattle.design.specs.DesignFile.{events, events_from, Item, item, refused, Walk, need, filling, after, items, kind, at8, at16, variable_at, matrix_at, event_at, invariant_at, constraint_at}
use Rattle.design.specs.Answers.{found, walked, length_filled, sum_of, counted, raises}
use Rattle.design.proofs.Sections.{after_inv, need_inv, and_inv, item_past, item_same, filling_inv}
use Rattle.std.specs.Prelude.{Option, Some, None}
use Rattle.design.specs.Answer.{Answer, answer}

pub filled_filling : {A : Type 0} (number place past : ℕ) (r : Read A) → length_filled number place past (found r) ≡ walked (filling number place past r)
filled_filling {A} number place past (got a n) = go (eqb n past)
  where
    go : (t : Bool) → cond t (answer past) (Answer.refused number place) ≡ walked {A = A} (need t number place (item a past))
    go true = refl
    go false = refl
filled_filling number place past bad = refl

-- a need that is met, and one that is not
pub met : {A : Type 0} (t : Bool) (number place : ℕ) (r : Item A) → t ≡ true → need t number place r ≡ r
met t number place r e = rw e

pub unmet : {A : Type 0} (t : Bool) (number place : ℕ) (r : Item A) → t ≡ false → need t number place r ≡ refused number place
unmet t number place r e = rw e

-- a walk that was passed gave an item
pub passed : {A : Type 0} (x : Item A) (n : ℕ) → answer n ≡ walked x → (a : A) × (x ≡ item a n)
passed (item a m) n e = (a, (let q : m ≡ n = cc in ap (item a) q))
passed (refused i p) n e = let z : ◌≡◌ {A = ℕ} 0 1 = cc in absurd (omega arith)

pub stopped : {A : Type 0} (x : Item A) (i p : ℕ) → Answer.refused i p ≡ walked x → x ≡ refused i p
stopped (item a m) i p e = let z : ◌≡◌ {A = ℕ} 0 1 = cc in absurd (omega arith)
stopped (refused j q) i p e = let a : j ≡ i = cc in let b : q ≡ p = cc in cc

-- sections, item by item
module _ {A : Type 0} (one : Walk A) where
  items_step : (n at : ℕ) → 0 < n → items one n at ≡ after (one at) (λ x m. after (items one (n - 1) m) (λ xs p. item (x ∷ xs) p))
  unfolding items
  items_step zero at h = absurd (omega arith)
  items_step (suc n) at h = rw sub-one

  pub items_none : (n at : ℕ) → n ≤ 0 → answer at ≡ walked (items one n at)
  unfolding items
  items_none zero at h = refl
  items_none (suc n) at h = absurd (omega arith)

  pub items_refused : (n at i p : ℕ) → 0 < n → Answer.refused i p ≡ walked (one at) → Answer.refused i p ≡ walked (items one n at)
  items_refused n at i p h e = sym (ap walked (items_step n at h ∙ ap (λ (x : Item A). after x (λ x m. after (items one (n - 1) m) (λ xs p. item (x ∷ xs) p))) (stopped (one at) i p e)))

  walked_cons : (x : A) (r : Item (List A)) → walked r ≡ walked (after r (λ xs p. item (x ∷ xs) p))
  walked_cons x (item xs p) = refl
  walked_cons x (refused i p) = refl

  pub items_more : (n at m : ℕ) → 0 < n → answer m ≡ walked (one at) → walked (items one (n - 1) m) ≡ walked (items one n at)
  items_more n at m h e =
      let (x, q) = passed (one at) m e in
      walked_cons x (items one (n - 1) m) ∙ sym (ap walked (items_step n at h ∙ ap (λ (y : Item A). after y (λ x m. after (items one (n - 1) m) (λ xs p. item (x ∷ xs) p))) q))

  pub items_next : (n i at m : ℕ) → i < n → answer m ≡ walked (one at) → walked (items one (n - (i + 1)) m) ≡ walked (items one (n - i) at)
  items_next n i at m h e = ap (λ (k : ℕ). walked (items one k m)) (let q : n - (i + 1) ≡ n - i - 1 = omega arith in q) ∙ items_more (n - i) at m (omega arith) e

  -- the same with a count
  module _ (f : A → ℕ) where
    pub count_none : (k n at : ℕ) → n ≤ 0 → answer (at, k) ≡ counted f k (items one n at)
    unfolding items
    count_none k zero at h = ap (λ (j : ℕ). answer (at, j)) (let q : k ≡ k + 0 = omega arith in q)
    count_none k (suc n) at h = absurd (omega arith)

    pub count_refused : (k n at i p : ℕ) → 0 < n → Answer.refused i p ≡ walked (one at) → Answer.refused i p ≡ counted f k (items one n at)
    count_refused k n at i p h e = sym (ap (counted f k) (items_step n at h ∙ ap (λ (x : Item A). after x (λ x m. after (items one (n - 1) m) (λ xs p. item (x ∷ xs) p))) (stopped (one at) i p e)))

    pub count_cons : (k : ℕ) (x : A) (r : Item (List A)) → counted f (k + f x) r ≡ counted f k (after r (λ xs p. item (x ∷ xs) p))
    count_cons k x (item xs p) = ap (λ (j : ℕ). answer (p, j)) (let q : k + f x + sum_of f xs ≡ k + (f x + sum_of f xs) = omega arith in q)
    count_cons k x (refused i p) = refl

    pub count_more : (k n at m : ℕ) (x : A) → 0 < n → one at ≡ item x m → counted f (k + f x) (items one (n - 1) m) ≡ counted f k (items one n at)
    count_more k n at m x h q =
        count_cons k x (items one (n - 1) m) ∙ sym (ap (counted f k) (items_step n at h ∙ ap (λ (y : Item A). after y (λ x m. after (items one (n - 1) m) (λ xs p. item (x ∷ xs) p))) q))

pub counted_passed : {A : Type 0} (f : A → ℕ) (k : ℕ) (x : Item (List A)) (n w : ℕ) → answer (n, w) ≡ counted f k x → (xs : List A) × (x ≡ item xs n) × (w ≡ k + sum_of f xs)
counted_passed f k (item xs m) n w e =
    let z : (n, w) ≡ (m, k + sum_of f xs) = cc in
    (xs, ap (item xs) (sym (ap (λ (p : ℕ × ℕ). p.0) z)), ap (λ (p : ℕ × ℕ). p.1) z)
counted_passed f k (refused i p) n w e = let z : ◌≡◌ {A = ℕ} 0 1 = cc in absurd (omega arith)

pub counted_stopped : {A : Type 0} (f : A → ℕ) (k : ℕ) (x : Item (List A)) (i p : ℕ) → Answer.refused i p ≡ counted f k x → x ≡ refused i p
counted_stopped f k (item xs m) i p e = let z : ◌≡◌ {A = ℕ} 0 1 = cc in absurd (omega arith)
counted_stopped f k (refused j q) i p e = let a : j ≡ i = cc in let b : q ≡ p = cc in cc

pub lt_leb_of : (v w k : ℕ) → v ≡ w → k < v → leb w k ≡ false
lt_leb_of v w k e h = lt-leb w k (omega arith)

pub le_leb_of : (v w k : ℕ) → v ≡ w → v ≤ k → leb w k ≡ true
le_leb_of v w k e h = le-leb w k (omega arith)

module _ (number place past : ℕ) (f : Option ℕ) where
  pub filled_at : (q : ℕ) → f ≡ Some q → q ≡ past → answer past ≡ length_filled number place past f
  filled_at q e h = rw (e, eq-eqb q past h)

  pub filled_else : (q : ℕ) → f ≡ Some q → (q ≡ past → ⊥) → Answer.refused number place ≡ length_filled number place past f
  filled_else q e h = rw (e, ne_eqb q past h)

  pub filled_bad : f ≡ None → Answer.refused number place ≡ length_filled number place past f
  filled_bad e = rw e

-- what fills its length by what was found
pub filled_read : {A : Type 0} (number place past : ℕ) (x : Read A) (f : Option ℕ) (r : Answer ℕ) → r ≡ length_filled number place past f → f ≡ found x → r ≡ walked (filling number place past x)
filled_read number place past x f r e h = e ∙ ap (length_filled number place past) h ∙ filled_filling number place past x

module _ (file : List ℕ) (end : ℕ) (names : Names) (at past : ℕ) (p : past ≡ at + 1 + get_or file at 0) where
  pub event_passes : end < past → Answer.refused 4 at ≡ walked (event_at file end names at)
  unfolding event_at
  event_passes h = simp (lt-leb (at + 1 + get_or file at 0) end (omega arith))

  pub event_read : past ≤ end → (r : Answer ℕ) → r ≡ walked (filling 8 at past (bool_expr file names past max_depth (at + 1))) → r ≡ walked (event_at file end names at)
  unfolding event_at
  event_read h r e =
      e
      ∙ ap (λ (j : ℕ). walked (filling 8 at j (bool_expr file names j max_depth (at + 1)))) p
      ∙ sym (ap walked (met (leb (at + 1 + get_or file at 0) end) 4 at _ (le-leb (at + 1 + get_or file at 0) end (omega arith))))

module _ (file : List ℕ) (end : ℕ) (names : Names) where
  module _ (past at : ℕ) where
    pub invariant_before : past < at → Answer.refused 4 at ≡ walked (invariant_at file end names past at)
    unfolding invariant_at
    invariant_before h = simp (lt-leb at past h)

    pub invariant_passes : at ≤ past → end < past → Answer.refused 4 at ≡ walked (invariant_at file end names past at)
    unfolding invariant_at
    invariant_passes h l = simp (le-leb at past h, lt-leb past end l)

    pub invariant_read : at ≤ past → past ≤ end → (r : Answer ℕ) → r ≡ walked (filling 8 at past (bool_expr file names past max_depth at)) → r ≡ walked (invariant_at file end names past at)
    unfolding invariant_at
    invariant_read h l r e = e ∙ simp (le-leb at past h, le-leb past end l)

  module _ (t : Bool) (at : ℕ) where
    pub constraint_absent : t ≡ false → answer at ≡ walked (constraint_at file end names t at)
    unfolding constraint_at
    constraint_absent h = rw h

    pub constraint_read : t ≡ true → (r : Answer ℕ) → r ≡ walked (filling 8 at end (bool_expr file (with_later true names) end max_depth at)) → r ≡ walked (constraint_at file end names t at)
    unfolding constraint_at
    constraint_read h r e = e ∙ sym (ap (λ (b : Bool). walked (constraint_at file end names b at)) h)

-- how far an item goes
module _ (file : List ℕ) (end : ℕ) where
  pub variable_ends : (at n : ℕ) → answer n ≡ walked (variable_at file end at) → (n ≡ at + 3) × (n ≤ end)
  unfolding variable_at
  variable_ends at n e =
      let (x, q) = passed (variable_at file end at) n e in
      let (t, h) = need_inv (leb (at + 3) end) 4 at _ x n q in
      let (u, k) = need_inv (leb (get_or file at 0) 2 && (eqb (get_or file at 0) 1 || leb (at16 file (at + 1)) 1)) 5 at _ x n h in
      let g : at + 3 ≡ n = item_past _ _ _ _ k in
      let l = leb-true (at + 3) end t in
      (omega arith, omega arith)

  pub matrix_ends : (at n : ℕ) → answer n ≡ walked (matrix_at file end at) → (n ≡ at + 2) × (n ≤ end)
  unfolding matrix_at
  matrix_ends at n e =
      let (x, q) = passed (matrix_at file end at) n e in
      let (t, h) = need_inv (leb (at + 2) end) 4 at _ x n q in
      let (u, k) = need_inv (leb 1 (at8 file at) && leb (at8 file at) max_statuses && leb 1 (at8 file (at + 1)) && leb (at8 file (at + 1)) max_events) 6 at _ x n h in
      let g : at + 2 ≡ n = item_past _ _ _ _ k in
      let l = leb-true (at + 2) end t in
      (omega arith, omega arith)

  pub event_ends : (names : Names) (at n : ℕ) → answer n ≡ walked (event_at file end names at) → (at < n) × (n ≤ end)
  unfolding event_at
  event_ends names at n e =
      let (x, q) = passed (event_at file end names at) n e in
      let (t, h) = need_inv (leb (at + 1 + get_or file at 0) end) 4 at _ x n q in
      let g : n ≡ at + 1 + get_or file at 0 = (filling_inv 8 at _ (bool_expr file names (at + 1 + get_or file at 0) max_depth (at + 1)) x n h).1 in
      let l = leb-true (at + 1 + get_or file at 0) end t in
      (omega arith, omega arith)

  -- one variable more
  raises_kind : (x : Variable) (k : ℕ) → x.kind ≡ kind k → raises x ≡ cond (eqb k 2) 1 0 ⊎ (3 ≤ k)
  raises_kind x zero e = inl (ap (λ (y : Kind). if_external y 1 0) e)
  raises_kind x (suc zero) e = inl (ap (λ (y : Kind). if_external y 1 0) e)
  raises_kind x (suc (suc zero)) e = inl (ap (λ (y : Kind). if_external y 1 0) e)
  raises_kind x (suc (suc (suc k))) e = inr (omega arith)

  variable_kind : (at n : ℕ) (x : Variable) → variable_at file end at ≡ item x n → (x.kind ≡ kind (get_or file at 0)) × (get_or file at 0 ≤ 2)
  unfolding variable_at
  variable_kind at n x q =
      let (t, h) = need_inv (leb (at + 3) end) 4 at _ x n q in
      let a = leb (get_or file at 0) 2 in
      let b = eqb (get_or file at 0) 1 || leb (get_or file (at + 1) 0 + 256 * get_or file (at + 1 + 1) 0) 1 in
      let (u, k) = need_inv (a && b) 5 at _ x n h in
      (sym (ap (λ (y : Variable). y.kind) (item_same _ _ _ _ k)), leb-true (get_or file at 0) 2 (and_inv a b u).0)

  module _ (k n at m : ℕ) (h : 0 < n) (e : answer m ≡ walked (variable_at file end at)) where
    pub variable_more : (b : ℕ) → (get_or file at 0 ≡ 2 → b ≡ k + 1) → ((get_or file at 0 ≡ 2 → ⊥) → b ≡ k) → counted raises b (items (variable_at file end) (n - 1) m) ≡ counted raises k (items (variable_at file end) n at)
    variable_more b more same =
        let (x, q) = passed (variable_at file end at) m e in
        let (s, l) = variable_kind at m x q in
        ap (λ (j : ℕ). counted raises j (items (variable_at file end) (n - 1) m)) (go x s l) ∙ count_more (variable_at file end) raises k n at m x h q
      where
        go : (x : Variable) → x.kind ≡ kind (get_or file at 0) → get_or file at 0 ≤ 2 → b ≡ k + raises x
        go x s l = ⊎_elim (λ r. pick (eqb (get_or file at 0) 2) refl r) (λ r. absurd (omega arith)) (raises_kind x (get_or file at 0) s)
          where
            pick : (t : Bool) → eqb (get_or file at 0) 2 ≡ t → raises x ≡ cond t 1 0 → b ≡ k + raises x
            pick true g r = let z = more (eqb-true _ _ g) in omega arith
            pick false g r = let z = same (eqb-false _ _ g) in omega arith

  pub variable_next : (k n i at m : ℕ) → i < n → answer m ≡ walked (variable_at file end at) → (b : ℕ) → (get_or file at 0 ≡ 2 → b ≡ k + 1) → ((get_or file at 0 ≡ 2 → ⊥) → b ≡ k) → counted raises b (items (variable_at file end) (n - (i + 1)) m) ≡ counted raises k (items (variable_at file end) (n - i) at)
  variable_next k n i at m h e b more same =
      ap (λ (j : ℕ). counted raises b (items (variable_at file end) j m)) (let q : n - (i + 1) ≡ n - i - 1 = omega arith in q)
      ∙ variable_more k (n - i) at m (omega arith) e b more same

-- a section of items that end by `end` does so too
pub items_end_lem : {A : Type 0} (one : Walk A) (end : ℕ) → ((at n : ℕ) → answer n ≡ walked (one at) → n ≤ end) → (n at m : ℕ) → at ≤ end → answer m ≡ walked (items one n at) → m ≤ end
unfolding items
items_end_lem one end h zero at m l e = let q : m ≡ at = cc in omega arith
items_end_lem one end h (suc n) at m l e =
    let (xs, q) = passed (items one (suc n) at) m e in
    let (x, j, e₁, h₁) = after_inv (one at) _ xs m q in
    let (ys, i, e₂, h₂) = after_inv (items one n j) _ xs m h₁ in
    items_end_lem one end h n j m (h at j (sym (ap walked e₁))) (ap answer (sym (item_past _ _ _ _ h₂)) ∙ sym (ap walked e₂))

module _ (file : List ℕ) (end : ℕ) (names : Names) (M : ℕ) where
  abbrev EV : Walk BoolExpr
  EV = event_at file end names

  rows_step : (m n at : ℕ) → 0 < n → events_from file end names M m n at ≡ after (items EV (events file M m) at) (λ row j. after (events_from file end names M (m + 1) (n - 1) j) (λ rows p. item (row ∷ rows) p))
  unfolding events_from
  rows_step m zero at h = absurd (omega arith)
  rows_step m (suc n) at h = rw sub-one

  pub rows_none : (m n at : ℕ) → n ≤ 0 → answer at ≡ walked (events_from file end names M m n at)
  unfolding events_from
  rows_none m zero at h = refl
  rows_none m (suc n) at h = absurd (omega arith)

  module _ (m n at count : ℕ) (h : 0 < n) (c : count ≡ events file M m) where
    pub rows_refused : (i p : ℕ) → Answer.refused i p ≡ walked (items EV count at) → Answer.refused i p ≡ walked (events_from file end names M m n at)
    rows_refused i p e =
        sym (ap walked (rows_step m n at h ∙ ap (λ (x : Item (List BoolExpr)). after x (λ row j. after (events_from file end names M (m + 1) (n - 1) j) (λ rows p. item (row ∷ rows) p))) (ap (λ (k : ℕ). items EV k at) (sym c) ∙ stopped (items EV count at) i p e)))

    pub rows_more : (j : ℕ) → answer j ≡ walked (items EV count at) → walked (events_from file end names M (m + 1) (n - 1) j) ≡ walked (events_from file end names M m n at)
    rows_more j e =
        let (row, q) = passed (items EV count at) j e in
        walked_cons {A = List BoolExpr} (λ k. refused 0 0) row (events_from file end names M (m + 1) (n - 1) j)
        ∙ sym (ap walked (rows_step m n at h ∙ ap (λ (x : Item (List BoolExpr)). after x (λ row j. after (events_from file end names M (m + 1) (n - 1) j) (λ rows p. item (row ∷ rows) p))) (ap (λ (k : ℕ). items EV k at) (sym c) ∙ q)))

    pub row_ends : (j : ℕ) → at ≤ end → answer j ≡ walked (items EV count at) → j ≤ end
    row_ends j l e = items_end_lem EV end (λ a b q. (event_ends file end names a b q).1) count at j l e

  module _ (m n at count : ℕ) (h : m < n) (c : count ≡ events file M m) where
    pub rows_next : (j : ℕ) → answer j ≡ walked (items EV count at) → walked (events_from file end names M (m + 1) (n - (m + 1)) j) ≡ walked (events_from file end names M m (n - m) at)
    rows_next j e =
        ap (λ (k : ℕ). walked (events_from file end names M (m + 1) k j)) (let q : n - (m + 1) ≡ n - m - 1 = omega arith in q)
        ∙ rows_more m (n - m) at count (omega arith) c j e
