-- Laws of all sections together, and of the whole file, that the code's proofs cite. Assumes nothing.
use Prim.Native.Nat.{ℕ, zero, suc, ◌+◌, ◌-◌, ◌*◌, ◌<◌, ◌≤◌}
use mathlib.Core.Path.{◌≡◌, refl, sym, ap, ap₂, subst, ◌∙◌}
use mathlib.Core.Bool.{Bool, true, false, cond}
use mathlib.Core.List.{List, [], ◌∷◌, map}
use native.Mathlib.Omega.{arith}
use native.Mathlib.Nat.{mul-suc}
use lib.ListN.{length, length-append, length-map}
use lib.Dec.{leb, eqb}
use borrow.Author.Tests.{leb-true, le-leb, lt-leb, eq-eqb, ne_eqb}
use Rattle.design.specs.Tree.{BoolExpr, Variable, Kind, boolean, integer, external, if_external, externals, Design, cell, raise, movers}
use Rattle.design.specs.Limits.{max_bytes, trailer_bytes, constrained, offset_bytes, tail_bytes, length_right, version_right, counts_right, movers_right}
use Rattle.design.specs.Expression.{Names}
use Rattle.design.specs.DesignFile.{Item, item, refused, Walk, need, after, items, offset, at16, Matrix, Entry, normal, invalid, variable_at, matrix_at, event_at, events, events_from, cell_at, cells_from, invariant_at, constraint_at}
use Rattle.design.specs.Check.{event_in, normals, invalids, sections, trailer, version, has_constraint, items_end, constraint_offset, variable_count, matrix_count, cell_count, body, last, check, refusal, names_of, names_by, trailer_counts, trailer_offsets}
use Rattle.design.specs.declared.shape.Shape.{Shape}
use Rattle.design.specs.declared.shape.Counts.{Counts}
use Rattle.design.specs.declared.shape.Offsets.{Offsets}
use Rattle.design.specs.Answers.{walked, expressions_at, sum_of, counted, raises, moves, bodied, VariablesRight, MatricesRight, EventsRight, shape_of}
use Rattle.design.proofs.Sections.{after_inv, and_inv, item_past, item_same, items_run, tail_least}
use Rattle.design.proofs.Items.{passed, stopped, met, unmet, items_end_lem, event_ends, variable_ends, matrix_ends, counted_passed, counted_stopped}
use Rattle.design.specs.Answer.{Answer, answer}

-- a section that ends where the next one stands
pub passed_at : (o p k : ℕ) (x : Answer (ℕ × ℕ)) → o ≡ p → answer (p, k) ≡ x → answer (o, k) ≡ x
passed_at o p k x h e = ap (λ (n : ℕ). answer (n, k)) h ∙ e

pub past_at : (o p : ℕ) (x : Answer ℕ) → o ≡ p → answer p ≡ x → answer o ≡ x
past_at o p x h e = ap answer h ∙ e

-- items of one size
items_fixed : {A : Type 0} (one : Walk A) (end k : ℕ) → ((at n : ℕ) → answer n ≡ walked (one at) → (n ≡ at + k) × (n ≤ end)) → (n at m : ℕ) (xs : List A) → at ≤ end → items one n at ≡ item xs m → (m ≡ at + k * n) × (m ≤ end)
unfolding items
items_fixed one end k h zero at m xs l e = let q = item_past _ _ _ _ e in (omega arith, omega arith)
items_fixed one end k h (suc n) at m xs l e =
    let (x, j, e₁, h₁) = after_inv (one at) _ xs m e in
    let (ys, i, e₂, h₂) = after_inv (items one n j) _ xs m h₁ in
    let g = h at j (sym (ap walked e₁)) in
    let r = items_fixed one end k h n j i ys g.1 e₂ in
    let q = item_past _ _ _ _ h₂ in
    (rw (mul-suc k n) (omega arith), omega arith)

-- counts of ones and zeros
total_bound : {A : Type 0} (f : A → ℕ) → ((x : A) → f x ≤ 1) → (xs : List A) → sum_of f xs ≤ length xs
total_bound f h [] = omega arith
total_bound f h (x ∷ xs) = let a = h x in let b = total_bound f h xs in omega arith

raises_bound : (x : Variable) → raises x ≤ 1
raises_bound x = go x.kind
  where
    go : (k : Kind) → if_external k 1 0 ≤ 1
    go boolean = omega arith
    go integer = omega arith
    go external = omega arith

moves_bound : (x : Entry) → moves x ≤ 1
moves_bound (normal c) = omega arith
moves_bound (invalid p) = omega arith

normals_length : (es : List Entry) → length (normals es) ≡ sum_of moves es
normals_length [] = refl
normals_length (normal c ∷ es) = let h = normals_length es in omega arith
normals_length (invalid p ∷ es) = let h = normals_length es in omega arith

externals_length : (vs : List Variable) (v : ℕ) → length (externals v vs) ≡ sum_of raises vs
externals_length [] v = refl
externals_length (x ∷ xs) v = go x.kind (externals_length xs (suc v))
  where
    go : (k : Kind) → length (externals (suc v) xs) ≡ sum_of raises xs → length (if_external k (raise v ∷ externals (suc v) xs) (externals (suc v) xs)) ≡ if_external k 1 0 + sum_of raises xs
    go boolean h = omega arith
    go integer h = omega arith
    go external h = omega arith

-- two walks, one after the other, and what is made of both
both : {A B C : Type 0} (x : Item A) (y : A → ℕ → Item B) (k : A × B → ℕ → Item C) → after x (λ i p. after (y i p) (λ c q. k (i, c) q)) ≡ after (after x (λ i p. after (y i p) (λ c q. item (i, c) q))) k
both {A} {B} {C} (item a n) y k = go (y a n)
  where
    go : (z : Item B) → after z (λ c q. k (a, c) q) ≡ after (after z (λ c q. item (a, c) q)) k
    go (item b m) = refl
    go (refused i p) = refl
both (refused i p) y k = refl

-- the invariant, and the constraint behind it
module _ (file : List ℕ) (end : ℕ) (N : Names) (os : Offsets) (at : ℕ) where
  abbrev IA : Item BoolExpr
  IA = invariant_at file end N os.constraint at

  abbrev XA : BoolExpr → ℕ → Item (BoolExpr × BoolExpr)
  XA i p = after (constraint_at file end N os.constrained p) (λ c q. item (i, c) q)

  pub expressions_stop : (i p : ℕ) → Answer.refused i p ≡ walked IA → Answer.refused i p ≡ walked (expressions_at file end N os at)
  expressions_stop i p e = sym (ap (λ (x : Item BoolExpr). walked (after x XA)) (stopped IA i p e))

  pub expressions_go : (m : ℕ) (r : Answer ℕ) → answer m ≡ walked IA → r ≡ walked (constraint_at file end N os.constrained m) → r ≡ walked (expressions_at file end N os at)
  expressions_go m r e h = let (x, q) = passed IA m e in h ∙ go x (constraint_at file end N os.constrained m) ∙ sym (ap (λ (y : Item BoolExpr). walked (after y XA)) q)
    where
      go : (x : BoolExpr) (z : Item BoolExpr) → walked z ≡ walked {A = BoolExpr × BoolExpr} (after z (λ c q. item (x, c) q))
      go x (item c q) = refl
      go x (refused i p) = refl

module _ (file : List ℕ) (end : ℕ) (cs : Counts) (os : Offsets) where
  abbrev nv : ℕ
  nv = cs.variables

  abbrev nm : ℕ
  nm = cs.matrices

  abbrev nc : ℕ
  nc = cs.cells

  abbrev mo : ℕ
  mo = os.matrices

  abbrev eo : ℕ
  eo = os.events

  abbrev co : ℕ
  co = os.cells

  abbrev io : ℕ
  io = os.invariant

  abbrev N : Names
  N = names_by file cs

  abbrev D : Item Design
  D = sections file end cs os 0

  -- what was read with the shape of these counts
  pub events_of : (s : Shape) → s ≡ shape_of cs → (r : Answer ℕ) → r ≡ walked (events_from file end (names_of file s) mo 0 s.matrices eo) → r ≡ walked (events_from file end N mo 0 nm eo)
  events_of s e r h = h ∙ ap (λ (x : Shape). walked (events_from file end (names_of file x) mo 0 x.matrices eo)) e

  pub cells_of : (s : Shape) → s ≡ shape_of cs → (r : Answer (ℕ × ℕ)) (f : ℕ → ℕ → BoolExpr) → r ≡ counted moves 0 (cells_from file end (names_of file s) mo f nc co co) → r ≡ counted moves 0 (cells_from file end N mo f nc co co)
  cells_of s e r f h = h ∙ ap (λ (x : Shape). counted moves 0 (cells_from file end (names_of file x) mo f nc co co)) e

  -- the invariant, and the constraint behind it
  abbrev EX : Item (BoolExpr × BoolExpr)
  EX = expressions_at file end N os io

  pub expressions_of : (s : Shape) → s ≡ shape_of cs → (r : Answer ℕ) → r ≡ walked (expressions_at file end (names_of file s) os io) → r ≡ walked EX
  expressions_of s e r h = h ∙ ap (λ (x : Shape). walked (expressions_at file end (names_of file x) os io)) e

  abbrev VA : Walk Variable
  VA = variable_at file end

  abbrev MA : Walk Matrix
  MA = matrix_at file end

  pub variables_end : (p e : ℕ) → answer (p, e) ≡ counted raises 0 (items VA nv 0) → (p ≡ 3 * nv) × (p ≤ end) × (e ≤ nv)
  variables_end p e q =
      let (vs, r, c) = counted_passed raises 0 (items VA nv 0) p e q in
      let (a, b) = items_fixed VA end 3 (variable_ends file end) nv 0 p vs (omega arith) r in
      let t = total_bound raises raises_bound vs in
      let u = (items_run VA nv 0 vs p r).0 in
      (omega arith, b, omega arith)

  pub matrices_end : (q : ℕ) → mo ≤ end → answer q ≡ walked (items MA nm mo) → (q ≡ mo + 2 * nm) × (q ≤ end)
  matrices_end q l e = let (ms, r) = passed (items MA nm mo) q e in items_fixed MA end 2 (matrix_ends file end) nm mo q ms l r

  rows_end : (m n at s : ℕ) → at ≤ end → answer s ≡ walked (events_from file end N mo m n at) → s ≤ end
  unfolding events_from
  rows_end m zero at s l e = let q : s ≡ at = cc in omega arith
  rows_end m (suc n) at s l e =
      let (xs, q) = passed (events_from file end N mo m (suc n) at) s e in
      let (row, j, e₁, h₁) = after_inv (items (event_at file end N) (events file mo m) at) _ xs s q in
      let (rows, i, e₂, h₂) = after_inv (events_from file end N mo (m + 1) n j) _ xs s h₁ in
      rows_end (m + 1) n j s (items_end_lem (event_at file end N) end (λ a b t. (event_ends file end N a b t).1) (events file mo m) at j l (sym (ap walked e₁))) (ap answer (sym (item_past _ _ _ _ h₂)) ∙ sym (ap walked e₂))

  pub events_end : (s : ℕ) → eo ≤ end → answer s ≡ walked (events_from file end N mo 0 nm eo) → s ≤ end
  events_end s l e = rows_end 0 nm eo s l e

  cells_bound' : (f : ℕ → ℕ → BoolExpr) (n before at t w : ℕ) (es : List Entry) → cells_from file end N mo f n before at ≡ item es t → length es ≡ n
  unfolding cells_from
  cells_bound' f zero before at t w es e = ap length (sym (item_same _ _ _ _ e))
  cells_bound' f (suc n) before at t w es e =
      let (c, j, e₁, h₁) = after_inv (cell_at file end N mo f before at) _ es t e in
      let (cs, i, e₂, h₂) = after_inv (cells_from file end N mo f n at j) _ es t h₁ in
      ap length (sym (item_same _ _ _ _ h₂)) ∙ ap suc (cells_bound' f n at j i w cs e₂)

  pub cells_bound : (f : ℕ → ℕ → BoolExpr) (t w : ℕ) → answer (t, w) ≡ counted moves 0 (cells_from file end N mo f nc co co) → w ≤ nc
  cells_bound f t w e =
      let (es, r, c) = counted_passed moves 0 (cells_from file end N mo f nc co co) t w e in
      let b = total_bound moves moves_bound es in
      let l = cells_bound' f nc co co t w es r in
      omega arith

  -- what is left after each section
  abbrev tree : List Variable → List Matrix → List Entry → BoolExpr × BoolExpr → Design
  tree vs ms es x = record { variables = vs; statuses = map (λ (m : Matrix). m.statuses) ms; cells = normals es; invalid = invalids es; invariant = x.0; constraint = x.1 }

  abbrev W7 : List Variable → List Matrix → List Entry → BoolExpr × BoolExpr → Walk Design
  W7 vs ms es x p = item (tree vs ms es x) p

  abbrev W6 : List Variable → List Matrix → List Entry → Walk Design
  W6 vs ms es at = after (invariant_at file end N os.constraint at) (λ i p. after (constraint_at file end N os.constrained p) (λ c q. W7 vs ms es (i, c) q))

  abbrev W5 : List Variable → List Matrix → List Entry → Walk Design
  W5 vs ms es at = after (offset io at) (λ a n. W6 vs ms es n)

  abbrev W4 : List Variable → List Matrix → List (List BoolExpr) → Walk Design
  W4 vs ms rows at = after (offset co at) (λ a n. after (cells_from file end N mo (event_in rows) nc n n) (W5 vs ms))

  abbrev W3 : List Variable → List Matrix → Walk Design
  W3 vs ms at = after (offset eo at) (λ a n. after (events_from file end N mo 0 nm n) (W4 vs ms))

  abbrev W2 : List Variable → Walk Design
  W2 vs at = after (offset mo at) (λ a n. after (items MA nm n) (W3 vs))

  begin : D ≡ after (items VA nv 0) W2
  unfolding sections
  begin = refl

  wrong : {A : Type 0} (o at : ℕ) (k : Unit {0} → ℕ → Item A) → (o ≡ at → ⊥) → after (offset o at) k ≡ refused 4 at
  wrong o at k h = ap (λ (x : Item (Unit {0})). after x k) (unmet (eqb o at) 4 at (item tt at) (ne_eqb o at h))

  go_on : {A : Type 0} (at : ℕ) (k : ℕ → Item A) → after (offset at at) (λ a n. k n) ≡ k at
  go_on at k = ap (λ (x : Item (Unit {0})). after x (λ a n. k n)) (met (eqb at at) 4 at (item tt at) (eq-eqb at at refl))

  pub x_variables : (i q : ℕ) → Answer.refused i q ≡ counted raises 0 (items VA nv 0) → Answer.refused i q ≡ bodied D
  x_variables i q e = sym (ap bodied (begin ∙ ap (λ (x : Item (List Variable)). after x W2) (counted_stopped raises 0 (items VA nv 0) i q e)))

  pub x_matrices : (p ext : ℕ) → answer (p, ext) ≡ counted raises 0 (items VA nv 0) → (mo ≡ p → ⊥) → Answer.refused 4 p ≡ bodied D
  x_matrices p ext e h =
      let (vs, r, c) = counted_passed raises 0 (items VA nv 0) p ext e in
      sym (ap bodied (begin ∙ ap (λ (x : Item (List Variable)). after x W2) r ∙ wrong mo p _ h))

  -- from the matrices on
  module _ (ext : ℕ) (e : VariablesRight file end cs os ext) where
    pub record S1 : Type 0 where
      pub vs : List Variable
      pub counts : ext ≡ sum_of raises vs
      pub is : D ≡ after (items MA nm mo) (W3 vs)

    s1 : S1
    s1 =
        let (vs, r, c) = counted_passed raises 0 (items VA nv 0) mo ext e in
        record { vs = vs; counts = c ∙ (let q : 0 + sum_of raises vs ≡ sum_of raises vs = omega arith in q); is = begin ∙ ap (λ (x : Item (List Variable)). after x W2) r ∙ go_on mo (λ n. after (items MA nm n) (W3 vs)) }

    pub x_matrix : (i q : ℕ) → Answer.refused i q ≡ walked (items MA nm mo) → Answer.refused i q ≡ bodied D
    x_matrix i q r = sym (ap bodied (s1.is ∙ ap (λ (x : Item (List Matrix)). after x (W3 s1.vs)) (stopped (items MA nm mo) i q r)))

    pub x_events : (q : ℕ) → answer q ≡ walked (items MA nm mo) → (eo ≡ q → ⊥) → Answer.refused 4 q ≡ bodied D
    x_events q e₂ h =
        let (ms, r) = passed (items MA nm mo) q e₂ in
        sym (ap bodied (s1.is ∙ ap (λ (x : Item (List Matrix)). after x (W3 s1.vs)) r ∙ wrong eo q _ h))

    -- from the events on
    module _ (e₂ : MatricesRight file end cs os) where
      pub before_events : (mo ≡ 3 * nv) × (mo + 2 * nm ≤ end) × (eo ≤ end)
      before_events = let a = variables_end mo ext e in let b = matrices_end eo (omega arith) e₂ in (omega arith, omega arith, omega arith)

      pub record S2 : Type 0 where
        pub vs : List Variable
        pub ms : List Matrix
        pub counts : ext ≡ sum_of raises vs
        pub is : D ≡ after (events_from file end N mo 0 nm eo) (W4 vs ms)

      s2 : S2
      s2 =
          let (ms, r) = passed (items MA nm mo) eo e₂ in
          record { vs = s1.vs; ms = ms; counts = s1.counts; is = s1.is ∙ ap (λ (x : Item (List Matrix)). after x (W3 s1.vs)) r ∙ go_on eo (λ n. after (events_from file end N mo 0 nm n) (W4 s1.vs ms)) }

      pub x_event : (i j : ℕ) → Answer.refused i j ≡ walked (events_from file end N mo 0 nm eo) → Answer.refused i j ≡ bodied D
      x_event i j r = sym (ap bodied (s2.is ∙ ap (λ (x : Item (List (List BoolExpr))). after x (W4 s2.vs s2.ms)) (stopped (events_from file end N mo 0 nm eo) i j r)))

      pub x_cells : (s : ℕ) → answer s ≡ walked (events_from file end N mo 0 nm eo) → (co ≡ s → ⊥) → Answer.refused 4 s ≡ bodied D
      x_cells s e₃ h =
          let (rows, r) = passed (events_from file end N mo 0 nm eo) s e₃ in
          sym (ap bodied (s2.is ∙ ap (λ (x : Item (List (List BoolExpr))). after x (W4 s2.vs s2.ms)) r ∙ wrong co s _ h))

      -- from the cells on
      module _ (e₃ : EventsRight file end cs os) where
        pub before_cells : (mo ≡ 3 * nv) × (mo + 2 * nm ≤ end) × (co ≤ end) × (ext ≤ nv)
        before_cells = let a = variables_end mo ext e in let b = before_events in let d = events_end co (omega arith) e₃ in (omega arith, omega arith, omega arith, omega arith)

        pub record S3 : Type 0 where
          pub vs : List Variable
          pub ms : List Matrix
          pub rows : List (List BoolExpr)
          pub counts : ext ≡ sum_of raises vs
          pub is : D ≡ after (cells_from file end N mo (event_in rows) nc co co) (W5 vs ms)

        s3 : S3
        s3 =
            let (rows, r) = passed (events_from file end N mo 0 nm eo) co e₃ in
            record { vs = s2.vs; ms = s2.ms; rows = rows; counts = s2.counts; is = s2.is ∙ ap (λ (x : Item (List (List BoolExpr))). after x (W4 s2.vs s2.ms)) r ∙ go_on co (λ n. after (cells_from file end N mo (event_in rows) nc n n) (W5 s2.vs s2.ms)) }

        abbrev CF : (ℕ → ℕ → BoolExpr) → Item (List Entry)
        CF f = cells_from file end N mo f nc co co

        pub x_cell : (i j : ℕ) → ((f : ℕ → ℕ → BoolExpr) → Answer.refused i j ≡ counted moves 0 (CF f)) → Answer.refused i j ≡ bodied D
        x_cell i j r = sym (ap bodied (s3.is ∙ ap (λ (x : Item (List Entry)). after x (W5 s3.vs s3.ms)) (counted_stopped moves 0 (CF (event_in s3.rows)) i j (r (event_in s3.rows)))))

        pub x_invariants : (t w : ℕ) → ((f : ℕ → ℕ → BoolExpr) → answer (t, w) ≡ counted moves 0 (CF f)) → (io ≡ t → ⊥) → Answer.refused 4 t ≡ bodied D
        x_invariants t w e₄ h =
            let (es, r, c) = counted_passed moves 0 (CF (event_in s3.rows)) t w (e₄ (event_in s3.rows)) in
            sym (ap bodied (s3.is ∙ ap (λ (x : Item (List Entry)). after x (W5 s3.vs s3.ms)) r ∙ wrong io t _ h))

        -- the invariant and the constraint
        module _ (w : ℕ) (e₄ : (f : ℕ → ℕ → BoolExpr) → answer (io, w) ≡ counted moves 0 (CF f)) where
          pub few_movers : w + ext ≤ nc + nv
          few_movers = let a = before_cells in let b = cells_bound (event_in s3.rows) io w (e₄ (event_in s3.rows)) in omega arith

          pub record S4 : Type 0 where
            pub vs : List Variable
            pub ms : List Matrix
            pub es : List Entry
            pub counts : ext ≡ sum_of raises vs
            pub normal : w ≡ sum_of moves es
            pub is : D ≡ after EX (W7 vs ms es)

          s4 : S4
          s4 =
              let (es, r, c) = counted_passed moves 0 (CF (event_in s3.rows)) io w (e₄ (event_in s3.rows)) in
              record {
                vs = s3.vs;
                ms = s3.ms;
                es = es;
                counts = s3.counts;
                normal = c ∙ (let q : 0 + sum_of moves es ≡ sum_of moves es = omega arith in q);
                is = s3.is ∙ ap (λ (x : Item (List Entry)). after x (W5 s3.vs s3.ms)) r ∙ go_on io (W6 s3.vs s3.ms es)
                    ∙ both (invariant_at file end N os.constraint io) (λ i p. constraint_at file end N os.constrained p) (W7 s3.vs s3.ms es);
              }

          pub x_expressions : (i j : ℕ) → Answer.refused i j ≡ walked EX → Answer.refused i j ≡ bodied D
          x_expressions i j r = sym (ap bodied (s4.is ∙ ap (λ (x : Item (BoolExpr × BoolExpr)). after x (W7 s4.vs s4.ms s4.es)) (stopped EX i j r)))

          movers_length : (vs : List Variable) (ms : List Matrix) (es : List Entry) (x : BoolExpr × BoolExpr) → length (movers (tree vs ms es x)) ≡ sum_of moves es + sum_of raises vs
          unfolding movers
          movers_length vs ms es x =
              length-append (map cell (normals es)) (externals 0 vs)
              ∙ ap₂ ◌+◌ (length-map (normals es) cell ∙ normals_length es) (externals_length vs 0)

          pub all_passed : (u : ℕ) → answer u ≡ walked EX → answer (u, (w + ext)) ≡ bodied D
          all_passed u r =
              let (y, q) = passed EX u r in
              sym (ap bodied (s4.is ∙ ap (λ (x : Item (BoolExpr × BoolExpr)). after x (W7 s4.vs s4.ms s4.es)) q)
              ∙ ap (λ (j : ℕ). answer (u, j)) (movers_length s4.vs s4.ms s4.es y ∙ sym (ap₂ ◌+◌ s4.normal s4.counts)))

-- the tests of the limits
pub length_low : (t : Bool) (n : ℕ) → t ≡ length_right n → t ≡ true → trailer_bytes ≤ n
length_low t n e h = leb-true _ _ (and_inv (leb trailer_bytes n) (leb n max_bytes) (sym e ∙ h)).0

-- the bytes behind the items, and where the constraint stands
pub tail_by : (v : ℕ) (t b : Bool) → t ≡ constrained v → t ≡ b → cond b (offset_bytes + trailer_bytes) trailer_bytes ≡ tail_bytes v
tail_by v t b e h = ap (λ (x : Bool). cond x (offset_bytes + trailer_bytes) trailer_bytes) (sym h ∙ e)

module _ (file : List ℕ) where
  pub version_here : (w : ℕ) → w ≡ at16 file (trailer file + 0) → w ≡ version file
  version_here w e = e ∙ ap (at16 file) (let z : trailer file + 0 ≡ trailer file = omega arith in z)

  pub long_tail : tail_bytes (version file) ≤ length file → trailer_bytes ≤ length file
  long_tail h = let l = tail_least (version file) in omega arith

  pub tail_fits : (v k : ℕ) → v ≡ version file → k ≡ tail_bytes v → k ≤ length file → tail_bytes (version file) ≤ length file
  tail_fits v k e q h = subst (λ (j : ℕ). j ≤ length file) (q ∙ ap tail_bytes e) h

  pub tail_room : tail_bytes (version file) ≤ length file → (end : ℕ) → end ≡ items_end file → end + trailer_bytes ≤ length file
  tail_room h end e = let l = tail_least (version file) in omega arith

  pub items_by : (w k n : ℕ) → w ≡ at16 file (trailer file + 0) → k ≡ tail_bytes w → n ≡ length file - k → n ≡ items_end file
  items_by w k n e q h = h ∙ ap (λ (j : ℕ). length file - j) (q ∙ ap tail_bytes (version_here w e))

  module _ (t : Bool) (e : t ≡ has_constraint file) (end : ℕ) (n : end ≡ items_end file) where
    pub offset_inside : tail_bytes (version file) ≤ length file → t ≡ true → end + 1 < length file
    offset_inside l h = let q = tail_by (version file) t true e h in omega arith

    pub offset_read : t ≡ true → (w : ℕ) → w ≡ at16 file end → w ≡ constraint_offset file
    offset_read h w q = q ∙ ap (at16 file) n ∙ ap (λ (x : Bool). cond x (at16 file (items_end file)) (items_end file)) (sym h ∙ e)

    pub offset_none : t ≡ false → end ≡ constraint_offset file
    offset_none h = n ∙ ap (λ (x : Bool). cond x (at16 file (items_end file)) (items_end file)) (sym h ∙ e)

-- the whole file
module _ (file : List ℕ) where
  abbrev pub counts : Bool
  counts = counts_right (variable_count file) (matrix_count file) (cell_count file)

  abbrev pub R3 : Item Design
  R3 = need counts 3 (trailer file) (body file 0)

  abbrev pub R2 : Item Design
  R2 = need (version_right (version file)) 2 (trailer file) R3

  abbrev pub R1 : Item Design
  R1 = need (leb (tail_bytes (version file)) (length file)) 1 (length file) R2

  abbrev R0 : Item Design
  R0 = need (length_right (length file)) 1 (length file) R1

  abbrev answers : ℕ → ℕ → Type 0
  answers i p = record { number = i; place = p } ≡ refusal (check file)

  refuse : (i p : ℕ) → R0 ≡ refused i p → answers i p
  unfolding check
  refuse i p e = sym (ap (λ (x : Item Design). refusal (last file x)) e)

  module _ (t : Bool) (te : t ≡ length_right (length file)) where
    pub whole_length : t ≡ false → answers 1 (length file)
    whole_length h = refuse 1 (length file) (unmet (length_right (length file)) 1 (length file) R1 (sym te ∙ h))

    module _ (t1 : t ≡ true) (v : ℕ) (ve : v ≡ version file) (k : ℕ) (ke : k ≡ tail_bytes v) where
      in_length : R0 ≡ R1
      in_length = met (length_right (length file)) 1 (length file) R1 (sym te ∙ t1)

      pub whole_tail : length file < k → answers 1 (length file)
      whole_tail h =
          let l : length file < tail_bytes (version file) = subst (λ (j : ℕ). length file < j) (ke ∙ ap tail_bytes ve) h in
          refuse 1 (length file) (in_length ∙ unmet (leb (tail_bytes (version file)) (length file)) 1 (length file) R2 (lt-leb _ _ l))

      module _ (l : k ≤ length file) (vr : Bool) (vre : vr ≡ version_right v) where
        in_tail : R0 ≡ R2
        in_tail = in_length ∙ met (leb (tail_bytes (version file)) (length file)) 1 (length file) R2 (le-leb _ _ (tail_fits file v k ve ke l))

        version_told : vr ≡ version_right (version file)
        version_told = vre ∙ ap version_right ve

        pub whole_version : vr ≡ false → answers 2 (trailer file)
        whole_version h = refuse 2 (trailer file) (in_tail ∙ unmet (version_right (version file)) 2 (trailer file) R3 (sym version_told ∙ h))

        module _ (v1 : vr ≡ true) (cs : Counts) (cse : cs ≡ trailer_counts file) (u : Bool) (ue : u ≡ counts_right cs.variables cs.matrices cs.cells) where
          in_version : R0 ≡ R3
          in_version = in_tail ∙ met (version_right (version file)) 2 (trailer file) R3 (sym version_told ∙ v1)

          told : u ≡ counts
          told = ue ∙ ap (λ (x : Counts). counts_right x.variables x.matrices x.cells) cse

          pub whole_counts : u ≡ false → answers 3 (trailer file)
          whole_counts h = refuse 3 (trailer file) (in_version ∙ unmet counts 3 (trailer file) (body file 0) (sym told ∙ h))

          module _ (u1 : u ≡ true) where
            whole_body : check file ≡ last file (body file 0)
            unfolding check
            whole_body = ap (last file) (in_version ∙ met counts 3 (trailer file) (body file 0) (sym told ∙ u1))

            module _ (end : ℕ) (ende : end ≡ items_end file) (os : Offsets) (ose : os ≡ trailer_offsets file) where
              abbrev D' : Item Design
              D' = sections file end cs os 0

              same_body : D' ≡ body file 0
              same_body = cc

              whole_is : check file ≡ last file D'
              whole_is = whole_body ∙ ap (last file) (sym same_body)

              bodied_stopped : (x : Item Design) (i p : ℕ) → Answer.refused i p ≡ bodied x → record { number = i; place = p } ≡ refusal (last file x)
              bodied_stopped (item x n) i p e = let z : ◌≡◌ {A = ℕ} 0 1 = cc in absurd (omega arith)
              bodied_stopped (refused j q) i p e = let g : i ≡ j = cc in let h : p ≡ q = cc in λ k. record { number = g k; place = h k }

              pub whole_stopped : (r : Answer (ℕ × ℕ)) (i p : ℕ) → r ≡ bodied D' → r ≡ Answer.refused i p → answers i p
              whole_stopped r i p e h = bodied_stopped D' i p (sym h ∙ e) ∙ sym (ap refusal whole_is)

              bodied_passed : (x : Item Design) (n w : ℕ) → answer (n, w) ≡ bodied x → (m : Bool) → m ≡ movers_right w → refusal (last file x) ≡ cond m (record { number = 0; place = 0 }) (record { number = 10; place = length file })
              bodied_passed (item x k) n w e m h =
                  let z : (n, w) ≡ (k, length (movers x)) = cc in
                  let g = ap (λ (p : ℕ × ℕ). p.1) z in
                  go m (sym (h ∙ ap movers_right g))
                where
                  go : (m : Bool) → movers_right (length (movers x)) ≡ m → refusal (last file (item x k)) ≡ cond m (record { number = 0; place = 0 }) (record { number = 10; place = length file })
                  go true q = rw q
                  go false q = rw q
              bodied_passed (refused j q) n w e m h = let z : ◌≡◌ {A = ℕ} 0 1 = cc in absurd (omega arith)

              module _ (r : Answer (ℕ × ℕ)) (n w : ℕ) (e : r ≡ bodied D') (h : r ≡ answer (n, w)) (m : Bool) (me : m ≡ movers_right w) where
                pub whole_movers : m ≡ false → answers 10 (length file)
                whole_movers l = sym (ap refusal whole_is ∙ bodied_passed D' n w (sym h ∙ e) false (sym l ∙ me))

                pub whole_accepted : m ≡ true → answers 0 0
                whole_accepted l = sym (ap refusal whole_is ∙ bodied_passed D' n w (sym h ∙ e) true (sym l ∙ me))
