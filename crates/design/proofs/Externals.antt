-- The externals by their kind bytes are those of the tree, and the loops that count them and find one. Assumes nothing.
use mathlib.Core.Path.{◌≡◌, refl, sym, ap, subst, ◌∙◌}
use mathlib.Core.Bool.{Bool, true, false, cond}
use mathlib.Core.List.{List, [], ◌∷◌, ◌++◌, map}
use mathlib.Core.Option.{some}
use Prim.Native.Nat.{ℕ, zero, suc, ◌+◌, ◌*◌, ◌-◌, ◌<◌, ◌≤◌}
use native.Mathlib.Omega.{arith}
use native.Mathlib.Numerals.{add-one}
use lib.ListN.{get_or, length, get_elem?, length-append, length-map}
use lib.Dec.{eqb}
use borrow.Author.Tests.{eq-eqb, ne_eqb}
use Rattle.design.specs.Tree.{Kind, Variable, Cell, Design, Mover, cell, raise, if_external, externals, movers}
use Rattle.design.specs.DesignFile.{kind, at8, variable_at}
use Rattle.design.specs.Check.{items_end, variable_count}
use Rattle.design.specs.Places.{normal_places, externals_from}
use Rattle.design.specs.Sections.{Run, Parts}
use Rattle.design.proofs.Places.{normal_stands}
use Rattle.design.proofs.Widths.{variable_is}

module _ (file : List ℕ) where
  E : ℕ
  E = items_end file

  if_kind : {A : Type 0} (k : ℕ) → k ≤ 2 → (a b : A) → if_external (kind k) a b ≡ cond (eqb k 2) a b
  if_kind zero h a b = refl
  if_kind (suc zero) h a b = refl
  if_kind (suc (suc zero)) h a b = refl
  if_kind (suc (suc (suc k))) h a b = absurd (omega arith)

  -- a variable that was passed
  map_cond : (t : Bool) (v : ℕ) (xs : List ℕ) → map raise (cond t (v ∷ xs) xs) ≡ cond t (raise v ∷ map raise xs) (map raise xs)
  map_cond true v xs = refl
  map_cond false v xs = refl

  pub externals_are : (end v at past : ℕ) (xs : List Variable) → at ≡ 3 * v → Run (variable_at file end) at xs past → externals v xs ≡ map raise (externals_from file v (length xs))
  unfolding externals_from
  externals_are end v at past [] q r = refl
  externals_are end v at past (x ∷ xs) q r =
      let (k, s, n) = variable_is file end at r.0 x r.1 in
      let e = externals_are end (suc v) r.0 past xs (omega arith) r.2 in
      ap (λ (y : Kind). if_external y (raise v ∷ externals (suc v) xs) (externals (suc v) xs)) k
      ∙ if_kind (at8 file at) s (raise v ∷ externals (suc v) xs) (externals (suc v) xs)
      ∙ ap (λ (j : ℕ). cond (eqb (get_or file j 0) 2) (raise v ∷ externals (suc v) xs) (externals (suc v) xs)) q
      ∙ ap (λ (l : List Mover). cond (eqb (get_or file (3 * v) 0) 2) (raise v ∷ l) l) e
      ∙ sym (map_cond (eqb (get_or file (3 * v) 0) 2) v (externals_from file (suc v) (length xs)))

  -- the movers by their numbers
  module _ (d : Design) (w : Parts file d) where
    abbrev vs : List ℕ
    vs = externals_from file 0 (variable_count file)

    pub raises : externals 0 d.variables ≡ map raise vs
    raises = externals_are (items_end file) 0 0 _ d.variables refl w.variable_run ∙ ap (λ (n : ℕ). map raise (externals_from file 0 n)) w.variable_count_lem

    movers_are : movers d ≡ map cell d.cells ++ map raise vs
    unfolding movers
    movers_are = ap (λ (l : List Mover). map cell d.cells ++ l) raises

    pub mover_count : length (movers d) ≡ length (normal_places file) + length vs
    mover_count = ap length movers_are ∙ length-append (map cell d.cells) (map raise vs) ∙ (let a = length-map d.cells cell in let b = length-map vs raise in let c = (normal_stands file d w).count in omega arith)

    left : (cs : List Cell) (ms : List Mover) (j : ℕ) → j < length cs → (c : Cell) → get_elem? (map cell cs ++ ms) j ≡ some (cell (get_or cs j c))
    left [] ms j h c = absurd (omega arith)
    left (x ∷ xs) ms zero h c = refl
    left (x ∷ xs) ms (suc j) h c = left xs ms j (omega arith) c

    found : (us : List ℕ) (k : ℕ) → k < length us → get_elem? (map raise us) k ≡ some (raise (get_or us k 0))
    found [] k h = absurd (omega arith)
    found (u ∷ us) zero h = refl
    found (u ∷ us) (suc k) h = found us k (omega arith)

    right : (cs : List Cell) (us : List ℕ) (j k : ℕ) → j ≡ length cs + k → k < length us → get_elem? (map cell cs ++ map raise us) j ≡ some (raise (get_or us k 0))
    right [] us j k e h = ap (get_elem? (map raise us)) (let z : j ≡ k = omega arith in z) ∙ found us k h
    right (x ∷ xs) us zero k e h = absurd (omega arith)
    right (x ∷ xs) us (suc j) k e h = right xs us j k (omega arith) h

    pub cell_mover : (j : ℕ) → j < length (normal_places file) → (c : Cell) → get_elem? (movers d) j ≡ some (cell (get_or d.cells j c))
    cell_mover j h c = ap (λ (l : List Mover). get_elem? l j) movers_are ∙ left d.cells (map raise vs) j (omega (arith, (normal_stands file d w).count)) c

    pub raise_mover : (j k : ℕ) → j ≡ length (normal_places file) + k → k < length vs → get_elem? (movers d) j ≡ some (raise (get_or vs k 0))
    raise_mover j k e h = ap (λ (l : List Mover). get_elem? l j) movers_are ∙ right d.cells vs j k (omega (arith, (normal_stands file d w).count)) h

  -- the loops
  module _ (nv v : ℕ) (l : v < nv) where
    abbrev next : List ℕ
    next = externals_from file (v + 1) (nv - (v + 1))

    turn : externals_from file v (nv - v) ≡ cond (eqb (get_or file (3 * v) 0) 2) (v ∷ next) next
    unfolding externals_from
    turn =
        ap (externals_from file v) (let z : nv - v ≡ suc (nv - (v + 1)) = omega arith in z)
        ∙ ap (λ (j : ℕ). cond (eqb (get_or file (3 * v) 0) 2) (v ∷ externals_from file j (nv - (v + 1))) (externals_from file j (nv - (v + 1)))) (sym (add-one v))

    yes_external : get_or file (3 * v) 0 ≡ 2 → externals_from file v (nv - v) ≡ v ∷ next
    yes_external e = turn ∙ ap (λ (t : Bool). cond t (v ∷ next) next) (eq-eqb _ _ e)

    no_external : (get_or file (3 * v) 0 ≡ 2 → ⊥) → externals_from file v (nv - v) ≡ next
    no_external e = turn ∙ ap (λ (t : Bool). cond t (v ∷ next) next) (ne_eqb _ _ e)

  pub record Counting (nv v count : ℕ) : Type 0 where
    pub inside : v ≤ nv
    pub few : count ≤ v
    pub same : count + length (externals_from file v (nv - v)) ≡ length (externals_from file 0 nv)

  all_left : (nv : ℕ) → nv - 0 ≡ nv
  all_left nv = omega arith

  pub counting_start : (nv : ℕ) → Counting nv 0 0
  counting_start nv = record { inside = omega arith; few = omega arith; same = (let z = ap (λ (n : ℕ). length (externals_from file 0 n)) (all_left nv) in omega arith) }

  pub counting_yes : (nv v count n : ℕ) → v < nv → get_or file (3 * v) 0 ≡ 2 → n ≡ count + 1 → Counting nv v count → Counting nv (v + 1) n
  counting_yes nv v count n l e q g = let z = ap length (yes_external nv v l e) in let s = g.same in let f = g.few in record { inside = omega arith; few = omega arith; same = omega arith }

  pub counting_no : (nv v count n : ℕ) → v < nv → (get_or file (3 * v) 0 ≡ 2 → ⊥) → n ≡ count → Counting nv v count → Counting nv (v + 1) n
  counting_no nv v count n l e q g = let z = ap length (no_external nv v l e) in let s = g.same in let f = g.few in record { inside = omega arith; few = omega arith; same = omega arith }

  pub counting_end : (nv v count : ℕ) → nv ≤ v → Counting nv v count → (count ≡ length (externals_from file 0 nv)) × (count ≤ nv)
  unfolding externals_from
  counting_end nv v count l g = let z = ap (λ (n : ℕ). length (externals_from file v n)) (let y : nv - v ≡ 0 = omega arith in y) in let s = g.same in let f = g.few in let i = g.inside in (omega arith, omega arith)

  pub record Finding (nv k v left : ℕ) : Type 0 where
    pub inside : v ≤ nv
    pub there : left < length (externals_from file v (nv - v))
    pub same : get_or (externals_from file v (nv - v)) left 0 ≡ get_or (externals_from file 0 nv) k 0

  pub finding_start : (nv k : ℕ) → k < length (externals_from file 0 nv) → Finding nv k 0 k
  finding_start nv k h =
      let z = ap (externals_from file 0) (all_left nv) in
      record { inside = omega arith; there = subst (λ (l : List ℕ). k < length l) (sym z) h; same = ap (λ (l : List ℕ). get_or l k 0) z }

  pub finding_here : (nv k v left : ℕ) → v < nv → get_or file (3 * v) 0 ≡ 2 → left ≡ 0 → Finding nv k v left → v ≡ get_or (externals_from file 0 nv) k 0
  finding_here nv k v left l e q g = sym (ap (λ (j : ℕ). get_or (v ∷ next nv v l) j 0) q) ∙ sym (ap (λ (x : List ℕ). get_or x left 0) (yes_external nv v l e)) ∙ g.same

  pub finding_yes : (nv k v left : ℕ) → v < nv → get_or file (3 * v) 0 ≡ 2 → (left ≡ 0 → ⊥) → Finding nv k v left → Finding nv k (v + 1) (left - 1)
  finding_yes nv k v zero l e q g = absurd (q refl)
  finding_yes nv k v (suc j) l e q g =
      let y = yes_external nv v l e in
      let t = subst (λ (x : List ℕ). suc j < length x) y g.there in
      let z : suc j - 1 ≡ j = omega arith in
      record {
        inside = omega arith;
        there = omega arith;
        same = ap (λ (i : ℕ). get_or (next nv v l) i 0) z ∙ sym (ap (λ (x : List ℕ). get_or x (suc j) 0) y) ∙ g.same;
      }

  pub finding_no : (nv k v left : ℕ) → v < nv → (get_or file (3 * v) 0 ≡ 2 → ⊥) → Finding nv k v left → Finding nv k (v + 1) left
  finding_no nv k v left l e g =
      let y = no_external nv v l e in
      record { inside = omega arith; there = subst (λ (x : List ℕ). left < length x) y g.there; same = sym (ap (λ (x : List ℕ). get_or x left 0) y) ∙ g.same }

  pub finding_end : (nv k v left : ℕ) → nv ≤ v → Finding nv k v left → ⊥
  unfolding externals_from
  finding_end nv k v left l g =
      let t = subst (λ (n : ℕ). left < length (externals_from file v n)) (let y : nv - v ≡ 0 = omega arith in y) g.there in
      omega arith
