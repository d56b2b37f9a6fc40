-- The entries of the calls: their tests, and the loops over them. Assumes nothing.
use Rattle.std.proofs.Common.{◌≡◌, ℕ, zero, suc, ◌+◌, ◌-◌, ◌*◌, ◌<◌, ◌≤◌, Bool, true, false, cond, ◌&&◌, eqb, ltb, leb, List, [], ◌∷◌, ◌++◌, map, length, get_or, take, drop, set, replicate, sym, refl, ap, ◌∙◌, ap₂, add-one, arith, length-append, length-drop, get_or-drop, take_all, ltb-false, ltb-true, le-ltb, lt-ltb, ne_eqb, le-leb}
use lib.ListN.{length-map, length-replicate, get_or-map}
use lib.Seq.{paste, paste-zero, paste-suc, length-paste}
use borrow.Author.Tests.{lt-leb}
use Rattle.design.specs.Tree.{Kind, boolean, Variable, Design}
use Rattle.design.specs.DesignFile.{Item, item, need, Matrix, kind, at8, matrix_at}
use Rattle.design.specs.Limits.{max_statuses, max_events, max_variables, max_matrices}
use Rattle.design.specs.Check.{check, accepted, items_end, variable_count, matrix_count, matrices_offset}
use Rattle.design.specs.Places.{Accepted}
use Rattle.design.specs.Sections.{Parts}
use Rattle.design.proofs.Sections.{whole, need_inv, item_same}
use Rattle.design.proofs.Positions.{variable_stands, matrix_stands}
use Rattle.design.proofs.Places.{read, matrix_inside}
use Rattle.std.specs.Prelude.{Some, None}
use Rattle.std.specs.Bool.{then_some}
use Rattle.step.specs.Interface.{right_kind, values_right, statuses_right, first_wrong, wrong_at}
use Rattle.step.specs.Entries.{value_right, status_right, tests_of}
use Rattle.step.specs.declared.interface.Entries.{Entries}
use Rattle.design.proofs.Widths.{variable_is, matrix_count_lem}
use Rattle.step.proofs.Looking.{Looking, wrong_is, right_is, wrong_here, right_here, looking_start, looking_wrong, looking_right, looking_end}
use Rattle.step.proofs.Replays.{drop_replicate}

pub values_length : (xs : List Variable) (ps : List ℕ) → length (values_right xs ps) ≡ length ps
values_length xs [] = refl
values_length [] (p ∷ ps) = ap suc (values_length [] ps)
values_length (x ∷ xs) (p ∷ ps) = ap suc (values_length xs ps)

pub statuses_length : (ns ss : List ℕ) → length (statuses_right ns ss) ≡ length ss
statuses_length ns [] = refl
statuses_length [] (s ∷ ss) = ap suc (statuses_length [] ss)
statuses_length (n ∷ ns) (s ∷ ss) = ap suc (statuses_length ns ss)

-- entry i of the tests
used : (xs : List Variable) (ps : List ℕ) (i : ℕ) → i < length xs → i < length ps → (x : Variable) (z : Bool) → get_or (values_right xs ps) i z ≡ right_kind (get_or xs i x).kind (get_or ps i 0)
used [] ps i h l x z = absurd (omega arith)
used (y ∷ ys) [] i h l x z = absurd (omega arith)
used (y ∷ ys) (p ∷ ps) zero h l x z = refl
used (y ∷ ys) (p ∷ ps) (suc i) h l x z = used ys ps i (omega arith) (omega arith) x z

unused : (xs : List Variable) (ps : List ℕ) (i : ℕ) → length xs ≤ i → i < length ps → (z : Bool) → get_or (values_right xs ps) i z ≡ eqb (get_or ps i 0) 0
unused xs [] i h l z = absurd (omega arith)
unused [] (p ∷ ps) zero h l z = refl
unused [] (p ∷ ps) (suc i) h l z = unused [] ps i (omega arith) (omega arith) z
unused (y ∷ ys) (p ∷ ps) zero h l z = absurd (omega arith)
unused (y ∷ ys) (p ∷ ps) (suc i) h l z = unused ys ps i (omega arith) (omega arith) z

used_status : (ns ss : List ℕ) (i : ℕ) → i < length ns → i < length ss → (z : Bool) → get_or (statuses_right ns ss) i z ≡ ltb (get_or ss i 0) (get_or ns i 0)
used_status [] ss i h l z = absurd (omega arith)
used_status (n ∷ ns) [] i h l z = absurd (omega arith)
used_status (n ∷ ns) (s ∷ ss) zero h l z = refl
used_status (n ∷ ns) (s ∷ ss) (suc i) h l z = used_status ns ss i (omega arith) (omega arith) z

unused_status : (ns ss : List ℕ) (i : ℕ) → length ns ≤ i → i < length ss → (z : Bool) → get_or (statuses_right ns ss) i z ≡ eqb (get_or ss i 0) 0
unused_status ns [] i h l z = absurd (omega arith)
unused_status [] (s ∷ ss) zero h l z = refl
unused_status [] (s ∷ ss) (suc i) h l z = unused_status [] ss i (omega arith) (omega arith) z
unused_status (n ∷ ns) (s ∷ ss) zero h l z = absurd (omega arith)
unused_status (n ∷ ns) (s ∷ ss) (suc i) h l z = unused_status ns ss i (omega arith) (omega arith) z

right_kind_lem : (k p : ℕ) → right_kind (kind k) p ≡ cond (eqb k 1) true (leb p 1)
right_kind_lem zero p = refl
right_kind_lem (suc zero) p = refl
right_kind_lem (suc (suc zero)) p = refl
right_kind_lem (suc (suc (suc k))) p = ap (λ (t : Bool). cond t true (leb p 1)) (sym (ne_eqb (suc (suc (suc k))) 1 (λ e. omega arith)))

split_lt : (a b : ℕ) (P : Type 0) → (a < b → P) → (b ≤ a → P) → P
split_lt a b P f g = go (ltb a b) refl
  where
    go : (t : Bool) → ltb a b ≡ t → P
    go true e = f (ltb-true a b e)
    go false e = g (ltb-false a b e)

module _ (file : List ℕ) (d : Design) (c : check file ≡ accepted d) where
  w : Parts file d
  w = (whole file d c).parts

  value_at_lem : (nv : ℕ) → nv ≡ variable_count file → (ps : List ℕ) (i : ℕ) → i < length ps → (z : Bool) → get_or (values_right d.variables ps) i z ≡ value_right file nv i (get_or ps i 0)
  value_at_lem nv e ps i l z = split_lt i nv _
      (λ h.
      let x : Variable = record { kind = boolean; initial = 0 } in
      let k = (variable_is file (items_end file) (3 * i) (3 * i + 3) (get_or d.variables i x) (variable_stands file d w i (omega arith) x)).0 in
      used d.variables ps i (omega (arith, w.variable_count_lem)) l x z ∙ ap (λ (y : Kind). right_kind y (get_or ps i 0)) k ∙ right_kind_lem (at8 file (3 * i)) (get_or ps i 0)
      ∙ ap (λ (t : Bool). cond t (cond (eqb (get_or file (3 * i) 0) 1) true (leb (get_or ps i 0) 1)) (eqb (get_or ps i 0) 0)) (sym (lt-ltb i nv h)))
      (λ h.
      unused d.variables ps i (omega (arith, w.variable_count_lem)) l z
      ∙ ap (λ (t : Bool). cond t (cond (eqb (get_or file (3 * i) 0) 1) true (leb (get_or ps i 0) 1)) (eqb (get_or ps i 0) 0)) (sym (le-ltb i nv h)))

  count_at : (m : ℕ) → m < matrix_count file → get_or d.statuses m 0 ≡ at8 file (matrices_offset file + 2 * m)
  unfolding matrix_at
  count_at m h =
      let none : Matrix = record { statuses = 0; events = 0 } in
      let at = matrices_offset file + 2 * m in
      let right = leb 1 (at8 file at) && leb (at8 file at) max_statuses && leb 1 (at8 file (at + 1)) && leb (at8 file (at + 1)) max_events in
      let made : Item Matrix = item (record { statuses = at8 file at; events = at8 file (at + 1) }) (at + 2) in
      let a = (need_inv (leb (at + 2) (items_end file)) 4 at (need right 6 at made) _ _ (matrix_stands file d w m h none)).1 in
      let b = (need_inv right 6 at made _ _ a).1 in
      ap (λ (l : List ℕ). get_or l m 0) w.statuses ∙ get_or-map (λ (y : Matrix). y.statuses) w.matrices m none ∙ ap (λ (y : Matrix). y.statuses) (sym (item_same _ _ _ _ b))

  status_at : (mats nm : ℕ) → mats ≡ matrices_offset file → nm ≡ matrix_count file → (ss : List ℕ) (m : ℕ) → m < length ss → (z : Bool) → get_or (statuses_right d.statuses ss) m z ≡ status_right file mats nm m (get_or ss m 0)
  status_at mats nm q e ss m l z = split_lt m nm _
      (λ h.
      used_status d.statuses ss m (omega (arith, matrix_count_lem file d w)) l z ∙ ap (ltb (get_or ss m 0)) (count_at m (omega arith) ∙ ap (λ (j : ℕ). get_or file (j + 2 * m) 0) (sym q))
      ∙ ap (λ (t : Bool). cond t (ltb (get_or ss m 0) (get_or file (mats + 2 * m) 0)) (eqb (get_or ss m 0) 0)) (sym (lt-ltb m nm h)))
      (λ h.
      unused_status d.statuses ss m (omega (arith, matrix_count_lem file d w)) l z
      ∙ ap (λ (t : Bool). cond t (ltb (get_or ss m 0) (get_or file (mats + 2 * m) 0)) (eqb (get_or ss m 0) 0)) (sym (le-ltb m nm h)))

pub matrices_inside : (file : List ℕ) → Accepted file → matrices_offset file + 2 * matrix_count file ≤ items_end file
matrices_inside file a = go (matrix_count file) refl
  where
    go : (n : ℕ) → n ≡ matrix_count file → matrices_offset file + 2 * n ≤ items_end file
    go zero q = omega (arith, (read file a).all.matrix)
    go (suc m) q = let t = read file a in let k = matrix_inside file t.tree t.all.parts m (omega arith) in omega arith

-- the loops
pub record LookingAt (file : List ℕ) (ts : Design → List Bool) (i : ℕ) : Type 0 where
  pub of : (d : Design) → check file ≡ accepted d → Looking (ts d) i

module _ (file : List ℕ) (nv : ℕ) (e : nv ≡ variable_count file) (ps : List ℕ) (n : length ps ≡ max_variables) where
  abbrev ValuesAt : ℕ → Type 0
  ValuesAt i = LookingAt file (λ d. values_right d.variables ps) i

  pub values_start : ValuesAt 0
  values_start = record { of = λ d c. looking_start (values_right d.variables ps) }

  module _ (i : ℕ) (g : ValuesAt i) (l : i < max_variables) (r : Bool) (h : r ≡ value_right file nv i (get_or ps i 0)) where
    pub values_wrong : r ≡ false → (d : Design) → check file ≡ accepted d → Some i ≡ wrong_at (values_right d.variables ps)
    values_wrong f d c = looking_wrong (values_right d.variables ps) i true (g.of d c) (omega (arith, values_length d.variables ps)) (value_at_lem file d c nv e ps i (omega arith) true ∙ sym h ∙ f)

    pub values_right_lem : r ≡ true → ValuesAt (i + 1)
    values_right_lem t = record { of = λ d c. looking_right (values_right d.variables ps) i true (g.of d c) (omega (arith, values_length d.variables ps)) (value_at_lem file d c nv e ps i (omega arith) true ∙ sym h ∙ t) }

  pub values_end : (i : ℕ) → max_variables ≤ i → ValuesAt i → (d : Design) → check file ≡ accepted d → None ≡ wrong_at (values_right d.variables ps)
  values_end i l g d c = looking_end (values_right d.variables ps) i (omega (arith, values_length d.variables ps)) (g.of d c)

module _ (file : List ℕ) (mats nm : ℕ) (q : mats ≡ matrices_offset file) (e : nm ≡ matrix_count file) (ss : List ℕ) (n : length ss ≡ max_matrices) where
  abbrev StatusesAt : ℕ → Type 0
  StatusesAt i = LookingAt file (λ d. statuses_right d.statuses ss) i

  pub statuses_start : StatusesAt 0
  statuses_start = record { of = λ d c. looking_start (statuses_right d.statuses ss) }

  module _ (i : ℕ) (g : StatusesAt i) (l : i < max_matrices) (r : Bool) (h : r ≡ status_right file mats nm i (get_or ss i 0)) where
    pub statuses_wrong : r ≡ false → (d : Design) → check file ≡ accepted d → Some i ≡ wrong_at (statuses_right d.statuses ss)
    statuses_wrong f d c = looking_wrong (statuses_right d.statuses ss) i true (g.of d c) (omega (arith, statuses_length d.statuses ss)) (status_at file d c mats nm q e ss i (omega arith) true ∙ sym h ∙ f)

    pub statuses_right_lem : r ≡ true → StatusesAt (i + 1)
    statuses_right_lem t = record { of = λ d c. looking_right (statuses_right d.statuses ss) i true (g.of d c) (omega (arith, statuses_length d.statuses ss)) (status_at file d c mats nm q e ss i (omega arith) true ∙ sym h ∙ t) }

  pub statuses_end : (i : ℕ) → max_matrices ≤ i → StatusesAt i → (d : Design) → check file ≡ accepted d → None ≡ wrong_at (statuses_right d.statuses ss)
  statuses_end i l g d c = looking_end (statuses_right d.statuses ss) i (omega (arith, statuses_length d.statuses ss)) (g.of d c)

-- the first wrong one of two lists
pub first_of_two : (xs ys : List Bool) → first_wrong xs < length xs → first_wrong (xs ++ ys) ≡ first_wrong xs
first_of_two [] ys l = absurd (omega arith)
first_of_two (false ∷ xs) ys l = refl
first_of_two (true ∷ xs) ys l = ap suc (first_of_two xs ys (omega arith))

pub second_of_two : (xs ys : List Bool) → length xs ≤ first_wrong xs → first_wrong (xs ++ ys) ≡ length xs + first_wrong ys
second_of_two [] ys l = omega arith
second_of_two (false ∷ xs) ys l = absurd (omega arith)
second_of_two (true ∷ xs) ys l = omega (arith, second_of_two xs ys (omega arith))

module _ (xs ys : List Bool) where
  wrong_in_first : (i : ℕ) → Some i ≡ wrong_at xs → Some i ≡ wrong_at (xs ++ ys)
  wrong_in_first i e =
      let (q, l) = wrong_here xs i e in
      wrong_is (xs ++ ys) i (omega (arith, first_of_two xs ys (omega arith))) (omega (arith, length-append xs ys))

  module _ (e : None ≡ wrong_at xs) where
    wrong_in_second : (n i : ℕ) → n ≡ length xs → Some i ≡ wrong_at ys → Some (n + i) ≡ wrong_at (xs ++ ys)
    wrong_in_second n i m f =
        let (q, l) = wrong_here ys i f in
        wrong_is (xs ++ ys) (n + i) (omega (arith, second_of_two xs ys (right_here xs e))) (omega (arith, length-append xs ys))

    right_in_both : None ≡ wrong_at ys → None ≡ wrong_at (xs ++ ys)
    right_in_both f = right_is (xs ++ ys) (omega (arith, second_of_two xs ys (right_here xs e), right_here ys f, length-append xs ys))

-- a loop that copies
pub record Copying {A : Type 0} (dst : List A) (at : ℕ) (src : List A) (i : ℕ) (now : List A) : Type 0 where
  pub same : now ≡ paste dst at src i

module _ {A : Type 0} (dst : List A) (at : ℕ) (src : List A) where
  pub copying_start : Copying dst at src 0 dst
  copying_start = record { same = paste-zero dst at src }

  pub copying_on : (i j : ℕ) (now : List A) (x z : A) → j ≡ at + i → at + i < length dst → i < length src → x ≡ get_or src i z → Copying dst at src i now → Copying dst at src (i + 1) (set now j x)
  copying_on i j now x z p h l e g = record {
    same =
        ap (λ (t : List A). set t j x) g.same ∙ ap₂ (λ (k : ℕ) (y : A). set (paste dst at src i) k y) p e
        ∙ paste-suc dst at src i z h l ∙ ap (paste dst at src) (sym (add-one i));
  }

  pub copying_size : (i : ℕ) (now : List A) → at + i ≤ length dst → i ≤ length src → Copying dst at src i now → length now ≡ length dst
  copying_size i now h l g = ap length g.same ∙ length-paste dst at src i h l

-- n of m entries, the others as they were
pub copied : {A : Type 0} (m n : ℕ) (z : A) (src now : List A) → n ≤ m → Copying (replicate m z) 0 src n now → now ≡ take n src ++ replicate (m - n) z
copied {A} m n z src now h g =
    g.same ∙ ap (λ (t : List A). take n src ++ t) (ap₂ (λ (k j : ℕ). drop k (replicate j z)) (let q : 0 + n ≡ n = omega arith in q) (let q : m ≡ n + (m - n) = omega arith in q) ∙ drop_replicate n (m - n) z)

pub append_none : {A : Type 0} (xs : List A) → xs ++ [] ≡ xs
append_none [] = refl
append_none {A} (x ∷ xs) = ap (λ (l : List A). x ∷ l) (append_none xs)

pub copied_all : {A : Type 0} (m n : ℕ) (z : A) (src now : List A) → n ≡ m → length src ≡ m → Copying (replicate m z) 0 src n now → now ≡ src
copied_all {A} m n z src now e l g =
    copied m n z src now (omega arith) g ∙ ap₂ (λ (x y : List A). x ++ y) (take_all n src (omega arith)) (ap (λ (k : ℕ). replicate k z) (let q : m - n ≡ 0 = omega arith in q)) ∙ append_none src

-- the loops of the interface
module _ (m : ℕ) where
  pub copying_mapped : {A B : Type 0} (f : A → B) (z : B) (a : A) (src : List A) (i : ℕ) (now : List B) (x : B) → i < m → i < length src → x ≡ f (get_or src i a) → Copying (replicate m z) 0 (map f src) i now → Copying (replicate m z) 0 (map f src) (i + 1) (set now i x)
  copying_mapped f z a src i now x l k e g =
      copying_on (replicate m z) 0 (map f src) i i now x (f a) (omega arith) (let q = length-replicate m z in omega arith) (let q = length-map src f in omega arith) (e ∙ sym (get_or-map f src i a)) g

  pub copying_from : (n : ℕ) (src : List ℕ) (i : ℕ) (now : List ℕ) (x : ℕ) → i < m → n + i < length src → x ≡ get_or src (n + i) 0 → Copying (replicate m 0) 0 (drop n src) i now → Copying (replicate m 0) 0 (drop n src) (i + 1) (set now i x)
  copying_from n src i now x l k e g =
      copying_on (replicate m 0) 0 (drop n src) i i now x 0 (omega arith) (let q : length (replicate {A = ℕ} m 0) ≡ m = length-replicate m 0 in omega arith) (let q = length-drop n src in omega arith) (e ∙ sym (get_or-drop n src i 0)) g

-- the entries: values, then statuses, then the mark
module _ (d : Design) (e : Entries) (n : length e.patterns ≡ max_variables) (k : length e.statuses ≡ max_matrices) where
  abbrev vt : List Bool
  vt = values_right d.variables e.patterns

  abbrev st : List Bool
  st = statuses_right d.statuses e.statuses

  abbrev mt : List Bool
  mt = leb e.mark 1 ∷ []

  pub first_entry : (i : ℕ) → Some i ≡ wrong_at vt → Some i ≡ wrong_at (tests_of d e)
  first_entry i h = wrong_in_first vt (st ++ mt) i h

  pub status_within : (m : ℕ) → Some m ≡ wrong_at st → m < max_matrices
  status_within m q = let (x, l) = wrong_here st m q in omega (arith, statuses_length d.statuses e.statuses)

  module _ (h : None ≡ wrong_at vt) where
    pub status_entry : (m : ℕ) → Some m ≡ wrong_at st → Some (max_variables + m) ≡ wrong_at (tests_of d e)
    status_entry m q = wrong_in_second vt (st ++ mt) h max_variables m (omega (arith, values_length d.variables e.patterns)) (wrong_in_first st mt m q)

    -- the mark is judged where all before it are right
    pub mark_entry : None ≡ wrong_at st → then_some (ltb 1 e.mark) (max_variables + max_matrices) ≡ wrong_at (tests_of d e)
    mark_entry q = go (ltb 1 e.mark) refl
      where
        go : (t : Bool) → ltb 1 e.mark ≡ t → then_some t (max_variables + max_matrices) ≡ wrong_at (tests_of d e)
        go true z =
            wrong_in_second vt (st ++ mt) h max_variables max_matrices (omega (arith, values_length d.variables e.patterns))
            (wrong_in_second st mt q max_matrices 0 (omega (arith, statuses_length d.statuses e.statuses)) (sym (ap (λ (b : Bool). wrong_at (b ∷ [])) (lt-leb e.mark 1 (ltb-true 1 e.mark z)))))
        go false z = right_in_both vt (st ++ mt) h (right_in_both st mt q (sym (ap (λ (b : Bool). wrong_at (b ∷ [])) (le-leb e.mark 1 (ltb-false 1 e.mark z)))))
