-- The loops of DECODE: the one flag of a frame that is 1, the first frame without just one, and the choices that are written.
use Rattle.std.proofs.Common.{◌≡◌, ℕ, zero, suc, ◌+◌, ◌-◌, ◌*◌, ◌<◌, ◌≤◌, Bool, true, false, cond, ◌&&◌, not, eqb, ltb, lt-ltb, le-ltb, ltb-true, ltb-false, List, [], ◌∷◌, ◌++◌, length, get_or, take, drop, set, sym, refl, ap, ◌∙◌, subst, ap₂, append_assoc, suc-mul, add-one, arith, length-drop, length-set, length-take-le, drop-cons, take-suc-set, eq-eqb, ne_eqb, eqb-true}
use Rattle.std.specs.Prelude.{Option, Some, None}
use Rattle.std.specs.Option.{is_some, unwrap_or}
use Rattle.std.specs.List.{position, position_or_len, list_all, range_with_len}
use Rattle.std.proofs.lemmas.List.FromFn.{length-range_with_len}
use mathlib.Core.Bool.{false≢true}
use borrow.Author.Tests.{lt-leb}
use Rattle.clauses.proofs.EmitWords.{append-nil}
use Rattle.clauses.proofs.EmitLists.{take_all}
use Rattle.clauses.specs.Decode.{all_bits, ones, first_one, just_one}
use Rattle.clauses.specs.Chosen.{below, first_nonzero, all_zero, chosen_in, flags_from, first_bad, chosen_list}

and_false : (b : Bool) → (b && false) ≡ false
and_false true = refl
and_false false = refl

-- a place among n, and none
module _ (n i : ℕ) where
  pub found : (j : ℕ) → j ≡ i → j < n → Some j ≡ below n i
  found j e l = ap (λ (t : Bool). cond t (Some j) None) (sym (lt-ltb j n l)) ∙ ap (below n) e

  pub not_found : n ≤ i → None ≡ below n i
  not_found l = ap (λ (t : Bool). cond t (Some i) None) (sym (le-ltb i n l))

  pub found_at : (j : ℕ) → Some j ≡ below n i → (j ≡ i) × (j < n)
  found_at j e = go (ltb i n) refl e
    where
      go : (t : Bool) → ltb i n ≡ t → Some j ≡ cond t (Some i) None → (j ≡ i) × (j < n)
      go true q f = let k : j ≡ i = cc in (k, let l = ltb-true i n q in omega arith)
      go false q f = absurd cc

  pub none_found : None ≡ below n i → n ≤ i
  none_found e = go (ltb i n) refl e
    where
      go : (t : Bool) → ltb i n ≡ t → None ≡ cond t (Some i) None → n ≤ i
      go true q f = absurd cc
      go false q f = ltb-false i n q

  pub none_is : (o : Option ℕ) → o ≡ below n i → is_some o ≡ false → n ≤ i
  none_is None e z = none_found e
  none_is (Some j) e z = absurd (false≢true (sym z))

  pub some_is : (o : Option ℕ) → o ≡ below n i → is_some o ≡ true → i < n
  some_is None e z = absurd (false≢true z)
  some_is (Some j) e z = let a = found_at j e in omega arith

  pub or_past : (o : Option ℕ) → o ≡ below n i → i ≤ n → unwrap_or o n ≡ i
  or_past None e l = let a = none_found e in omega arith
  or_past (Some j) e l = (found_at j e).0

-- the first that is not 0, and whether all are 0, as the library says it
not_not : (b : Bool) → not (not b) ≡ b
not_not true = refl
not_not false = refl

nonzero_place : (xs : List ℕ) → position_or_len (λ x. not (eqb x 0)) xs ≡ first_nonzero xs
nonzero_place [] = refl
nonzero_place (x ∷ xs) = ap (λ (t : Bool). cond t (1 + position_or_len (λ y. not (eqb y 0)) xs) 0) (not_not (eqb x 0)) ∙ ap (λ (n : ℕ). cond (eqb x 0) n 0) (omega (arith, nonzero_place xs))

pub first_place : (xs : List ℕ) → position (λ x. not (eqb x 0)) xs ≡ below (length xs) (first_nonzero xs)
first_place xs = ap (below (length xs)) (nonzero_place xs)

pub all_zeros : (xs : List ℕ) → list_all (λ x. eqb x 0) xs ≡ all_zero xs
all_zeros [] = refl
all_zeros (x ∷ xs) = ap (λ (t : Bool). eqb x 0 && t) (all_zeros xs)

here : (xs : List ℕ) (i : ℕ) → i < length xs → drop i xs ≡ get_or xs i 0 ∷ drop (i + 1) xs
here xs i l = drop-cons xs i 0 l ∙ ap (λ (n : ℕ). get_or xs i 0 ∷ drop n xs) (sym (add-one i))

-- just one 1, by the first that is not 0 and what follows it
nonzero : (x : ℕ) → eqb (suc x) 0 ≡ false
nonzero x = ne_eqb (suc x) 0 (λ z. omega arith)

first_here : (x : ℕ) (xs : List ℕ) → first_nonzero (suc x ∷ xs) ≡ 0
first_here x xs = ap (λ (t : Bool). cond t (suc (first_nonzero xs)) 0) (nonzero x)

no_ones : (xs : List ℕ) → length xs ≤ first_nonzero xs → ones xs ≡ 0
no_ones [] l = refl
no_ones (zero ∷ xs) l = no_ones xs (omega arith)
no_ones (suc x ∷ xs) l = absurd (omega (arith, first_here x xs))

skip_ones : (xs : List ℕ) → ones (drop (first_nonzero xs) xs) ≡ ones xs
skip_ones [] = refl
skip_ones (zero ∷ xs) = skip_ones xs
skip_ones (suc x ∷ xs) = ap (λ (i : ℕ). ones (drop i (suc x ∷ xs))) (first_here x xs)

skip_bits : (xs : List ℕ) → all_bits (drop (first_nonzero xs) xs) ≡ all_bits xs
skip_bits [] = refl
skip_bits (zero ∷ xs) = skip_bits xs
skip_bits (suc x ∷ xs) = ap (λ (i : ℕ). all_bits (drop i (suc x ∷ xs))) (first_here x xs)

value_here : (x : ℕ) (xs : List ℕ) → get_or (suc x ∷ xs) (first_nonzero (suc x ∷ xs)) 0 ≡ suc x
value_here x xs = ap (λ (i : ℕ). get_or (suc x ∷ xs) i 0) (first_here x xs)

not_zero : (xs : List ℕ) → first_nonzero xs < length xs → get_or xs (first_nonzero xs) 0 ≡ 0 → ⊥
not_zero [] l e = omega arith
not_zero (zero ∷ xs) l e = not_zero xs (omega arith) e
not_zero (suc x ∷ xs) l e = omega (arith, value_here x xs)

first_is : (xs : List ℕ) → get_or xs (first_nonzero xs) 0 ≡ 1 → first_one xs ≡ first_nonzero xs
first_is [] e = refl
first_is (zero ∷ xs) e = ap suc (first_is xs e)
first_is (suc x ∷ xs) e = ap (λ (t : Bool). cond t 0 (suc (first_one xs))) (eq-eqb (suc x) 1 (sym (value_here x xs) ∙ e)) ∙ sym (first_here x xs)

zeros_bits : (xs : List ℕ) → all_zero xs ≡ true → (all_bits xs ≡ true) × (ones xs ≡ 0)
zeros_bits [] e = (refl, refl)
zeros_bits (zero ∷ xs) e = zeros_bits xs e
zeros_bits (suc x ∷ xs) e = absurd (false≢true (sym (ap (λ (t : Bool). t && all_zero xs) (nonzero x)) ∙ e))

zeros_not : (xs : List ℕ) → all_zero xs ≡ false → (all_bits xs && eqb (suc (ones xs)) 1) ≡ false
zeros_not [] e = absurd (false≢true (sym e))
zeros_not (zero ∷ xs) e = zeros_not xs e
zeros_not (suc zero ∷ xs) e = ap (λ (t : Bool). all_bits xs && t) (ne_eqb (suc (suc (ones xs))) 1 (λ z. omega arith)) ∙ and_false (all_bits xs)
zeros_not (suc (suc x) ∷ xs) e =
    ap (λ (t : Bool). (t && all_bits xs) && eqb (suc (ones (suc (suc x) ∷ xs))) 1) (lt-leb (suc (suc x)) 1 (omega arith))

module _ (xs : List ℕ) where
  not_just : just_one xs ≡ false → length xs ≡ chosen_in xs
  not_just e = ap (λ (t : Bool). cond t (first_one xs) (length xs)) (sym e)

  module _ (i : ℕ) (q : i ≡ first_nonzero xs) where
    pub chosen_none : length xs ≤ i → length xs ≡ chosen_in xs
    chosen_none l = not_just (ap (λ (n : ℕ). all_bits xs && eqb n 1) (no_ones xs (omega arith)) ∙ and_false (all_bits xs))

    module _ (l : i < length xs) where
      rest : List ℕ
      rest = drop (i + 1) xs

      split : drop (first_nonzero xs) xs ≡ get_or xs i 0 ∷ drop (i + 1) xs
      split = ap (λ (n : ℕ). drop n xs) (sym q) ∙ here xs i l

      just_is : just_one xs ≡ just_one (get_or xs i 0 ∷ drop (i + 1) xs)
      just_is = sym (ap₂ (λ (b : Bool) (n : ℕ). b && eqb n 1) (skip_bits xs) (skip_ones xs)) ∙ ap just_one split

      pub chosen_odd : (get_or xs i 0 ≡ 1 → ⊥) → length xs ≡ chosen_in xs
      chosen_odd z =
          let nz : get_or xs i 0 ≡ 0 → ⊥ = λ e. not_zero xs (omega arith) (ap (λ (n : ℕ). get_or xs n 0) (sym q) ∙ e) in
          let big : 1 < get_or xs i 0 = omega (arith, nz, z) in
          not_just (just_is ∙ ap (λ (t : Bool). (t && all_bits (drop (i + 1) xs)) && eqb (ones (get_or xs i 0 ∷ drop (i + 1) xs)) 1) (lt-leb (get_or xs i 0) 1 big))

      module _ (e : get_or xs i 0 ≡ 1) where
        one_is : just_one xs ≡ (all_bits (drop (i + 1) xs) && eqb (suc (ones (drop (i + 1) xs))) 1)
        one_is = just_is ∙ ap (λ (v : ℕ). just_one (v ∷ drop (i + 1) xs)) e

        pub chosen_more : all_zero (drop (i + 1) xs) ≡ false → length xs ≡ chosen_in xs
        chosen_more z = not_just (one_is ∙ zeros_not (drop (i + 1) xs) z)

        pub chosen_one : all_zero (drop (i + 1) xs) ≡ true → i ≡ chosen_in xs
        chosen_one z =
            let b = zeros_bits (drop (i + 1) xs) z in
            let j : just_one xs ≡ true = one_is ∙ ap₂ (λ (t : Bool) (n : ℕ). t && eqb (suc n) 1) b.0 b.1 in
            let f : first_one xs ≡ first_nonzero xs = first_is xs (ap (λ (n : ℕ). get_or xs n 0) (sym q) ∙ e) in
            (q ∙ sym f) ∙ ap (λ (t : Bool). cond t (first_one xs) (length xs)) (sym j)

-- a frame is right exactly when its choice is one of the flags
one_inside : (xs : List ℕ) → (ones xs ≡ 0 → ⊥) → first_one xs < length xs
one_inside [] z = absurd (z refl)
one_inside (x ∷ xs) z = go (eqb x 1) z (λ k. one_inside xs k)
  where
    go : (t : Bool) → (cond t (suc (ones xs)) (ones xs) ≡ 0 → ⊥) → ((ones xs ≡ 0 → ⊥) → first_one xs < length xs)
        → cond t 0 (suc (first_one xs)) < suc (length xs)
    go true k r = omega arith
    go false k r = let h = r k in omega arith

and_right : (a b : Bool) → (a && b) ≡ true → b ≡ true
and_right true b e = e
and_right false b e = absurd (false≢true e)

pub right_frame : (xs : List ℕ) → chosen_in xs < length xs → just_one xs ≡ true
right_frame xs l = go (just_one xs) refl
  where
    go : (t : Bool) → just_one xs ≡ t → just_one xs ≡ true
    go true e = e
    go false e = let h = ap (λ (b : Bool). cond b (first_one xs) (length xs)) e in absurd (omega arith)

pub wrong_frame : (xs : List ℕ) → length xs ≤ chosen_in xs → just_one xs ≡ false
wrong_frame xs l = go (just_one xs) refl
  where
    go : (t : Bool) → just_one xs ≡ t → just_one xs ≡ false
    go false e = e
    go true e =
        let h = ap (λ (b : Bool). cond b (first_one xs) (length xs)) e in
        let o : ones xs ≡ 1 = eqb-true (ones xs) 1 (and_right (all_bits xs) (eqb (ones xs) 1) e) in
        let k = one_inside xs (λ z. omega arith) in
        absurd (omega arith)

first_small : (xs : List ℕ) → first_one xs ≤ length xs
first_small [] = omega arith
first_small (x ∷ xs) = go (eqb x 1) (first_small xs)
  where
    go : (t : Bool) → first_one xs ≤ length xs → cond t 0 (suc (first_one xs)) ≤ suc (length xs)
    go true l = omega arith
    go false l = omega arith

chosen_small : (xs : List ℕ) → chosen_in xs ≤ length xs
chosen_small xs = go (just_one xs)
  where
    go : (t : Bool) → cond t (first_one xs) (length xs) ≤ length xs
    go true = first_small xs
    go false = omega arith

-- the frames, one after the other
module _ (values : List ℕ) (size w k base : ℕ) where
  -- frame j is next, with its flags at `at`
  pub record Next (at j : ℕ) : Type 0 where
    pub inside : j ≤ k
    pub room : at + (k - j) * size ≤ length values

  none_passed : k - 0 ≡ k
  none_passed = omega arith

  next_start : base + k * size ≤ length values → Next base 0
  next_start l = record { inside = omega arith; room = subst (λ (n : ℕ). base + n * size ≤ length values) (sym none_passed) l }

  module _ (at j : ℕ) (l : j < k) where
    left : k - j ≡ suc (k - (j + 1))
    left = omega arith

    next_on : Next at j → Next (at + size) (j + 1)
    next_on g =
        let z : (k - j) * size ≡ suc (k - (j + 1)) * size = ap (λ (n : ℕ). n * size) left in
        let q = suc-mul (k - (j + 1)) size in
        record { inside = omega arith; room = omega (arith, g.room) }

    pub frame_inside : Next at j → at + size ≤ length values
    frame_inside g = omega (arith, (next_on g).room)

    -- its flags, as the code takes them
    abbrev cut : List ℕ
    cut = take (at + w - at) (drop at values)

    cut_is : cut ≡ flags_from values size w at
    cut_is = ap (λ (n : ℕ). take n (drop at values)) (let z : at + w - at ≡ w = omega arith in z)

    module _ (g : Next at j) (f : w ≤ size) where
      pub flags_inside : at + w ≤ length values
      flags_inside = omega (arith, frame_inside g)

      pub flags_long : length cut ≡ w
      flags_long = ap length cut_is ∙ length-take-le w (drop at values) (let h = length-drop at values in omega (arith, flags_inside))

  -- what the code asks of frame j, whose flags are the n from m on
  abbrev pub Judged : ℕ → Bool → Type 0
  Judged j b = (o : Option ℕ) × (n : ℕ) × (m : ℕ) × (b ≡ not (is_some o)) × (o ≡ below (length (take n (drop m values))) (chosen_in (take n (drop m values)))) × (m ≡ base + j * size) × (n ≡ w)

  pub judged : (j : ℕ) (b : Bool) → Judged j b → b ≡ not (just_one (flags_from values size w (base + j * size)))
  judged j b (o, n, m, e, q, em, en) = e ∙ go o q ∙ ap₂ (λ (n m : ℕ). not (just_one (take n (drop m values)))) en em
    where
      cut : List ℕ
      cut = take n (drop m values)

      go : (o : Option ℕ) → o ≡ below (length cut) (chosen_in cut) → not (is_some o) ≡ not (just_one cut)
      go None q = ap not (sym (wrong_frame cut (none_is _ _ None q refl)))
      go (Some i) q = ap not (sym (right_frame cut (some_is _ _ (Some i) q refl)))

  -- the first frame without just one flag, as `position` finds it among the m from j on
  abbrev pub misses : ℕ → Bool
  misses j = not (just_one (flags_from values size w (base + j * size)))

  miss_from : (m j : ℕ) → j + position_or_len misses (range_with_len j m) ≡ first_bad values size w m (base + j * size) j
  unfolding first_bad
  miss_from zero j = omega arith
  miss_from (suc m) j = go (just_one (flags_from values size w (base + j * size))) (miss_from m (j + 1) ∙ ap₂ (first_bad values size w m) (let z : base + (j + 1) * size ≡ base + j * size + size = omega arith in z) (add-one j))
    where
      go : (t : Bool) → j + 1 + position_or_len misses (range_with_len (j + 1) m) ≡ first_bad values size w m (base + j * size + size) (suc j)
          → j + cond (not (not t)) (1 + position_or_len misses (range_with_len (j + 1) m)) 0 ≡ cond t (first_bad values size w m (base + j * size + size) (suc j)) j
      go true next = omega (arith, next)
      go false next = omega arith

  pub first_miss : below (length (range_with_len 0 k)) (position_or_len misses (range_with_len 0 k)) ≡ below k (first_bad values size w k base 0)
  first_miss = ap₂ below (length-range_with_len 0 k) (let h = miss_from k 0 ∙ ap (λ (n : ℕ). first_bad values size w k n 0) (let z : base + 0 * size ≡ base = omega arith in z) in omega (arith, h))

  -- the choices that are written
  pub record Writing (at j : ℕ) (choices : List ℕ) : Type 0 where
    pub next : Next at j
    pub long : length choices ≡ k
    pub same : take j choices ++ chosen_list values size w (k - j) at ≡ chosen_list values size w k base

  pub writing_start : (choices : List ℕ) → base + k * size ≤ length values → length choices ≡ k → Writing base 0 choices
  writing_start choices l e = record {
    next = next_start l;
    long = e;
    same = ap (λ (n : ℕ). chosen_list values size w n base) none_passed;
  }

  pub writing_on : (at j : ℕ) (choices : List ℕ) (o : Option ℕ) (v : ℕ) → j < k → Writing at j choices → w ≤ size
      → o ≡ below (length (take (at + w - at) (drop at values))) (chosen_in (take (at + w - at) (drop at values))) → v ≡ unwrap_or o w → Writing (at + size) (j + 1) (set choices j v)
  unfolding chosen_list
  writing_on at j choices o v l g f q e =
      let n : j < length choices = omega (arith, g.long) in
      let rest = chosen_list values size w (k - (j + 1)) (at + size) in
      let c : v ≡ chosen_in (cut at j l) = e ∙ ap (unwrap_or o) (sym (flags_long at j l g.next f)) ∙ or_past _ _ o q (chosen_small (cut at j l)) in
      record {
        next = next_on at j l g.next;
        long = length-set choices j v ∙ g.long;
        same =
            ap (λ (i : ℕ). take i (set choices j v) ++ rest) (add-one j)
            ∙ ap (λ (xs : List ℕ). xs ++ rest) (take-suc-set choices j v n)
            ∙ append_assoc (take j choices) (v ∷ []) rest
            ∙ ap (λ (c : ℕ). take j choices ++ (c ∷ rest)) (c ∙ ap chosen_in (cut_is at j l))
            ∙ ap (λ (i : ℕ). take j choices ++ chosen_list values size w i at) (sym (left at j l))
            ∙ g.same;
      }

  pub writing_end : (at j : ℕ) (choices : List ℕ) → k ≤ j → Writing at j choices → choices ≡ chosen_list values size w k base
  unfolding chosen_list
  writing_end at j choices l g =
      let none : k - j ≡ 0 = omega arith in
      sym (take_all choices j (omega (arith, g.long))) ∙ sym (append-nil (take j choices)) ∙ ap (λ (i : ℕ). take j choices ++ chosen_list values size w i at) (sym none) ∙ g.same
