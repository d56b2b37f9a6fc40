-- Loops that put clauses over consecutive variables. Assumes nothing.
use Rattle.std.proofs.Common.{◌≡◌, ℕ, zero, suc, ◌+◌, ◌-◌, ◌/◌, ◌%◌, ◌<◌, ◌≤◌, cond, List, [], ◌∷◌, ◌++◌, length, get_or, take, drop, set, ℤ, pos, sym, refl, ap, ◌∙◌, subst, ap₂, ⊎_elim, append_assoc, eq-or-lt_of_le, zero-add, add-one, arith, length-set, get_or-set_other, get_or-set_same, take-suc-set, take-add}
use Rattle.design.specs.Limits.{max_bits, pair_bits}
use Rattle.design.specs.Tree.{truth}
use Rattle.clauses.specs.Literal.{Literal, positive, negate, Clause}
use Rattle.clauses.specs.Words.{word_of, clause_words, words}
use Rattle.clauses.specs.Circuit.{Bits}
use Rattle.clauses.specs.Formula.{variables_from, units_of, against, pairs, ties}
use Rattle.clauses.specs.Writing.{from_code, from_codes, variable_limit, Puts}
use Rattle.clauses.proofs.EmitWords.{puts_then, puts_same, puts_none, append-nil, words_append}
use Rattle.clauses.proofs.EmitLists.{codes_append, codes_take, codes_drop, drop_one, drop_none, take_none}

-- where what is left is put from here, the whole is put from the start
pub record PutsLeft (whole xs₀ : List ℤ) (cur₀ : ℕ) (rest xs : List ℤ) (cur : ℕ) : Type 0 where
  pub then : (ys : List ℤ) (c : ℕ) → Puts rest xs ys cur c → Puts whole xs₀ ys cur₀ c

pub puts_start : (ws xs : List ℤ) (cur : ℕ) → PutsLeft ws xs cur ws xs cur
puts_start ws xs cur = record { then = λ ys c p. p }

module _ {ws xs₀ : List ℤ} {cur₀ : ℕ} where
  pub puts_on : {rest xs : List ℤ} {cur : ℕ} (vs us : List ℤ) → rest ≡ vs ++ us → PutsLeft ws xs₀ cur₀ rest xs cur → {ys : List ℤ} {c : ℕ} → Puts vs xs ys cur c → PutsLeft ws xs₀ cur₀ us ys c
  puts_on vs us e l p = record { then = λ zs c q. l.then zs c (puts_same (sym e) (puts_then p q)) }

  pub puts_end : {rest xs : List ℤ} {cur : ℕ} → rest ≡ [] → PutsLeft ws xs₀ cur₀ rest xs cur → Puts ws xs₀ xs cur₀ cur
  puts_end {rest} {xs} {cur} e l = l.then xs cur (puts_same (sym e) (puts_none xs cur))

-- the variables that are left
pub one_more : (v k : ℕ) → 0 < k → variables_from v k ≡ positive v ∷ variables_from (v + 1) (k - 1)
one_more v zero h = absurd (omega arith)
one_more v (suc k) h = ap₂ (λ (a b : ℕ). positive v ∷ variables_from a b) (sym (add-one v)) (let q : k ≡ suc k - 1 = omega arith in q)

pub no_more : (v k : ℕ) → k ≤ 0 → variables_from v k ≡ []
no_more v zero h = refl
no_more v (suc k) h = absurd (omega arith)

-- a loop over n variables from v on: at i, variable x is next
pub record Along (v n x i : ℕ) : Type 0 where
  pub within : i ≤ n
  pub here : v + n ≤ variable_limit → x ≡ v + i

pub along_start : (v n : ℕ) → Along v n v 0
along_start v n = record { within = omega arith; here = λ h. omega arith }

pub along_on : {v n x i : ℕ} (y : ℕ) → i < n → Along v n x i → (x < variable_limit → y ≡ x + 1) → Along v n y (i + 1)
along_on y l a e = record { within = omega arith; here = λ h. let q = a.here h in let r = e (omega arith) in omega arith }

pub along_less : {v n x i : ℕ} → i < n → v + n ≤ variable_limit → Along v n x i → x < variable_limit
along_less l h a = let q = a.here h in omega arith

-- the literals of variables
pub record Listing (v n : ℕ) (out : List ℕ) (x i : ℕ) : Type 0 where
  pub along : Along v n x i
  pub size : length out ≡ max_bits
  pub same : v + n ≤ variable_limit → from_codes (take i out) ++ variables_from x (n - i) ≡ variables_from v n

pub listing_start : (v n : ℕ) (out : List ℕ) → length out ≡ max_bits → Listing v n out v 0
listing_start v n out e = record { along = along_start v n; size = e; same = λ h. ap₂ (λ (l : List ℕ) (k : ℕ). from_codes l ++ variables_from v k) (none out) (let q : n - 0 ≡ n = omega arith in q) }
  where
    none : (l : List ℕ) → take 0 l ≡ []
    none [] = refl
    none (x ∷ l) = refl

pub listing_on : {v n : ℕ} (out : List ℕ) {x i : ℕ} (c y : ℕ) → n ≤ max_bits → i < n → Listing v n out x i → (x < variable_limit → from_code c ≡ positive x) → (x < variable_limit → y ≡ x + 1) → Listing v n (set out i c) y (i + 1)
listing_on {v} {n} out {x} {i} c y few l k ec ey = record {
  along = along_on y l k.along ey;
  size = length-set out i c ∙ k.size;
  same = λ h.
      let b = along_less l h k.along in
      let tk : take (i + 1) (set out i c) ≡ take i out ++ (c ∷ []) = ap (λ (j : ℕ). take j (set out i c)) (add-one i) ∙ take-suc-set out i c (omega (arith, k.size)) in
      ap (λ (t : List ℕ). from_codes t ++ variables_from y (n - (i + 1))) tk ∙ ap (λ (t : Bits). t ++ variables_from y (n - (i + 1))) (codes_append (take i out) (c ∷ []))
      ∙ append_assoc (from_codes (take i out)) (from_code c ∷ []) (variables_from y (n - (i + 1)))
      ∙ ap₂ (λ (a : Literal) (j : ℕ). from_codes (take i out) ++ (a ∷ variables_from j (n - (i + 1)))) (ec b) (ey b)
      ∙ ap (λ (j : ℕ). from_codes (take i out) ++ (positive x ∷ variables_from (x + 1) j)) (let q : n - (i + 1) ≡ n - i - 1 = omega arith in q)
      ∙ ap (λ (t : Bits). from_codes (take i out) ++ t) (sym (one_more x (n - i) (omega arith))) ∙ k.same h;
}

pub listing_end : {v n : ℕ} (out : List ℕ) {x i : ℕ} → n ≤ i → Listing v n out x i → v + n ≤ variable_limit → take n (from_codes out) ≡ variables_from v n
listing_end {v} {n} out {x} {i} l k h =
    let q : i ≡ n = omega (arith, k.along.within) in
    sym (codes_take n out) ∙ ap (λ (j : ℕ). from_codes (take j out)) (sym q) ∙ sym (append-nil (from_codes (take i out))) ∙ ap (λ (t : Bits). from_codes (take i out) ++ t) (sym (no_more x (n - i) (omega arith))) ∙ k.same h

-- the literals of two runs of variables, one behind the other
pub record TwoRuns (v w n : ℕ) (out : List ℕ) (x y i : ℕ) : Type 0 where
  pub first : Along v n x i
  pub second : Along w n y i
  pub size : length out ≡ pair_bits
  pub low : v + n ≤ variable_limit → (k : ℕ) → k < i → from_code (get_or out k 0) ≡ positive (v + k)
  pub high : w + n ≤ variable_limit → (k : ℕ) → k < i → from_code (get_or out (n + k) 0) ≡ positive (w + k)

pub two_runs : (v w n : ℕ) (out : List ℕ) → length out ≡ pair_bits → TwoRuns v w n out v w 0
two_runs v w n out e = record { first = along_start v n; second = along_start w n; size = e; low = λ h k l. absurd (omega arith); high = λ h k l. absurd (omega arith) }

-- one of the elements that were there, or the new one
set_more : (out : List ℕ) (o v i c : ℕ) → o + i < length out → ((k : ℕ) → k < i → from_code (get_or out (o + k) 0) ≡ positive (v + k)) → from_code c ≡ positive (v + i)
    → (k : ℕ) → k < i + 1 → from_code (get_or (set out (o + i) c) (o + k) 0) ≡ positive (v + k)
set_more out o v i c room f e k l =
    ⊎_elim
    (λ (q : k ≡ i). ap (λ (j : ℕ). from_code (get_or (set out (o + i) c) (o + j) 0)) q ∙ ap from_code (get_or-set_same out (o + i) c 0 room) ∙ e ∙ ap (λ (j : ℕ). positive (v + j)) (sym q))
    (λ (q : k < i). ap from_code (get_or-set_other out (o + i) (o + k) c 0 (λ z. omega arith)) ∙ f k q)
    (eq-or-lt_of_le (let z : k ≤ i = omega arith in z))

pub two_runs_on : {v w n : ℕ} (out : List ℕ) {x y i : ℕ} (a b x' y' : ℕ) → n ≤ max_bits → i < n → TwoRuns v w n out x y i → (x < variable_limit → from_code a ≡ positive x) → (y < variable_limit → from_code b ≡ positive y)
    → (x < variable_limit → x' ≡ x + 1) → (y < variable_limit → y' ≡ y + 1) → TwoRuns v w n (set (set out i a) (n + i) b) x' y' (i + 1)
two_runs_on {v} {w} {n} out {x} {y} {i} a b x' y' few l k ea eb ex ey =
    let z = set out i a in
    let long : length z ≡ pair_bits = length-set out i a ∙ k.size in
    record {
      first = along_on x' l k.first ex;
      second = along_on y' l k.second ey;
      size = length-set z (n + i) b ∙ long;
      low = λ h j m.
          let one = set_more out 0 v i a (omega (arith, k.size)) (λ j r. ap (λ (t : ℕ). from_code (get_or out t 0)) (zero-add j) ∙ k.low h j r) (ea (along_less l h k.first) ∙ ap positive (k.first.here h)) j m in
          ap from_code (get_or-set_other z (n + i) j b 0 (λ e. omega arith)) ∙ ap₂ (λ (s t : ℕ). from_code (get_or (set out s a) t 0)) (sym (zero-add i)) (sym (zero-add j)) ∙ one;
      high = λ h j m. set_more z n w i b (omega arith) (λ j r. ap from_code (get_or-set_other out i (n + j) a 0 (λ e. omega arith)) ∙ k.high h j r) (eb (along_less l h k.second) ∙ ap positive (k.second.here h)) j m;
    }

-- so many literals from a position on
literals_are : (out : List ℕ) (o v n : ℕ) → o + n ≤ length out → ((k : ℕ) → k < n → from_code (get_or out (o + k) 0) ≡ positive (v + k)) → take n (drop o (from_codes out)) ≡ variables_from v n
literals_are out o v zero room f = take_none (drop o (from_codes out))
literals_are out o v (suc n) room f =
    let rest = literals_are out (o + 1) (suc v) n (omega arith) (λ k l. ap (λ (j : ℕ). from_code (get_or out j 0)) (let q : o + 1 + k ≡ o + suc k = omega arith in q) ∙ f (suc k) (omega arith) ∙ ap positive (let q : v + suc k ≡ suc v + k = omega arith in q)) in
    ap (take (suc n)) (sym (codes_drop o out) ∙ ap from_codes (drop_one out o (omega arith)))
    ∙ ap₂ (λ (a : Literal) (t : Bits). a ∷ t) (ap (λ (j : ℕ). from_code (get_or out j 0)) (let q : o ≡ o + 0 = omega arith in q) ∙ f 0 (omega arith) ∙ ap positive (let q : v + 0 ≡ v = omega arith in q))
    (ap (take n) (codes_drop (o + 1) out) ∙ rest)

pub two_runs_end : {v w n : ℕ} (out : List ℕ) {x y i : ℕ} → n ≤ max_bits → n ≤ i → TwoRuns v w n out x y i → v + n ≤ variable_limit → w + n ≤ variable_limit → take (n + n) (from_codes out) ≡ variables_from v n ++ variables_from w n
two_runs_end {v} {w} {n} out few l k h g =
    take-add n n (from_codes out)
    ∙ ap₂ ◌++◌
    (ap (take n) (sym (drop_none (from_codes out))) ∙ literals_are out 0 v n (omega (arith, k.size)) (λ j r. ap (λ (t : ℕ). from_code (get_or out t 0)) (zero-add j) ∙ k.low h j (omega arith)))
    (literals_are out n w n (omega (arith, k.size)) (λ j r. k.high g j (omega arith)))

-- A loop that puts the words W of what is left of n variables. `step` says what one variable puts.
pub record Putting (W : Bits → List ℤ) (v n : ℕ) (xs₀ : List ℤ) (cur₀ : ℕ) (xs : List ℤ) (cur x i : ℕ) : Type 0 where
  pub along : Along v n x i
  pub left : v + n ≤ variable_limit → PutsLeft (W (variables_from v n)) xs₀ cur₀ (W (variables_from x (n - i))) xs cur

module _ (W : Bits → List ℤ) (v n : ℕ) (xs₀ : List ℤ) (cur₀ : ℕ) where
  pub putting_start : Putting W v n xs₀ cur₀ xs₀ cur₀ v 0
  putting_start = record { along = along_start v n; left = λ h. subst (λ (k : ℕ). PutsLeft (W (variables_from v n)) xs₀ cur₀ (W (variables_from v k)) xs₀ cur₀) (let q : n ≡ n - 0 = omega arith in q) (puts_start (W (variables_from v n)) xs₀ cur₀) }

  pub putting_on : {xs : List ℤ} {cur x i : ℕ} → i < n → Putting W v n xs₀ cur₀ xs cur x i → (y : ℕ) → (x < variable_limit → y ≡ x + 1)
      → {ys : List ℤ} {c : ℕ} (one : List ℤ) → W (positive x ∷ variables_from (x + 1) (n - i - 1)) ≡ one ++ W (variables_from (x + 1) (n - i - 1)) → (x < variable_limit → v + n ≤ variable_limit → Puts one xs ys cur c) → Putting W v n xs₀ cur₀ ys c y (i + 1)
  putting_on {xs} {cur} {x} {i} l k y ey {ys} {c} one e p = record {
    along = along_on y l k.along ey;
    left = λ h.
        let b = along_less l h k.along in
        let z = puts_on one (W (variables_from (x + 1) (n - i - 1))) (ap W (one_more x (n - i) (omega arith)) ∙ e) (k.left h) (p b h) in
        subst (λ (t : Bits). PutsLeft (W (variables_from v n)) xs₀ cur₀ (W t) ys c) (ap₂ variables_from (sym (ey b)) (let q : n - i - 1 ≡ n - (i + 1) = omega arith in q)) z;
  }

  pub putting_left : {xs : List ℤ} {cur x i : ℕ} → n ≤ i → Putting W v n xs₀ cur₀ xs cur x i → v + n ≤ variable_limit → PutsLeft (W (variables_from v n)) xs₀ cur₀ (W []) xs cur
  putting_left {xs} {cur} {x} {i} l k h = subst (λ (t : Bits). PutsLeft (W (variables_from v n)) xs₀ cur₀ (W t) xs cur) (no_more x (n - i) (omega arith)) (k.left h)

  pub putting_end : {xs : List ℤ} {cur x i : ℕ} → W [] ≡ [] → n ≤ i → Putting W v n xs₀ cur₀ xs cur x i → v + n ≤ variable_limit → Puts (W (variables_from v n)) xs₀ xs cur₀ cur
  putting_end e l k h = puts_end e (putting_left l k h)

-- then the clause's end
pub any_end : {v n : ℕ} {xs₀ : List ℤ} {cur₀ : ℕ} {xs ys : List ℤ} {cur c x i : ℕ} → n ≤ i → Putting clause_words v n xs₀ cur₀ xs cur x i → Puts (pos 0 ∷ []) xs ys cur c → v + n ≤ variable_limit → Puts (clause_words (variables_from v n)) xs₀ ys cur₀ c
any_end {v} {n} {xs₀} {cur₀} l k p h = (putting_left clause_words v n xs₀ cur₀ l k h).then _ _ p

pub literal_puts : {x : ℕ} (c : ℕ) {xs ys : List ℤ} {cur d : ℕ} → (x < variable_limit → from_code c ≡ positive x) → x < variable_limit → Puts (word_of (from_code c) ∷ []) xs ys cur d → Puts (word_of (positive x) ∷ []) xs ys cur d
literal_puts c e h p = puts_same (ap (λ (l : Literal). word_of l ∷ []) (e h)) p

pub clause_puts : {xs ys : List ℤ} {cur c : ℕ} (a b : Clause) → a ≡ b → Puts (clause_words a) xs ys cur c → Puts (clause_words b) xs ys cur c
clause_puts a b e p = puts_same (ap clause_words e) p

-- two lists of variables side by side
pub record Tying (f : Literal) (r b n : ℕ) (xs₀ : List ℤ) (cur₀ : ℕ) (xs : List ℤ) (cur x y i : ℕ) : Type 0 where
  pub results : Along r n x i
  pub bits : Along b n y i
  pub left : r + n ≤ variable_limit → b + n ≤ variable_limit → PutsLeft (words (ties f (variables_from r n) (variables_from b n))) xs₀ cur₀ (words (ties f (variables_from x (n - i)) (variables_from y (n - i)))) xs cur

module _ (f : Literal) (r b n : ℕ) (xs₀ : List ℤ) (cur₀ : ℕ) where
  pub tying_start : Tying f r b n xs₀ cur₀ xs₀ cur₀ r b 0
  tying_start = record {
    results = along_start r n;
    bits = along_start b n;
    left = λ h g. subst (λ (k : ℕ). PutsLeft (words (ties f (variables_from r n) (variables_from b n))) xs₀ cur₀ (words (ties f (variables_from r k) (variables_from b k))) xs₀ cur₀) (let q : n ≡ n - 0 = omega arith in q) (puts_start _ xs₀ cur₀);
  }

  pub tying_on : {xs : List ℤ} {cur x y i : ℕ} → i < n → Tying f r b n xs₀ cur₀ xs cur x y i → (nf p np q nq : Literal) (x' y' : ℕ) → nf ≡ negate f → (x < variable_limit → p ≡ positive x) → np ≡ negate p → (y < variable_limit → q ≡ positive y) → nq ≡ negate q
      → (x < variable_limit → x' ≡ x + 1) → (y < variable_limit → y' ≡ y + 1) → {ys zs : List ℤ} {c d : ℕ} → Puts (clause_words (nf ∷ np ∷ q ∷ [])) xs ys cur c → Puts (clause_words (nf ∷ p ∷ nq ∷ [])) ys zs c d → Tying f r b n xs₀ cur₀ zs d x' y' (i + 1)
  tying_on {xs} {cur} {x} {y} {i} l k nf p np q nq x' y' ef ep enp eq enq ex ey {ys} {zs} {c} {d} w u = record {
    results = along_on x' l k.results ex;
    bits = along_on y' l k.bits ey;
    left = λ h g.
        let bx = along_less l h k.results in
        let by = along_less l g k.bits in
        let j = n - i - 1 in
        let m : n - i - 1 ≡ n - (i + 1) = omega arith in
        let P = positive x in
        let Q = positive y in
        let rest = words (ties f (variables_from (x + 1) j) (variables_from (y + 1) j)) in
        let one = clause_words (negate f ∷ negate P ∷ Q ∷ []) ++ clause_words (negate f ∷ P ∷ negate Q ∷ []) in
        let e : words (ties f (variables_from x (n - i)) (variables_from y (n - i))) ≡ one ++ rest = ap₂ (λ (s t : Bits). words (ties f s t)) (one_more x (n - i) (omega arith)) (one_more y (n - i) (omega arith)) in
        let w' = clause_puts _ (negate f ∷ negate P ∷ Q ∷ []) (ap₂ (λ (s t : Literal). nf ∷ s ∷ t ∷ []) (enp ∙ ap negate (ep bx)) (eq by) ∙ ap (λ (s : Literal). s ∷ negate P ∷ Q ∷ []) ef) w in
        let u' = clause_puts _ (negate f ∷ P ∷ negate Q ∷ []) (ap₂ (λ (s t : Literal). nf ∷ s ∷ t ∷ []) (ep bx) (enq ∙ ap negate (eq by)) ∙ ap (λ (s : Literal). s ∷ P ∷ negate Q ∷ []) ef) u in
        let z = puts_on one rest e (k.left h g) (puts_then w' u') in
        subst (λ (t : ℕ). PutsLeft (words (ties f (variables_from r n) (variables_from b n))) xs₀ cur₀ (words (ties f (variables_from x' t) (variables_from y' t))) zs d) m
        (subst (λ (t : List ℤ). PutsLeft (words (ties f (variables_from r n) (variables_from b n))) xs₀ cur₀ t zs d) (ap₂ (λ (s t : ℕ). words (ties f (variables_from s j) (variables_from t j))) (sym (ex bx)) (sym (ey by))) z);
  }

  pub tying_end : {xs : List ℤ} {cur x y i : ℕ} → n ≤ i → Tying f r b n xs₀ cur₀ xs cur x y i → r + n ≤ variable_limit → b + n ≤ variable_limit → Puts (words (ties f (variables_from r n) (variables_from b n))) xs₀ xs cur₀ cur
  tying_end {x = x} {y = y} {i = i} l k h g = puts_end (ap (λ (s : Bits). words (ties f s (variables_from y (n - i)))) (no_more x (n - i) (omega arith))) (k.left h g)

-- units of a value's bits
pub record Giving (v n value : ℕ) (xs₀ : List ℤ) (cur₀ : ℕ) (xs : List ℤ) (cur x y i : ℕ) : Type 0 where
  pub along : Along v n x i
  pub left : v + n ≤ variable_limit → PutsLeft (words (units_of (variables_from v n) value)) xs₀ cur₀ (words (units_of (variables_from x (n - i)) y)) xs cur

module _ (v n value : ℕ) (xs₀ : List ℤ) (cur₀ : ℕ) where
  pub giving_start : Giving v n value xs₀ cur₀ xs₀ cur₀ v value 0
  giving_start = record { along = along_start v n; left = λ h. subst (λ (k : ℕ). PutsLeft (words (units_of (variables_from v n) value)) xs₀ cur₀ (words (units_of (variables_from v k) value)) xs₀ cur₀) (let q : n ≡ n - 0 = omega arith in q) (puts_start _ xs₀ cur₀) }

  pub giving_on : {xs : List ℤ} {cur x y i : ℕ} → i < n → Giving v n value xs₀ cur₀ xs cur x y i → (c : Literal) (x' : ℕ) → (x + 1 ≤ variable_limit → c ≡ cond (truth (y % 2)) (positive x) (negate (positive x))) → (x < variable_limit → x' ≡ x + 1)
      → {ys : List ℤ} {d : ℕ} → Puts (clause_words (c ∷ [])) xs ys cur d → Giving v n value xs₀ cur₀ ys d x' (y / 2) (i + 1)
  giving_on {xs} {cur} {x} {y} {i} l k c x' ec ex {ys} {d} p = record {
    along = along_on x' l k.along ex;
    left = λ h.
        let bx = along_less l h k.along in
        let j = n - i - 1 in
        let m : n - i - 1 ≡ n - (i + 1) = omega arith in
        let u = cond (truth (y % 2)) (positive x) (negate (positive x)) in
        let z = puts_on (clause_words (u ∷ [])) (words (units_of (variables_from (x + 1) j) (y / 2))) (ap (λ (s : Bits). words (units_of s y)) (one_more x (n - i) (omega arith))) (k.left h) (clause_puts _ (u ∷ []) (ap (λ (s : Literal). s ∷ []) (ec (omega arith))) p) in
        subst (λ (t : Bits). PutsLeft (words (units_of (variables_from v n) value)) xs₀ cur₀ (words (units_of t (y / 2))) ys d) (ap₂ variables_from (sym (ex bx)) m) z;
  }

  pub giving_end : {xs : List ℤ} {cur x y i : ℕ} → n ≤ i → Giving v n value xs₀ cur₀ xs cur x y i → v + n ≤ variable_limit → Puts (words (units_of (variables_from v n) value)) xs₀ xs cur₀ cur
  giving_end {x = x} {y = y} {i = i} l k h = puts_end (ap (λ (s : Bits). words (units_of s y)) (no_more x (n - i) (omega arith))) (k.left h)

-- the pairs: what is left is the pairs of the variables that are left
pub record Pairing (v n : ℕ) (xs₀ : List ℤ) (cur₀ : ℕ) (xs : List ℤ) (cur x left : ℕ) : Type 0 where
  pub within : left ≤ n
  pub here : v + n ≤ variable_limit → x + left ≡ v + n
  pub rest : v + n ≤ variable_limit → PutsLeft (words (pairs (variables_from v n))) xs₀ cur₀ (words (pairs (variables_from x left))) xs cur

module _ (v n : ℕ) (xs₀ : List ℤ) (cur₀ : ℕ) where
  pub pairing_start : Pairing v n xs₀ cur₀ xs₀ cur₀ v n
  pairing_start = record { within = omega arith; here = λ h. refl; rest = λ h. puts_start _ xs₀ cur₀ }

  pub pairing_on : {xs : List ℤ} {cur x left : ℕ} → 0 < left → Pairing v n xs₀ cur₀ xs cur x left → (y : ℕ) → (x < variable_limit → y ≡ x + 1)
      → {ys : List ℤ} {c : ℕ} → (x + 1 ≤ variable_limit → y + (left - 1) ≤ variable_limit → Puts (words (against (positive x) (variables_from y (left - 1)))) xs ys cur c) → Pairing v n xs₀ cur₀ ys c y (left - 1)
  pairing_on {xs} {cur} {x} {left} l k y ey {ys} {c} p = record {
    within = omega (arith, k.within);
    here = λ h. let q = k.here h in let r = ey (omega arith) in omega arith;
    rest = λ h.
        let q = k.here h in
        let r = ey (omega arith) in
        let e : words (pairs (variables_from x left)) ≡ words (against (positive x) (variables_from y (left - 1))) ++ words (pairs (variables_from y (left - 1))) =
        ap (λ (s : Bits). words (pairs s)) (one_more x left l ∙ ap (λ (j : ℕ). positive x ∷ variables_from j (left - 1)) (sym r)) ∙ words_append (against (positive x) (variables_from y (left - 1))) (pairs (variables_from y (left - 1))) in
        puts_on (words (against (positive x) (variables_from y (left - 1)))) (words (pairs (variables_from y (left - 1)))) e (k.rest h) (p (omega arith) (omega arith));
  }

  pub pairing_end : {xs : List ℤ} {cur x left : ℕ} → left ≤ 0 → Pairing v n xs₀ cur₀ xs cur x left → v + n ≤ variable_limit → Puts (words (pairs (variables_from v n))) xs₀ xs cur₀ cur
  pairing_end {x = x} {left = left} l k h = puts_end (ap (λ (s : Bits). words (pairs s)) (no_more x left l)) (k.rest h)

pub bit_no : (v b : ℕ) (c p : Literal) → b ≡ 0 → c ≡ negate p → (v < variable_limit → p ≡ positive v) → v + 1 ≤ variable_limit → c ≡ cond (truth b) (positive v) (negate (positive v))
bit_no v b c p z e q h = e ∙ ap negate (q (omega arith)) ∙ ap (λ (k : ℕ). cond (truth k) (positive v) (negate (positive v))) (sym z)

pub bit_yes : (v b : ℕ) (p : Literal) → (b ≡ 0 → ⊥) → (v < variable_limit → p ≡ positive v) → v + 1 ≤ variable_limit → p ≡ cond (truth b) (positive v) (negate (positive v))
bit_yes v zero p z q h = absurd (z refl)
bit_yes v (suc b) p z q h = q (omega arith)
