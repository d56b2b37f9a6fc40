-- The words before a place at which a clause starts, and one clause more.
use mathlib.Core.Path.{◌≡◌, refl, sym, ap, ◌∙◌}
use mathlib.Core.Bool.{Bool, true, false, not, ◌||◌, cond, true≢false}
use mathlib.Core.List.{List, [], ◌∷◌, ◌++◌}
use Prim.Native.Nat.{ℕ, suc, ◌+◌, ◌-◌, ◌<◌, ◌≤◌}
use native.Mathlib.Omega.{arith}
use lib.IntN.{ℤ, pos}
use lib.ListN.{length, take, drop, length-drop}
use lib.Seq.{drop-drop, take-add, get_or-take, length-take-le}
use Rattle.clauses.specs.Literal.{Literal, Clause}
use Rattle.clauses.specs.Words.{is_end, literal_of_word, with_literal, clauses_of}
use Rattle.search.specs.Memory.{AllIn, closed_from, closed, first_clause, has_end, rest_words, Past, ReadTo}
use Rattle.search.proofs.Reading.{clauses_split, Clause₁, a_clause}

closed_has : (xs : List ℤ) → closed_from true xs ≡ true → has_end xs ≡ true
closed_has [] e = e
closed_has (w ∷ xs) e = go (is_end w) e (closed_has xs)
  where
    go : (b : Bool) → closed_from (not b) xs ≡ true → (closed_from true xs ≡ true → has_end xs ≡ true) → b || has_end xs ≡ true
    go true e k = refl
    go false e k = k e

with_append : (l : Literal) (ds bs : List Clause) {c : Clause} {cs : List Clause} → ds ≡ c ∷ cs → with_literal l (ds ++ bs) ≡ with_literal l ds ++ bs
with_append l [] bs e = absurd (let z : ◌≡◌ {A = ℕ} 0 1 = cc in omega arith)
with_append l (d ∷ ds) bs e = refl

-- words that end their clauses, and words after them
pub clauses_append : (b : Bool) (xs ys : List ℤ) → closed_from b xs ≡ true → clauses_of (xs ++ ys) ≡ clauses_of xs ++ clauses_of ys
clauses_append b [] ys e = refl
clauses_append b (w ∷ xs) ys e = go (is_end w) e (clauses_append (not (is_end w)) xs ys e)
  where
    go : (t : Bool) → closed_from (not t) xs ≡ true → clauses_of (xs ++ ys) ≡ clauses_of xs ++ clauses_of ys
        → cond t ([] ∷ clauses_of (xs ++ ys)) (with_literal (literal_of_word w) (clauses_of (xs ++ ys))) ≡ cond t ([] ∷ clauses_of xs) (with_literal (literal_of_word w) (clauses_of xs)) ++ clauses_of ys
    go true e r = ap (λ (cs : List Clause). [] ∷ cs) r
    go false e r = ap (with_literal (literal_of_word w)) r ∙ with_append (literal_of_word w) (clauses_of xs) (clauses_of ys) (clauses_split xs (closed_has xs e))

closed_append : (b : Bool) (xs ys : List ℤ) → closed_from b xs ≡ true → closed ys ≡ true → closed_from b (xs ++ ys) ≡ true
closed_append true [] ys e h = absurd (true≢false (sym e))
closed_append false [] ys e h = h
closed_append b (w ∷ xs) ys e h = closed_append (not (is_end w)) xs ys e h

-- the first clause's words are one more than its literals
pub record FirstWords (ws : List ℤ) (k : ℕ) : Type 0 where
  pub clause : clauses_of (take k ws) ≡ first_clause ws ∷ []
  pub closes : (b : Bool) → closed_from b (take k ws) ≡ true
  pub rest : drop k ws ≡ rest_words ws
  pub fits : k ≤ length ws

first_words_lem : (ws : List ℤ) → has_end ws ≡ true → FirstWords ws (suc (length (first_clause ws)))
first_words_lem [] e = absurd (true≢false (sym e))
first_words_lem (w ∷ ws) e = go (is_end w) refl e (first_words_lem ws)
  where
    go : (b : Bool) → is_end w ≡ b → b || has_end ws ≡ true → (has_end ws ≡ true → FirstWords ws (suc (length (first_clause ws)))) → FirstWords (w ∷ ws) (suc (length (first_clause (w ∷ ws))))
    go true p e k = rw p (record { clause = rw p; closes = λ b. rw p; rest = rw p; fits = omega arith })
    go false p e k =
        let h = k e in
        let f = h.fits in
        rw p (record {
          clause = rw p (ap (with_literal (literal_of_word w)) h.clause);
          closes = λ b. h.closes (not (is_end w));
          rest = rw p h.rest;
          fits = omega arith;
        })

-- at a place where a clause starts
module _ (ds : List ℤ) (i : ℕ) (r : ReadTo ds i) (l : i < length ds) where
  pub clause_at : Clause₁ ds i
  clause_at = a_clause ds i r.after l

  words : FirstWords (drop i ds) (suc (length (first_clause (drop i ds))))
  words = first_words_lem (drop i ds) clause_at.ends

  -- the next one
  pub next_place : (j : ℕ) → Past ds i j → j ≡ i + suc (length (first_clause (drop i ds)))
  next_place j p =
      let k = suc (length (first_clause (drop i ds))) in
      let a : length ds - j ≡ length ds - (i + k) = sym (length-drop j ds) ∙ ap length (p.rest ∙ sym words.rest ∙ drop-drop k i ds) ∙ length-drop (i + k) ds in
      let b : length (drop i ds) ≡ length ds - i = length-drop i ds in
      let c = words.fits in
      let d = p.low in
      omega arith

  pub read_next : (j : ℕ) → Past ds i j → ReadTo ds j
  read_next j p =
      let k = suc (length (first_clause (drop i ds))) in
      let e = next_place j p in
      record {
        low = p.low;
        before = ap (λ (x : ℕ). closed (take x ds)) e ∙ ap closed (take-add i k ds) ∙ closed_append false (take i ds) (take k (drop i ds)) r.before (words.closes false);
        after = ap closed p.rest ∙ clause_at.closes;
      }

  -- the clauses before it are one more
  pub clauses_next : (j : ℕ) → Past ds i j → clauses_of (take j ds) ≡ clauses_of (take i ds) ++ (first_clause (drop i ds) ∷ [])
  clauses_next j p =
      let k = suc (length (first_clause (drop i ds))) in
      ap (λ (x : ℕ). clauses_of (take x ds)) (next_place j p) ∙ ap clauses_of (take-add i k ds) ∙ clauses_append false (take i ds) (take k (drop i ds)) r.before
      ∙ ap (λ (cs : List Clause). clauses_of (take i ds) ++ cs) words.clause

pub inside_take : (n i : ℕ) (ds : List ℤ) → i ≤ length ds → AllIn n ds → AllIn n (take i ds)
inside_take n i ds h a j l =
    let e = length-take-le i ds h in
    rw (get_or-take i ds j (pos 0) (omega arith)) (a j (omega arith))
