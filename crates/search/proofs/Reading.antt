-- How a word list is read: clause by clause, word by word.
use mathlib.Core.Path.{◌≡◌, refl, sym, ap, ◌∙◌}
use mathlib.Core.Bool.{Bool, true, false, not, ◌||◌, cond, true≢false}
use mathlib.Core.List.{List, [], ◌∷◌, ◌++◌, append_assoc}
use Prim.Native.Nat.{ℕ, zero, suc, ◌+◌, ◌<◌, ◌≤◌}
use native.Mathlib.Omega.{arith}
use native.Mathlib.Nat.{le_refl}
use native.Mathlib.Numerals.{add-one}
use native.Mathlib.Decide.{dec_lt}
use lib.IntN.{ℤ, pos, negsuc, nat_abs}
use lib.ListN.{length, get_or, drop, drop_of_length-le}
use lib.Seq.{drop-cons}
use Rattle.clauses.specs.Literal.{Literal, positive, negative, variable_of, Clause}
use Rattle.clauses.specs.Meaning.{Within}
use Rattle.clauses.specs.Words.{is_end, literal_of_word, with_literal, clauses_of}
use Rattle.search.specs.Memory.{AllIn, closed_from, closed, first_clause, has_end, rest_words, Starts}

pub clauses_split : (ws : List ℤ) → has_end ws ≡ true → clauses_of ws ≡ first_clause ws ∷ clauses_of (rest_words ws)
clauses_split [] e = absurd (true≢false (sym e))
clauses_split (w ∷ ws) e = go (is_end w) e (clauses_split ws)
  where
    go : (b : Bool) → b || has_end ws ≡ true → (has_end ws ≡ true → clauses_of ws ≡ first_clause ws ∷ clauses_of (rest_words ws))
        → cond b ([] ∷ clauses_of ws) (with_literal (literal_of_word w) (clauses_of ws)) ≡ cond b [] (literal_of_word w ∷ first_clause ws) ∷ clauses_of (cond b ws (rest_words ws))
    go true e r = refl
    go false e r = ap (with_literal (literal_of_word w)) (r e)

closed_ends : (b : Bool) (w : ℤ) (ws : List ℤ) → closed_from b (w ∷ ws) ≡ true → has_end (w ∷ ws) ≡ true
closed_ends b w [] e = go (is_end w) e
  where
    go : (b : Bool) → not (not b) ≡ true → b || false ≡ true
    go true e = refl
    go false e = e
closed_ends b w (x ∷ ws) e = go (is_end w) (closed_ends (not (is_end w)) x ws e)
  where
    go : (b : Bool) → has_end (x ∷ ws) ≡ true → b || has_end (x ∷ ws) ≡ true
    go true h = refl
    go false h = h

closed_rest : (b : Bool) (w : ℤ) (ws : List ℤ) → closed_from b (w ∷ ws) ≡ true → closed_from false (rest_words (w ∷ ws)) ≡ true
closed_rest b w [] e = go (is_end w) e
  where
    go : (b : Bool) → closed_from (not b) [] ≡ true → closed_from false (cond b [] []) ≡ true
    go true h = refl
    go false h = absurd (true≢false (sym h))
closed_rest b w (x ∷ ws) e = go (is_end w) e (closed_rest (not (is_end w)) x ws e)
  where
    go : (b : Bool) → closed_from (not b) (x ∷ ws) ≡ true → closed_from false (rest_words (x ∷ ws)) ≡ true → closed_from false (cond b (x ∷ ws) (rest_words (x ∷ ws))) ≡ true
    go true h r = h
    go false h r = r

-- inside the clause that starts at i₀, at i
pub inside_low : (ws : List ℤ) (i : ℕ) → has_end (drop i ws) ≡ true → i < length ws
inside_low ws i e = go (dec_lt i (length ws))
  where
    go : Dec (i < length ws) → i < length ws
    go (yes h) = h
    go (no h) =
        let p : has_end [] ≡ true = rw (drop_of_length-le ws {i = i} (omega arith)) at e in
        absurd (true≢false (sym p))

pub inside_next : (ws : List ℤ) (i : ℕ) → has_end (drop i ws) ≡ true → is_end (get_or ws i (pos 0)) ≡ false
    → (has_end (drop (suc i) ws) ≡ true) × (rest_words (drop (suc i) ws) ≡ rest_words (drop i ws)) × (first_clause (drop i ws) ≡ literal_of_word (get_or ws i (pos 0)) ∷ first_clause (drop (suc i) ws))
inside_next ws i e g =
    let w = get_or ws i (pos 0) in
    let q : drop i ws ≡ w ∷ drop (suc i) ws = drop-cons ws i (pos 0) (inside_low ws i e) in (
      (let k : has_end (drop (suc i) ws) ≡ true = rw g at (rw q at e) in k),
      (let k : rest_words (drop (suc i) ws) ≡ cond (is_end w) (drop (suc i) ws) (rest_words (drop (suc i) ws)) = rw g in k) ∙ ap rest_words (sym q),
      ap first_clause q ∙ (let k : cond (is_end w) [] (literal_of_word w ∷ first_clause (drop (suc i) ws)) ≡ literal_of_word w ∷ first_clause (drop (suc i) ws) = rw g in k),
    )

pub inside_end : (ws : List ℤ) (i : ℕ) → has_end (drop i ws) ≡ true → is_end (get_or ws i (pos 0)) ≡ true → (drop (suc i) ws ≡ rest_words (drop i ws)) × (first_clause (drop i ws) ≡ [])
inside_end ws i e g =
    let w = get_or ws i (pos 0) in
    let q : drop i ws ≡ w ∷ drop (suc i) ws = drop-cons ws i (pos 0) (inside_low ws i e) in (
      (let k : drop (suc i) ws ≡ cond (is_end w) (drop (suc i) ws) (rest_words (drop (suc i) ws)) = rw g in k) ∙ ap rest_words (sym q),
      ap first_clause q ∙ (let k : cond (is_end w) [] (literal_of_word w ∷ first_clause (drop (suc i) ws)) ≡ [] = rw g in k),
    )

-- the walk to a clause's end
pub record Passing (ws : List ℤ) (from i : ℕ) : Type 0 where
  pub since : from ≤ i
  pub ends : has_end (drop i ws) ≡ true
  pub rest : rest_words (drop i ws) ≡ rest_words (drop from ws)

pub passing_start : (ws : List ℤ) (from : ℕ) → has_end (drop from ws) ≡ true → Passing ws from from
passing_start ws from e = record { since = le_refl from; ends = e; rest = refl }

pub passing_next_lem : (ws : List ℤ) (from i : ℕ) → Passing ws from i → is_end (get_or ws i (pos 0)) ≡ false → Passing ws from (i + 1)
passing_next_lem ws from i p g =
    let k = inside_next ws i p.ends g in
    rw (add-one i) (record { since = omega (arith, p.since); ends = k.0; rest = k.1 ∙ p.rest })

-- where clauses start
pub starts_zero : (ws : List ℤ) → closed ws ≡ true → Starts ws 0
starts_zero ws c = record { low = omega arith; before = []; split = refl; closes = c }

pub record Clause₁ (ws : List ℤ) (i : ℕ) : Type 0 where
  pub ends : has_end (drop i ws) ≡ true
  pub split : clauses_of (drop i ws) ≡ first_clause (drop i ws) ∷ clauses_of (rest_words (drop i ws))
  pub closes : closed (rest_words (drop i ws)) ≡ true

pub a_clause : (ws : List ℤ) (i : ℕ) → closed (drop i ws) ≡ true → i < length ws → Clause₁ ws i
a_clause ws i c l =
    let q : drop i ws ≡ get_or ws i (pos 0) ∷ drop (suc i) ws = drop-cons ws i (pos 0) l in
    let e : has_end (drop i ws) ≡ true = rw q (closed_ends false (get_or ws i (pos 0)) (drop (suc i) ws) (rw q at c)) in
    record {
      ends = e;
      split = clauses_split (drop i ws) e;
      closes = rw q (closed_rest false (get_or ws i (pos 0)) (drop (suc i) ws) (rw q at c));
    }

pub starts_past : (ws : List ℤ) (i r : ℕ) → Starts ws i → i < length ws → r ≤ length ws → drop r ws ≡ rest_words (drop i ws) → Starts ws r
starts_past ws i r s l b e =
    let c = a_clause ws i s.closes l in
    record {
      low = b;
      before = s.before ++ (first_clause (drop i ws) ∷ []);
      split =
          s.split ∙ ap (λ (ds : List Clause). s.before ++ ds) (c.split ∙ ap (λ (x : List ℤ). first_clause (drop i ws) ∷ clauses_of x) (sym e))
          ∙ sym (append_assoc s.before (first_clause (drop i ws) ∷ []) (clauses_of (drop r ws)));
      closes = ap closed e ∙ c.closes;
    }

-- every literal is of a variable in 1..n
pub within_words : (n : ℕ) (ws : List ℤ) → AllIn n ws → Within n (clauses_of ws)
within_words n [] h = tt
within_words n (w ∷ ws) h = go w (h 0 (omega arith)) (clauses_of ws) (within_words n ws (λ i l. h (suc i) (omega arith)))
  where
    add : (l : Literal) → 0 < variable_of l → variable_of l ≤ n → (cs : List Clause) → Within n cs → Within n (with_literal l cs)
    add l a b [] k = tt
    add l a b (c ∷ cs) k = (((a, b), k.0), k.1)

    go : (w : ℤ) → nat_abs w ≤ n → (cs : List Clause) → Within n cs → Within n (cond (is_end w) ([] ∷ cs) (with_literal (literal_of_word w) cs))
    go (pos zero) l cs k = (tt, k)
    go (pos (suc v)) l cs k = add (positive (suc v)) (omega arith) l cs k
    go (negsuc v) l cs k = add (negative (suc v)) (omega arith) l cs k
