-- Laws of literals' codes and of words put into a buffer. Assumes nothing.
use Rattle.std.proofs.Common.{◌≡◌, ℕ, zero, suc, ◌+◌, ◌-◌, ◌*◌, ◌/◌, ◌%◌, ◌^◌, ◌<◌, ◌≤◌, Bool, true, false, cond, eqb, List, [], ◌∷◌, ◌++◌, length, drop, set, ℤ, pos, negsuc, ◌-ℤ◌, neg_ℤ, nat_abs, sym, refl, ap, ◌∙◌, subst, ap₂, append_assoc, arith, length-append, length-set, to_z-of_z, w32, SFits, to_z, of_z, eq-eqb, ne_eqb}
use lib.IntN.{+ℤ_idl}
use Rattle.clauses.specs.Literal.{positive, negative, negate, true_literal, false_literal, Clause}
use Rattle.clauses.specs.Words.{word_of, clause_words, words}
use Rattle.clauses.specs.Gate.{Gate, gate_clauses, gates_clauses}
use Rattle.clauses.specs.Writing.{from_code, put, gate_words, word_limit, Puts}

-- codes
pub code_even : (c v : ℕ) → c ≡ v * 2 → from_code c ≡ positive v
unfolding from_code
code_even c v e = let d : c / 2 ≡ v = omega arith in let m : c % 2 ≡ 0 = omega arith in rw (eq-eqb (c % 2) 0 m, d)

pub code_odd : (c v : ℕ) → c ≡ v * 2 + 1 → from_code c ≡ negative v
unfolding from_code
code_odd c v e = let d : c / 2 ≡ v = omega arith in rw (ne_eqb (c % 2) 0 (λ m. omega arith), d)

pub code_yes : from_code 2 ≡ true_literal
code_yes = code_even 2 1 refl

pub code_no : from_code 3 ≡ false_literal
code_no = code_odd 3 1 refl

nonzero : (k : ℕ) → (k ≡ 0 → ⊥) → 0 < k
nonzero zero h = absurd (h refl)
nonzero (suc k) h = omega arith

pub negate_even : (r l : ℕ) → l % 2 ≡ 0 → r ≡ l + 1 → from_code r ≡ negate (from_code l)
negate_even r l h e = code_odd r (l / 2) (omega arith) ∙ ap negate (sym (code_even l (l / 2) (omega arith)))

pub negate_odd : (l : ℕ) → (l % 2 ≡ 0 → ⊥) → from_code (l - 1) ≡ negate (from_code l)
negate_odd l h = let m : l % 2 ≡ 1 = omega (arith, nonzero (l % 2) h) in code_even (l - 1) (l / 2) (omega arith) ∙ ap negate (sym (code_odd l (l / 2) (omega arith)))

-- signed words
fits : (z : ℤ) → nat_abs z < 2 ^ 31 → SFits w32 z
fits (pos n) h = record { sfits = h }
fits (negsuc n) h = record { sfits = omega arith }

abs_neg : (z : ℤ) → nat_abs (neg_ℤ z) ≡ nat_abs z
abs_neg (pos zero) = refl
abs_neg (pos (suc n)) = refl
abs_neg (negsuc n) = refl

back : (n : ℕ) → n < 2147483648 → to_z w32 n ≡ pos n
back n h = to_z-of_z (fits (pos n) h)

minus_is : (n : ℕ) → n < 2147483648 → pos 0 -ℤ to_z w32 n ≡ neg_ℤ (pos n)
minus_is n h = ap (λ (z : ℤ). pos 0 -ℤ z) (back n h) ∙ +ℤ_idl (neg_ℤ (pos n))

pub minus_fits : (n : ℕ) → n < 2147483648 → SFits w32 (pos 0 -ℤ to_z w32 n)
minus_fits n h = subst (λ (z : ℤ). SFits w32 z) (sym (minus_is n h)) (fits (neg_ℤ (pos n)) (rw abs_neg h))

pub signed_even : (l : ℕ) → l < 4294967296 → l % 2 ≡ 0 → to_z w32 (l / 2) ≡ word_of (from_code l)
signed_even l f h = back (l / 2) (omega arith) ∙ ap word_of (sym (code_even l (l / 2) (omega arith)))

pub signed_odd : (l : ℕ) → l < 4294967296 → (l % 2 ≡ 0 → ⊥) → to_z w32 (of_z w32 (pos 0 -ℤ to_z w32 (l / 2))) ≡ word_of (from_code l)
signed_odd l f h =
    let m = nonzero (l % 2) h in
    to_z-of_z (minus_fits (l / 2) (omega arith)) ∙ minus_is (l / 2) (omega arith) ∙ ap word_of (sym (code_odd l (l / 2) (omega arith)))

abs_word : (b : Bool) (n : ℕ) → nat_abs (word_of (cond b (positive n) (negative n))) ≡ n
abs_word true n = refl
abs_word false n = abs_neg (pos n)

pub word_back : (r : ℤ) (c : ℕ) → c < 4294967296 → r ≡ word_of (from_code c) → to_z w32 (of_z w32 r) ≡ word_of (from_code c)
unfolding from_code
word_back r c h e =
    let a : nat_abs (word_of (from_code c)) ≡ c / 2 = abs_word (eqb (c % 2) 0) (c / 2) in
    ap (λ (z : ℤ). to_z w32 (of_z w32 z)) e ∙ to_z-of_z (fits (word_of (from_code c)) (rw a (omega arith)))

-- words put into a buffer; the laws over any element serve text, too
pub set_past : (xs : List ℤ) (i : ℕ) (w : ℤ) → length xs ≤ i → set xs i w ≡ xs
set_past [] i w h = refl
set_past (x ∷ xs) zero w h = absurd (omega arith)
set_past (x ∷ xs) (suc i) w h = ap (λ (l : List ℤ). x ∷ l) (set_past xs i w (omega arith))

pub put_length : {A : Type 0} (at : ℕ) (ws xs : List A) → length (put at ws xs) ≡ length xs
unfolding put
put_length at [] xs = refl
put_length at (w ∷ ws) xs = put_length (suc at) ws (set xs at w) ∙ length-set xs at w

pub put_append : {A : Type 0} (at : ℕ) (ws vs xs : List A) → put at (ws ++ vs) xs ≡ put (at + length ws) vs (put at ws xs)
unfolding put
put_append at [] vs xs = ap (λ (k : ℕ). put k vs xs) (let q : at ≡ at + 0 = omega arith in q)
put_append at (w ∷ ws) vs xs = put_append (suc at) ws vs (set xs at w) ∙ ap (λ (k : ℕ). put k vs (put (suc at) ws (set xs at w))) (let q : suc at + length ws ≡ at + suc (length ws) = omega arith in q)

-- where there is a place for all of them
set_at : (ys : List ℤ) (x w : ℤ) (xs : List ℤ) → set (ys ++ (x ∷ xs)) (length ys) w ≡ ys ++ (w ∷ xs)
set_at [] x w xs = refl
set_at (y ∷ ys) x w xs = ap (λ (l : List ℤ). y ∷ l) (set_at ys x w xs)

drop_none : (xs : List ℤ) → drop 0 xs ≡ xs
drop_none [] = refl
drop_none (x ∷ xs) = refl

put_at : (ys ws xs : List ℤ) → length ws ≤ length xs → put (length ys) ws (ys ++ xs) ≡ ys ++ (ws ++ drop (length ws) xs)
unfolding put
put_at ys [] xs h = ap (λ (l : List ℤ). ys ++ l) (sym (drop_none xs))
put_at ys (w ∷ ws) [] h = absurd (omega arith)
put_at ys (w ∷ ws) (x ∷ xs) h =
    let zs = ys ++ (w ∷ []) in
    let e : set (ys ++ (x ∷ xs)) (length ys) w ≡ zs ++ xs = set_at ys x w xs ∙ sym (append_assoc ys (w ∷ []) xs) in
    let n : suc (length ys) ≡ length zs = sym (length-append ys (w ∷ []) ∙ (let q : length ys + 1 ≡ suc (length ys) = omega arith in q)) in
    ap₂ (λ (k : ℕ) (l : List ℤ). put k ws l) n e ∙ put_at zs ws xs (omega arith) ∙ append_assoc ys (w ∷ []) (ws ++ drop (length ws) xs)

pub put_all : (ws xs : List ℤ) → length ws ≤ length xs → put 0 ws xs ≡ ws ++ drop (length ws) xs
put_all ws xs h = put_at [] ws xs h

module _ {ws xs ys : List ℤ} {cur c : ℕ} where
  -- one after the other
  pub puts_then : {vs zs : List ℤ} {c' : ℕ} → Puts ws xs ys cur c → Puts vs ys zs c c' → Puts (ws ++ vs) xs zs cur c'
  puts_then {vs} {zs} {c'} p q = record {
    puts = λ h.
        let l = length-append ws vs in
        let a = p.puts (omega arith) in
        let b = q.puts (omega (arith, a.cursor)) in
        record {
          written = b.written ∙ ap₂ (λ (k : ℕ) (t : List ℤ). put k vs t) a.cursor a.written ∙ sym (put_append cur ws vs xs);
          cursor = omega (arith, a.cursor, b.cursor);
        };
  }

  pub puts_same : {vs : List ℤ} → ws ≡ vs → Puts ws xs ys cur c → Puts vs xs ys cur c
  puts_same e p = subst (λ (l : List ℤ). Puts l xs ys cur c) e p

pub puts_none : (xs : List ℤ) (cur : ℕ) → Puts [] xs xs cur cur
unfolding put
puts_none xs cur = record { puts = λ h. record { written = refl; cursor = omega arith } }

pub puts_one : (w : ℤ) (xs ys : List ℤ) (cur c : ℕ) → ys ≡ set xs cur w → (cur < word_limit → c ≡ cur + 1) → Puts (w ∷ []) xs ys cur c
unfolding put
puts_one w xs ys cur c e n = record { puts = λ h. record { written = e; cursor = n (omega arith) } }

-- words of clauses
pub append-nil : {A : Type 0} (l : List A) → l ++ [] ≡ l
append-nil [] = refl
append-nil (x ∷ l) = ap (λ r. x ∷ r) (append-nil l)

pub words_append : (cs ds : List Clause) → words (cs ++ ds) ≡ words cs ++ words ds
words_append [] ds = refl
words_append (c ∷ cs) ds = ap (λ (l : List ℤ). clause_words c ++ l) (words_append cs ds) ∙ sym (append_assoc (clause_words c) (words cs) (words ds))

clauses_append : (gs hs : List Gate) → gates_clauses (gs ++ hs) ≡ gates_clauses gs ++ gates_clauses hs
clauses_append [] hs = refl
clauses_append (g ∷ gs) hs = ap (λ (l : List Clause). gate_clauses g ++ l) (clauses_append gs hs) ∙ sym (append_assoc (gate_clauses g) (gates_clauses gs) (gates_clauses hs))

pub gates_append : (gs hs : List Gate) → gate_words (gs ++ hs) ≡ gate_words gs ++ gate_words hs
unfolding gate_words
gates_append gs hs = ap words (clauses_append gs hs) ∙ words_append (gates_clauses gs) (gates_clauses hs)

pub gates_length : (gs hs : List Gate) → length (gate_words (gs ++ hs)) ≡ length (gate_words gs) + length (gate_words hs)
gates_length gs hs = ap length (gates_append gs hs) ∙ length-append (gate_words gs) (gate_words hs)
