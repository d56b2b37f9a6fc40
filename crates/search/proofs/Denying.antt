-- A clause's literals set false, one after the other.
use mathlib.Core.Path.{◌≡◌, refl, sym, ap, ap₂, ◌∙◌, subst, subst₂}
use mathlib.Core.Bool.{Bool, true, false, ◌||◌, cond}
use mathlib.Core.List.{List, [], ◌∷◌}
use Prim.Native.Nat.{ℕ, zero, suc, ◌+◌, ◌-◌, ◌<◌, ◌≤◌}
use native.Mathlib.Omega.{arith}
use native.Mathlib.Numerals.{add-one}
use lib.Dec.{eqb}
use lib.IntN.{ℤ, pos, negsuc, nat_abs}
use lib.ListN.{length, get_or, drop, set, length-set, get_or-replicate}
use borrow.Author.Tests.{eqb-true, eqb-false, eq-eqb, ne_eqb, lt-ltb}
use Rattle.clauses.specs.Literal.{Literal, positive, negative, negate, Clause}
use Rattle.clauses.specs.Words.{is_end, literal_of_word}
use Rattle.search.specs.Search.{is, Setting, Settings, value_of, opposite, literal_value, forced}
use Rattle.search.specs.Refutation.{set_false, same_literal, holds, holds_both}
use Rattle.search.specs.Memory.{AllIn, first_clause, has_end, sign_of, value_of_byte, value_at, literal_from, AllUnset, Agrees}
use Rattle.search.proofs.Scans.{is_true, or_true, or_false}
use Rattle.search.proofs.Reading.{inside_low, inside_next, Passing, passing_start, passing_next_lem}
use Rattle.search.proofs.Scanning.{literal_low}
use Rattle.search.proofs.State.{byte_bit, value_other, value_same}
use Rattle.search.proofs.Steps.{forced_is}

-- whether some literal of the clause is true under settings
abbrev any_true : Settings → Clause → Bool
any_true ss [] = false
any_true ss (l ∷ ls) = is_true (literal_value (value_of ss) l) || any_true ss ls

none_true : (c : Clause) → any_true [] c ≡ false
none_true [] = refl
none_true (positive v ∷ ls) = none_true ls
none_true (negative v ∷ ls) = none_true ls

-- setting a literal false makes just its negation true besides
one_true : (ss : Settings) (l : Literal) → is_true (literal_value (value_of ss) l) ≡ false
    → (m : Literal) → is_true (literal_value (value_of ss) m) || same_literal (negate l) m ≡ is_true (literal_value (value_of (forced (negate l) ∷ ss)) m)
one_true ss (positive v) e (positive u) = go (eqb u v) refl
  where
    go : (t : Bool) → eqb u v ≡ t → is_true (value_of ss u) || false ≡ is_true (cond t (is false) (value_of ss u))
    go true p = ap (λ (x : ℕ). is_true (value_of ss x) || false) (eqb-true u v p) ∙ (let k : is_true (value_of ss v) || false ≡ false = rw e in k)
    go false p = or_false (is_true (value_of ss u))
one_true ss (positive v) e (negative u) = go (eqb u v) refl
  where
    go : (t : Bool) → eqb u v ≡ t → is_true (opposite (value_of ss u)) || eqb v u ≡ is_true (opposite (cond t (is false) (value_of ss u)))
    go true p = ap (λ (b : Bool). is_true (opposite (value_of ss u)) || b) (eq-eqb v u (sym (eqb-true u v p))) ∙ or_true (is_true (opposite (value_of ss u)))
    go false p = ap (λ (b : Bool). is_true (opposite (value_of ss u)) || b) (ne_eqb v u (λ q. eqb-false u v p (sym q))) ∙ or_false (is_true (opposite (value_of ss u)))
one_true ss (negative v) e (positive u) = go (eqb u v) refl
  where
    go : (t : Bool) → eqb u v ≡ t → is_true (value_of ss u) || eqb v u ≡ is_true (cond t (is true) (value_of ss u))
    go true p = ap (λ (b : Bool). is_true (value_of ss u) || b) (eq-eqb v u (sym (eqb-true u v p))) ∙ or_true (is_true (value_of ss u))
    go false p = ap (λ (b : Bool). is_true (value_of ss u) || b) (ne_eqb v u (λ q. eqb-false u v p (sym q))) ∙ or_false (is_true (value_of ss u))
one_true ss (negative v) e (negative u) = go (eqb u v) refl
  where
    go : (t : Bool) → eqb u v ≡ t → is_true (opposite (value_of ss u)) || false ≡ is_true (opposite (cond t (is true) (value_of ss u)))
    go true p = ap (λ (x : ℕ). is_true (opposite (value_of ss x)) || false) (eqb-true u v p) ∙ (let k : is_true (opposite (value_of ss v)) || false ≡ false = rw e in k)
    go false p = or_false (is_true (opposite (value_of ss u)))

swap : (a b c d : Bool) → (a || b) || (c || d) ≡ (a || c) || (b || d)
swap true b c d = refl
swap false true true d = refl
swap false true false d = refl
swap false false true d = refl
swap false false false d = refl

more_true : (ss : Settings) (l : Literal) → is_true (literal_value (value_of ss) l) ≡ false → (c : Clause) → any_true ss c || holds (negate l) c ≡ any_true (forced (negate l) ∷ ss) c
more_true ss l e [] = refl
more_true ss l e (m ∷ ms) =
    swap (is_true (literal_value (value_of ss) m)) (any_true ss ms) (same_literal (negate l) m) (holds (negate l) ms)
    ∙ ap₂ ◌||◌ (one_true ss l e m) (more_true ss l e ms)

-- whether the clause holds a literal and its negation, where settings stand for the literals before it
abbrev pub held : Settings → Clause → Bool
held ss c = any_true ss c || holds_both c

held_next : (ss : Settings) (l : Literal) (ls : Clause) → is_true (literal_value (value_of ss) l) ≡ false → held ss (l ∷ ls) ≡ held (forced (negate l) ∷ ss) ls
held_next ss l ls e =
    ap (λ (b : Bool). (b || any_true ss ls) || (holds (negate l) ls || holds_both ls)) e
    ∙ or_assoc (any_true ss ls) (holds (negate l) ls) (holds_both ls)
    ∙ ap (λ (b : Bool). b || holds_both ls) (more_true ss l e ls)
  where
    or_assoc : (a b c : Bool) → a || (b || c) ≡ (a || b) || c
    or_assoc true b c = refl
    or_assoc false b c = refl

-- a literal's byte
byte_not : (z : ℤ) (vs : List ℕ) → (get_or vs (nat_abs z - 1) 0 ≡ sign_of z → ⊥) → is_true (literal_value (value_at vs) (literal_of_word z)) ≡ false
byte_not (pos v) vs h = go (get_or vs (v - 1) 0) h
  where
    go : (x : ℕ) → (x ≡ 1 → ⊥) → is_true (value_of_byte x) ≡ false
    go zero h = refl
    go (suc zero) h = absurd (h refl)
    go (suc (suc x)) h = rw (lt-ltb 1 (suc (suc x)) (omega arith))
byte_not (negsuc v) vs h = go (get_or vs (suc v - 1) 0) h
  where
    go : (x : ℕ) → (x ≡ 0 → ⊥) → is_true (opposite (value_of_byte x)) ≡ false
    go zero h = absurd (h refl)
    go (suc zero) h = refl
    go (suc (suc x)) h = rw (lt-ltb 1 (suc (suc x)) (omega arith))

-- the settings after a setting
pub set_agrees : (ss : Settings) (vs : List ℕ) (v b : ℕ) → 0 < v → v ≤ length vs → b ≤ 1 → Agrees ss vs → Agrees (forced (literal_from v b) ∷ ss) (set vs (v - 1) b)
set_agrees ss vs v b lo hi hb h u a c = ap (λ (s : Setting). value_of (s ∷ ss) u) (forced_is v b) ∙ go (eqb u v) refl
  where
    go : (t : Bool) → eqb u v ≡ t → cond t (is (eqb b 1)) (value_of ss u) ≡ value_at (set vs (v - 1) b) u
    go true e = sym (byte_bit b hb) ∙ sym (value_same vs v b lo hi) ∙ ap (value_at (set vs (v - 1) b)) (sym (eqb-true u v e))
    go false e = h u a (let k = length-set vs (v - 1) b in omega arith) ∙ sym (value_other vs v u b lo a (eqb-false u v e))

denied_agrees : (ss : Settings) (vs : List ℕ) (z : ℤ) → 0 < nat_abs z → nat_abs z ≤ length vs → Agrees ss vs → Agrees (forced (negate (literal_of_word z)) ∷ ss) (set vs (nat_abs z - 1) (1 - sign_of z))
denied_agrees ss vs (pos u) lo hi h = set_agrees ss vs u 0 lo hi (omega arith) h
denied_agrees ss vs (negsuc u) lo hi h = set_agrees ss vs (suc u) 1 lo hi (omega arith) h

lit_agrees : (ss : Settings) (vs : List ℕ) → Agrees ss vs → (z : ℤ) → 0 < nat_abs z → nat_abs z ≤ length vs → literal_value (value_of ss) (literal_of_word z) ≡ literal_value (value_at vs) (literal_of_word z)
lit_agrees ss vs h (pos v) lo hi = h v lo hi
lit_agrees ss vs h (negsuc v) lo hi = ap opposite (h (suc v) lo hi)

-- at i, in the clause that starts at `from`
pub record Denying (ws : List ℤ) (vs : List ℕ) (n from i : ℕ) : Type 0 where
  pub passing : Passing ws from i
  pub wide : length vs ≡ n
  pub settings : Settings
  pub agrees : Agrees settings vs
  pub sets : set_false settings (first_clause (drop i ws)) ≡ set_false [] (first_clause (drop from ws))
  pub both : held settings (first_clause (drop i ws)) ≡ holds_both (first_clause (drop from ws))

pub denying_start : {ws : List ℤ} {vs : List ℕ} {from : ℕ} → AllUnset vs → has_end (drop from ws) ≡ true → Denying ws vs (length vs) from from
denying_start {ws} {vs} {from} u e =
    record {
      passing = passing_start ws from e;
      wide = refl;
      settings = [];
      agrees = λ v a b. sym (ap (λ (xs : List ℕ). value_at xs v) u ∙ ap value_of_byte (get_or-replicate (length vs) (v - 1) 2 0 (omega arith)));
      sets = refl;
      both = ap (λ (b : Bool). b || holds_both (first_clause (drop from ws))) (none_true (first_clause (drop from ws)));
    }

module _ {ws : List ℤ} {vs : List ℕ} {n from i : ℕ} (h : Denying ws vs n from i) where
  pub denying_low : i < length ws
  denying_low = inside_low ws i h.passing.ends

  module _ (literal : is_end (get_or ws i (pos 0)) ≡ false) (inside : AllIn n ws) {v : ℕ} (name : v ≡ nat_abs (get_or ws i (pos 0))) where
    pub denying_named : 0 < v
    denying_named = literal_low (get_or ws i (pos 0)) v literal name

    pub denying_inside : v ≤ length vs
    denying_inside = let k = inside i denying_low in let w = h.wide in omega arith

    first : first_clause (drop i ws) ≡ literal_of_word (get_or ws i (pos 0)) ∷ first_clause (drop (suc i) ws)
    first = (inside_next ws i h.passing.ends literal).2

    value : literal_value (value_of h.settings) (literal_of_word (get_or ws i (pos 0))) ≡ literal_value (value_at vs) (literal_of_word (get_or ws i (pos 0)))
    value =
        let a = denying_named in
        let b = denying_inside in
        lit_agrees h.settings vs h.agrees (get_or ws i (pos 0)) (subst (λ (k : ℕ). 0 < k) name a) (subst (λ (k : ℕ). k ≤ length vs) name b)

    module _ {x : ℕ} (sign : x ≡ sign_of (get_or ws i (pos 0))) where
      pub denying_next : (get_or vs (v - 1) 0 ≡ x → ⊥) → Denying ws (set vs (v - 1) (1 - x)) n from (i + 1)
      denying_next ne =
          let l = literal_of_word (get_or ws i (pos 0)) in
          let a = denying_named in
          let b = denying_inside in
          let u : is_true (literal_value (value_of h.settings) l) ≡ false = ap is_true value ∙ byte_not (get_or ws i (pos 0)) vs (λ q. ne (ap (λ (k : ℕ). get_or vs (k - 1) 0) name ∙ q ∙ sym sign)) in
          let p = passing_next_lem ws from i h.passing literal in
          rw (add-one i) (record {
            passing = rw (add-one i) at p;
            wide = length-set vs (v - 1) (1 - x) ∙ h.wide;
            settings = forced (negate l) ∷ h.settings;
            agrees =
                subst₂ (λ (k y : ℕ). Agrees (forced (negate l) ∷ h.settings) (set vs (k - 1) (1 - y))) (sym name) (sym sign)
                (denied_agrees h.settings vs (get_or ws i (pos 0)) (subst (λ (k : ℕ). 0 < k) name a) (subst (λ (k : ℕ). k ≤ length vs) name b) h.agrees);
            sets = ap (set_false h.settings) (sym first) ∙ h.sets;
            both = sym (held_next h.settings l (first_clause (drop (suc i) ws)) u) ∙ ap (held h.settings) (sym first) ∙ h.both;
          })
