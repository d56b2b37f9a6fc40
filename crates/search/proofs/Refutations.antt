-- When a clause follows: the rule is decided whatever the order of settings, and what it accepts has no satisfying assignment.
use mathlib.Core.Path.{◌≡◌, refl, sym, ap, ◌∙◌}
use mathlib.Core.Bool.{Bool, true, false, not, ◌||◌, cond, true≢false}
use mathlib.Core.List.{List, [], ◌∷◌, ◌++◌}
use Prim.Native.Nat.{ℕ, zero, suc, ◌+◌, ◌≤◌}
use native.Mathlib.Omega.{arith}
use lib.ListN.{length}
use borrow.Author.Tests.{eqb-true}
use Rattle.clauses.specs.Literal.{Literal, positive, negative, negate, Clause}
use Rattle.clauses.specs.Meaning.{Assignment, literal_true, clause_true, satisfies, Satisfiable, Within}
use Rattle.search.specs.Search.{is_unset, Settings, value_of, conflict, FirstUnit, nothing, found, first_unit, forced}
use Rattle.search.specs.AnyOrder.{IsUnit, Quiet, Settles, done, more}
use Rattle.search.specs.Refutation.{set_false, reaches, same_literal, holds, holds_both, follows, judged, FollowsFrom, by_units, by_both, Refutes, last, next}
use Rattle.search.specs.Memory.{bit, unset_count}
use Rattle.search.proofs.Scans.{Follows, follows_none, follows_more, both_l, both_r, neither_l, neither_r, conflict_no, unit_implied, unit_forced}
use Rattle.search.proofs.Counting.{count_set}
use Rattle.search.proofs.Sound.{forced_name, forced_value, first_unit_lem}
use Rattle.search.proofs.Closure.{calm_all}
use Rattle.search.specs.declared.refute.Judged.TheVariants.{Accepted, Word}

-- what an answer means: some unit settings reach a conflict, or some end without one
abbrev pub Decides : List Clause → Settings → Bool → Type 0
Decides cs ss true = (ss₁ : Settings) × Settles cs ss ss₁ × (conflict (value_of ss₁) cs ≡ true)
Decides cs ss false = (ss₁ : Settings) × Settles cs ss ss₁ × Quiet (value_of ss₁) cs

decides_more : (cs : List Clause) (ss : Settings) (l : Literal) → IsUnit (value_of ss) cs l → (b : Bool) → Decides cs (forced l ∷ ss) b → Decides cs ss b
decides_more cs ss l u true d = (d.0, more l u d.1, d.2)
decides_more cs ss l u false d = (d.0, more l u d.1, d.2)

-- there is one answer
decides_one : (cs : List Clause) (ss : Settings) (a b : Bool) → Decides cs ss a → Decides cs ss b → a ≡ b
decides_one cs ss true true d e = refl
decides_one cs ss true false d e = absurd (calm_all cs {ss = ss} {ts = ss} (λ v. refl) e.1 e.2 d.1 d.2)
decides_one cs ss false true d e = absurd (calm_all cs {ss = ss} {ts = ss} (λ v. refl) d.1 d.2 e.1 e.2)
decides_one cs ss false false d e = refl

module _ (n : ℕ) (cs : List Clause) (w : Within n cs) where
  -- a unit is of an unset variable, so settings are fewer after it
  falls : (ss : Settings) (l : Literal) → IsUnit (value_of ss) cs l → suc (unset_count (forced l ∷ ss) 1 n) ≡ unset_count ss 1 n
  falls ss l u =
      let h = (unit_forced n cs ss w l u).fresh in
      let e = forced_name l in
      count_set (forced l) ss 1 n (rw e h.unset!) (rw e h.low) (let k = h.high in omega (arith, e))

  abbrev Rest : ℕ → Type 0
  Rest m = (ss : Settings) → unset_count ss 1 n ≤ m → Decides cs ss (reaches m cs ss)

  -- with as many settings as there are unset variables, `reaches` decides
  reaches_decides : (m : ℕ) → Rest m
  reaches_decides zero ss h = go (conflict (value_of ss) cs) refl
    where
      closed : (f : FirstUnit) → first_unit (value_of ss) cs ≡ f → f ≡ nothing
      closed nothing e = refl
      closed (found l) e = absurd (let k = falls ss l (first_unit_lem (value_of ss) cs l e) in omega arith)

      go : (b : Bool) → conflict (value_of ss) cs ≡ b → Decides cs ss b
      go true e = (ss, done, e)
      go false e = (ss, done, record { calm = e; closed = closed (first_unit (value_of ss) cs) refl })
  reaches_decides (suc m) ss h = go (reaches_decides m) (conflict (value_of ss) cs) refl
    where
      on : Rest m → conflict (value_of ss) cs ≡ false → (f : FirstUnit) → first_unit (value_of ss) cs ≡ f → Decides cs ss (elim f [ nothing ↦ false | found l ↦ reaches m cs (forced l ∷ ss) ])
      on rec c nothing e = (ss, done, record { calm = c; closed = e })
      on rec c (found l) e =
          let u = first_unit_lem (value_of ss) cs l e in
          let k = falls ss l u in
          decides_more cs ss l u (reaches m cs (forced l ∷ ss)) (rec (forced l ∷ ss) (omega arith))

      go : Rest m → (b : Bool) → conflict (value_of ss) cs ≡ b → Decides cs ss (b || elim (first_unit (value_of ss) cs) [ nothing ↦ false | found l ↦ reaches m cs (forced l ∷ ss) ])
      go rec true e = (ss, done, e)
      go rec false e = on rec e (first_unit (value_of ss) cs) refl

  count_most : (ss : Settings) (v k : ℕ) → unset_count ss v k ≤ k
  count_most ss v zero = omega arith
  count_most ss v (suc k) = let h = count_most ss (suc v) k in let b = bit_most (is_unset (value_of ss v)) in omega arith
    where
      bit_most : (b : Bool) → bit b ≤ 1
      bit_most true = omega arith
      bit_most false = omega arith

  decided : (ss : Settings) → Decides cs ss (reaches n cs ss)
  decided ss = reaches_decides n ss (count_most ss 1 n)

  -- so a program that sets units in any order comes to what `reaches` says
  pub reaches_is : (ss : Settings) (r : Bool) → Decides cs ss r → r ≡ reaches n cs ss
  reaches_is ss r d = decides_one cs ss r (reaches n cs ss) d (decided ss)

  -- the rule with an order, and the rule with none
  pub follows_from : (c : Clause) → follows n cs c ≡ true → FollowsFrom cs c
  unfolding follows
  follows_from c e = go (holds_both c) refl e
    where
      go : (b : Bool) → holds_both c ≡ b → b || reaches n cs (set_false [] c) ≡ true → FollowsFrom cs c
      go true h e = by_both h
      go false h e = let d : Decides cs (set_false [] c) true = rw e at (decided (set_false [] c)) in by_units d.1 d.2

  pub from_follows : (c : Clause) → FollowsFrom cs c → follows n cs c ≡ true
  unfolding follows
  from_follows c (by_both h) = rw h
  from_follows c (by_units {ss = ss} s e) = or_true (holds_both c) (reaches n cs (set_false [] c)) (sym (reaches_is (set_false [] c) true (ss, s, e)))
    where
      or_true : (a b : Bool) → b ≡ true → a || b ≡ true
      or_true true b h = refl
      or_true false b h = h

-- what follows is true where the list is
negated : (ρ : Assignment) (l : Literal) → literal_true ρ l ≡ false → literal_true ρ (negate l) ≡ true
negated ρ (positive v) e = rw e
negated ρ (negative v) e = go (ρ v) e
  where
    go : (b : Bool) → not b ≡ false → b ≡ true
    go true e = refl
    go false e = sym e

false_follows : (ρ : Assignment) (ss : Settings) (c : Clause) → Follows ρ ss → clause_true ρ c ≡ false → Follows ρ (set_false ss c)
false_follows ρ ss [] f e = f
false_follows ρ ss (l ∷ ls) f e =
    false_follows ρ (forced (negate l) ∷ ss) ls
    (follows_more ρ (forced (negate l)) ss f (forced_value ρ (negate l) (negated ρ l (neither_l (literal_true ρ l) (clause_true ρ ls) e))))
    (neither_r (literal_true ρ l) (clause_true ρ ls) e)

settles_follow : (ρ : Assignment) (cs : List Clause) → satisfies ρ cs ≡ true → {ss ss₁ : Settings} → Settles cs ss ss₁ → Follows ρ ss → Follows ρ ss₁
settles_follow ρ cs s done f = f
settles_follow ρ cs s {ss} (more l u r) f = settles_follow ρ cs s r (follows_more ρ (forced l) ss f (forced_value ρ l (unit_implied cs ss l u ρ f s)))

same_is : (l m : Literal) → same_literal l m ≡ true → l ≡ m
same_is (positive u) (positive v) e = ap positive (eqb-true u v e)
same_is (positive u) (negative v) e = absurd (true≢false (sym e))
same_is (negative u) (positive v) e = absurd (true≢false (sym e))
same_is (negative u) (negative v) e = ap negative (eqb-true u v e)

holds_true : (ρ : Assignment) (l : Literal) → literal_true ρ l ≡ true → (c : Clause) → holds l c ≡ true → clause_true ρ c ≡ true
holds_true ρ l e [] h = h
holds_true ρ l e (m ∷ ms) h = go (same_literal l m) refl h (holds_true ρ l e ms)
  where
    or_r : (a b : Bool) → b ≡ true → a || b ≡ true
    or_r true b e = refl
    or_r false b e = e

    go : (b : Bool) → same_literal l m ≡ b → b || holds l ms ≡ true → (holds l ms ≡ true → clause_true ρ ms ≡ true) → literal_true ρ m || clause_true ρ ms ≡ true
    go true p h k = rw (ap (literal_true ρ) (sym (same_is l m p)) ∙ e)
    go false p h k = or_r (literal_true ρ m) (clause_true ρ ms) (k h)

both_true : (ρ : Assignment) (c : Clause) → holds_both c ≡ true → clause_true ρ c ≡ true
both_true ρ [] h = h
both_true ρ (l ∷ ls) h = go (literal_true ρ l) refl (holds (negate l) ls) refl h (both_true ρ ls)
  where
    go : (t : Bool) → literal_true ρ l ≡ t → (b : Bool) → holds (negate l) ls ≡ b → b || holds_both ls ≡ true → (holds_both ls ≡ true → clause_true ρ ls ≡ true) → t || clause_true ρ ls ≡ true
    go true e b p h k = refl
    go false e true p h k = holds_true ρ (negate l) (negated ρ l e) ls p
    go false e false p h k = k h

from_true : (cs : List Clause) (c : Clause) → FollowsFrom cs c → (ρ : Assignment) → satisfies ρ cs ≡ true → clause_true ρ c ≡ true
from_true cs c (by_both h) ρ s = both_true ρ c h
from_true cs c (by_units {ss = ss} r k) ρ s = go (clause_true ρ c) refl
  where
    go : (b : Bool) → clause_true ρ c ≡ b → clause_true ρ c ≡ true
    go true e = e
    go false e = absurd (conflict_no ρ ss (settles_follow ρ cs s r (false_follows ρ [] c (follows_none ρ) e)) cs k s)

satisfies_more : (ρ : Assignment) (cs : List Clause) (c : Clause) → satisfies ρ cs ≡ true → clause_true ρ c ≡ true → satisfies ρ (cs ++ (c ∷ [])) ≡ true
satisfies_more ρ [] c s e = rw e
satisfies_more ρ (d ∷ ds) c s e = rw (both_l (clause_true ρ d) (satisfies ρ ds) s) (satisfies_more ρ ds c (both_r (clause_true ρ d) (satisfies ρ ds) s) e)

-- a list with a refutation has no satisfying assignment
pub refutes_none : {cs ds : List Clause} → Refutes cs ds → Satisfiable cs → ⊥
refutes_none (last {cs = cs} f) s = true≢false (sym (from_true cs [] f s.0 s.1))
refutes_none (next {cs = cs} {l = l} {ls = ls} f r) s = refutes_none r (s.0, satisfies_more s.0 cs (l ∷ ls) s.1 (from_true cs (l ∷ ls) f s.0 s.1))

-- the judgement, and refutations that meet the rule
pub within_both : (n : ℕ) (cs ds : List Clause) → Within n cs → Within n ds → Within n (cs ++ ds)
within_both n [] ds w h = h
within_both n (c ∷ cs) ds w h = (w.0, within_both n cs ds w.1 h)

not_accepted : {i : ℕ} → Word i ≡ Accepted → ⊥
not_accepted e = let z : ◌≡◌ {A = ℕ} 0 1 = cc in omega arith

pub accepted_refutes : (n i : ℕ) (cs ds : List Clause) → Within n cs → Within n ds → judged n i cs ds ≡ Accepted → Refutes cs ds
accepted_refutes n i cs [] w h e = absurd (let z : ◌≡◌ {A = ℕ} 0 1 = cc in omega arith)
accepted_refutes n i cs ([] ∷ ds) w h e = go (follows n cs []) refl e
  where
    go : (b : Bool) → follows n cs [] ≡ b → cond b Accepted (Word i) ≡ Accepted → Refutes cs ([] ∷ ds)
    go true p e = last (follows_from n cs w [] p)
    go false p e = absurd (not_accepted e)
accepted_refutes n i cs ((l ∷ ls) ∷ ds) w h e = go (follows n cs c) refl e (accepted_refutes n (i + suc (length c)) (cs ++ (c ∷ [])) ds (within_both n cs (c ∷ []) w (h.0, tt)) h.1)
  where
    c : Clause
    c = l ∷ ls

    go : (b : Bool) → follows n cs c ≡ b → cond b (judged n (i + suc (length c)) (cs ++ (c ∷ [])) ds) (Word i) ≡ Accepted
        → (judged n (i + suc (length c)) (cs ++ (c ∷ [])) ds ≡ Accepted → Refutes (cs ++ (c ∷ [])) ds) → Refutes cs (c ∷ ds)
    go true p e k = next (follows_from n cs w c p) (k e)
    go false p e k = absurd (not_accepted e)

pub refutes_accepted : (n i : ℕ) {cs ds : List Clause} → Within n cs → Within n ds → Refutes cs ds → judged n i cs ds ≡ Accepted
refutes_accepted n i w h (last {cs = cs} f) = rw (from_follows n cs w [] f)
refutes_accepted n i w h (next {cs = cs} {ds = ds} {l = l} {ls = ls} f r) =
    rw (from_follows n cs w (l ∷ ls) f) (refutes_accepted n (i + suc (length (l ∷ ls))) (within_both n cs ((l ∷ ls) ∷ []) w (h.0, tt)) h.1 r)
