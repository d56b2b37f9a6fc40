-- Refutations from outside solvers (document 02, R-7): when a clause follows, what a refutation comes to, and REFUTE's call.
-- In the field's terms: a clause follows by reverse unit propagation (RUP), or because it is a tautology.
use Rattle.std.specs.Prelude.{◌≡◌, ◌↔◌, Bool, true, false, ◌||◌, cond, List, [], ◌∷◌, ◌++◌, ℕ, zero, suc, ◌+◌, ◌-◌, ◌^◌, ltb, eqb, ℤ, length, drop, replicate}
use Rattle.design.specs.Answer.{Answer, refused, answer}
use Rattle.clauses.specs.Literal.{Literal, positive, negative, negate, Clause}
use Rattle.clauses.specs.Meaning.{Satisfiable, Within}
use Rattle.clauses.specs.Words.{clauses_of}
use Rattle.search.specs.Search.{Settings, value_of, conflict, nothing, found, first_unit, forced}
use Rattle.search.specs.Solve.{bad_word, at_place}
use Rattle.search.specs.AnyOrder.{Settles}
use Rattle.search.specs.declared.refute.Judged.{Judged}
use Rattle.search.specs.declared.refute.Judged.TheVariants.{Accepted, Word, Ended}

-- "with all its literals set false": settings to which each literal's negation is added, one after the other
abbrev pub set_false : Settings → Clause → Settings
set_false ss [] = ss
set_false ss (l ∷ ls) = set_false (forced (negate l) ∷ ss) ls

-- "the search's unit setting over the list .. reaches a clause all false". As in the search, "the first clause with no true literal and one unset position
-- sets it". A definition has to end, so the settings are counted down; each is of an unset variable, so with n variables n are enough (`Right`, below).
abbrev pub reaches : ℕ → List Clause → Settings → Bool
reaches zero cs ss = conflict (value_of ss) cs
reaches (suc m) cs ss = conflict (value_of ss) cs || elim (first_unit (value_of ss) cs) [ nothing ↦ false | found l ↦ reaches m cs (forced l ∷ ss) ]

-- "a clause holding a literal and its negation also follows"
abbrev pub same_literal : Literal → Literal → Bool
same_literal (positive u) (positive v) = eqb u v
same_literal (positive u) (negative v) = false
same_literal (negative u) (positive v) = false
same_literal (negative u) (negative v) = eqb u v

abbrev pub holds : Literal → Clause → Bool
holds l [] = false
holds l (m ∷ ms) = same_literal l m || holds l ms

abbrev pub holds_both : Clause → Bool
holds_both [] = false
holds_both (l ∷ ls) = holds (negate l) ls || holds_both ls

-- "A refutation clause follows if": over n variables, from cs, which is "the list and the earlier refutation clauses"
unfoldable pub follows : ℕ → List Clause → Clause → Bool
follows n cs c = holds_both c || reaches n cs (set_false [] c)

-- "There are three answers: accepted, the refutation's word where the first clause that does not follow begins, or ended without an empty clause."
-- "Reading ends at the first empty clause that follows." i words of the refutation were read, and a clause that follows is one of the earlier ones from then on
abbrev pub judged : ℕ → ℕ → List Clause → List Clause → Judged
judged n i cs [] = Ended
judged n i cs ([] ∷ ds) = cond (follows n cs []) Accepted (Word i)
judged n i cs ((l ∷ ls) ∷ ds) = cond (follows n cs (l ∷ ls)) (judged n (i + suc (length (l ∷ ls))) (cs ++ ((l ∷ ls) ∷ [])) ds) (Word i)

-- the reply, and the lent values after the call
pub record AfterRefute : Type 0 where
  pub reply : Answer Judged
  pub values : List ℕ

-- "Each refusal is a number and a place and leaves all lent memory unchanged" (document 01)
abbrev pub refuses : ℕ → ℕ → List ℕ → AfterRefute
refuses number place values = record { reply = refused number place; values = values }

-- "Read a clause list and a refutation in the same form." "17 tests the list, then the refutation (places counting on from the list's length), then 16 the n lent values, which are zero after every answer."
-- 17 and its places are SOLVE's.
unfoldable pub refute : ℕ → List ℤ → List ℤ → List ℕ → AfterRefute
refute n list refutation values =
    cond (ltb (2 ^ 31 - 1) n) (refuses 17 0 values)
    (at_place (bad_word n 0 false list) (λ i. refuses 17 i values)
    (at_place (bad_word n 0 false refutation) (λ i. refuses 17 (length list + i) values)
    (cond (ltb (length values) n) (refuses 16 0 values)
    (record { reply = answer (judged n 0 (clauses_of list) (clauses_of refutation)); values = replicate n 0 ++ drop n values }))))

-- The rule with no order of settings: some unit settings reach a clause all false.
pub data FollowsFrom (cs : List Clause) (c : Clause) : Type 0 where
  by_units : {ss : Settings} → Settles cs (set_false [] c) ss → conflict (value_of ss) cs ≡ true → FollowsFrom cs c
  by_both : holds_both c ≡ true → FollowsFrom cs c

-- a refutation that meets it: every clause follows, up to an empty one
pub data Refutes : List Clause → List Clause → Type 0 where
  last : {cs ds : List Clause} → FollowsFrom cs [] → Refutes cs ([] ∷ ds)
  next : {cs ds : List Clause} {l : Literal} {ls : Clause} → FollowsFrom cs (l ∷ ls) → Refutes (cs ++ ((l ∷ ls) ∷ [])) ds → Refutes cs ((l ∷ ls) ∷ ds)

-- What R-7 says of REFUTE's answer, for every call.
pub record Right (n : ℕ) (list refutation : List ℤ) (values : List ℕ) : Type 0 where
  -- whether a clause follows, and so every answer, does not depend on the order in which units are set
  pub order : (cs : List Clause) (c : Clause) → Within n cs → (follows n cs c ≡ true) ↔ FollowsFrom cs c
  -- "What is accepted has no satisfying assignment"
  pub sound : (refute n list refutation values).reply ≡ answer Accepted → Satisfiable (clauses_of list) → ⊥
  -- what is accepted meets the rule,
  pub meets : (refute n list refutation values).reply ≡ answer Accepted → Refutes (clauses_of list) (clauses_of refutation)
  -- "and every refutation that meets the rule is accepted", where the call is not refused
  pub complete : (j : Judged) → (refute n list refutation values).reply ≡ answer j → Refutes (clauses_of list) (clauses_of refutation) → j ≡ Accepted
