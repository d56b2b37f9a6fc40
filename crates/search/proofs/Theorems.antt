-- The search's laws, as document 01 states them. `Within n cs`: every literal is of a variable in 1..n; SOLVE refuses other
-- words (`accepted_within`). The definitions are those of specs/Search.antt and specs/Solve.antt.
use mathlib.Core.Path.{◌≡◌, refl, sym, ap, ◌∙◌}
use mathlib.Core.Logic.{◌↔◌}
use mathlib.Core.Bool.{Bool, true, false, true≢false}
use mathlib.Core.List.{List, []}
use Prim.Native.Nat.{ℕ, suc, ◌+◌, ◌-◌, ◌^◌, ◌<◌, ◌≤◌}
use native.Mathlib.Omega.{arith}
use native.Mathlib.Numerals.{add-one}
use native.Mathlib.Decide.{dec_le}
use lib.IntN.{ℤ}
use Rattle.std.specs.Prelude.{None}
use Rattle.clauses.specs.Literal.{Clause}
use Rattle.clauses.specs.Meaning.{satisfies, Satisfiable, Within}
use Rattle.clauses.specs.Words.{clauses_of}
use Rattle.search.specs.Search.{turn, Budget, no_budget, up_to, Answer, SAT, UNSAT, SPENT, Outcome, solved, Ends}
use Rattle.search.specs.Answers.{declared_answer}
use Rattle.search.specs.Solve.{bad_word, values_left, assigned}
use Rattle.search.proofs.Scans.{made}
use Rattle.search.proofs.Ending.{Says, solved_ends, search_right, search_budget}
use Rattle.search.proofs.Values.{values_satisfy}
use Rattle.search.proofs.Order.{Any, order_free, alike_values, alike_code}
use Rattle.search.proofs.Reading.{within_words}
use Rattle.search.proofs.BadWords.{good_words}

abbrev pub is_sat : Answer → Bool
is_sat (SAT ss) = true
is_sat UNSAT = false
is_sat SPENT = false

abbrev pub is_unsat : Answer → Bool
is_unsat (SAT ss) = false
is_unsat UNSAT = true
is_unsat SPENT = false

abbrev pub is_spent : Answer → Bool
is_spent (SAT ss) = false
is_spent UNSAT = false
is_spent SPENT = true

module _ (n : ℕ) (cs : List Clause) (w : Within n cs) where
  -- The search ends: its outcome is what finitely many turns come to. So SPENT means that a try beyond the budget was due.
  pub search_ends : (b : Budget) → Ends n cs b 0 (turn n cs []) (solved n cs b)
  search_ends b = solved_ends n cs b w

  right : Says n cs (solved n cs no_budget).answer
  right = (search_right n cs w).says

  -- With no budget it is never SPENT.
  pub never_spent : is_spent (solved n cs no_budget).answer ≡ false
  never_spent = go (solved n cs no_budget).answer right
    where
      go : (a : Answer) → Says n cs a → is_spent a ≡ false
      go (SAT ss) h = refl
      go UNSAT h = refl
      go SPENT h = absurd h

  -- SAT exactly when a satisfying assignment exists
  pub sat_iff : (is_sat (solved n cs no_budget).answer ≡ true) ↔ Satisfiable cs
  sat_iff = go (solved n cs no_budget).answer right
    where
      go : (a : Answer) → Says n cs a → (is_sat a ≡ true) ↔ Satisfiable cs
      go (SAT ss) h = ((λ _. (made ss, h.1)), λ _. refl)
      go UNSAT h = ((λ e. absurd (true≢false (sym e))), λ s. absurd (h s.0 s.1))
      go SPENT h = absurd h

  -- and then the values left are one
  pub sat_values : is_sat (solved n cs no_budget).answer ≡ true → satisfies (assigned (values_left n (solved n cs no_budget).answer)) cs ≡ true
  sat_values = go (solved n cs no_budget).answer right
    where
      go : (a : Answer) → Says n cs a → is_sat a ≡ true → satisfies (assigned (values_left n a)) cs ≡ true
      go (SAT ss) h e = values_satisfy n ss cs w h.1
      go UNSAT h e = absurd (true≢false (sym e))
      go SPENT h e = absurd h

  -- UNSAT exactly when none does
  pub unsat_iff : (is_unsat (solved n cs no_budget).answer ≡ true) ↔ (Satisfiable cs → ⊥)
  unsat_iff = go (solved n cs no_budget).answer right
    where
      go : (a : Answer) → Says n cs a → (is_unsat a ≡ true) ↔ (Satisfiable cs → ⊥)
      go (SAT ss) h = ((λ e. absurd (true≢false (sym e))), λ f. absurd (f (made ss, h.1)))
      go UNSAT h = ((λ _ s. h s.0 s.1), λ _. refl)
      go SPENT h = absurd h

  -- "Tries are at most 2^(n+1)-2."
  pub tries_most : (solved n cs no_budget).tries ≤ 2 ^ (n + 1) - 2
  tries_most =
      let h = (search_right n cs w).most in
      let e : 2 ^ (n + 1) ≡ 2 ^ suc n = ap (λ (k : ℕ). 2 ^ k) (add-one n) in
      omega arith

  -- "SPENT exactly when a try beyond the budget would be needed."
  pub spent_iff : (b : ℕ) → (is_spent (solved n cs (up_to b)).answer ≡ true) ↔ (b < (solved n cs no_budget).tries)
  spent_iff b = (to (dec_le (solved n cs no_budget).tries b), λ l. ap (λ (o : Outcome). is_spent o.answer) ((search_budget n cs b).1 l))
    where
      to : Dec ((solved n cs no_budget).tries ≤ b) → is_spent (solved n cs (up_to b)).answer ≡ true → b < (solved n cs no_budget).tries
      to (yes l) e = absurd (true≢false (sym e ∙ ap (λ (o : Outcome). is_spent o.answer) ((search_budget n cs b).0 l) ∙ never_spent))
      to (no l) e = omega arith

  -- within the budget it is the same search: answer, values and tries
  pub budget_same : (b : ℕ) → (solved n cs no_budget).tries ≤ b → solved n cs (up_to b) ≡ solved n cs no_budget
  budget_same b = (search_budget n cs b).0

  -- and a search that is SPENT made as many tries as its budget
  pub spent_tries : (b : ℕ) → is_spent (solved n cs (up_to b)).answer ≡ true → (solved n cs (up_to b)).tries ≡ b
  spent_tries b e = ap (λ (o : Outcome). o.tries) ((search_budget n cs b).1 ((spent_iff b).0 e))

  -- A search that sets units in any order, and goes back from a conflict as soon as it meets one, comes to the same answer,
  -- the same values and as many tries.
  pub any_order : {a : Answer} {r : ℕ} → Any n cs [] 0 a r
      → (declared_answer a ≡ declared_answer (solved n cs no_budget).answer) × (values_left n a ≡ values_left n (solved n cs no_budget).answer) × (r ≡ (solved n cs no_budget).tries)
  any_order {a} d =
      let o = order_free n cs w d in
      (alike_code a (solved n cs no_budget).answer o.answers, alike_values n a (solved n cs no_budget).answer o.answers, o.tries)

-- Words that SOLVE does not refuse are clauses over 1..n.
pub accepted_within : (n : ℕ) (words : List ℤ) → bad_word n 0 false words ≡ None → Within n (clauses_of words)
accepted_within n words e = within_words n words (good_words n 0 false words e).0
