-- The search ends, its answers are right, its tries are at most 2^(n+1)-2; what a budget does.
use mathlib.Core.Path.{◌≡◌, refl, ap, ◌∙◌}
use mathlib.Core.Bool.{Bool, true, false}
use mathlib.Core.List.{List, []}
use Prim.Native.Nat.{ℕ, zero, suc, ◌+◌, ◌-◌, ◌^◌, ◌<◌, ◌≤◌}
use native.Mathlib.Omega.{arith}
use native.Mathlib.Nat.{le_refl}
use lib.Dec.{ltb}
use lib.Pow.{pow_pos}
use borrow.Author.Tests.{ltb-true, ltb-false}
use Rattle.clauses.specs.Literal.{Clause}
use Rattle.clauses.specs.Meaning.{Assignment, satisfies, Within}
use Rattle.search.specs.Search.{Turn, sets, takes, satisfied, refuted, turn, Budget, no_budget, up_to, allows, Answer, SAT, UNSAT, SPENT, Outcome, run, solved, Ends, unit_set, try_made, budget_spent, all_set, no_branch}
use Rattle.search.proofs.Scans.{AllSet, made}
use Rattle.search.proofs.Counting.{count_none, ahead}
use Rattle.search.proofs.Sound.{Ok, turn_ok}

-- what an answer says
abbrev pub Says : ℕ → List Clause → Answer → Type 0
Says n cs (SAT ss) = AllSet n ss × (satisfies (made ss) cs ≡ true)
Says n cs UNSAT = (ρ : Assignment) → satisfies ρ cs ≡ true → ⊥
Says n cs SPENT = ⊥

pub record Right (n : ℕ) (cs : List Clause) (t m : ℕ) (o : Outcome) : Type 0 where
  pub says : Says n cs o.answer
  pub least : t ≤ o.tries
  pub most : o.tries ≤ t + m

pub run_ok : (n : ℕ) (cs : List Clause) → Within n cs → (f m t : ℕ) (x : Turn) → Ok n cs m x → m < f → Right n cs t m (run f n cs no_budget t x)
run_ok n cs w zero m t x o h = absurd (omega arith)
run_ok n cs w (suc f) m t (sets ss) o h =
    let r = run_ok n cs w f (ahead n ss) t (turn n cs ss) (turn_ok n cs ss w o.0) (omega (arith, o.1)) in
    record { says = r.says; least = r.least; most = omega (arith, r.most, o.1) }
run_ok n cs w (suc f) m t (takes ss) o h =
    let r = run_ok n cs w f (ahead n ss) (suc t) (turn n cs ss) (turn_ok n cs ss w o.0) (omega (arith, o.1)) in
    record { says = r.says; least = omega (arith, r.least); most = omega (arith, r.most, o.1) }
run_ok n cs w (suc f) m t (satisfied ss) o h = record { says = o; least = le_refl t; most = omega arith }
run_ok n cs w (suc f) m t refuted o h = record { says = o; least = le_refl t; most = omega arith }

-- the counted turns are such turns
run_ends : (n : ℕ) (cs : List Clause) → Within n cs → (b : Budget) (f m t : ℕ) (x : Turn) → Ok n cs m x → m < f → Ends n cs b t x (run f n cs b t x)
run_ends n cs w b zero m t x o h = absurd (omega arith)
run_ends n cs w b (suc f) m t (sets ss) o h = unit_set (run_ends n cs w b f (ahead n ss) t (turn n cs ss) (turn_ok n cs ss w o.0) (omega (arith, o.1)))
run_ends n cs w b (suc f) m t (takes ss) o h =
    go (allows b t) refl (run_ends n cs w b f (ahead n ss) (suc t) (turn n cs ss) (turn_ok n cs ss w o.0) (omega (arith, o.1)))
  where
    go : (a : Bool) → allows b t ≡ a → Ends n cs b (suc t) (turn n cs ss) (run f n cs b (suc t) (turn n cs ss))
        → Ends n cs b t (takes ss) (elim a [ true ↦ run f n cs b (suc t) (turn n cs ss) | false ↦ record { answer = SPENT; tries = t } ])
    go true e d = try_made e d
    go false e d = budget_spent e
run_ends n cs w b (suc f) m t (satisfied ss) o h = all_set
run_ends n cs w b (suc f) m t refuted o h = no_branch

-- the first turn, and the count of turns that `solved` allows
start_ahead : (n : ℕ) → ahead n [] ≡ 2 ^ suc n - 2
start_ahead n =
    let l = count_none 1 n in
    ap (λ (k : ℕ). (2 ^ suc k - 2) + 0) l ∙ (let r : (2 ^ suc n - 2) + 0 ≡ 2 ^ suc n - 2 = omega arith in r)

start_ok : (n : ℕ) (cs : List Clause) → Within n cs → Ok n cs (2 ^ suc n - 2) (turn n cs [])
start_ok n cs w = rw (start_ahead n) at (turn_ok n cs [] w tt)

pub start_falls : (n : ℕ) → ahead n [] < 2 ^ suc n
start_falls n =
    let e = start_ahead n in
    let p = pow_pos (suc n) in
    omega arith

enough : (n : ℕ) → 2 ^ suc n - 2 < 2 ^ suc n
enough n = let p = pow_pos (suc n) in omega arith

pub solved_ends : (n : ℕ) (cs : List Clause) (b : Budget) → Within n cs → Ends n cs b 0 (turn n cs []) (solved n cs b)
unfolding solved
solved_ends n cs b w = run_ends n cs w b (2 ^ suc n) (2 ^ suc n - 2) 0 (turn n cs []) (start_ok n cs w) (enough n)

-- with no budget the answer is right
pub search_right : (n : ℕ) (cs : List Clause) → Within n cs → Right n cs 0 (2 ^ suc n - 2) (solved n cs no_budget)
unfolding solved
search_right n cs w = run_ok n cs w (2 ^ suc n) (2 ^ suc n - 2) 0 (turn n cs []) (start_ok n cs w) (enough n)

-- with a budget: the same answer and tries where these are within it, else SPENT with the budget as the tries
abbrev pub Budgeted : ℕ → Outcome → Outcome → Type 0
Budgeted b o p = (o.tries ≤ b → p ≡ o) × (b < o.tries → p ≡ record { answer = SPENT; tries = b })

pub tried_least : (f n : ℕ) (cs : List Clause) (t : ℕ) (x : Turn) → t ≤ (run f n cs no_budget t x).tries
tried_least zero n cs t x = le_refl t
tried_least (suc f) n cs t (sets ss) = tried_least f n cs t (turn n cs ss)
tried_least (suc f) n cs t (takes ss) = let h = tried_least f n cs (suc t) (turn n cs ss) in omega arith
tried_least (suc f) n cs t (satisfied ss) = le_refl t
tried_least (suc f) n cs t refuted = le_refl t

run_budget : (f n : ℕ) (cs : List Clause) (b t : ℕ) (x : Turn) → t ≤ b → Budgeted b (run f n cs no_budget t x) (run f n cs (up_to b) t x)
run_budget zero n cs b t x h = ((λ _. refl), λ k. absurd (omega arith))
run_budget (suc f) n cs b t (sets ss) h = run_budget f n cs b t (turn n cs ss) h
run_budget (suc f) n cs b t (takes ss) h = go (ltb t b) refl (run_budget f n cs b (suc t) (turn n cs ss)) (tried_least f n cs (suc t) (turn n cs ss))
  where
    go : (a : Bool) → ltb t b ≡ a → (suc t ≤ b → Budgeted b (run f n cs no_budget (suc t) (turn n cs ss)) (run f n cs (up_to b) (suc t) (turn n cs ss)))
        → suc t ≤ (run f n cs no_budget (suc t) (turn n cs ss)).tries
        → Budgeted b (run f n cs no_budget (suc t) (turn n cs ss)) (elim a [ true ↦ run f n cs (up_to b) (suc t) (turn n cs ss) | false ↦ record { answer = SPENT; tries = t } ])
    go true e r l = r (ltb-true t b e)
    go false e r l =
        let k = ltb-false t b e in
        let q : t ≡ b = omega arith in
        ((λ z. absurd (omega arith)), λ z. ap {B = Outcome} (λ (y : ℕ). record { answer = SPENT; tries = y }) q)
run_budget (suc f) n cs b t (satisfied ss) h = ((λ _. refl), λ k. absurd (omega arith))
run_budget (suc f) n cs b t refuted h = ((λ _. refl), λ k. absurd (omega arith))

-- A BUDGET: SPENT exactly when the tries with no budget exceed it
pub search_budget : (n : ℕ) (cs : List Clause) (b : ℕ) → Budgeted b (solved n cs no_budget) (solved n cs (up_to b))
unfolding solved
search_budget n cs b = run_budget (2 ^ suc n) n cs b 0 (turn n cs []) (omega arith)
