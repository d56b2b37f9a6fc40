-- Searches that set units in any order come to the same answer, values and tries.
use mathlib.Core.Path.{◌≡◌, refl, sym, ap, ap₂, ◌∙◌, subst, subst₂}
use mathlib.Core.Bool.{Bool, true, false, cond}
use mathlib.Core.List.{List, [], ◌∷◌}
use Prim.Native.Nat.{ℕ, zero, suc, ◌^◌, ◌<◌, ◌≤◌}
use native.Mathlib.Omega.{arith}
use native.Mathlib.Nat.{le_refl}
use lib.Dec.{eqb}
use Rattle.std.specs.Prelude.{Option, None, Some}
use Rattle.clauses.specs.Literal.{Literal, positive, negative, Clause}
use Rattle.clauses.specs.Meaning.{Within}
use Rattle.search.specs.Search.{Value, is, Setting, Settings, Values, value_of, conflict, is_unset, lowest_unset, Turn, sets, takes, satisfied, refuted, forced, branch_false, branch_true, undo, branch, turn, no_budget, up_to, Answer, SAT, UNSAT, SPENT, Outcome, run, solved}
use Rattle.search.specs.Answers.{declared_answer}
use Rattle.search.specs.Solve.{bit_of, values_from, values_left}
use Rattle.search.specs.AnyOrder.{IsUnit, Quiet, Settles, done, more, Move, by_conflict, by_unit, by_branch}
use Rattle.search.proofs.Counting.{ahead}
use Rattle.search.proofs.Sound.{Good, Ok, turn_move, turn_ok}
use Rattle.search.proofs.Ending.{start_falls, tried_least, search_budget}
use Rattle.search.proofs.Closure.{Same, same_sym, calm_all, one_closure}

-- a search that sets units in any order, and goes back from any conflict it meets: from settings, after t tries, it comes to an answer after r
pub data Any (n : ℕ) (cs : List Clause) : Settings → ℕ → Answer → ℕ → Type 0 where
  back : {ss ss₁ ss₂ : Settings} {t r : ℕ} {a : Answer} → Settles cs ss ss₁ → conflict (value_of ss₁) cs ≡ true → undo ss₁ ≡ takes ss₂ → Any n cs ss₂ (suc t) a r → Any n cs ss t a r
  stop : {ss ss₁ : Settings} {t : ℕ} → Settles cs ss ss₁ → conflict (value_of ss₁) cs ≡ true → undo ss₁ ≡ refuted → Any n cs ss t UNSAT t
  split : {ss ss₁ : Settings} {t r v : ℕ} {a : Answer} → Settles cs ss ss₁ → Quiet (value_of ss₁) cs → lowest_unset (value_of ss₁) 1 n ≡ Some v → Any n cs (branch_false v ∷ ss₁) (suc t) a r → Any n cs ss t a r
  full : {ss ss₁ : Settings} {t : ℕ} → Settles cs ss ss₁ → Quiet (value_of ss₁) cs → lowest_unset (value_of ss₁) 1 n ≡ None → Any n cs ss t (SAT ss₁) t

-- trails with the same branches at their first value, over the same values
data Twin : Settings → Settings → Type 0 where
  end : {ss ts : Settings} → undo ss ≡ refuted → undo ts ≡ refuted → Twin ss ts
  fork : {ss ts ss₁ ts₁ : Settings} {v : ℕ} → undo ss ≡ takes (branch_true v ∷ ss₁) → undo ts ≡ takes (branch_true v ∷ ts₁) → Same ss₁ ts₁ → Twin ss₁ ts₁ → Twin ss ts

undo_forced : (l : Literal) (ss : Settings) → undo (forced l ∷ ss) ≡ undo ss
undo_forced (positive v) ss = refl
undo_forced (negative v) ss = refl

undo_settles : (cs : List Clause) {ss ss₁ : Settings} → Settles cs ss ss₁ → undo ss₁ ≡ undo ss
undo_settles cs done = refl
undo_settles cs {ss} (more l u s) = undo_settles cs s ∙ undo_forced l ss

twin_over : {ss ts ss₁ ts₁ : Settings} → undo ss₁ ≡ undo ss → undo ts₁ ≡ undo ts → Twin ss ts → Twin ss₁ ts₁
twin_over p q (end a b) = end (p ∙ a) (q ∙ b)
twin_over p q (fork a b s t) = fork (p ∙ a) (q ∙ b) s t

twin_settles : (cs : List Clause) {ss ts ss₁ ts₁ : Settings} → Settles cs ss ss₁ → Settles cs ts ts₁ → Twin ss ts → Twin ss₁ ts₁
twin_settles cs {ss} {ts} {ss₁} {ts₁} s r w = twin_over {ss = ss} {ts = ts} {ss₁ = ss₁} {ts₁ = ts₁} (undo_settles cs s) (undo_settles cs r) w

same_more : (s : Setting) (ss ts : Settings) → Same ss ts → Same (s ∷ ss) (s ∷ ts)
same_more s ss ts h v = ap (cond (eqb v s.variable) (is s.value)) (h v)

-- answers that say the same
abbrev pub Alike : Answer → Answer → Type 0
Alike (SAT ss) (SAT ts) = Same ss ts
Alike (SAT ss) UNSAT = ⊥
Alike (SAT ss) SPENT = ⊥
Alike UNSAT (SAT ts) = ⊥
Alike UNSAT UNSAT = Unit {0}
Alike UNSAT SPENT = ⊥
Alike SPENT (SAT ts) = ⊥
Alike SPENT UNSAT = ⊥
Alike SPENT SPENT = Unit {0}

lowest_same : (σ τ : Values) → ((v : ℕ) → σ v ≡ τ v) → (v k : ℕ) → lowest_unset σ v k ≡ lowest_unset τ v k
lowest_same σ τ h v zero = refl
lowest_same σ τ h v (suc k) = ap₂ (λ (x : Value) (y : Option ℕ). cond (is_unset x) (Some v) y) (h v) (lowest_same σ τ h (suc v) k)

undo_branch : (v : ℕ) (ss : Settings) → undo (branch_false v ∷ ss) ≡ takes (branch_true v ∷ ss)
undo_branch v ss = refl

tries_inj : {ss ts : Settings} → takes ss ≡ takes ts → ss ≡ ts
tries_inj e = cc

tries_unsat : {ss : Settings} → takes ss ≡ refuted → ⊥
tries_unsat e = let z : ◌≡◌ {A = ℕ} 0 1 = cc in omega arith

some_inj : {u v : ℕ} → Some u ≡ Some v → u ≡ v
some_inj e = cc

some_none : {u : ℕ} → Some u ≡ None → ⊥
some_none e = let z : ◌≡◌ {A = ℕ} 0 1 = cc in omega arith

-- two searches that undo
record Undone₂ (ss₂ ts₂ : Settings) : Type 0 where
  same : Same ss₂ ts₂
  twin : Twin ss₂ ts₂

both_undo : {ss₁ ts₁ ss₂ ts₂ : Settings} → Twin ss₁ ts₁ → undo ss₁ ≡ takes ss₂ → undo ts₁ ≡ takes ts₂ → Undone₂ ss₂ ts₂
both_undo (end a b) p q = absurd (tries_unsat (sym p ∙ a))
both_undo {ss₂ = ss₂} {ts₂ = ts₂} (fork {ss₁ = ss₁} {ts₁ = ts₁} {v = v} a b s t) p q =
    let x : branch_true v ∷ ss₁ ≡ ss₂ = tries_inj (sym a ∙ p) in
    let y : branch_true v ∷ ts₁ ≡ ts₂ = tries_inj (sym b ∙ q) in
    subst (λ (z : Settings). Undone₂ ss₂ z) y (subst (λ (z : Settings). Undone₂ z (branch_true v ∷ ts₁)) x
    (record { same = same_more (branch_true v) ss₁ ts₁ s; twin = twin_over refl refl t }))

one_undo : {ss₁ ts₁ ss₂ : Settings} → Twin ss₁ ts₁ → undo ss₁ ≡ takes ss₂ → undo ts₁ ≡ refuted → ⊥
one_undo (end a b) p q = tries_unsat (sym p ∙ a)
one_undo (fork a b s t) p q = tries_unsat (sym b ∙ q)

other_undo : {ss₁ ts₁ ts₂ : Settings} → Twin ss₁ ts₁ → undo ss₁ ≡ refuted → undo ts₁ ≡ takes ts₂ → ⊥
other_undo (end a b) p q = tries_unsat (sym q ∙ b)
other_undo (fork a b s t) p q = tries_unsat (sym a ∙ p)

pub record Agreed (a b : Answer) (r q : ℕ) : Type 0 where
  pub answers : Alike a b
  pub tries : r ≡ q

-- any two such searches agree
any_same : (n : ℕ) (cs : List Clause) {ss ts : Settings} {t r q : ℕ} {a b : Answer} → Any n cs ss t a r → Any n cs ts t b q → Same ss ts → Twin ss ts → Agreed a b r q
any_same n cs (back s c u d) (back s' c' u' d') h w =
    let k = both_undo (twin_settles cs s s' w) u u' in
    any_same n cs d d' k.same k.twin
any_same n cs (back s c u d) (stop s' c' u') h w = absurd (one_undo (twin_settles cs s s' w) u u')
any_same n cs {ss} {ts} (back s c u d) (split s' k' l' d') h w = absurd (calm_all cs (same_sym ss ts h) s' k' s c)
any_same n cs {ss} {ts} (back s c u d) (full s' k' l') h w = absurd (calm_all cs (same_sym ss ts h) s' k' s c)
any_same n cs (stop s c u) (back s' c' u' d') h w = absurd (other_undo (twin_settles cs s s' w) u u')
any_same n cs (stop s c u) (stop s' c' u') h w = record { answers = tt; tries = refl }
any_same n cs {ss} {ts} (stop s c u) (split s' k' l' d') h w = absurd (calm_all cs (same_sym ss ts h) s' k' s c)
any_same n cs {ss} {ts} (stop s c u) (full s' k' l') h w = absurd (calm_all cs (same_sym ss ts h) s' k' s c)
any_same n cs (split s k l d) (back s' c' u' d') h w = absurd (calm_all cs h s k s' c')
any_same n cs (split s k l d) (stop s' c' u') h w = absurd (calm_all cs h s k s' c')
any_same n cs {t = t} {r = r} {q = q} {a = a} {b = b} (split {ss₁ = ss₁} {v = v} s k l d) (split {ss₁ = ts₁} {v = v'} s' k' l' d') h w =
    let e : Same ss₁ ts₁ = one_closure cs h s k s' k' in
    let m : v' ≡ v = some_inj (sym l' ∙ sym (lowest_same (value_of ss₁) (value_of ts₁) e 1 n) ∙ l) in
    any_same n cs d (subst (λ (x : ℕ). Any n cs (branch_false x ∷ ts₁) (suc t) b q) m d')
    (same_more (branch_false v) ss₁ ts₁ e) (fork (undo_branch v ss₁) (undo_branch v ts₁) e (twin_settles cs s s' w))
any_same n cs (split {ss₁ = ss₁} s k l d) (full {ss₁ = ts₁} s' k' l') h w =
    absurd (some_none (sym l ∙ lowest_same (value_of ss₁) (value_of ts₁) (one_closure cs h s k s' k') 1 n ∙ l'))
any_same n cs (full s k l) (back s' c' u' d') h w = absurd (calm_all cs h s k s' c')
any_same n cs (full s k l) (stop s' c' u') h w = absurd (calm_all cs h s k s' c')
any_same n cs (full {ss₁ = ss₁} s k l) (split {ss₁ = ts₁} s' k' l' d') h w =
    absurd (some_none (sym l' ∙ sym (lowest_same (value_of ss₁) (value_of ts₁) (one_closure cs h s k s' k') 1 n) ∙ l))
any_same n cs (full s k l) (full s' k' l') h w = record { answers = one_closure cs h s k s' k'; tries = refl }

-- a move, and a search after it
abbrev pub AnyAfter : ℕ → List Clause → ℕ → Turn → Answer → ℕ → Type 0
AnyAfter n cs t (sets ss) a r = Any n cs ss t a r
AnyAfter n cs t (takes ss) a r = Any n cs ss (suc t) a r
AnyAfter n cs t (satisfied ss) a r = (a ≡ SAT ss) × (r ≡ t)
AnyAfter n cs t refuted a r = (a ≡ UNSAT) × (r ≡ t)

any_unit : (n : ℕ) (cs : List Clause) {ss : Settings} {t r : ℕ} {a : Answer} (l : Literal) → IsUnit (value_of ss) cs l → Any n cs (forced l ∷ ss) t a r → Any n cs ss t a r
any_unit n cs l u (back s c w d) = back (more l u s) c w d
any_unit n cs l u (stop s c w) = stop (more l u s) c w
any_unit n cs l u (split s k w d) = split (more l u s) k w d
any_unit n cs l u (full s k w) = full (more l u s) k w

-- an undo takes a try, or ends the search
abbrev Undoes : Turn → Type 0
Undoes (sets ss) = ⊥
Undoes (takes ss) = Unit {0}
Undoes (satisfied ss) = ⊥
Undoes refuted = Unit {0}

undoes : (ss : Settings) → Undoes (undo ss)
undoes [] = tt
undoes (s ∷ ss) = go s.first (undoes ss)
  where
    go : (b : Bool) → Undoes (undo ss) → Undoes (cond b (takes (branch_true s.variable ∷ ss)) (undo ss))
    go true u = tt
    go false u = u

module _ (n : ℕ) (cs : List Clause) (ss : Settings) (t r : ℕ) (a : Answer) where
  any_undo : (x : Turn) → undo ss ≡ x → Undoes x → conflict (value_of ss) cs ≡ true → AnyAfter n cs t x a r → Any n cs ss t a r
  any_undo (sets s₁) e u c d = absurd u
  any_undo (takes s₁) e u c d = back done c e d
  any_undo (satisfied s₁) e u c d = absurd u
  any_undo refuted e u c d = subst₂ (Any n cs ss t) (sym d.0) (sym d.1) (stop done c e)

  any_branch : (p : Option ℕ) → lowest_unset (value_of ss) 1 n ≡ p → Quiet (value_of ss) cs → AnyAfter n cs t (branch ss p) a r → Any n cs ss t a r
  any_branch None e q d = subst₂ (Any n cs ss t) (sym d.0) (sym d.1) (full done q e)
  any_branch (Some v) e q d = split done q e d

  pub any_step : {x : Turn} → Move n cs ss x → AnyAfter n cs t x a r → Any n cs ss t a r
  any_step (by_conflict c) d = any_undo (undo ss) refl (undoes ss) c d
  any_step (by_unit l u) d = any_unit n cs l u d
  any_step (by_branch q) d = any_branch (lowest_unset (value_of ss) 1 n) refl q d

-- document 01's own search is one of them
pub run_any : (n : ℕ) (cs : List Clause) → Within n cs → (f t : ℕ) (ss : Settings) → Good n cs ss → ahead n ss < f
    → Any n cs ss t (run f n cs no_budget t (turn n cs ss)).answer (run f n cs no_budget t (turn n cs ss)).tries
run_any n cs w zero t ss g h = absurd (omega arith)
run_any n cs w (suc f) t ss g h =
    any_step n cs ss t _ _ (turn_move n cs ss) (go (turn n cs ss) (turn_ok n cs ss w g) (run_any n cs w f))
  where
    go : (x : Turn) → Ok n cs (ahead n ss) x
        → ((u : ℕ) (s₁ : Settings) → Good n cs s₁ → ahead n s₁ < f → Any n cs s₁ u (run f n cs no_budget u (turn n cs s₁)).answer (run f n cs no_budget u (turn n cs s₁)).tries)
        → AnyAfter n cs t x (run (suc f) n cs no_budget t x).answer (run (suc f) n cs no_budget t x).tries
    go (sets s₁) o rec = rec t s₁ o.0 (omega (arith, o.1))
    go (takes s₁) o rec = rec (suc t) s₁ o.0 (omega (arith, o.1))
    go (satisfied s₁) o rec = (refl, refl)
    go refuted o rec = (refl, refl)

pub solved_any : (n : ℕ) (cs : List Clause) → Within n cs → Any n cs [] 0 (solved n cs no_budget).answer (solved n cs no_budget).tries
unfolding solved
solved_any n cs w = run_any n cs w (2 ^ suc n) 0 [] tt (start_falls n)

-- The order of unit settings changes neither the answer, the values on SAT nor the tries.
pub order_free : (n : ℕ) (cs : List Clause) → Within n cs → {a : Answer} {r : ℕ} → Any n cs [] 0 a r → Agreed a (solved n cs no_budget).answer r (solved n cs no_budget).tries
order_free n cs w d = any_same n cs d (solved_any n cs w) (λ v. refl) (end refl refl)

values_same : (ss ts : Settings) → Same ss ts → (v k : ℕ) → values_from ss v k ≡ values_from ts v k
values_same ss ts h v zero = refl
values_same ss ts h v (suc k) = ap₂ ◌∷◌ (ap bit_of (h v)) (values_same ss ts h (suc v) k)

pub alike_values : (n : ℕ) (a b : Answer) → Alike a b → values_left n a ≡ values_left n b
alike_values n (SAT ss) (SAT ts) h = values_same ss ts h 1 n
alike_values n (SAT ss) UNSAT h = absurd h
alike_values n (SAT ss) SPENT h = absurd h
alike_values n UNSAT (SAT ts) h = absurd h
alike_values n UNSAT UNSAT h = refl
alike_values n UNSAT SPENT h = absurd h
alike_values n SPENT (SAT ts) h = absurd h
alike_values n SPENT UNSAT h = absurd h
alike_values n SPENT SPENT h = refl

-- a program that sets units in its own order: what it reaches from its settings, after t tries, the search reaches from nothing
abbrev pub Joins : ℕ → List Clause → Settings → ℕ → Type 0
Joins n cs ss t = (a : Answer) (r : ℕ) → Any n cs ss t a r → Any n cs [] 0 a r

pub joins_move : (n : ℕ) (cs : List Clause) (ss : Settings) (t : ℕ) → Joins n cs ss t → {x : Turn} → Move n cs ss x → (a : Answer) (r : ℕ) → AnyAfter n cs t x a r → Any n cs [] 0 a r
joins_move n cs ss t j m a r d = j a r (any_step n cs ss t r a m d)

pub record Comes (n : ℕ) (cs : List Clause) (b : ℕ) (a : Answer) (r : ℕ) : Type 0 where
  pub code : declared_answer (solved n cs (up_to b)).answer ≡ declared_answer a
  pub tries : (solved n cs (up_to b)).tries ≡ r
  pub values : values_left n (solved n cs (up_to b)).answer ≡ values_left n a

pub alike_code : (a b : Answer) → Alike a b → declared_answer a ≡ declared_answer b
alike_code (SAT ss) (SAT ts) h = refl
alike_code (SAT ss) UNSAT h = absurd h
alike_code (SAT ss) SPENT h = absurd h
alike_code UNSAT (SAT ts) h = absurd h
alike_code UNSAT UNSAT h = refl
alike_code UNSAT SPENT h = absurd h
alike_code SPENT (SAT ts) h = absurd h
alike_code SPENT UNSAT h = absurd h
alike_code SPENT SPENT h = refl

-- it ends within the budget
pub any_ends : (n : ℕ) (cs : List Clause) → Within n cs → (b : ℕ) {a : Answer} {r : ℕ} → Any n cs [] 0 a r → r ≤ b → Comes n cs b a r
any_ends n cs w b {a} {r} d l =
    let o = order_free n cs w d in
    let q = o.tries in
    let e : solved n cs (up_to b) ≡ solved n cs no_budget = (search_budget n cs b).0 (omega arith) in
    record {
      code = ap (λ (x : Outcome). declared_answer x.answer) e ∙ sym (alike_code a (solved n cs no_budget).answer o.answers);
      tries = ap (λ (x : Outcome). x.tries) e ∙ sym q;
      values = ap (λ (x : Outcome). values_left n x.answer) e ∙ sym (alike_values n a (solved n cs no_budget).answer o.answers);
    }

-- a try beyond the budget is due
pub any_spends : (n : ℕ) (cs : List Clause) → Within n cs → (b : ℕ) (ss : Settings) → Good n cs ss → Joins n cs ss (suc b) → solved n cs (up_to b) ≡ record { answer = SPENT; tries = b }
any_spends n cs w b ss g j =
    let x = run (suc (ahead n ss)) n cs no_budget (suc b) (turn n cs ss) in
    let d = j x.answer x.tries (run_any n cs w (suc (ahead n ss)) (suc b) ss g (le_refl (suc (ahead n ss)))) in
    let o = order_free n cs w d in
    let q = o.tries in
    let l = tried_least (suc (ahead n ss)) n cs (suc b) (turn n cs ss) in
    (search_budget n cs b).1 (omega arith)
