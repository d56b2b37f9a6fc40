-- The values that SOLVE leaves on SAT.
use mathlib.Core.Path.{◌≡◌, refl, ap, ap₂, ◌∙◌}
use mathlib.Core.Bool.{true, false, not, ◌&&◌, ◌||◌}
use mathlib.Core.List.{List, [], ◌∷◌}
use Prim.Native.Nat.{ℕ, zero, suc, ◌+◌, ◌-◌, ◌<◌, ◌≤◌}
use native.Mathlib.Omega.{arith}
use lib.Dec.{eqb}
use lib.ListN.{length, get_or}
use Rattle.clauses.specs.Literal.{Literal, positive, negative, variable_of, Clause}
use Rattle.clauses.specs.Meaning.{Assignment, literal_true, clause_true, satisfies, ClauseWithin, Within}
use Rattle.search.specs.Search.{Value, unset, is, Settings, value_of}
use Rattle.search.specs.Solve.{bit_of, values_from, assigned}
use Rattle.search.proofs.Scans.{is_true, made}

pub length_from : (ss : Settings) (v k : ℕ) → length (values_from ss v k) ≡ k
length_from ss v zero = refl
length_from ss v (suc k) = ap suc (length_from ss (suc v) k)

pub get_d_from : (ss : Settings) (v k i : ℕ) → i < k → get_or (values_from ss v k) i 0 ≡ bit_of (value_of ss (v + i))
get_d_from ss v zero i l = absurd (omega arith)
get_d_from ss v (suc k) zero l = ap (λ (x : ℕ). bit_of (value_of ss x)) (let e : v ≡ v + 0 = omega arith in e)
get_d_from ss v (suc k) (suc i) l =
    get_d_from ss (suc v) k i (omega arith) ∙ ap (λ (x : ℕ). bit_of (value_of ss x)) (let e : suc v + i ≡ v + suc i = omega arith in e)

-- assignments that agree on 1..n satisfy the same clauses over 1..n
Agree : ℕ → Assignment → Assignment → Type 0
Agree n ρ τ = (v : ℕ) → 0 < v → v ≤ n → ρ v ≡ τ v

literal_agree : (n : ℕ) (ρ τ : Assignment) → Agree n ρ τ → (l : Literal) → 0 < variable_of l → variable_of l ≤ n → literal_true ρ l ≡ literal_true τ l
unfolding Agree
literal_agree n ρ τ h (positive v) a b = h v a b
literal_agree n ρ τ h (negative v) a b = ap not (h v a b)

clause_agree : (n : ℕ) (ρ τ : Assignment) → Agree n ρ τ → (c : Clause) → ClauseWithin n c → clause_true ρ c ≡ clause_true τ c
clause_agree n ρ τ h [] w = refl
clause_agree n ρ τ h (l ∷ ls) w = ap₂ ◌||◌ (literal_agree n ρ τ h l w.0.0 w.0.1) (clause_agree n ρ τ h ls w.1)

satisfies_agree : (n : ℕ) (ρ τ : Assignment) → Agree n ρ τ → (cs : List Clause) → Within n cs → satisfies ρ cs ≡ satisfies τ cs
satisfies_agree n ρ τ h [] w = refl
satisfies_agree n ρ τ h (c ∷ cs) w = ap₂ ◌&&◌ (clause_agree n ρ τ h c w.0) (satisfies_agree n ρ τ h cs w.1)

true_bit : (x : Value) → eqb (bit_of x) 1 ≡ is_true x
true_bit unset = refl
true_bit (is true) = refl
true_bit (is false) = refl

-- the bytes give the assignment of the settings
pub values_satisfy : (n : ℕ) (ss : Settings) (cs : List Clause) → Within n cs → satisfies (made ss) cs ≡ true → satisfies (assigned (values_from ss 1 n)) cs ≡ true
unfolding Agree
values_satisfy n ss cs w h =
    satisfies_agree n (assigned (values_from ss 1 n)) (made ss) (λ v a b.
    ap (λ (x : ℕ). eqb x 1) (get_d_from ss 1 n (v - 1) (omega arith) ∙ ap (λ (u : ℕ). bit_of (value_of ss u)) (let e : 1 + (v - 1) ≡ v = omega arith in e)) ∙ true_bit (value_of ss v)) cs w ∙ h
