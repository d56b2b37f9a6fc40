-- How many variables are unset, and how many tries can come.
use mathlib.Core.Path.{◌≡◌, refl, sym, ap, ap₂, ◌∙◌}
use mathlib.Core.Bool.{Bool, true, false, cond}
use mathlib.Core.List.{[], ◌∷◌}
use Prim.Native.Nat.{ℕ, zero, suc, ◌+◌, ◌*◌, ◌-◌, ◌^◌, ◌<◌, ◌≤◌}
use native.Mathlib.Omega.{arith}
use native.Mathlib.Nat.{pow-suc}
use lib.Dec.{eqb}
use lib.Pow.{pow_pos}
use borrow.Author.Tests.{eqb-true, eqb-false, eq-eqb, ne_eqb}
use Rattle.search.specs.Search.{Value, unset, is, Setting, Settings, value_of, is_unset}
use Rattle.search.specs.Memory.{bit, unset_count}

pub count_none : (v k : ℕ) → unset_count [] v k ≡ k
count_none v zero = refl
count_none v (suc k) = let h = count_none (suc v) k in omega arith

pub value_of_other : (s : Setting) (ss : Settings) (v : ℕ) → (v ≡ s.variable → ⊥) → value_of (s ∷ ss) v ≡ value_of ss v
value_of_other s ss v h = rw (ne_eqb v s.variable h)

pub value_of_same : (s : Setting) (ss : Settings) (v : ℕ) → v ≡ s.variable → value_of (s ∷ ss) v ≡ is s.value
value_of_same s ss v h = rw (eq-eqb v s.variable h)

pub count_past : (s : Setting) (ss : Settings) (v k : ℕ) → s.variable < v → unset_count (s ∷ ss) v k ≡ unset_count ss v k
count_past s ss v zero h = refl
count_past s ss v (suc k) h =
    ap₂ (λ (x : Value) (y : ℕ). bit (is_unset x) + y) (value_of_other s ss v (λ e. omega arith)) (count_past s ss (suc v) k (omega arith))

pub count_set : (s : Setting) (ss : Settings) (v k : ℕ) → value_of ss s.variable ≡ unset → v ≤ s.variable → s.variable < v + k → suc (unset_count (s ∷ ss) v k) ≡ unset_count ss v k
count_set s ss v zero u a b = absurd (omega arith)
count_set s ss v (suc k) u a b = go (eqb v s.variable) refl (count_set s ss (suc v) k u)
  where
    go : (t : Bool) → eqb v s.variable ≡ t → (suc v ≤ s.variable → s.variable < suc v + k → suc (unset_count (s ∷ ss) (suc v) k) ≡ unset_count ss (suc v) k) → suc (unset_count (s ∷ ss) v (suc k)) ≡ unset_count ss v (suc k)
    go true e r =
        let q = eqb-true v s.variable e in
        let p : unset_count (s ∷ ss) (suc v) k ≡ unset_count ss (suc v) k = count_past s ss (suc v) k (omega arith) in
        let x : value_of ss v ≡ unset = ap (value_of ss) q ∙ u in
        let y : value_of (s ∷ ss) v ≡ is s.value = value_of_same s ss v q in
        let z : bit (is_unset (value_of ss v)) ≡ 1 = ap (λ (w : Value). bit (is_unset w)) x in
        let z' : bit (is_unset (value_of (s ∷ ss) v)) ≡ 0 = ap (λ (w : Value). bit (is_unset w)) y in
        omega arith
    go false e r =
        let ne = eqb-false v s.variable e in
        let h = r (omega arith) (omega arith) in
        let z : bit (is_unset (value_of (s ∷ ss) v)) ≡ bit (is_unset (value_of ss v)) = ap (λ (w : Value). bit (is_unset w)) (value_of_other s ss v ne) in
        omega arith

-- tries that are still owed for the branches at their first value, and those that can come at all
abbrev pub owed : ℕ → Settings → ℕ
owed n [] = 0
owed n (s ∷ ss) = cond s.first (2 ^ unset_count ss 1 n - 1) 0 + owed n ss

abbrev pub ahead : ℕ → Settings → ℕ
ahead n ss = (2 ^ suc (unset_count ss 1 n) - 2) + owed n ss

-- arithmetic of the tries: u + 1 unset before, u after
pub falls_set : (u p q w : ℕ) → p ≡ 2 ^ suc u → q ≡ 2 ^ suc (suc u) → (p - 2) + w < (q - 2) + w
falls_set u p q w a b =
    let x : q ≡ p * 2 = b ∙ pow-suc 2 (suc u) ∙ ap (λ (k : ℕ). k * 2) (sym a) in
    let y : p ≡ 2 ^ u * 2 = a ∙ pow-suc 2 u in
    let z = pow_pos u in
    omega arith

pub falls_branch : (u p q w : ℕ) → p ≡ 2 ^ suc u → q ≡ 2 ^ suc (suc u) → (p - 2) + ((p - 1) + w) < (q - 2) + w
falls_branch u p q w a b =
    let x : q ≡ p * 2 = b ∙ pow-suc 2 (suc u) ∙ ap (λ (k : ℕ). k * 2) (sym a) in
    let y : p ≡ 2 ^ u * 2 = a ∙ pow-suc 2 u in
    let z = pow_pos u in
    omega arith

pub falls_undo : (u p w : ℕ) → p ≡ 2 ^ suc u → (2 ^ suc u - 2) + (0 + w) < (p - 1) + w
falls_undo u p w a =
    let y : p ≡ 2 ^ u * 2 = a ∙ pow-suc 2 u in
    let z = pow_pos u in
    omega arith
