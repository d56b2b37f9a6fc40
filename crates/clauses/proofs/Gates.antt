-- What the clauses of gates say of an assignment: each gate's variable is the gate's function of its operands.
use Rattle.std.proofs.Common.{◌≡◌, ℕ, Bool, true, false, cond, not, ◌&&◌, ◌||◌, ◌↔◌, List, [], ◌∷◌, ◌++◌, sym, refl, ◌∙◌}
use mathlib.Core.Bool.{beq}
use Rattle.clauses.specs.Literal.{Literal, positive, negative, negate, Clause}
use Rattle.clauses.specs.Meaning.{Assignment, literal_true, clause_true, satisfies}
use Rattle.clauses.specs.Gate.{Gate, and, xor, mux, gate_clauses, gates_clauses}

abbrev pub differ : Bool → Bool → Bool
differ true b = not b
differ false b = b

abbrev pub gate_variable : Gate → ℕ
gate_variable (and g a b) = g
gate_variable (xor g a b) = g
gate_variable (mux g c a b) = g

abbrev pub gate_value : Assignment → Gate → Bool
gate_value ρ (and g a b) = literal_true ρ a && literal_true ρ b
gate_value ρ (xor g a b) = differ (literal_true ρ a) (literal_true ρ b)
gate_value ρ (mux g c a b) = cond (literal_true ρ c) (literal_true ρ a) (literal_true ρ b)

abbrev pub agree : Assignment → Gate → Bool
agree ρ g = beq (ρ (gate_variable g)) (gate_value ρ g)

pub negate_true : (ρ : Assignment) (l : Literal) → literal_true ρ (negate l) ≡ not (literal_true ρ l)
negate_true ρ (positive v) = refl
negate_true ρ (negative v) = go (ρ v)
  where
    go : (b : Bool) → b ≡ not (not b)
    go true = refl
    go false = refl

and_cases : (g a b : Bool) → (not g || (a || false)) && ((not g || (b || false)) && ((g || (not a || (not b || false))) && true)) ≡ beq g (a && b)
and_cases true true true = refl
and_cases true true false = refl
and_cases true false true = refl
and_cases true false false = refl
and_cases false true true = refl
and_cases false true false = refl
and_cases false false true = refl
and_cases false false false = refl

xor_cases : (g a b : Bool)
    → (not g || (a || (b || false))) && ((not g || (not a || (not b || false))) && ((g || (not a || (b || false))) && ((g || (a || (not b || false))) && true)))
    ≡ beq g (differ a b)
xor_cases true true true = refl
xor_cases true true false = refl
xor_cases true false true = refl
xor_cases true false false = refl
xor_cases false true true = refl
xor_cases false true false = refl
xor_cases false false true = refl
xor_cases false false false = refl

mux_cases : (g c a b : Bool)
    → (not c || (not a || (g || false))) && ((not c || (a || (not g || false))) && ((c || (not b || (g || false))) && ((c || (b || (not g || false))) && true)))
    ≡ beq g (cond c a b)
mux_cases true true true true = refl
mux_cases true true true false = refl
mux_cases true true false true = refl
mux_cases true true false false = refl
mux_cases true false true true = refl
mux_cases true false true false = refl
mux_cases true false false true = refl
mux_cases true false false false = refl
mux_cases false true true true = refl
mux_cases false true true false = refl
mux_cases false true false true = refl
mux_cases false true false false = refl
mux_cases false false true true = refl
mux_cases false false true false = refl
mux_cases false false false true = refl
mux_cases false false false false = refl

-- the clauses of a gate are satisfied exactly when its variable is its function of its operands
pub gate_law : (ρ : Assignment) (g : Gate) → satisfies ρ (gate_clauses g) ≡ agree ρ g
gate_law ρ (and g a b) = simp negate_true (and_cases (ρ g) (literal_true ρ a) (literal_true ρ b))
gate_law ρ (xor g a b) = simp negate_true (xor_cases (ρ g) (literal_true ρ a) (literal_true ρ b))
gate_law ρ (mux g c a b) = simp negate_true (mux_cases (ρ g) (literal_true ρ c) (literal_true ρ a) (literal_true ρ b))

pub and_assoc : (a b c : Bool) → (a && b) && c ≡ a && (b && c)
and_assoc true b c = refl
and_assoc false b c = refl

pub satisfies_append : (ρ : Assignment) (xs ys : List Clause) → satisfies ρ (xs ++ ys) ≡ satisfies ρ xs && satisfies ρ ys
satisfies_append ρ [] ys = refl
satisfies_append ρ (x ∷ xs) ys = rw (satisfies_append ρ xs ys) (sym (and_assoc (clause_true ρ x) (satisfies ρ xs) (satisfies ρ ys)))

-- every gate's variable is its function of its operands
abbrev pub Facts : Assignment → List Gate → Type 0
Facts ρ [] = Unit {0}
Facts ρ (g ∷ gs) = (ρ (gate_variable g) ≡ gate_value ρ g) × Facts ρ gs

beq_same : (a b : Bool) → beq a b ≡ true → a ≡ b
beq_same true true e = refl
beq_same true false e = sym e
beq_same false true e = e
beq_same false false e = refl

same_beq : (a b : Bool) → a ≡ b → beq a b ≡ true
same_beq true true e = refl
same_beq true false e = sym e
same_beq false true e = e
same_beq false false e = refl

pub both_l : (a b : Bool) → a && b ≡ true → a ≡ true
both_l true b e = refl
both_l false b e = e

pub both_r : (a b : Bool) → a && b ≡ true → b ≡ true
both_r true b e = e
both_r false true e = refl
both_r false false e = e

pub both : (a b : Bool) → a ≡ true → b ≡ true → a && b ≡ true
both true b p q = q
both false b p q = p

pub all_apart : (ρ : Assignment) (xs ys : List Clause) → satisfies ρ (xs ++ ys) ≡ true → (satisfies ρ xs ≡ true) × (satisfies ρ ys ≡ true)
all_apart ρ xs ys e =
    let s = sym (satisfies_append ρ xs ys) ∙ e in
    (both_l (satisfies ρ xs) (satisfies ρ ys) s, both_r (satisfies ρ xs) (satisfies ρ ys) s)

pub all_joined : (ρ : Assignment) (xs ys : List Clause) → satisfies ρ xs ≡ true → satisfies ρ ys ≡ true → satisfies ρ (xs ++ ys) ≡ true
all_joined ρ xs ys p q = satisfies_append ρ xs ys ∙ both (satisfies ρ xs) (satisfies ρ ys) p q

pub to_facts : (ρ : Assignment) (gs : List Gate) → satisfies ρ (gates_clauses gs) ≡ true → Facts ρ gs
to_facts ρ [] e = tt
to_facts ρ (g ∷ gs) e =
    let s = all_apart ρ (gate_clauses g) (gates_clauses gs) e in
    (beq_same (ρ (gate_variable g)) (gate_value ρ g) (sym (gate_law ρ g) ∙ s.0), to_facts ρ gs s.1)

pub from_facts : (ρ : Assignment) (gs : List Gate) → Facts ρ gs → satisfies ρ (gates_clauses gs) ≡ true
from_facts ρ [] f = refl
from_facts ρ (g ∷ gs) f =
    all_joined ρ (gate_clauses g) (gates_clauses gs) (gate_law ρ g ∙ same_beq (ρ (gate_variable g)) (gate_value ρ g) f.0) (from_facts ρ gs f.1)

pub facts_append : (ρ : Assignment) (xs ys : List Gate) → Facts ρ (xs ++ ys) ↔ (Facts ρ xs × Facts ρ ys)
facts_append ρ [] ys = (λ f. (tt, f), λ f. f.1)
facts_append ρ (x ∷ xs) ys = (
  λ f. let r = (facts_append ρ xs ys).0 f.1 in ((f.0, r.0), r.1),
  λ f. (f.0.0, (facts_append ρ xs ys).1 (f.0.1, f.1)),
)
