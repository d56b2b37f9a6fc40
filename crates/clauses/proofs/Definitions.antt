-- Variables defined one after the other, each by smaller ones: such a list has exactly one assignment. Gates are definitions, and so are
-- the state bits and flags of a formula once the choices are known.
use Rattle.std.proofs.Common.{◌≡◌, ℕ, suc, ◌+◌, ◌<◌, ◌≤◌, Bool, not, ◌&&◌, List, [], ◌∷◌, ◌++◌, map, length, sym, refl, ap, ◌∙◌, subst, ap₂, arith}
use native.Mathlib.Decide.{ℕ_discrete}
use Rattle.clauses.specs.Literal.{Literal, positive, negative}
use Rattle.clauses.specs.Meaning.{Assignment, literal_true}
use Rattle.clauses.specs.Gate.{Gate, and, xor, mux}
use Rattle.clauses.specs.Circuit.{Bits}
use Rattle.clauses.specs.Formula.{variables_from}
use Rattle.clauses.proofs.Gates.{differ, gate_variable, gate_value, Facts}
use Rattle.clauses.proofs.Correct.{LiteralBelow, GateBelow, Chain, end, link}
use Rattle.clauses.proofs.Arithmetic.{BitsBelow}

-- two assignments agree on the variables 1, 2, .., n - 1
abbrev pub Same : ℕ → Assignment → Assignment → Type 0
Same n ρ σ = (v : ℕ) → 0 < v → v < n → ρ v ≡ σ v

pub literal_same : (n : ℕ) (ρ σ : Assignment) → Same n ρ σ → (l : Literal) → LiteralBelow n l → literal_true ρ l ≡ literal_true σ l
literal_same n ρ σ s (positive v) h = s v h.0 h.1
literal_same n ρ σ s (negative v) h = ap not (s v h.0 h.1)

gate_same : (n : ℕ) (ρ σ : Assignment) → Same n ρ σ → (g : Gate) → GateBelow n g → gate_value ρ g ≡ gate_value σ g
gate_same n ρ σ s (and g a b) h = ap₂ ◌&&◌ (literal_same n ρ σ s a h.0) (literal_same n ρ σ s b h.1)
gate_same n ρ σ s (xor g a b) h = ap₂ differ (literal_same n ρ σ s a h.0) (literal_same n ρ σ s b h.1)
gate_same n ρ σ s (mux g c a b) h =
    rw (literal_same n ρ σ s c h.0, literal_same n ρ σ s a h.1, literal_same n ρ σ s b h.2)

same_suc : (n : ℕ) (ρ σ : Assignment) → Same n ρ σ → ρ n ≡ σ n → Same (suc n) ρ σ
same_suc n ρ σ s e v p h = go (ℕ_discrete v n)
  where
    go : Dec (v ≡ n) → ρ v ≡ σ v
    go (yes q) = rw q e
    go (no q) = s v p (omega arith)

-- an assignment changed at one variable
unfoldable pub put : Assignment → ℕ → Bool → Assignment
put ρ n b v = elim (ℕ_discrete v n) [ yes p ↦ b | no q ↦ ρ v ]

put_at : (ρ : Assignment) (n : ℕ) (b : Bool) → put ρ n b n ≡ b
unfolding put
put_at ρ n b = go (ℕ_discrete n n) refl
  where
    go : (d : Dec (n ≡ n)) → ℕ_discrete n n ≡ d → put ρ n b n ≡ b
    go (yes p) e = rw (e, put)
    go (no q) e = absurd (q refl)

put_same : (ρ : Assignment) (n : ℕ) (b : Bool) → Same n (put ρ n b) ρ
unfolding put
put_same ρ n b v p h = go (ℕ_discrete v n) refl
  where
    go : (d : Dec (v ≡ n)) → ℕ_discrete v n ≡ d → put ρ n b v ≡ ρ v
    go (yes q) e = absurd (omega arith)
    go (no q) e = rw (e, put)

pub record Definition : Type 0 where
  pub name : ℕ
  pub value : Assignment → Bool

-- the value depends only on the variables below n
abbrev Local : ℕ → (Assignment → Bool) → Type 0
Local n f = (ρ σ : Assignment) → Same n ρ σ → f ρ ≡ f σ

-- the definitions are of n, n + 1, .., m - 1, each by smaller ones
pub data Ordered : ℕ → List Definition → ℕ → Type 0 where
  none : {n : ℕ} → Ordered n [] n
  more : {n m : ℕ} {d : Definition} {ds : List Definition} → d.name ≡ n → Local n d.value → Ordered (suc n) ds m → Ordered n (d ∷ ds) m

-- the assignment obeys the definitions
abbrev pub Obeys : Assignment → List Definition → Type 0
Obeys ρ [] = Unit {0}
Obeys ρ (d ∷ ds) = (ρ d.name ≡ d.value ρ) × Obeys ρ ds

pub ordered_append : {n k m : ℕ} {xs ys : List Definition} → Ordered n xs k → Ordered k ys m → Ordered n (xs ++ ys) m
ordered_append none d = d
ordered_append (more e b c) d = more e b (ordered_append c d)

pub obeys_split : (ρ : Assignment) (xs ys : List Definition) → Obeys ρ (xs ++ ys) → Obeys ρ xs × Obeys ρ ys
obeys_split ρ [] ys f = (tt, f)
obeys_split ρ (x ∷ xs) ys f = let r = obeys_split ρ xs ys f.1 in ((f.0, r.0), r.1)

pub obeys_join : (ρ : Assignment) (xs ys : List Definition) → Obeys ρ xs → Obeys ρ ys → Obeys ρ (xs ++ ys)
obeys_join ρ [] ys f g = g
obeys_join ρ (x ∷ xs) ys f g = (f.0, obeys_join ρ xs ys f.1 g)

-- at most one
pub obeys_unique : {n m : ℕ} {ds : List Definition} → Ordered n ds m → (ρ σ : Assignment) → Same n ρ σ → Obeys ρ ds → Obeys σ ds → Same m ρ σ
obeys_unique none ρ σ s f h = s
obeys_unique (more {n = n} {d = d} e b c) ρ σ s f h =
    obeys_unique c ρ σ (same_suc n ρ σ s (ap ρ (sym e) ∙ f.0 ∙ b ρ σ s ∙ sym h.0 ∙ ap σ e)) f.1 h.1

-- at least one: the variables set one after the other
unfoldable pub define : Assignment → List Definition → Assignment
define ρ [] = ρ
define ρ (d ∷ ds) = define (put ρ d.name (d.value ρ)) ds

pub define_same : {n m : ℕ} {ds : List Definition} → Ordered n ds m → (ρ : Assignment) → Same n (define ρ ds) ρ
unfolding define
define_same none ρ v p h = refl
define_same (more {n = n} {d = d} e b c) ρ v p h =
    define_same c (put ρ d.name (d.value ρ)) v p (omega arith) ∙ put_same ρ d.name (d.value ρ) v p (omega arith)

pub define_obeys : {n m : ℕ} {ds : List Definition} → 0 < n → Ordered n ds m → (ρ : Assignment) → Obeys (define ρ ds) ds
unfolding define
define_obeys q none ρ = tt
define_obeys q (more {n = n} {d = d} {ds = ds} e b c) ρ =
    let σ = put ρ d.name (d.value ρ) in
    let s : Same (suc n) (define σ ds) σ = define_same c σ in (
      s d.name (omega arith) (omega arith) ∙ put_at ρ d.name (d.value ρ)
          ∙ sym (b σ ρ (λ v p h. put_same ρ d.name (d.value ρ) v p (omega arith)))
          ∙ sym (b (define σ ds) σ (λ v p h. s v p (omega arith))),
      define_obeys (omega arith) c σ,
    )

-- gates are definitions
abbrev pub of_gate : Gate → Definition
of_gate g = record { name = gate_variable g; value = λ ρ. gate_value ρ g }

pub gates_ordered : {n m : ℕ} {gs : List Gate} → Chain n gs m → Ordered n (map of_gate gs) m
gates_ordered end = none
gates_ordered (link {n = n} {g = g} e b c) = more e (λ ρ σ s. gate_same n ρ σ s g b) (gates_ordered c)

pub facts_obey : (ρ : Assignment) (gs : List Gate) → Facts ρ gs → Obeys ρ (map of_gate gs)
facts_obey ρ [] f = tt
facts_obey ρ (g ∷ gs) f = (f.0, facts_obey ρ gs f.1)

pub obeys_facts : (ρ : Assignment) (gs : List Gate) → Obeys ρ (map of_gate gs) → Facts ρ gs
obeys_facts ρ [] f = tt
obeys_facts ρ (g ∷ gs) f = (f.0, obeys_facts ρ gs f.1)

-- variables v, v + 1, .. defined as given literals
abbrev pub copies : ℕ → Bits → List Definition
copies v [] = []
copies v (l ∷ ls) = record { name = v; value = λ ρ. literal_true ρ l } ∷ copies (suc v) ls

pub copies_ordered : (ls : Bits) (b v m : ℕ) → m ≡ v + length ls → b ≤ v → BitsBelow b ls → Ordered v (copies v ls) m
copies_ordered [] b v m e l h = subst (λ x. Ordered v [] x) (let r : v ≡ m = omega arith in r) none
copies_ordered (x ∷ xs) b v m e l h =
    more {d = record { name = v; value = λ ρ. literal_true ρ x }} refl (λ ρ σ s. literal_same v ρ σ s x (omega arith))
    (copies_ordered xs b (suc v) m (omega arith) (omega arith) h.1)

pub copies_say : (ρ : Assignment) (v : ℕ) (ls : Bits) → Obeys ρ (copies v ls) → map (literal_true ρ) (variables_from v (length ls)) ≡ map (literal_true ρ) ls
copies_say ρ v [] f = refl
copies_say ρ v (x ∷ xs) f = ap₂ ◌∷◌ f.0 (copies_say ρ (suc v) xs f.1)

head_bool : {a b : Bool} {l m : List Bool} → a ∷ l ≡ b ∷ m → a ≡ b
head_bool e = cc

tail_bool : {a b : Bool} {l m : List Bool} → a ∷ l ≡ b ∷ m → l ≡ m
tail_bool e = cc

pub say_copies : (ρ : Assignment) (v : ℕ) (ls : Bits) → map (literal_true ρ) (variables_from v (length ls)) ≡ map (literal_true ρ) ls → Obeys ρ (copies v ls)
say_copies ρ v [] e = tt
say_copies ρ v (x ∷ xs) e = (head_bool e, say_copies ρ (suc v) xs (tail_bool e))
