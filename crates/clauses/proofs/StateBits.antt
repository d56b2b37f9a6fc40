-- States as bits: the variables of a frame's state, the first state's constants, and what the initial units say.
use Rattle.std.proofs.Common.{◌≡◌, ℕ, zero, suc, ◌+◌, ◌/◌, ◌%◌, ◌<◌, ◌≤◌, Bool, true, false, cond, not, ◌||◌, List, [], ◌∷◌, ◌++◌, map, length, sym, refl, ap, ◌∙◌, ap₂, arith, length-append}
use Rattle.design.specs.Tree.{truth}
use Rattle.design.specs.WellFormed.{InRange}
use Rattle.clauses.specs.Literal.{Literal, positive, negate, literal_of}
use Rattle.clauses.specs.Meaning.{Assignment, literal_true, satisfies}
use Rattle.clauses.specs.Circuit.{Bits}
use Rattle.clauses.specs.Expression.{Slots, constant_bits}
use Rattle.clauses.specs.Formula.{total, variables_from, slots_from, flat, units_of, initial_units}
use Rattle.clauses.proofs.Gates.{negate_true, satisfies_append, both, both_l, both_r}
use Rattle.clauses.proofs.Arithmetic.{BitsBelow, number}
use Rattle.clauses.proofs.Expressions.{state_of, SlotsBelow, slots_up, length_constant, literal_of_true, number_constant}

-- bits
abbrev pub bits_of : Assignment → Bits → List Bool
bits_of ρ xs = map (literal_true ρ) xs

number_bits : (ρ σ : Assignment) (xs ys : Bits) → bits_of ρ xs ≡ bits_of σ ys → number ρ xs ≡ number σ ys
number_bits ρ σ [] [] e = refl
number_bits ρ σ [] (y ∷ ys) e = absurd (omega (arith, ap length e))
number_bits ρ σ (x ∷ xs) [] e = absurd (omega (arith, ap length e))
number_bits ρ σ (x ∷ xs) (y ∷ ys) e =
    let h : literal_true ρ x ≡ literal_true σ y = cc in
    let t : bits_of ρ xs ≡ bits_of σ ys = cc in
    rw (h, number_bits ρ σ xs ys t)

module _ {A : Type 0} where
  pub append_left : (a b c d : List A) → length a ≡ length c → a ++ b ≡ c ++ d → a ≡ c
  append_left [] b [] d l e = refl
  append_left [] b (y ∷ ys) d l e = absurd (omega arith)
  append_left (x ∷ xs) b [] d l e = absurd (omega arith)
  append_left (x ∷ xs) b (y ∷ ys) d l e =
      let h : x ≡ y = cc in
      let t : xs ++ b ≡ ys ++ d = cc in
      ap₂ ◌∷◌ h (append_left xs b ys d (omega arith) t)

  pub append_right : (a b c d : List A) → length a ≡ length c → a ++ b ≡ c ++ d → b ≡ d
  append_right [] b [] d l e = e
  append_right [] b (y ∷ ys) d l e = absurd (omega arith)
  append_right (x ∷ xs) b [] d l e = absurd (omega arith)
  append_right (x ∷ xs) b (y ∷ ys) d l e =
      let t : xs ++ b ≡ ys ++ d = cc in
      append_right xs b ys d (omega arith) t

map-append : {A B : Type 0} (f : A → B) (xs ys : List A) → map f (xs ++ ys) ≡ map f xs ++ map f ys
map-append f [] ys = refl
map-append f (x ∷ xs) ys = ap (λ l. f x ∷ l) (map-append f xs ys)

length_bits : (ρ : Assignment) (xs : Bits) → length (bits_of ρ xs) ≡ length xs
length_bits ρ [] = refl
length_bits ρ (x ∷ xs) = ap suc (length_bits ρ xs)

-- equal bits, equal states
pub state_bits_lem : (ρ : Assignment) (s u : Slots) → map length s ≡ map length u → bits_of ρ (flat s) ≡ bits_of ρ (flat u) → state_of ρ s ≡ state_of ρ u
state_bits_lem ρ [] [] l e = refl
state_bits_lem ρ [] (y ∷ ys) l e = absurd (omega (arith, ap length l))
state_bits_lem ρ (x ∷ xs) [] l e = absurd (omega (arith, ap length l))
state_bits_lem ρ (x ∷ xs) (y ∷ ys) l e =
    let e' = sym (map-append (literal_true ρ) x (flat xs)) ∙ e ∙ map-append (literal_true ρ) y (flat ys) in
    let lx : length x ≡ length y = cc in
    let ls : map length xs ≡ map length ys = cc in
    let lb : length (bits_of ρ x) ≡ length (bits_of ρ y) = length_bits ρ x ∙ lx ∙ sym (length_bits ρ y) in
    ap₂ ◌∷◌ (number_bits ρ ρ x y (append_left (bits_of ρ x) (bits_of ρ (flat xs)) (bits_of ρ y) (bits_of ρ (flat ys)) lb e'))
    (state_bits_lem ρ xs ys ls (append_right (bits_of ρ x) (bits_of ρ (flat xs)) (bits_of ρ y) (bits_of ρ (flat ys)) lb e'))

-- the literals of a frame's state
pub length_variables : (v n : ℕ) → length (variables_from v n) ≡ n
length_variables v zero = refl
length_variables v (suc n) = ap suc (length_variables (suc v) n)

pub variables_below : (v n m : ℕ) → 0 < v → v + n ≤ m → BitsBelow m (variables_from v n)
variables_below v zero m p h = tt
variables_below v (suc n) m p h = ((p, omega arith), variables_below (suc v) n m (omega arith) (omega arith))

pub variables_append : (v a b : ℕ) → variables_from v (a + b) ≡ variables_from v a ++ variables_from (v + a) b
variables_append v zero b =
    let p : 0 + b ≡ b = omega arith in
    let q : v ≡ v + 0 = omega arith in
    ap (variables_from v) p ∙ ap (λ x. variables_from x b) q
variables_append v (suc a) b =
    ap (variables_from v) (let r : suc a + b ≡ suc (a + b) = omega arith in r)
    ∙ ap (λ l. positive v ∷ l) (variables_append (suc v) a b ∙ ap (λ x. variables_from (suc v) a ++ variables_from x b) (let r : suc v + a ≡ v + suc a = omega arith in r))

pub flat_slots : (v : ℕ) (ws : List ℕ) → flat (slots_from v ws) ≡ variables_from v (total ws)
flat_slots v [] = refl
flat_slots v (w ∷ ws) = ap (λ l. variables_from v w ++ l) (flat_slots (v + w) ws) ∙ sym (variables_append v w (total ws))

pub slots_wide : (v : ℕ) (ws : List ℕ) → map length (slots_from v ws) ≡ ws
slots_wide v [] = refl
slots_wide v (w ∷ ws) = ap₂ ◌∷◌ (length_variables v w) (slots_wide (v + w) ws)

pub slots_below : (v : ℕ) (ws : List ℕ) → 0 < v → SlotsBelow (v + total ws) (slots_from v ws)
slots_below v [] p = tt
slots_below v (w ∷ ws) p =
    (variables_below v w (v + (w + total ws)) p (omega arith), slots_up (omega arith) (slots_from (v + w) ws) (slots_below (v + w) ws (omega arith)))

bits_append : (n : ℕ) (xs ys : Bits) → BitsBelow n xs → BitsBelow n ys → BitsBelow n (xs ++ ys)
bits_append n [] ys p q = q
bits_append n (x ∷ xs) ys p q = (p.0, bits_append n xs ys p.1 q)

pub flat_below : (n : ℕ) (s : Slots) → SlotsBelow n s → BitsBelow n (flat s)
flat_below n [] b = tt
flat_below n (g ∷ gs) b = bits_append n g (flat gs) b.0 (flat_below n gs b.1)

pub length_flat : (s : Slots) → length (flat s) ≡ total (map length s)
length_flat [] = refl
length_flat (g ∷ gs) = length-append g (flat gs) ∙ ap (λ x. length g + x) (length_flat gs)

abbrev pub constant_slots : List ℕ → List ℕ → Slots
constant_slots [] vs = []
constant_slots (w ∷ ws) [] = []
constant_slots (w ∷ ws) (v ∷ vs) = constant_bits w v ∷ constant_slots ws vs

pub constants_state : (ρ : Assignment) → ρ 1 ≡ true → (ws vs : List ℕ) → InRange ws vs → state_of ρ (constant_slots ws vs) ≡ vs
constants_state ρ one [] [] h = refl
constants_state ρ one [] (v ∷ vs) h = absurd h
constants_state ρ one (w ∷ ws) [] h = absurd h
constants_state ρ one (w ∷ ws) (v ∷ vs) h = ap₂ ◌∷◌ (number_constant ρ one w v h.0) (constants_state ρ one ws vs h.1)

or_false : (a : Bool) → a || false ≡ a
or_false true = refl
or_false false = refl

unit_to : (ρ : Assignment) (x : Literal) (b : Bool) → literal_true ρ (cond b x (negate x)) || false ≡ true → literal_true ρ x ≡ b
unit_to ρ x true e = sym (or_false (literal_true ρ x)) ∙ e
unit_to ρ x false e = go (literal_true ρ x) (sym (negate_true ρ x) ∙ sym (or_false (literal_true ρ (negate x))) ∙ e)
  where
    go : (a : Bool) → not a ≡ true → a ≡ false
    go true z = sym z
    go false z = refl

unit_from : (ρ : Assignment) (x : Literal) (b : Bool) → literal_true ρ x ≡ b → literal_true ρ (cond b x (negate x)) || false ≡ true
unit_from ρ x true e = or_false (literal_true ρ x) ∙ e
unit_from ρ x false e = or_false (literal_true ρ (negate x)) ∙ negate_true ρ x ∙ ap not e

pub units_to : (ρ : Assignment) → ρ 1 ≡ true → (w : ℕ) (xs : Bits) (v : ℕ) → length xs ≡ w → satisfies ρ (units_of xs v) ≡ true → bits_of ρ xs ≡ bits_of ρ (constant_bits w v)
units_to ρ one zero [] v l e = refl
units_to ρ one zero (x ∷ xs) v l e = absurd (omega arith)
units_to ρ one (suc w) [] v l e = absurd (omega arith)
units_to ρ one (suc w) (x ∷ xs) v l e =
    ap₂ ◌∷◌ (unit_to ρ x (truth (v % 2)) (both_l (literal_true ρ (cond (truth (v % 2)) x (negate x)) || false) (satisfies ρ (units_of xs (v / 2))) e) ∙ sym (literal_of_true ρ one (truth (v % 2))))
    (units_to ρ one w xs (v / 2) (omega arith) (both_r (literal_true ρ (cond (truth (v % 2)) x (negate x)) || false) (satisfies ρ (units_of xs (v / 2))) e))

pub units_from : (ρ : Assignment) → ρ 1 ≡ true → (w : ℕ) (xs : Bits) (v : ℕ) → length xs ≡ w → bits_of ρ xs ≡ bits_of ρ (constant_bits w v) → satisfies ρ (units_of xs v) ≡ true
units_from ρ one zero [] v l e = refl
units_from ρ one zero (x ∷ xs) v l e = absurd (omega arith)
units_from ρ one (suc w) [] v l e = absurd (omega arith)
units_from ρ one (suc w) (x ∷ xs) v l e =
    let h : literal_true ρ x ≡ literal_true ρ (literal_of (truth (v % 2))) = cc in
    let t : bits_of ρ xs ≡ bits_of ρ (constant_bits w (v / 2)) = cc in
    both (literal_true ρ (cond (truth (v % 2)) x (negate x)) || false) (satisfies ρ (units_of xs (v / 2)))
    (unit_from ρ x (truth (v % 2)) (h ∙ literal_of_true ρ one (truth (v % 2))))
    (units_from ρ one w xs (v / 2) (omega arith) t)

pub constants_wide : (ws vs : List ℕ) → InRange ws vs → map length (constant_slots ws vs) ≡ ws
constants_wide [] [] h = refl
constants_wide [] (v ∷ vs) h = absurd h
constants_wide (w ∷ ws) [] h = absurd h
constants_wide (w ∷ ws) (v ∷ vs) h = ap₂ ◌∷◌ (length_constant w v) (constants_wide ws vs h.1)

pub initial_units_to : (ρ : Assignment) → ρ 1 ≡ true → (s : Slots) (ws vs : List ℕ) → map length s ≡ ws → InRange ws vs
    → satisfies ρ (initial_units s vs) ≡ true → bits_of ρ (flat s) ≡ bits_of ρ (flat (constant_slots ws vs))
initial_units_to ρ one [] [] [] l h e = refl
initial_units_to ρ one [] [] (v ∷ vs) l h e = absurd h
initial_units_to ρ one [] (w ∷ ws) vs l h e = absurd (omega (arith, ap length l))
initial_units_to ρ one (g ∷ gs) [] vs l h e = absurd (omega (arith, ap length l))
initial_units_to ρ one (g ∷ gs) (w ∷ ws) [] l h e = absurd h
initial_units_to ρ one (g ∷ gs) (w ∷ ws) (v ∷ vs) l h e =
    let lg : length g ≡ w = cc in
    let ls : map length gs ≡ ws = cc in
    let e' = rw satisfies_append at e in
    map-append (literal_true ρ) g (flat gs)
    ∙ ap₂ ◌++◌ (units_to ρ one w g v lg (both_l (satisfies ρ (units_of g v)) (satisfies ρ (initial_units gs vs)) e'))
    (initial_units_to ρ one gs ws vs ls h.1 (both_r (satisfies ρ (units_of g v)) (satisfies ρ (initial_units gs vs)) e'))
    ∙ sym (map-append (literal_true ρ) (constant_bits w v) (flat (constant_slots ws vs)))

pub initial_units_from : (ρ : Assignment) → ρ 1 ≡ true → (s : Slots) (ws vs : List ℕ) → map length s ≡ ws → InRange ws vs
    → bits_of ρ (flat s) ≡ bits_of ρ (flat (constant_slots ws vs)) → satisfies ρ (initial_units s vs) ≡ true
initial_units_from ρ one [] [] [] l h e = refl
initial_units_from ρ one [] [] (v ∷ vs) l h e = absurd h
initial_units_from ρ one [] (w ∷ ws) vs l h e = absurd (omega (arith, ap length l))
initial_units_from ρ one (g ∷ gs) [] vs l h e = absurd (omega (arith, ap length l))
initial_units_from ρ one (g ∷ gs) (w ∷ ws) [] l h e = absurd h
initial_units_from ρ one (g ∷ gs) (w ∷ ws) (v ∷ vs) l h e =
    let lg : length g ≡ w = cc in
    let ls : map length gs ≡ ws = cc in
    let e' = sym (map-append (literal_true ρ) g (flat gs)) ∙ e ∙ map-append (literal_true ρ) (constant_bits w v) (flat (constant_slots ws vs)) in
    let lb : length (bits_of ρ g) ≡ length (bits_of ρ (constant_bits w v)) = length_bits ρ g ∙ lg ∙ sym (length_bits ρ (constant_bits w v) ∙ length_constant w v) in
    rw satisfies_append
    (both (satisfies ρ (units_of g v)) (satisfies ρ (initial_units gs vs))
    (units_from ρ one w g v lg (append_left (bits_of ρ g) (bits_of ρ (flat gs)) (bits_of ρ (constant_bits w v)) (bits_of ρ (flat (constant_slots ws vs))) lb e'))
    (initial_units_from ρ one gs ws vs ls h.1 (append_right (bits_of ρ g) (bits_of ρ (flat gs)) (bits_of ρ (constant_bits w v)) (bits_of ρ (flat (constant_slots ws vs))) lb e')))
