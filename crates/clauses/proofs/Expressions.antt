-- Expressions: under any assignment that obeys its gates, what a builder makes of an expression means the expression's value in the
-- state that the assignment gives the literals.
use Rattle.std.proofs.Common.{◌≡◌, ℕ, zero, suc, ◌+◌, ◌-◌, ◌*◌, ◌/◌, ◌%◌, ◌^◌, ◌<◌, ◌≤◌, Bool, true, false, not, ◌&&◌, ◌||◌, eqb, ltb, List, [], ◌∷◌, ◌++◌, map, length, get_or, ◌+ℤ◌, ◌-ℤ◌, ◌*ℤ◌, sym, refl, ap, ◌∙◌, ap₂, pow-suc, arith}
use mathlib.Core.List.{map-append}
use lib.ListN.{get_or-map}
use Rattle.design.specs.Tree.{IntExpr, BoolExpr, constant, variable, status, sum, difference, product, constant_b, variable_b, not_b, and_b, or_b, equal, less, bit, truth}
use Rattle.design.specs.State.{State, Layout, status_slot}
use Rattle.design.specs.WellFormed.{Narrow, IntOk, BoolOk}
use Rattle.step.specs.Pattern.{plus, minus, times, below, signed, wrap, outside}
use Rattle.step.specs.Evaluation.{eval_int, eval_bool, passes_int, passes_bool}
use Rattle.clauses.specs.Literal.{Literal, false_literal, literal_of}
use Rattle.clauses.specs.Meaning.{Assignment, literal_true}
use Rattle.clauses.specs.Circuit.{Build, Bits, Summed, WithMark, mark! }
use Rattle.clauses.specs.Expression.{Slots, constant_bits, pad, integer_at, lowest, boolean_at, sum_passes!, least_operand, largest_operand, product_passes!, int!, bool!, test! }
use Rattle.clauses.proofs.Gates.{differ, negate_true}
use Rattle.clauses.proofs.Correct.{LiteralBelow, Correct, correct_give, correct_bind, correct_means, and_correct, xor_correct, or_correct, negate_below}
use Rattle.clauses.proofs.Arithmetic.{BitsBelow, bits_up, Word, word_up, number, number_lt, sum_ends, difference_ends, bit_truth, product_correct, less_correct}
use Rattle.clauses.proofs.Equality.{equal_correct}
use Rattle.clauses.proofs.Operands.{sum_outside, difference_outside, wrap_small, pattern_outside}

-- the state that an assignment gives literals
abbrev pub state_of : Assignment → Slots → State
state_of ρ s = map (number ρ) s

abbrev pub SlotsBelow : ℕ → Slots → Type 0
SlotsBelow n [] = Unit {0}
SlotsBelow n (g ∷ gs) = BitsBelow n g × SlotsBelow n gs

pub slots_up : {n k : ℕ} → n ≤ k → (s : Slots) → SlotsBelow n s → SlotsBelow k s
slots_up h [] b = tt
slots_up h (g ∷ gs) b = (bits_up h g b.0, slots_up h gs b.1)

slot_below : (n : ℕ) (s : Slots) (v : ℕ) → SlotsBelow n s → BitsBelow n (get_or s v [])
slot_below n [] v b = tt
slot_below n (g ∷ gs) zero b = b.0
slot_below n (g ∷ gs) (suc v) b = slot_below n gs v b.1

narrow_at : (ws : List ℕ) (v : ℕ) → Narrow ws → get_or ws v 0 ≤ 16
narrow_at [] v h = omega arith
narrow_at (w ∷ ws) zero h = h.0
narrow_at (w ∷ ws) (suc v) h = narrow_at ws v h.1

-- bits read at a width, false above
pub length_pad : (w : ℕ) (xs : Bits) → length (pad w xs) ≡ w
length_pad zero xs = refl
length_pad (suc w) [] = ap suc (length_pad w [])
length_pad (suc w) (x ∷ xs) = ap suc (length_pad w xs)

pad_below : (n w : ℕ) (xs : Bits) → 1 < n → BitsBelow n xs → BitsBelow n (pad w xs)
pad_below n zero xs h b = tt
pad_below n (suc w) [] h b = (omega arith, pad_below n w [] h tt)
pad_below n (suc w) (x ∷ xs) h b = (b.0, pad_below n w xs h b.1)

number_pad : (ρ : Assignment) → ρ 1 ≡ true → (w : ℕ) (xs : Bits) → length xs ≤ w → number ρ (pad w xs) ≡ number ρ xs
number_pad ρ one zero [] h = refl
number_pad ρ one zero (x ∷ xs) h = absurd (omega arith)
number_pad ρ one (suc w) [] h = rw (one, number_pad ρ one w [] (omega arith))
number_pad ρ one (suc w) (x ∷ xs) h = rw (number_pad ρ one w xs (omega arith))

-- constants
pub length_constant : (w c : ℕ) → length (constant_bits w c) ≡ w
length_constant zero c = refl
length_constant (suc w) c = ap suc (length_constant w (c / 2))

pub literal_of_below : (n : ℕ) (b : Bool) → 1 < n → LiteralBelow n (literal_of b)
literal_of_below n true h = omega arith
literal_of_below n false h = omega arith

constant_below : (n w c : ℕ) → 1 < n → BitsBelow n (constant_bits w c)
constant_below n zero c h = tt
constant_below n (suc w) c h = (literal_of_below n (truth (c % 2)) h, constant_below n w (c / 2) h)

pub constant_word : (n w c : ℕ) → 1 < n → Word w n (constant_bits w c)
constant_word n w c h = record { below = constant_below n w c h; wide = length_constant w c }

pub literal_of_true : (ρ : Assignment) → ρ 1 ≡ true → (b : Bool) → literal_true ρ (literal_of b) ≡ b
literal_of_true ρ one true = one
literal_of_true ρ one false = ap not one

pub number_constant : (ρ : Assignment) → ρ 1 ≡ true → (w c : ℕ) → c < 2 ^ w → number ρ (constant_bits w c) ≡ c
number_constant ρ one zero c h = omega arith
number_constant ρ one (suc w) c h =
    rw (literal_of_true ρ one (truth (c % 2)), bit_truth (c % 2) (omega arith), number_constant ρ one w (c / 2) (let h' = rw (pow-suc 2 w) at h in omega arith))
    (omega arith)

-- a state in literals: below n, of the slots' widths
pub record Fits (ws : List ℕ) (n : ℕ) (s : Slots) : Type 0 where
  pub narrow : Narrow ws
  pub known : 1 < n
  pub below : SlotsBelow n s
  pub wide : map length s ≡ ws

pub fits_up : {ws : List ℕ} {n k : ℕ} {s : Slots} → n ≤ k → Fits ws n s → Fits ws k s
fits_up {s = s} h f = record { narrow = f.narrow; known = omega (arith, f.known); below = slots_up h s f.below; wide = f.wide }

-- two states in literals, one behind the other
narrow_append : (ws us : List ℕ) → Narrow ws → Narrow us → Narrow (ws ++ us)
narrow_append [] us p q = q
narrow_append (w ∷ ws) us p q = (p.0, narrow_append ws us p.1 q)

slots_append : (n : ℕ) (s u : Slots) → SlotsBelow n s → SlotsBelow n u → SlotsBelow n (s ++ u)
slots_append n [] u p q = q
slots_append n (g ∷ gs) u p q = (p.0, slots_append n gs u p.1 q)

pub fits_append : {ws us : List ℕ} {n : ℕ} {s u : Slots} → Fits ws n s → Fits us n u → Fits (ws ++ us) n (s ++ u)
fits_append {ws = ws} {us = us} {n = n} {s = s} {u = u} f g =
    record {
      narrow = narrow_append ws us f.narrow g.narrow;
      known = f.known;
      below = slots_append n s u f.below g.below;
      wide = map-append length s u ∙ ap₂ ◌++◌ f.wide g.wide;
    }

pub width_at_lem : (ws : List ℕ) (n : ℕ) (s : Slots) (v : ℕ) → Fits ws n s → length (get_or s v []) ≡ get_or ws v 0
width_at_lem ws n s v f = sym (get_or-map length s v []) ∙ ap (λ l. get_or l v 0) f.wide

pub value_at_lem : (ρ : Assignment) (s : Slots) (v : ℕ) → get_or (state_of ρ s) v 0 ≡ number ρ (get_or s v [])
value_at_lem ρ s v = get_or-map (number ρ) s v []

-- a slot read as an integer
pub integer_word : {ws : List ℕ} {n : ℕ} {s : Slots} (v : ℕ) → Fits ws n s → Word 16 n (integer_at s v)
integer_word {n = n} {s = s} v f = record { below = pad_below n 16 (get_or s v []) f.known (slot_below n s v f.below); wide = length_pad 16 (get_or s v []) }

pub integer_value : (ws : List ℕ) (n : ℕ) (s : Slots) (v : ℕ) → Fits ws n s → (ρ : Assignment) → ρ 1 ≡ true
    → number ρ (integer_at s v) ≡ get_or (state_of ρ s) v 0
integer_value ws n s v f ρ one =
    number_pad ρ one 16 (get_or s v []) (rw (width_at_lem ws n s v f) (narrow_at ws v f.narrow)) ∙ sym (value_at_lem ρ s v)

-- a slot read as a Boolean
lowest_below : (n : ℕ) (g : Bits) → 1 < n → BitsBelow n g → LiteralBelow n (lowest g)
lowest_below n [] h b = omega arith
lowest_below n (x ∷ xs) h b = b.0

pub boolean_below : {ws : List ℕ} {n : ℕ} {s : Slots} (v : ℕ) → Fits ws n s → LiteralBelow n (boolean_at s v)
boolean_below {n = n} {s = s} v f = lowest_below n (get_or s v []) f.known (slot_below n s v f.below)

lowest_true : (ρ : Assignment) (g : Bits) → length g ≡ 1 → literal_true ρ (lowest g) ≡ truth (number ρ g)
lowest_true ρ [] h = absurd (omega arith)
lowest_true ρ (x ∷ []) h = go (literal_true ρ x)
  where
    go : (b : Bool) → b ≡ truth (bit b + 2 * 0)
    go true = refl
    go false = refl
lowest_true ρ (x ∷ y ∷ ys) h = absurd (omega arith)

pub boolean_value : (ws : List ℕ) (n : ℕ) (s : Slots) (v : ℕ) → Fits ws n s → get_or ws v 0 ≡ 1 → (ρ : Assignment)
    → literal_true ρ (boolean_at s v) ≡ truth (get_or (state_of ρ s) v 0)
boolean_value ws n s v f h ρ = lowest_true ρ (get_or s v []) (width_at_lem ws n s v f ∙ h) ∙ ap truth (sym (value_at_lem ρ s v))

-- the step rule's arithmetic is the circuits' at 16 bits
plus_is : (a b : ℕ) → (a + b) % 2 ^ 16 ≡ plus a b
plus_is a b = refl

minus_is : (a b : ℕ) → (a + (2 ^ 16 - b)) % 2 ^ 16 ≡ minus a b
minus_is a b = refl

times_is : (c b : ℕ) → (0 + c * b) % 2 ^ 16 ≡ times c b
times_is c b = ap (λ (x : ℕ). x % 65536) (omega arith)

below_is : (a b : ℕ) → ltb ((a + 2 ^ 15) % 2 ^ 16) ((b + 2 ^ 15) % 2 ^ 16) ≡ below a b
below_is a b = refl

-- What an expression's gates come to: its result has a shape and a meaning, and the mark behind them is the mark so far, or true where the expression marks and passes the end.
pub record MarkedShape {A : Type 0} (Q : ℕ → A → Type 0) (k : ℕ) (r : WithMark A) : Type 0 where
  pub result : Q k r.result
  pub mark : LiteralBelow k r.mark

pub record MarkedMeans {A : Type 0} (R : A → Type 0) (ρ : Assignment) (so_far : Literal) (marks passes : Bool) (r : WithMark A) : Type 0 where
  pub result : R r.result
  pub mark : literal_true ρ r.mark ≡ literal_true ρ so_far || (marks && passes)

mark_none : (m k : Bool) → m ≡ m || (k && false)
mark_none true k = refl
mark_none false true = refl
mark_none false false = refl

mark_two : (m k a b : Bool) → (m || (k && a)) || (k && b) ≡ m || (k && (a || b))
mark_two true k a b = refl
mark_two false true a b = refl
mark_two false false a b = refl

-- the mark behind two expressions, and behind an operation on one or two
one_mark : {A : Type 0} {R : A → Type 0} {ρ : Assignment} {m : Literal} {marks a : Bool} {x : WithMark A} → MarkedMeans R ρ m marks a x
    → (t : Literal) (o : Bool) → literal_true ρ t ≡ literal_true ρ x.mark || (marks && o) → literal_true ρ t ≡ literal_true ρ m || (marks && (a || o))
one_mark {ρ = ρ} {m = m} {marks = marks} {a = a} ex t o et = et ∙ ap (λ b. b || (marks && o)) ex.mark ∙ mark_two (literal_true ρ m) marks a o

two_marks : {A B : Type 0} {R : A → Type 0} {Q : B → Type 0} {ρ : Assignment} {m : Literal} {marks a b : Bool} {x : WithMark A} {y : WithMark B}
    → MarkedMeans R ρ m marks a x → MarkedMeans Q ρ x.mark marks b y → literal_true ρ y.mark ≡ literal_true ρ m || (marks && (a || b))
two_marks {b = b} {y = y} ex ey = one_mark ex y.mark b ey.mark

operation_mark : {A B : Type 0} {R : A → Type 0} {Q : B → Type 0} {ρ : Assignment} {m : Literal} {marks a b : Bool} {x : WithMark A} {y : WithMark B}
    → MarkedMeans R ρ m marks a x → MarkedMeans Q ρ x.mark marks b y
    → (t : Literal) (o : Bool) → literal_true ρ t ≡ literal_true ρ y.mark || (marks && o) → literal_true ρ t ≡ literal_true ρ m || (marks && ((a || b) || o))
operation_mark {ρ = ρ} {m = m} {marks = marks} {a = a} {b = b} ex ey t o et =
    et ∙ ap (λ c. c || (marks && o)) (two_marks ex ey) ∙ mark_two (literal_true ρ m) marks (a || b) o

mark_correct : (marks : Bool) (m : Literal) (test : Build Literal) (passes : Assignment → Bool) (n : ℕ) → LiteralBelow n m
    → Correct n (test n) LiteralBelow (λ ρ x. literal_true ρ x ≡ passes ρ)
    → Correct n (mark! marks m test n) LiteralBelow (λ ρ x. literal_true ρ x ≡ literal_true ρ m || (marks && passes ρ))
unfolding mark!
mark_correct false m test passes n b c = correct_give _ b λ ρ one. mark_none (literal_true ρ m) false
mark_correct true m test passes n b c =
    correct_bind _ _ c λ x k l bx.
    correct_means (or_correct m x k (omega arith) bx) λ ρ r one e ex. e ∙ ap (λ t. literal_true ρ m || t) ex

-- the last two carries of a sum or difference
sum_passes_correct : (r : Summed) (n : ℕ) → LiteralBelow n r.earlier → LiteralBelow n r.carry
    → Correct n (sum_passes! r n) LiteralBelow (λ ρ x. literal_true ρ x ≡ differ (literal_true ρ r.earlier) (literal_true ρ r.carry))
unfolding sum_passes!
sum_passes_correct r n p q = xor_correct r.earlier r.carry n p q

number_small : {n : ℕ} (xs : Bits) (ρ : Assignment) → Word 16 n xs → number ρ xs < 65536
number_small xs ρ x = rw x.wide at (number_lt ρ xs)

-- the operand against the least and the largest
pub product_passes_correct : (c : ℕ) (xs : Bits) (n : ℕ) → 1 < n → Word 16 n xs
    → Correct n (product_passes! c xs n) LiteralBelow (λ ρ x. literal_true ρ x ≡ outside (signed c *ℤ signed (number ρ xs)))
unfolding product_passes!
product_passes_correct c xs n h bx =
    let l = wrap (least_operand (signed c)) in
    let g = wrap (largest_operand (signed c)) in
    correct_bind _ _ (less_correct 15 xs (constant_bits 16 l) n h bx (constant_word n 16 l h)) λ a n₁ l₁ ba.
    let h₁ : 1 < n₁ = omega arith in
    correct_bind _ _ (less_correct 15 (constant_bits 16 g) xs n₁ h₁ (constant_word n₁ 16 g h₁) (word_up l₁ bx)) λ b n₂ l₂ bb.
    correct_means (or_correct a b n₂ (omega arith) bb) λ ρ r one e eb ea.
    let el : number ρ (constant_bits 16 l) ≡ l = number_constant ρ one 16 l (wrap_small (least_operand (signed c))) in
    let eg : number ρ (constant_bits 16 g) ≡ g = number_constant ρ one 16 g (wrap_small (largest_operand (signed c))) in
    e
    ∙ ap₂ ◌||◌ (ea ∙ below_is (number ρ xs) (number ρ (constant_bits 16 l)) ∙ ap (below (number ρ xs)) el)
    (eb ∙ below_is (number ρ (constant_bits 16 g)) (number ρ xs) ∙ ap (λ y. below y (number ρ xs)) eg)
    ∙ pattern_outside c (number ρ xs) (number_small xs ρ bx)

module _ (ws : List ℕ) (l : Layout) (s : Slots) (marks : Bool) where
  abbrev pub IntMeans : Literal → IntExpr → Assignment → WithMark Bits → Type 0
  IntMeans m e ρ r = MarkedMeans (λ xs. number ρ xs ≡ eval_int l (state_of ρ s) e) ρ m marks (passes_int l (state_of ρ s) e) r

  pub int_correct : (e : IntExpr) (m : Literal) (n : ℕ) → Fits ws n s → LiteralBelow n m → IntOk ws l e
      → Correct n (int! marks l s m e n) (MarkedShape (Word 16)) (IntMeans m e)
  unfolding int! eval_int passes_int
  int_correct (constant c) m n f b k =
      correct_give _ (record { result = constant_word n 16 c f.known; mark = b }) λ ρ one.
      record { result = number_constant ρ one 16 c k; mark = mark_none (literal_true ρ m) marks }
  int_correct (variable v) m n f b k =
      correct_give _ (record { result = integer_word v f; mark = b }) λ ρ one.
      record { result = integer_value ws n s v f ρ one; mark = mark_none (literal_true ρ m) marks }
  int_correct (status q) m n f b k =
      correct_give _ (record { result = integer_word (status_slot l q) f; mark = b }) λ ρ one.
      record { result = integer_value ws n s (status_slot l q) f ρ one; mark = mark_none (literal_true ρ m) marks }
  int_correct (sum a b) m n f bm k =
      correct_bind _ _ (int_correct a m n f bm k.0) λ x n₁ l₁ bx.
      correct_bind _ _ (int_correct b x.mark n₁ (fits_up l₁ f) bx.mark k.1) λ y n₂ l₂ by.
      correct_bind _ _ (sum_ends 15 x.result y.result n₂ (omega (arith, f.known)) (word_up l₂ bx.result) by.result) λ r n₃ l₃ br.
      correct_bind _ _ (mark_correct marks y.mark (sum_passes! r) _ n₃ (omega (arith, by.mark)) (sum_passes_correct r n₃ br.earlier br.carry)) λ t n₄ l₄ bt.
      correct_give _ (record { result = word_up l₄ br.bits; mark = bt }) λ ρ one et er ey ex.
      let X = number ρ x.result in
      let Y = number ρ y.result in
      record {
        result = er.wraps ∙ plus_is X Y ∙ ap₂ plus ex.result ey.result;
        mark = operation_mark ex ey t _ (et ∙ ap (λ o. literal_true ρ y.mark || (marks && o)) (er.passes
            ∙ sum_outside X Y (number_small x.result ρ bx.result) (number_small y.result ρ by.result)
            ∙ ap₂ (λ u v. outside (signed u +ℤ signed v)) ex.result ey.result));
      }
  int_correct (difference a b) m n f bm k =
      correct_bind _ _ (int_correct a m n f bm k.0) λ x n₁ l₁ bx.
      correct_bind _ _ (int_correct b x.mark n₁ (fits_up l₁ f) bx.mark k.1) λ y n₂ l₂ by.
      correct_bind _ _ (difference_ends 15 x.result y.result n₂ (omega (arith, f.known)) (word_up l₂ bx.result) by.result) λ r n₃ l₃ br.
      correct_bind _ _ (mark_correct marks y.mark (sum_passes! r) _ n₃ (omega (arith, by.mark)) (sum_passes_correct r n₃ br.earlier br.carry)) λ t n₄ l₄ bt.
      correct_give _ (record { result = word_up l₄ br.bits; mark = bt }) λ ρ one et er ey ex.
      let X = number ρ x.result in
      let Y = number ρ y.result in
      record {
        result = er.wraps ∙ minus_is X Y ∙ ap₂ minus ex.result ey.result;
        mark = operation_mark ex ey t _ (et ∙ ap (λ o. literal_true ρ y.mark || (marks && o)) (er.passes
            ∙ difference_outside X Y (number_small x.result ρ bx.result) (number_small y.result ρ by.result)
            ∙ ap₂ (λ u v. outside (signed u -ℤ signed v)) ex.result ey.result));
      }
  int_correct (product c a) m n f bm k =
      correct_bind _ _ (int_correct a m n f bm k.1) λ x n₁ l₁ bx.
      let h : 1 < n₁ = omega (arith, f.known) in
      correct_bind _ _ (product_correct 16 16 c x.result (constant_bits 16 0) n₁ h k.0 bx.result (constant_word n₁ 16 0 h)) λ r n₂ l₂ br.
      correct_bind _ _ (mark_correct marks x.mark (product_passes! c x.result) _ n₂ (omega (arith, bx.mark))
      (product_passes_correct c x.result n₂ (omega arith) (word_up l₂ bx.result))) λ t n₃ l₃ bt.
      correct_give _ (record { result = word_up l₃ br; mark = bt }) λ ρ one et er ex.
      record {
        result = er ∙ rw (number_constant ρ one 16 0 (omega arith)) (times_is c (number ρ x.result)) ∙ ap (times c) ex.result;
        mark = one_mark ex t _ (et ∙ ap (λ u. literal_true ρ x.mark || (marks && outside (signed c *ℤ signed u))) ex.result);
      }

  abbrev pub BoolMeans : Literal → BoolExpr → Assignment → WithMark Literal → Type 0
  BoolMeans m e ρ r = MarkedMeans (λ x. literal_true ρ x ≡ eval_bool l (state_of ρ s) e) ρ m marks (passes_bool l (state_of ρ s) e) r

  pub bool_correct : (e : BoolExpr) (m : Literal) (n : ℕ) → Fits ws n s → LiteralBelow n m → BoolOk ws l e
      → Correct n (bool! marks l s m e n) (MarkedShape LiteralBelow) (BoolMeans m e)
  unfolding bool! eval_bool passes_bool
  bool_correct (constant_b b) m n f bm k =
      correct_give _ (record { result = literal_of_below n b f.known; mark = bm }) λ ρ one.
      record { result = literal_of_true ρ one b; mark = mark_none (literal_true ρ m) marks }
  bool_correct (variable_b v) m n f bm k =
      correct_give _ (record { result = boolean_below v f; mark = bm }) λ ρ one.
      record { result = boolean_value ws n s v f k ρ; mark = mark_none (literal_true ρ m) marks }
  bool_correct (not_b a) m n f bm k =
      correct_bind _ _ (bool_correct a m n f bm k) λ x n₁ l₁ bx.
      correct_give _ (record { result = negate_below n₁ x.result bx.result; mark = bx.mark }) λ ρ one ex.
      record { result = negate_true ρ x.result ∙ ap not ex.result; mark = ex.mark }
  bool_correct (and_b a b) m n f bm k =
      correct_bind _ _ (bool_correct a m n f bm k.0) λ x n₁ l₁ bx.
      correct_bind _ _ (bool_correct b x.mark n₁ (fits_up l₁ f) bx.mark k.1) λ y n₂ l₂ by.
      correct_bind _ _ (and_correct x.result y.result n₂ (omega (arith, bx.result)) by.result) λ r n₃ l₃ br.
      correct_give _ (record { result = br; mark = omega (arith, by.mark) }) λ ρ one er ey ex.
      record { result = er ∙ ap₂ ◌&&◌ ex.result ey.result; mark = two_marks ex ey }
  bool_correct (or_b a b) m n f bm k =
      correct_bind _ _ (bool_correct a m n f bm k.0) λ x n₁ l₁ bx.
      correct_bind _ _ (bool_correct b x.mark n₁ (fits_up l₁ f) bx.mark k.1) λ y n₂ l₂ by.
      correct_bind _ _ (or_correct x.result y.result n₂ (omega (arith, bx.result)) by.result) λ r n₃ l₃ br.
      correct_give _ (record { result = br; mark = omega (arith, by.mark) }) λ ρ one er ey ex.
      record { result = er ∙ ap₂ ◌||◌ ex.result ey.result; mark = two_marks ex ey }
  bool_correct (equal a b) m n f bm k =
      correct_bind _ _ (int_correct a m n f bm k.0) λ x n₁ l₁ bx.
      correct_bind _ _ (int_correct b x.mark n₁ (fits_up l₁ f) bx.mark k.1) λ y n₂ l₂ by.
      correct_bind _ _ (equal_correct 16 x.result y.result n₂ (omega (arith, f.known)) (word_up l₂ bx.result) by.result) λ r n₃ l₃ br.
      correct_give _ (record { result = br; mark = omega (arith, by.mark) }) λ ρ one er ey ex.
      record { result = er ∙ ap₂ eqb ex.result ey.result; mark = two_marks ex ey }
  bool_correct (less a b) m n f bm k =
      correct_bind _ _ (int_correct a m n f bm k.0) λ x n₁ l₁ bx.
      correct_bind _ _ (int_correct b x.mark n₁ (fits_up l₁ f) bx.mark k.1) λ y n₂ l₂ by.
      correct_bind _ _ (less_correct 15 x.result y.result n₂ (omega (arith, f.known)) (word_up l₂ bx.result) by.result) λ r n₃ l₃ br.
      correct_give _ (record { result = br; mark = omega (arith, by.mark) }) λ ρ one er ey ex.
      record {
        result = er ∙ below_is (number ρ x.result) (number ρ y.result) ∙ ap₂ below ex.result ey.result;
        mark = two_marks ex ey;
      }

-- an expression that marks nothing
pub test_correct : (ws : List ℕ) (l : Layout) (s : Slots) (e : BoolExpr) (n : ℕ) → Fits ws n s → BoolOk ws l e
    → Correct n (test! l s e n) LiteralBelow (λ ρ r. literal_true ρ r ≡ eval_bool l (state_of ρ s) e)
unfolding test!
test_correct ws l s e n f k =
    correct_bind _ _ (bool_correct ws l s false e false_literal n f (omega (arith, f.known)) k) λ x n₁ l₁ bx.
    correct_give _ bx.result λ ρ one ex. ex.result
