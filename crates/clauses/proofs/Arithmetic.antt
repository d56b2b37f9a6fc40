-- The circuits on bits: sum, difference, product by a constant, signed less, each over any width w (equal is in Equality). The number that bits stand for is low first.
use Rattle.std.proofs.Common.{◌≡◌, ℕ, zero, suc, ◌+◌, ◌-◌, ◌*◌, ◌/◌, ◌%◌, ◌^◌, ◌<◌, ◌≤◌, Bool, true, false, not, ◌&&◌, ◌||◌, ltb, [], ◌∷◌, map, length, sym, refl, ap, ◌∙◌, ap₂, le_refl, mod-eq_of_lt, mul_comm, pow-suc, arith, le-ltb, lt-ltb}
use native.Mathlib.Nat.{add-mul-mod_self_left, mod-add-div}
use lib.ListN.{length-map}
use Rattle.design.specs.Tree.{bit, truth}
use Rattle.clauses.specs.Literal.{Literal, negate, true_literal, false_literal}
use Rattle.clauses.specs.Meaning.{Assignment, literal_true}
use Rattle.clauses.specs.Circuit.{Bits, Summed, earlier_of, sum!, difference!, shift, addend, product!, negate_top, less! }
use Rattle.clauses.proofs.Gates.{differ, negate_true}
use Rattle.clauses.proofs.Correct.{LiteralBelow, Correct, correct_give, correct_bind, correct_weaken, correct_means, and_correct, xor_correct, or_correct, negate_below}

abbrev pub BitsBelow : ℕ → Bits → Type 0
BitsBelow n [] = Unit {0}
BitsBelow n (l ∷ ls) = LiteralBelow n l × BitsBelow n ls

pub bits_up : {n k : ℕ} → n ≤ k → (xs : Bits) → BitsBelow n xs → BitsBelow k xs
bits_up h [] b = tt
bits_up h (x ∷ xs) b = (omega arith, bits_up h xs b.1)

-- so many bits, below k
pub record Word (w k : ℕ) (xs : Bits) : Type 0 where
  pub below : BitsBelow k xs
  pub wide : length xs ≡ w

pub word_up : {w n k : ℕ} {xs : Bits} → n ≤ k → Word w n xs → Word w k xs
word_up {xs = xs} h x = record { below = bits_up h xs x.below; wide = x.wide }

-- the number that bits stand for
abbrev pub number : Assignment → Bits → ℕ
number ρ [] = 0
number ρ (l ∷ ls) = bit (literal_true ρ l) + 2 * number ρ ls

full_adder : (a b c : Bool) → bit (differ (differ a b) c) + 2 * bit ((a && b) || (differ a b && c)) ≡ bit a + bit b + bit c
full_adder true true true = refl
full_adder true true false = refl
full_adder true false true = refl
full_adder true false false = refl
full_adder false true true = refl
full_adder false true false = refl
full_adder false false true = refl
full_adder false false false = refl

pub suc_inj : {a b : ℕ} → suc a ≡ suc b → a ≡ b
suc_inj e = omega arith

-- the bits below the top one, and the top one
abbrev lower : Bits → Bits
lower [] = []
lower (x ∷ []) = []
lower (x ∷ y ∷ ys) = x ∷ lower (y ∷ ys)

abbrev top : Assignment → Bits → Bool
top ρ [] = false
top ρ (x ∷ []) = literal_true ρ x
top ρ (x ∷ y ∷ ys) = top ρ (y ∷ ys)

length_lower : (x : Literal) (xs : Bits) → length (lower (x ∷ xs)) ≡ length xs
length_lower x [] = refl
length_lower x (y ∷ ys) = ap suc (length_lower y ys)

-- bits and last carry together are the sum; so are the bits below the top one and the carry that goes into it
abbrev SumLaw : Bits → Bits → Literal → Assignment → Bits → Literal → Type 0
SumLaw xs ys c ρ zs carry = number ρ zs + 2 ^ length xs * bit (literal_true ρ carry) ≡ number ρ xs + number ρ ys + bit (literal_true ρ c)

abbrev LowerLaw : Bits → Bits → Literal → Assignment → Bits → Literal → Type 0
LowerLaw xs ys c ρ zs earlier = SumLaw (lower xs) (lower ys) c ρ (lower zs) earlier

-- the carry out of two bits and a carry; the last one comes out of the top bits and the carry that goes into them
abbrev carry_of : Bool → Bool → Bool → Bool
carry_of a b c = (a && b) || (differ a b && c)

abbrev TopLaw : Bits → Bits → Literal → Assignment → Literal → Literal → Type 0
TopLaw [] ys c ρ carry earlier = literal_true ρ carry ≡ literal_true ρ c
TopLaw (x ∷ xs) ys c ρ carry earlier = literal_true ρ carry ≡ carry_of (top ρ (x ∷ xs)) (top ρ ys) (literal_true ρ earlier)

record SumLaws (xs ys : Bits) (c : Literal) (ρ : Assignment) (r : Summed) : Type 0 where
  whole : SumLaw xs ys c ρ r.bits r.carry
  low : LowerLaw xs ys c ρ r.bits r.earlier
  high : TopLaw xs ys c ρ r.carry r.earlier

pub record SumShape (w k : ℕ) (r : Summed) : Type 0 where
  pub bits : Word w k r.bits
  pub carry : LiteralBelow k r.carry
  pub earlier : LiteralBelow k r.earlier

ripple : (x y c s d cy : ℕ) (X Y R W : ℕ) → s + 2 * d ≡ x + y + c → R + W * cy ≡ X + Y + d
    → (s + 2 * R) + 2 * W * cy ≡ (x + 2 * X) + (y + 2 * Y) + c
ripple x y c s d cy X Y R W p q = omega arith

earlier_below : (k : ℕ) (c : Literal) (xs : Bits) (e : Literal) → LiteralBelow k c → LiteralBelow k e → LiteralBelow k (earlier_of c xs e)
earlier_below k c [] e p q = p
earlier_below k c (x ∷ xs) e p q = q

-- a full adder below a sum: its carry d goes on
module _ (ρ : Assignment) (x y c s d : Literal)
    (adds : bit (literal_true ρ s) + 2 * bit (literal_true ρ d) ≡ bit (literal_true ρ x) + bit (literal_true ρ y) + bit (literal_true ρ c))
    (carries : literal_true ρ d ≡ carry_of (literal_true ρ x) (literal_true ρ y) (literal_true ρ c)) where
  ripple_whole : (xs ys zs : Bits) (carry : Literal) → SumLaw xs ys d ρ zs carry → SumLaw (x ∷ xs) (y ∷ ys) c ρ (s ∷ zs) carry
  ripple_whole xs ys zs carry e =
      rw (pow-suc 2 (length xs), mul_comm (2 ^ length xs) 2)
      (ripple (bit (literal_true ρ x)) (bit (literal_true ρ y)) (bit (literal_true ρ c)) (bit (literal_true ρ s)) (bit (literal_true ρ d)) (bit (literal_true ρ carry))
      (number ρ xs) (number ρ ys) (number ρ zs) (2 ^ length xs) adds e)

  ripple_low : (xs ys zs : Bits) (earlier : Literal) → length xs ≡ length ys → length zs ≡ length xs → LowerLaw xs ys d ρ zs earlier
      → LowerLaw (x ∷ xs) (y ∷ ys) c ρ (s ∷ zs) (earlier_of c zs earlier)
  ripple_low [] [] [] earlier e f l = omega arith
  ripple_low [] [] (z ∷ zs) earlier e f l = absurd (omega arith)
  ripple_low [] (v ∷ ys) zs earlier e f l = absurd (omega arith)
  ripple_low (u ∷ xs) [] zs earlier e f l = absurd (omega arith)
  ripple_low (u ∷ xs) (v ∷ ys) [] earlier e f l = absurd (omega arith)
  ripple_low (u ∷ xs) (v ∷ ys) (z ∷ zs) earlier e f l = ripple_whole (lower (u ∷ xs)) (lower (v ∷ ys)) (lower (z ∷ zs)) earlier l

  ripple_high : (xs ys zs : Bits) (carry earlier : Literal) → length xs ≡ length ys → length zs ≡ length xs → TopLaw xs ys d ρ carry earlier
      → TopLaw (x ∷ xs) (y ∷ ys) c ρ carry (earlier_of c zs earlier)
  ripple_high [] [] [] carry earlier e f l = l ∙ carries
  ripple_high [] [] (z ∷ zs) carry earlier e f l = absurd (omega arith)
  ripple_high [] (v ∷ ys) zs carry earlier e f l = absurd (omega arith)
  ripple_high (u ∷ xs) [] zs carry earlier e f l = absurd (omega arith)
  ripple_high (u ∷ xs) (v ∷ ys) [] carry earlier e f l = absurd (omega arith)
  ripple_high (u ∷ xs) (v ∷ ys) (z ∷ zs) carry earlier e f l = l

sum_correct : (xs ys : Bits) (c : Literal) (n : ℕ) → length xs ≡ length ys → BitsBelow n xs → BitsBelow n ys → LiteralBelow n c
    → Correct n (sum! xs ys c n) (SumShape (length xs)) (SumLaws xs ys c)
unfolding sum!
sum_correct [] [] c n e bx by bc =
    correct_give _ (record { bits = record { below = tt; wide = refl }; carry = bc; earlier = bc }) λ ρ t. record { whole = omega arith; low = omega arith; high = refl }
sum_correct [] (y ∷ ys) c n e bx by bc = absurd (omega arith)
sum_correct (x ∷ xs) [] c n e bx by bc = absurd (omega arith)
sum_correct (x ∷ xs) (y ∷ ys) c n e bx by bc =
    correct_bind _ _ (xor_correct x y n bx.0 by.0) λ p k₁ l₁ bp.
    correct_bind _ _ (xor_correct p c k₁ bp (omega arith)) λ s k₂ l₂ bs.
    correct_bind _ _ (and_correct x y k₂ (omega (arith, bx.0)) (omega (arith, by.0))) λ u k₃ l₃ bu.
    correct_bind _ _ (and_correct p c k₃ (omega arith) (omega arith)) λ t k₄ l₄ bt.
    correct_bind _ _ (or_correct u t k₄ (omega arith) bt) λ d k₅ l₅ bd.
    correct_bind _ _ (sum_correct xs ys d k₅ (suc_inj e) (bits_up (omega arith) xs bx.1) (bits_up (omega arith) ys by.1) bd) λ r k₆ l₆ br.
    correct_give _ (record {
      bits = record { below = (omega arith, br.bits.below); wide = ap suc br.bits.wide };
      carry = br.carry;
      earlier = earlier_below k₆ c r.bits r.earlier (omega arith) br.earlier;
    }) λ ρ one er ed et eu es ep.
    let h : bit (literal_true ρ s) + 2 * bit (literal_true ρ d) ≡ bit (literal_true ρ x) + bit (literal_true ρ y) + bit (literal_true ρ c)
    = rw (es, ed, et, eu, ep) (full_adder (literal_true ρ x) (literal_true ρ y) (literal_true ρ c)) in
    let k : literal_true ρ d ≡ carry_of (literal_true ρ x) (literal_true ρ y) (literal_true ρ c) = rw (ed, et, eu, ep) in
    record {
      whole = ripple_whole ρ x y c s d h k xs ys r.bits r.carry er.whole;
      low = ripple_low ρ x y c s d h k xs ys r.bits r.earlier (suc_inj e) br.bits.wide er.low;
      high = ripple_high ρ x y c s d h k xs ys r.bits r.carry r.earlier (suc_inj e) br.bits.wide er.high;
    }

-- bits stand for a number below the power of their count
pub number_lt : (ρ : Assignment) (xs : Bits) → number ρ xs < 2 ^ length xs
number_lt ρ [] = le_refl 1
number_lt ρ (x ∷ xs) = let h = number_lt ρ xs in let b = bit_le (literal_true ρ x) in rw (pow-suc 2 (length xs)) (omega arith)
  where
    bit_le : (b : Bool) → bit b ≤ 1
    bit_le true = le_refl 1
    bit_le false = omega arith

pub length_negate : (xs : Bits) → length (map negate xs) ≡ length xs
length_negate [] = refl
length_negate (x ∷ xs) = ap suc (length_negate xs)

pub bits_negate : (n : ℕ) (xs : Bits) → BitsBelow n xs → BitsBelow n (map negate xs)
bits_negate n [] b = tt
bits_negate n (x ∷ xs) b = (negate_below n x b.0, bits_negate n xs b.1)

-- bits and their negations sum to the ones
number_negate : (ρ : Assignment) (xs : Bits) → number ρ (map negate xs) + number ρ xs + 1 ≡ 2 ^ length xs
number_negate ρ [] = refl
number_negate ρ (x ∷ xs) = let h = number_negate ρ xs in let b = bit_not (literal_true ρ x) in rw (negate_true ρ x, pow-suc 2 (length xs)) (omega arith)
  where
    bit_not : (b : Bool) → bit (not b) + bit b ≡ 1
    bit_not true = refl
    bit_not false = refl

mod_of : (a b W q : ℕ) → a < W → a + W * q ≡ b → a ≡ b % W
mod_of a b W q h e = sym (mod-eq_of_lt h) ∙ sym (add-mul-mod_self_left a W q) ∙ ap (λ x. x % W) e

-- the sum's bits alone, modulo the power of the width
sum_mod : (w : ℕ) (ρ : Assignment) (xs ys : Bits) (c : Literal) (r : Summed) (k : ℕ) → length xs ≡ w → SumShape (length xs) k r → SumLaws xs ys c ρ r
    → number ρ r.bits ≡ (number ρ xs + number ρ ys + bit (literal_true ρ c)) % 2 ^ w
sum_mod w ρ xs ys c r k e sh law =
    mod_of (number ρ r.bits) (number ρ xs + number ρ ys + bit (literal_true ρ c)) (2 ^ w) (bit (literal_true ρ r.carry))
    (rw (sh.bits.wide ∙ e) at (number_lt ρ r.bits)) (rw e at law.whole)

abbrev SummedWord : ℕ → ℕ → Summed → Type 0
SummedWord w k r = Word w k r.bits

-- "sums and differences wrap"
pub add_correct : (w : ℕ) (xs ys : Bits) (n : ℕ) → 1 < n → Word w n xs → Word w n ys
    → Correct n (sum! xs ys false_literal n) (SummedWord w) (λ ρ r. number ρ r.bits ≡ (number ρ xs + number ρ ys) % 2 ^ w)
add_correct w xs ys n h bx by =
    correct_weaken (sum_correct xs ys false_literal n (bx.wide ∙ sym by.wide) bx.below by.below (omega arith)) λ r k l br. (
      record { below = br.bits.below; wide = br.bits.wide ∙ bx.wide },
      λ ρ one e. sum_mod w ρ xs ys false_literal r k bx.wide br e ∙ ap (λ x. x % 2 ^ w) (rw one (omega arith)),
    )

-- the top bit negated: half the range is added
top_step : (x F t N P Q : ℕ) → F + Q * t ≡ N + P → x + 2 * F + Q * 2 * t ≡ x + 2 * N + P * 2
top_step x F t N P Q e = omega arith

number_negate_top : (ρ : Assignment) (v : ℕ) (xs : Bits) → length xs ≡ suc v → number ρ (negate_top xs) + 2 ^ suc v * bit (top ρ xs) ≡ number ρ xs + 2 ^ v
number_negate_top ρ v [] e = absurd (omega arith)
number_negate_top ρ zero (x ∷ []) e = rw (negate_true ρ x) (go (literal_true ρ x))
  where
    go : (b : Bool) → bit (not b) + 2 * 0 + 2 ^ 1 * bit b ≡ bit b + 2 * 0 + 2 ^ 0
    go true = refl
    go false = refl
number_negate_top ρ zero (x ∷ y ∷ ys) e = absurd (omega arith)
number_negate_top ρ (suc v) (x ∷ []) e = absurd (omega arith)
number_negate_top ρ (suc v) (x ∷ y ∷ ys) e =
    rw (← pow-suc 2 (suc v), ← pow-suc 2 v) at
    (top_step (bit (literal_true ρ x)) (number ρ (negate_top (y ∷ ys))) (bit (top ρ (y ∷ ys))) (number ρ (y ∷ ys)) (2 ^ v) (2 ^ suc v)
    (number_negate_top ρ v (y ∷ ys) (suc_inj e)))

pub length_negate_top : (xs : Bits) → length (negate_top xs) ≡ length xs
length_negate_top [] = refl
length_negate_top (x ∷ []) = refl
length_negate_top (x ∷ y ∷ ys) = ap suc (length_negate_top (y ∷ ys))

bits_negate_top : (n : ℕ) (xs : Bits) → BitsBelow n xs → BitsBelow n (negate_top xs)
bits_negate_top n [] b = tt
bits_negate_top n (x ∷ []) b = (negate_below n x b.0, tt)
bits_negate_top n (x ∷ y ∷ ys) b = (b.0, bits_negate_top n (y ∷ ys) b.1)

-- a pattern of v + 1 bits with half the range added and wrapped: the signed number that it stands for, with half the range added
abbrev pub raised : ℕ → ℕ → ℕ
raised v a = (a + 2 ^ v) % 2 ^ suc v

number_raised : (ρ : Assignment) (v : ℕ) (xs : Bits) → length xs ≡ suc v → number ρ (negate_top xs) ≡ raised v (number ρ xs)
number_raised ρ v xs e =
    mod_of (number ρ (negate_top xs)) (number ρ xs + 2 ^ v) (2 ^ suc v) (bit (top ρ xs)) (rw (length_negate_top xs ∙ e) at (number_lt ρ (negate_top xs))) (number_negate_top ρ v xs e)

-- the bits below the top one, and the top one negated
lower_step : (x L N W t : ℕ) → N ≡ L + W * t → x + 2 * N ≡ x + 2 * L + W * 2 * t
lower_step x L N W t e = omega arith

number_lower : (ρ : Assignment) (v : ℕ) (xs : Bits) → length xs ≡ suc v → number ρ (negate_top xs) ≡ number ρ (lower xs) + 2 ^ v * bit (not (top ρ xs))
number_lower ρ v [] e = absurd (omega arith)
number_lower ρ zero (x ∷ []) e = rw (negate_true ρ x) (omega arith)
number_lower ρ zero (x ∷ y ∷ ys) e = absurd (omega arith)
number_lower ρ (suc v) (x ∷ []) e = absurd (omega arith)
number_lower ρ (suc v) (x ∷ y ∷ ys) e =
    rw (pow-suc 2 v)
    (lower_step (bit (literal_true ρ x)) (number ρ (lower (y ∷ ys))) (number ρ (negate_top (y ∷ ys))) (2 ^ v) (bit (not (top ρ (y ∷ ys)))) (number_lower ρ v (y ∷ ys) (suc_inj e)))

-- An exact value passes the end. `W` is half the range, and `z` the value with the whole range added: the values inside, from -W up to W, then stand from W up to 3 * W.
abbrev pub passed : ℕ → ℕ → Bool
passed W z = ltb z W || not (ltb z (3 * W))

stays : (W z : ℕ) → W ≤ z → z < 3 * W → false ≡ passed W z
stays W z h k = rw (le-ltb z W h, lt-ltb z (3 * W) k)

falls_under : (W z : ℕ) → z < W → true ≡ passed W z
falls_under W z h = rw (lt-ltb z W h)

goes_over : (W z : ℕ) → 3 * W ≤ z → true ≡ passed W z
goes_over W z h = let l : W ≤ z = omega arith in rw (le-ltb z W l, le-ltb z (3 * W) h)

-- the two last carries differ exactly where the exact sum passes the end: by the top bits a and b and the carry e into them
carries_differ : (a b e : Bool) (W s x y c : ℕ) → s < W → s + W * bit e ≡ x + y + c
    → differ e (carry_of a b e) ≡ passed W (x + W * bit (not a) + (y + W * bit (not b)) + c)
carries_differ true true true W s x y c h k = stays W _ (omega arith) (omega arith)
carries_differ true true false W s x y c h k = falls_under W _ (omega arith)
carries_differ true false true W s x y c h k = stays W _ (omega arith) (omega arith)
carries_differ true false false W s x y c h k = stays W _ (omega arith) (omega arith)
carries_differ false true true W s x y c h k = stays W _ (omega arith) (omega arith)
carries_differ false true false W s x y c h k = stays W _ (omega arith) (omega arith)
carries_differ false false true W s x y c h k = goes_over W _ (omega arith)
carries_differ false false false W s x y c h k = stays W _ (omega arith) (omega arith)

wide_lower : (v : ℕ) (xs : Bits) → length xs ≡ suc v → length (lower xs) ≡ v
wide_lower v [] e = absurd (omega arith)
wide_lower v (x ∷ xs) e = length_lower x xs ∙ suc_inj e

last_top : (v : ℕ) (ρ : Assignment) (xs ys : Bits) (c carry earlier : Literal) → length xs ≡ suc v → TopLaw xs ys c ρ carry earlier
    → literal_true ρ carry ≡ carry_of (top ρ xs) (top ρ ys) (literal_true ρ earlier)
last_top v ρ [] ys c carry earlier e l = absurd (omega arith)
last_top v ρ (x ∷ xs) ys c carry earlier e l = l

sum_passes_lem : (v : ℕ) (ρ : Assignment) (xs ys : Bits) (c : Literal) (r : Summed) (k : ℕ) → length xs ≡ suc v → length ys ≡ suc v → SumShape (length xs) k r → SumLaws xs ys c ρ r
    → differ (literal_true ρ r.earlier) (literal_true ρ r.carry) ≡ passed (2 ^ v) (number ρ (negate_top xs) + number ρ (negate_top ys) + bit (literal_true ρ c))
sum_passes_lem v ρ xs ys c r k ex ey sh law =
    let e = literal_true ρ r.earlier in
    let lx = wide_lower v xs ex in
    let h : number ρ (lower r.bits) < 2 ^ v = rw (wide_lower v r.bits (sh.bits.wide ∙ ex)) at (number_lt ρ (lower r.bits)) in
    let l : number ρ (lower r.bits) + 2 ^ v * bit e ≡ number ρ (lower xs) + number ρ (lower ys) + bit (literal_true ρ c) = rw lx at law.low in
    ap (differ e) (last_top v ρ xs ys c r.carry r.earlier ex law.high)
    ∙ carries_differ (top ρ xs) (top ρ ys) e (2 ^ v) (number ρ (lower r.bits)) (number ρ (lower xs)) (number ρ (lower ys)) (bit (literal_true ρ c)) h l
    ∙ ap₂ (λ x y. passed (2 ^ v) (x + y + bit (literal_true ρ c))) (sym (number_lower ρ v xs ex)) (sym (number_lower ρ v ys ey))

-- What a sum's or difference's bits and last two carries say: the wrapped value, and whether the exact value passes the end.
pub record Ends (v value raised_value : ℕ) (ρ : Assignment) (r : Summed) : Type 0 where
  pub wraps : number ρ r.bits ≡ value % 2 ^ suc v
  pub passes : differ (literal_true ρ r.earlier) (literal_true ρ r.carry) ≡ passed (2 ^ v) raised_value

shape_at : {w n k : ℕ} {xs : Bits} {r : Summed} → Word w n xs → SumShape (length xs) k r → SumShape w k r
shape_at bx br = record { bits = record { below = br.bits.below; wide = br.bits.wide ∙ bx.wide }; carry = br.carry; earlier = br.earlier }

pub sum_ends : (v : ℕ) (xs ys : Bits) (n : ℕ) → 1 < n → Word (suc v) n xs → Word (suc v) n ys
    → Correct n (sum! xs ys false_literal n) (SumShape (suc v)) (λ ρ r. Ends v (number ρ xs + number ρ ys) (raised v (number ρ xs) + raised v (number ρ ys)) ρ r)
sum_ends v xs ys n h bx by =
    correct_weaken (sum_correct xs ys false_literal n (bx.wide ∙ sym by.wide) bx.below by.below (omega arith)) λ r k l br. (
      shape_at bx br,
      λ ρ one e. record {
        wraps = sum_mod (suc v) ρ xs ys false_literal r k bx.wide br e ∙ ap (λ x. x % 2 ^ suc v) (rw one (omega arith));
        passes = sum_passes_lem v ρ xs ys false_literal r k bx.wide by.wide br e
            ∙ ap (passed (2 ^ v)) (rw (one, number_raised ρ v xs bx.wide, number_raised ρ v ys by.wide) (omega arith));
      },
    )

minus_negate : (x y f W : ℕ) → f + y + 1 ≡ W → x + f + 1 ≡ x + (W - y)
minus_negate x y f W e = omega arith

negate_top_negate : (xs : Bits) → negate_top (map negate xs) ≡ map negate (negate_top xs)
negate_top_negate [] = refl
negate_top_negate (x ∷ []) = refl
negate_top_negate (x ∷ y ∷ ys) = ap (λ l. negate x ∷ l) (negate_top_negate (y ∷ ys))

pub difference_ends : (v : ℕ) (xs ys : Bits) (n : ℕ) → 1 < n → Word (suc v) n xs → Word (suc v) n ys
    → Correct n (difference! xs ys n) (SumShape (suc v))
    (λ ρ r. Ends v (number ρ xs + (2 ^ suc v - number ρ ys)) (raised v (number ρ xs) + (2 ^ suc v - raised v (number ρ ys))) ρ r)
unfolding difference!
difference_ends v xs ys n h bx by =
    let ey = length_negate ys ∙ by.wide in
    correct_weaken (sum_correct xs (map negate ys) true_literal n (bx.wide ∙ sym ey) bx.below (bits_negate n ys by.below) (omega arith)) λ r k l br. (
      shape_at bx br,
      λ ρ one e. record {
        wraps = sum_mod (suc v) ρ xs (map negate ys) true_literal r k bx.wide br e
            ∙ ap (λ x. x % 2 ^ suc v) (rw one (minus_negate (number ρ xs) (number ρ ys) (number ρ (map negate ys)) (2 ^ suc v) (rw by.wide at (number_negate ρ ys))));
        passes = sum_passes_lem v ρ xs (map negate ys) true_literal r k bx.wide ey br e
            ∙ ap (passed (2 ^ v)) (rw (one, negate_top_negate ys)
            (minus_negate (number ρ (negate_top xs)) (number ρ (negate_top ys)) (number ρ (map negate (negate_top ys))) (2 ^ suc v)
            (rw (length_negate_top ys ∙ by.wide) at (number_negate ρ (negate_top ys))))
            ∙ ap₂ (λ x y. x + (2 ^ suc v - y)) (number_raised ρ v xs bx.wide) (number_raised ρ v ys by.wide));
      },
    )

-- A product by a constant. One place up: twice the number, without what is dropped.
pub length_shift : (x : Literal) (ys : Bits) → length (shift x ys) ≡ length ys
length_shift x [] = refl
length_shift x (y ∷ ys) = ap suc (length_shift y ys)

bits_shift : (n : ℕ) (x : Literal) (ys : Bits) → LiteralBelow n x → BitsBelow n ys → BitsBelow n (shift x ys)
bits_shift n x [] b c = tt
bits_shift n x (y ∷ ys) b c = (b, bits_shift n y ys c.0 c.1)

shift_word : {w n : ℕ} (xs : Bits) → 1 < n → Word w n xs → Word w n (shift false_literal xs)
shift_word {n = n} xs h x = record { below = bits_shift n false_literal xs (omega arith) x.below; wide = length_shift false_literal xs ∙ x.wide }

-- what a shift drops
abbrev dropped : Assignment → Literal → Bits → Bool
dropped ρ x [] = literal_true ρ x
dropped ρ x (y ∷ ys) = dropped ρ y ys

shift_step : (x y F t N W : ℕ) → F + W * t ≡ y + 2 * N → x + 2 * F + W * 2 * t ≡ x + 2 * (y + 2 * N)
shift_step x y F t N W e = omega arith

number_shift : (ρ : Assignment) (x : Literal) (ys : Bits) → number ρ (shift x ys) + 2 ^ length ys * bit (dropped ρ x ys) ≡ bit (literal_true ρ x) + 2 * number ρ ys
number_shift ρ x [] = omega arith
number_shift ρ x (y ∷ ys) =
    rw (pow-suc 2 (length ys))
    (shift_step (bit (literal_true ρ x)) (bit (literal_true ρ y)) (number ρ (shift y ys)) (bit (dropped ρ y ys)) (number ρ ys) (2 ^ length ys) (number_shift ρ y ys))

double_mod : (w : ℕ) (ρ : Assignment) → ρ 1 ≡ true → (xs : Bits) → length xs ≡ w → number ρ (shift false_literal xs) ≡ (2 * number ρ xs) % 2 ^ w
double_mod w ρ one xs e =
    mod_of (number ρ (shift false_literal xs)) (2 * number ρ xs) (2 ^ w) (bit (dropped ρ false_literal xs))
    (rw (length_shift false_literal xs ∙ e) at (number_lt ρ (shift false_literal xs)))
    (rw (one, e) at (number_shift ρ false_literal xs) ∙ omega arith)

-- what a turn adds: the operand as often as the bit says
pub length_addend : (b : Bool) (xs : Bits) → length (addend b xs) ≡ length xs
length_addend true xs = refl
length_addend false xs = length-map xs (λ (x : Literal). false_literal)

addend_word : {w n : ℕ} (b : Bool) (xs : Bits) → 1 < n → Word w n xs → Word w n (addend b xs)
addend_word {n = n} b xs h x = record { below = go b xs x.below; wide = length_addend b xs ∙ x.wide }
  where
    go : (b : Bool) (xs : Bits) → BitsBelow n xs → BitsBelow n (addend b xs)
    go true xs p = p
    go false [] p = tt
    go false (y ∷ ys) p = (omega arith, go false ys p.1)

number_addend : (ρ : Assignment) → ρ 1 ≡ true → (b : Bool) (xs : Bits) → number ρ (addend b xs) ≡ bit b * number ρ xs
number_addend ρ one true xs = omega arith
number_addend ρ one false [] = refl
number_addend ρ one false (x ∷ xs) = let h = number_addend ρ one false xs in rw one (omega arith)

-- remainders taken before a multiple is added or after: the same
gather : (a y h W p q : ℕ) → a + h * y + W * (p + h * q) ≡ a + W * p + h * (y + W * q)
gather a y h W p q = omega arith

mod_mul : (A Y h W : ℕ) → (A % W + h * (Y % W)) % W ≡ (A + h * Y) % W
mod_mul A Y h W =
    sym (add-mul-mod_self_left (A % W + h * (Y % W)) W (A / W + h * (Y / W)))
    ∙ ap (λ x. x % W) (gather (A % W) (Y % W) h W (A / W) (Y / W) ∙ ap₂ (λ x y. x + h * y) (mod-add-div A W) (mod-add-div Y W))

-- the low bit's share, and twice the operand for the rest of the constant
spread : (A X h b W : ℕ) → ((A + b * X) % W + h * (2 * X % W)) % W ≡ (A + (b + 2 * h) * X) % W
spread A X h b W = mod_mul (A + b * X) (2 * X) h W ∙ ap (λ x. x % W) (omega arith)

pub bit_truth : (n : ℕ) → n < 2 → bit (truth n) ≡ n
bit_truth zero h = refl
bit_truth (suc zero) h = refl
bit_truth (suc (suc n)) h = absurd (omega arith)

-- Of any width and any number of sums, enough for the constant's bits: the sum so far and the product, wrapped. Each turn is one sum.
pub product_correct : (w left c : ℕ) (xs partial : Bits) (n : ℕ) → 1 < n → c < 2 ^ left → Word w n xs → Word w n partial
    → Correct n (product! left c xs partial n) (Word w) (λ ρ r. number ρ r ≡ (number ρ partial + c * number ρ xs) % 2 ^ w)
unfolding product!
product_correct w zero c xs partial n h hc bx bp =
    correct_give _ bp λ ρ one.
    let z : c ≡ 0 = omega arith in
    sym (mod-eq_of_lt (rw bp.wide at (number_lt ρ partial))) ∙ ap (λ y. y % 2 ^ w) (rw z (omega arith))
product_correct w (suc left) c xs partial n h hc bx bp =
    let hc' : c < 2 ^ left * 2 = rw (pow-suc 2 left) at hc in
    let b = truth (c % 2) in
    correct_bind _ _ (add_correct w partial (addend b xs) n h bp (addend_word b xs h bx)) λ r k l br.
    correct_means (product_correct w left (c / 2) (shift false_literal xs) r.bits k (omega arith) (omega arith) (shift_word xs (omega arith) (word_up l bx)) br)
    λ ρ a one e er.
    let q : bit b + 2 * (c / 2) ≡ c = omega (arith, bit_truth (c % 2) (omega arith)) in
    e ∙ rw (er, number_addend ρ one b xs, double_mod w ρ one xs bx.wide)
    (spread (number ρ partial) (number ρ xs) (c / 2) (bit b) (2 ^ w) ∙ ap (λ y. (number ρ partial + y * number ρ xs) % 2 ^ w) q)

-- the last carry of A - B is 1 exactly when B ≤ A
last_carry : (c : Bool) (A B W r : ℕ) → r < W → B < W → A < W → r + W * bit c ≡ A + (W - B) → not c ≡ ltb A B
last_carry true A B W r hr hb ha e = sym (le-ltb A B (omega arith))
last_carry false A B W r hr hb ha e = sym (lt-ltb A B (omega arith))

-- signed less: the order of what is left when half the range is added
pub less_correct : (v : ℕ) (xs ys : Bits) (n : ℕ) → 1 < n → Word (suc v) n xs → Word (suc v) n ys
    → Correct n (less! xs ys n) LiteralBelow (λ ρ r. literal_true ρ r ≡ ltb (raised v (number ρ xs)) (raised v (number ρ ys)))
unfolding less! difference!
less_correct v xs ys n h bx by =
    let ex = length_negate_top xs ∙ bx.wide in
    let ey = length_negate_top ys ∙ by.wide in
    correct_bind _ _ (sum_correct (negate_top xs) (map negate (negate_top ys)) true_literal n (ex ∙ sym (length_negate (negate_top ys) ∙ ey))
    (bits_negate_top n xs bx.below) (bits_negate n (negate_top ys) (bits_negate_top n ys by.below)) (omega arith)) λ r k l br.
    correct_give _ (negate_below k r.carry br.carry) λ ρ one e.
    let X = number ρ (negate_top xs) in
    let Y = number ρ (negate_top ys) in
    let hx : X < 2 ^ suc v = rw ex at (number_lt ρ (negate_top xs)) in
    let hy : Y < 2 ^ suc v = rw ey at (number_lt ρ (negate_top ys)) in
    let hr : number ρ r.bits < 2 ^ suc v = rw (br.bits.wide ∙ ex) at (number_lt ρ r.bits) in
    let fy : number ρ (map negate (negate_top ys)) + Y + 1 ≡ 2 ^ suc v = rw ey at (number_negate ρ (negate_top ys)) in
    let e' : number ρ r.bits + 2 ^ suc v * bit (literal_true ρ r.carry) ≡ X + (2 ^ suc v - Y)
    = rw (ex, one) at e.whole ∙ minus_negate X Y (number ρ (map negate (negate_top ys))) (2 ^ suc v) fy in
    negate_true ρ r.carry
    ∙ last_carry (literal_true ρ r.carry) X Y (2 ^ suc v) (number ρ r.bits) hr hy hx e'
    ∙ ap₂ ltb (number_raised ρ v xs bx.wide) (number_raised ρ v ys by.wide)
