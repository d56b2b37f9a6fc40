-- Which exact values lie outside the 16-bit range (document 02, R-5): of a sum or difference by the operands' patterns with half the range added, of a product by a constant by the
-- least and largest operand whose product stays inside.
use Rattle.std.proofs.Common.{◌≡◌, ℕ, zero, suc, ◌+◌, ◌-◌, ◌*◌, ◌/◌, ◌<◌, ◌≤◌, Bool, true, false, cond, ◌||◌, ltb, ℤ, pos, negsuc, ◌+ℤ◌, ◌-ℤ◌, ◌*ℤ◌, neg_ℤ, sym, refl, ap, ◌∙◌, ap₂, mul_comm, div-lt_iff_lt-mul, div-le_self, arith, ltb-false, ltb-true, le-ltb, lt-ltb}
use native.Mathlib.Nat.{div-lt_self}
use lib.IntN.{sub_ℕ}
use lib.Signed.{lt_z}
use Rattle.step.specs.Pattern.{below, signed, wrap, outside}
use Rattle.clauses.specs.Expression.{least_operand, largest_operand}
use Rattle.clauses.proofs.Arithmetic.{raised, passed}

-- x is the integer z with b added
abbrev Stands : ℕ → ℤ → ℕ → Type 0
Stands b (pos n) x = x ≡ b + n
Stands b (negsuc n) x = x + suc n ≡ b

stands_sub : (a m n x : ℕ) → x + n ≡ a + m → Stands a (sub_ℕ m n) x
stands_sub a m n x e = go (ltb m n) refl
  where
    go : (t : Bool) → ltb m n ≡ t → Stands a (cond t (negsuc (n - suc m)) (pos (m - n))) x
    go true h = let l = ltb-true m n h in omega arith
    go false h = let l = ltb-false m n h in omega arith

stands_sum : (a b : ℕ) (z u : ℤ) (x y : ℕ) → Stands a z x → Stands b u y → Stands (a + b) (z +ℤ u) (x + y)
stands_sum a b (pos m) (pos n) x y p q = omega arith
stands_sum a b (pos m) (negsuc n) x y p q = stands_sub (a + b) m (suc n) (x + y) (omega arith)
stands_sum a b (negsuc m) (pos n) x y p q = stands_sub (a + b) n (suc m) (x + y) (omega arith)
stands_sum a b (negsuc m) (negsuc n) x y p q = omega arith

stands_negated : (b : ℕ) (z : ℤ) (x : ℕ) → x ≤ 2 * b → Stands b z x → Stands b (neg_ℤ z) (2 * b - x)
stands_negated b (pos zero) x h p = omega arith
stands_negated b (pos (suc n)) x h p = omega arith
stands_negated b (negsuc n) x h p = omega arith

-- a pattern's integer with half the range added
stands_signed : (a : ℕ) → a < 65536 → Stands 32768 (signed a) (raised 15 a)
unfolding signed
stands_signed a h = go (ltb a 32768) refl
  where
    go : (t : Bool) → ltb a 32768 ≡ t → Stands 32768 (cond t (pos a) (neg_ℤ (pos (65536 - a)))) (raised 15 a)
    go true e = let l = ltb-true a 32768 e in omega arith
    go false e =
        let l = ltb-false a 32768 e in
        let s : suc (65535 - a) ≡ 65536 - a = omega arith in
        rw (← s) (omega arith)

-- of an integer with the whole range added
outside_at : (z : ℤ) (x : ℕ) → Stands 65536 z x → outside z ≡ passed 32768 x
unfolding outside
outside_at (pos n) x e = go (ltb 32767 n) refl
  where
    go : (t : Bool) → ltb 32767 n ≡ t → t ≡ passed 32768 x
    go true h = let l = ltb-true 32767 n h in let p : 32768 ≤ x = omega arith in let q : 98304 ≤ x = omega arith in rw (le-ltb x 32768 p, le-ltb x 98304 q)
    go false h = let l = ltb-false 32767 n h in let p : 32768 ≤ x = omega arith in let q : x < 98304 = omega arith in rw (le-ltb x 32768 p, lt-ltb x 98304 q)
outside_at (negsuc n) x e = go (ltb 32767 n) refl
  where
    go : (t : Bool) → ltb 32767 n ≡ t → t || false ≡ passed 32768 x
    go true h = let l = ltb-true 32767 n h in let p : x < 32768 = omega arith in rw (lt-ltb x 32768 p)
    go false h = let l = ltb-false 32767 n h in let p : 32768 ≤ x = omega arith in let q : x < 98304 = omega arith in rw (le-ltb x 32768 p, lt-ltb x 98304 q)

-- a sum and a difference of patterns
pub sum_outside : (a b : ℕ) → a < 65536 → b < 65536 → passed 32768 (raised 15 a + raised 15 b) ≡ outside (signed a +ℤ signed b)
sum_outside a b h k =
    sym (outside_at (signed a +ℤ signed b) (raised 15 a + raised 15 b)
    (stands_sum 32768 32768 (signed a) (signed b) (raised 15 a) (raised 15 b) (stands_signed a h) (stands_signed b k)))

pub difference_outside : (a b : ℕ) → a < 65536 → b < 65536 → passed 32768 (raised 15 a + (65536 - raised 15 b)) ≡ outside (signed a -ℤ signed b)
difference_outside a b h k =
    sym (outside_at (signed a -ℤ signed b) (raised 15 a + (65536 - raised 15 b))
    (stands_sum 32768 32768 (signed a) (neg_ℤ (signed b)) (raised 15 a) (65536 - raised 15 b) (stands_signed a h)
    (stands_negated 32768 (signed b) (raised 15 b) (omega arith) (stands_signed b k))))

-- A product by a constant, of an operand inside the range.
abbrev pub Inside : ℤ → Type 0
Inside (pos n) = n ≤ 32767
Inside (negsuc n) = n ≤ 32767

same_test : (x y u v : ℕ) → (x < y → u < v) → (y ≤ x → v ≤ u) → ltb x y ≡ ltb u v
same_test x y u v f g = go (ltb x y) refl
  where
    go : (t : Bool) → ltb x y ≡ t → t ≡ ltb u v
    go true e = sym (lt-ltb u v (f (ltb-true x y e)))
    go false e = sym (le-ltb u v (g (ltb-false x y e)))

or_false : (a : Bool) → a || false ≡ a
or_false true = refl
or_false false = refl

outside_positive : (n : ℕ) → outside (pos n) ≡ ltb 32767 n
unfolding outside
outside_positive n = refl

outside_negative : (n : ℕ) → outside (neg_ℤ (pos n)) ≡ ltb 32768 n
unfolding outside
outside_negative zero = refl
outside_negative (suc n) = or_false (ltb 32767 n) ∙ same_test 32767 n 32768 (suc n) (λ l. omega arith) (λ l. omega arith)

positive_under : (x m : ℕ) → lt_z (pos x) (neg_ℤ (pos m)) ≡ false
positive_under x zero = le-ltb x 0 (omega arith)
positive_under x (suc m) = refl

negative_under : (x m : ℕ) → lt_z (negsuc x) (neg_ℤ (pos m)) ≡ ltb m (suc x)
negative_under x zero = sym (lt-ltb 0 (suc x) (omega arith))
negative_under x (suc m) = same_test m x (suc m) (suc x) (λ l. omega arith) (λ l. omega arith)

-- a product by k + 1 is greater than a exactly when the other factor is greater than the quotient
quotient_test : (a k y : ℕ) → ltb a (suc k * y) ≡ ltb (a / suc k) y
quotient_test a k y =
    let q = div-lt_iff_lt-mul {k = suc k} {x = a} {y = y} (omega arith) in
    same_test a (suc k * y) (a / suc k) y
    (λ l. q.1 (rw (mul_comm (suc k) y) at l))
    (λ l. go (ltb (a / suc k) y) refl l)
  where
    go : (t : Bool) → ltb (a / suc k) y ≡ t → suc k * y ≤ a → y ≤ a / suc k
    go true e l =
        let p : a < y * suc k = (div-lt_iff_lt-mul {k = suc k} {x = a} {y = y} (omega arith)).0 (ltb-true (a / suc k) y e) in
        absurd (omega (arith, mul_comm (suc k) y))
    go false e l = ltb-false (a / suc k) y e

-- just the operands from the least to the largest stay inside
pub product_outside : (c z : ℤ) → Inside z → outside (c *ℤ z) ≡ lt_z z (least_operand c) || lt_z (largest_operand c) z
product_outside (pos zero) (pos x) h = outside_positive (0 * x) ∙ same_test 32767 (0 * x) 32767 x (λ l. omega arith) (λ l. omega arith)
product_outside (pos zero) (negsuc x) h =
    outside_negative (0 * suc x) ∙ same_test 32768 (0 * suc x) 32767 x (λ l. omega arith) (λ l. omega arith) ∙ sym (or_false (ltb 32767 x))
product_outside (pos (suc n)) (pos x) h =
    outside_positive (suc n * x) ∙ quotient_test 32767 n x ∙ ap (λ t. t || ltb (32767 / suc n) x) (sym (positive_under x (32768 / suc n)))
product_outside (pos (suc n)) (negsuc x) h =
    outside_negative (suc n * suc x) ∙ quotient_test 32768 n (suc x) ∙ sym (negative_under x (32768 / suc n)) ∙ sym (or_false (lt_z (negsuc x) (neg_ℤ (pos (32768 / suc n)))))
product_outside (negsuc zero) (pos x) h =
    outside_negative (1 * x) ∙ same_test 32768 (1 * x) 32767 x (λ l. omega arith) (λ l. omega arith) ∙ ap (λ t. t || ltb 32767 x) (sym (positive_under x (32767 / 1)))
product_outside (negsuc (suc n)) (pos x) h =
    outside_negative (suc (suc n) * x) ∙ quotient_test 32768 (suc n) x
    ∙ ap₂ (λ t y. t || ltb y x) (sym (positive_under x (32767 / suc (suc n)))) (ap (λ t. cond t 32767 (32768 / suc (suc n))) (sym (le-ltb (suc n) 1 (omega arith))))
product_outside (negsuc n) (negsuc x) h =
    outside_positive (suc n * suc x) ∙ quotient_test 32767 n (suc x) ∙ sym (negative_under x (32767 / suc n)) ∙ sym (or_false (lt_z (negsuc x) (neg_ℤ (pos (32767 / suc n)))))

-- the two operands lie inside the range, and they stay inside themselves
inside_negative : (m : ℕ) → m ≤ 32768 → Inside (neg_ℤ (pos m))
inside_negative zero h = omega arith
inside_negative (suc m) h = omega arith

pub least_inside : (c : ℤ) → Inside (least_operand c)
least_inside (pos zero) = omega arith
least_inside (pos (suc n)) = inside_negative (32768 / suc n) (div-le_self 32768 (suc n))
least_inside (negsuc n) = let h = div-le_self 32767 (suc n) in inside_negative (32767 / suc n) (omega arith)

pub largest_inside : (c : ℤ) → Inside (largest_operand c)
largest_inside (pos zero) = omega arith
largest_inside (pos (suc n)) = div-le_self 32767 (suc n)
largest_inside (negsuc zero) = omega arith
largest_inside (negsuc (suc n)) =
    let h : 32768 / suc (suc n) < 32768 = div-lt_self {n = 32768} {k = suc (suc n)} (omega arith) (omega arith) in
    rw (le-ltb (suc n) 1 (omega arith)) (omega arith)

not_under_itself : (z : ℤ) → lt_z z z ≡ false
not_under_itself (pos n) = le-ltb n n (omega arith)
not_under_itself (negsuc n) = le-ltb n n (omega arith)

ordered : (c : ℤ) → lt_z (largest_operand c) (least_operand c) ≡ false
ordered (pos zero) = refl
ordered (pos (suc n)) = positive_under (32767 / suc n) (32768 / suc n)
ordered (negsuc n) = positive_under (cond (ltb n 1) 32767 (32768 / suc n)) (32767 / suc n)

pub least_stays : (c : ℤ) → outside (c *ℤ least_operand c) ≡ false
least_stays c = product_outside c (least_operand c) (least_inside c) ∙ rw (not_under_itself (least_operand c), ordered c)

pub largest_stays : (c : ℤ) → outside (c *ℤ largest_operand c) ≡ false
largest_stays c = product_outside c (largest_operand c) (largest_inside c) ∙ rw (not_under_itself (largest_operand c), ordered c)

-- the same of patterns
stands_wrap : (z : ℤ) → Inside z → Stands 32768 z (raised 15 (wrap z))
unfolding wrap
stands_wrap (pos n) h = omega arith
stands_wrap (negsuc n) h = omega arith

pub wrap_small : (z : ℤ) → wrap z < 65536
unfolding wrap
wrap_small (pos n) = omega arith
wrap_small (negsuc n) = omega arith

order : (b : ℕ) (z u : ℤ) (x y : ℕ) → Stands b z x → Stands b u y → lt_z z u ≡ ltb x y
order b (pos m) (pos n) x y p q = same_test m n x y (λ l. omega arith) (λ l. omega arith)
order b (pos m) (negsuc n) x y p q = sym (le-ltb x y (omega arith))
order b (negsuc m) (pos n) x y p q = sym (lt-ltb x y (omega arith))
order b (negsuc m) (negsuc n) x y p q = same_test n m x y (λ l. omega arith) (λ l. omega arith)

signed_inside : (a : ℕ) → a < 65536 → Inside (signed a)
signed_inside a h = go (signed a) (stands_signed a h)
  where
    go : (z : ℤ) → Stands 32768 z (raised 15 a) → Inside z
    go (pos n) e = omega arith
    go (negsuc n) e = omega arith

pub pattern_outside : (c x : ℕ) → x < 65536
    → below x (wrap (least_operand (signed c))) || below (wrap (largest_operand (signed c))) x ≡ outside (signed c *ℤ signed x)
pattern_outside c x h =
    let l = least_operand (signed c) in
    let g = largest_operand (signed c) in
    sym (product_outside (signed c) (signed x) (signed_inside x h)
    ∙ ap₂ ◌||◌
    (order 32768 (signed x) l (raised 15 x) (raised 15 (wrap l)) (stands_signed x h) (stands_wrap l (least_inside (signed c))))
    (order 32768 g (signed x) (raised 15 (wrap g)) (raised 15 x) (stands_wrap g (largest_inside (signed c))) (stands_signed x h)))
