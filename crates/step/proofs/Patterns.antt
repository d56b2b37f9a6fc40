-- Sums, differences, products and the order of patterns are the wrapped ones of the signed numbers that they stand for. Assumes nothing.
use Rattle.std.proofs.Common.{◌≡◌, ℕ, zero, suc, ◌+◌, ◌-◌, ◌*◌, ◌%◌, ◌<◌, ◌≤◌, Bool, true, false, cond, ltb, ◌⊎◌, ℤ, pos, negsuc, ◌+ℤ◌, ◌-ℤ◌, ◌*ℤ◌, neg_ℤ, sym, refl, ap, ◌∙◌, ap₂, inl, inr, ⊎_elim, mul_comm, add-mul, mul-add, arith, ltb-false, ltb-true, le-ltb, lt-ltb}
use lib.IntN.{sub_ℕ}
use lib.Signed.{lt_z}
use Rattle.step.specs.Pattern.{plus, minus, times, below, signed, wrap}

-- the two halves of the patterns
record Low (p : ℕ) : Type 0 where
  under : p < 32768
  is : signed p ≡ pos p

record High (p : ℕ) : Type 0 where
  over : 32768 ≤ p
  is : signed p ≡ negsuc (65535 - p)

half : (p : ℕ) → p < 65536 → Low p ⊎ High p
unfolding signed
half p h = go (ltb p 32768) refl
  where
    go : (t : Bool) → ltb p 32768 ≡ t → Low p ⊎ High p
    go true e = inl (record { under = ltb-true p 32768 e; is = ap (λ (t : Bool). cond t (pos p) (neg_ℤ (pos (65536 - p)))) e })
    go false e = inr (record {
      over = ltb-false p 32768 e;
      is = ap (λ (t : Bool). cond t (pos p) (neg_ℤ (pos (65536 - p)))) e ∙ ap (λ (n : ℕ). neg_ℤ (pos n)) (let z : 65536 - p ≡ suc (65535 - p) = omega arith in z);
    })

-- a difference of naturals, wrapped
wrap_sub : (x y : ℕ) → y ≤ 65536 → wrap (sub_ℕ x y) ≡ (x + (65536 - y)) % 65536
unfolding wrap
wrap_sub x y h = go (ltb x y) refl
  where
    go : (t : Bool) → ltb x y ≡ t → wrap (cond t (negsuc (y - suc x)) (pos (x - y))) ≡ (x + (65536 - y)) % 65536
    go true e = let l = ltb-true x y e in omega arith
    go false e = let l = ltb-false x y e in omega arith

-- a number's negation, wrapped: what the number lacks to a multiple of 65,536
wrap_negation : (m n k : ℕ) → m + n ≡ 65536 * k → wrap (neg_ℤ (pos n)) ≡ m % 65536
unfolding wrap
wrap_negation m zero k e = omega arith
wrap_negation m (suc n) k e = omega arith

-- What a pattern lacks to 65,536. A product with the pattern and the product with its complement are together a multiple of 65,536.
abbrev complement : ℕ → ℕ
complement p = suc (65535 - p)

complement_first : (a q : ℕ) → a < 65536 → a * q + complement a * q ≡ 65536 * q
complement_first a q h = sym (add-mul a (complement a) q) ∙ ap (λ (x : ℕ). x * q) (let z : a + complement a ≡ 65536 = omega arith in z)

complement_second : (q b : ℕ) → b < 65536 → q * b + q * complement b ≡ 65536 * q
complement_second q b h = sym (mul-add q b (complement b)) ∙ ap (λ (x : ℕ). q * x) (let z : b + complement b ≡ 65536 = omega arith in z) ∙ mul_comm q 65536

module _ (a b : ℕ) (h : a < 65536) (k : b < 65536) where
  pub plus_signed : plus a b ≡ wrap (signed a +ℤ signed b)
  unfolding wrap
  plus_signed = ⊎_elim
      (λ x. ⊎_elim (λ y. sym (ap₂ (λ (u v : ℤ). wrap (u +ℤ v)) x.is y.is))
      (λ y. (let z : plus a b ≡ (a + (65536 - suc (65535 - b))) % 65536 = omega arith in z) ∙ sym (wrap_sub a (suc (65535 - b)) (omega arith)) ∙ sym (ap₂ (λ (u v : ℤ). wrap (u +ℤ v)) x.is y.is)) (half b k))
      (λ x. ⊎_elim (λ y. (let z : plus a b ≡ (b + (65536 - suc (65535 - a))) % 65536 = omega arith in z) ∙ sym (wrap_sub b (suc (65535 - a)) (omega arith)) ∙ sym (ap₂ (λ (u v : ℤ). wrap (u +ℤ v)) x.is y.is))
      (λ y. (let z : plus a b ≡ (65536 - suc (suc (65535 - a + (65535 - b))) % 65536) % 65536 = (let o = x.over in let o' = y.over in omega arith) in z) ∙ sym (ap₂ (λ (u v : ℤ). wrap (u +ℤ v)) x.is y.is)) (half b k))
      (half a h)

  same_test : (x y u v : ℕ) → (x < y → u < v) → (y ≤ x → v ≤ u) → ltb x y ≡ ltb u v
  same_test x y u v f g = go (ltb x y) refl
    where
      go : (t : Bool) → ltb x y ≡ t → t ≡ ltb u v
      go true e = sym (lt-ltb u v (f (ltb-true x y e)))
      go false e = sym (le-ltb u v (g (ltb-false x y e)))

  pub below_signed : below a b ≡ lt_z (signed a) (signed b)
  below_signed = ⊎_elim
      (λ x. ⊎_elim (λ y. let o = x.under in let u = y.under in same_test (plus a 32768) (plus b 32768) a b (λ l. omega arith) (λ l. omega arith) ∙ sym (ap₂ lt_z x.is y.is))
      (λ y. let o = x.under in let u = y.over in le-ltb (plus a 32768) (plus b 32768) (omega arith) ∙ sym (ap₂ lt_z x.is y.is)) (half b k))
      (λ x. ⊎_elim (λ y. let o = x.over in let u = y.under in lt-ltb (plus a 32768) (plus b 32768) (omega arith) ∙ sym (ap₂ lt_z x.is y.is))
      (λ y. let o = x.over in let u = y.over in same_test (plus a 32768) (plus b 32768) (65535 - b) (65535 - a) (λ l. omega arith) (λ l. omega arith) ∙ sym (ap₂ lt_z x.is y.is)) (half b k))
      (half a h)

  pub minus_signed : minus a b ≡ wrap (signed a -ℤ signed b)
  unfolding wrap
  minus_signed = ⊎_elim (λ y. low b k y) (λ y. high b k y) (half b k)
    where
      less : (q : ℕ) → q < 65536 → (m : ℕ) → q ≡ suc m → minus a q ≡ wrap (signed a +ℤ negsuc m)
      less q l m e = ⊎_elim
          (λ x. (let z : minus a q ≡ (a + (65536 - suc m)) % 65536 = omega arith in z) ∙ sym (wrap_sub a (suc m) (omega arith)) ∙ sym (ap (λ (u : ℤ). wrap (u +ℤ negsuc m)) x.is))
          (λ x. (let z : minus a q ≡ (65536 - suc (suc (65535 - a + m)) % 65536) % 65536 = (let o = x.over in omega arith) in z) ∙ sym (ap (λ (u : ℤ). wrap (u +ℤ negsuc m)) x.is))
          (half a h)

      nothing : minus a 0 ≡ wrap (signed a +ℤ pos 0)
      nothing = ⊎_elim
          (λ x. (let z : minus a 0 ≡ (a + 0) % 65536 = omega arith in z) ∙ sym (ap (λ (u : ℤ). wrap (u +ℤ pos 0)) x.is))
          (λ x. (let z : minus a 0 ≡ (0 + (65536 - suc (65535 - a))) % 65536 = omega arith in z) ∙ sym (wrap_sub 0 (suc (65535 - a)) (omega arith)) ∙ sym (ap (λ (u : ℤ). wrap (u +ℤ pos 0)) x.is))
          (half a h)

      low : (q : ℕ) → q < 65536 → Low q → minus a q ≡ wrap (signed a -ℤ signed q)
      low zero l y = nothing ∙ sym (ap (λ (v : ℤ). wrap (signed a -ℤ v)) y.is)
      low (suc m) l y = less (suc m) l m refl ∙ sym (ap (λ (v : ℤ). wrap (signed a -ℤ v)) y.is)

      high : (q : ℕ) → q < 65536 → High q → minus a q ≡ wrap (signed a -ℤ signed q)
      high q l y = more ∙ sym (ap (λ (v : ℤ). wrap (signed a -ℤ v)) y.is)
        where
          more : minus a q ≡ wrap (signed a +ℤ pos (suc (65535 - q)))
          more = ⊎_elim
              (λ x. (let z : minus a q ≡ (a + suc (65535 - q)) % 65536 = omega arith in z) ∙ sym (ap (λ (u : ℤ). wrap (u +ℤ pos (suc (65535 - q)))) x.is))
              (λ x. (let z : minus a q ≡ (suc (65535 - q) + (65536 - suc (65535 - a))) % 65536 = omega arith in z) ∙ sym (wrap_sub (suc (65535 - q)) (suc (65535 - a)) (omega arith)) ∙ sym (ap (λ (u : ℤ). wrap (u +ℤ pos (suc (65535 - q)))) x.is))
              (half a h)

  pub times_signed : times a b ≡ wrap (signed a *ℤ signed b)
  unfolding wrap
  times_signed = ⊎_elim
      (λ x. ⊎_elim (λ y. signs x.is y.is refl)
      (λ y. signs x.is y.is (sym (wrap_negation (a * b) (a * complement b) a (complement_second a b k)))) (half b k))
      (λ x. ⊎_elim (λ y. signs x.is y.is (sym (wrap_negation (a * b) (complement a * b) b (complement_first a b h))))
      (λ y. signs x.is y.is (omega (arith, complement_second a b k, complement_first a (complement b) h))) (half b k))
      (half a h)
    where
      signs : {x y : ℤ} → signed a ≡ x → signed b ≡ y → times a b ≡ wrap (x *ℤ y) → times a b ≡ wrap (signed a *ℤ signed b)
      signs p q e = e ∙ sym (ap₂ (λ (u v : ℤ). wrap (u *ℤ v)) p q)

-- and back
pub wrap_signed : (p : ℕ) → p < 65536 → wrap (signed p) ≡ p
unfolding wrap
wrap_signed p h = ⊎_elim (λ x. ap wrap x.is ∙ (let u = x.under in let z : p % 65536 ≡ p = omega arith in z)) (λ x. ap wrap x.is ∙ (let o = x.over in let z : (65536 - suc (65535 - p) % 65536) % 65536 ≡ p = omega arith in z)) (half p h)
