-- Sums, differences and products of patterns, as the code computes them in 16 bits where they fit. Assumes nothing.
use Rattle.std.proofs.Common.{◌≡◌, ℕ, ◌<◌, Bool, true, false, not, ℤ, pos, negsuc, sym, refl, ap, ◌∙◌, ap₂, arith, w16, SFits, to_z, of_z}
use Rattle.std.specs.Prelude.{Option, Some, None, SomeIff, is_some}
use Rattle.step.specs.Pattern.{signed, outside}
use Rattle.step.proofs.Signed.{stored}

-- what fits 16 bits is not outside them, and what is not outside fits
fits_inside : (z : ℤ) → SFits w16 z → outside z ≡ false
unfolding outside
fits_inside (pos n) f = grind arith
fits_inside (negsuc n) f = grind arith

inside_fits : (z : ℤ) → outside z ≡ false → SFits w16 z
unfolding outside
inside_fits (pos n) e = grind arith
inside_fits (negsuc n) e = grind arith

-- so a checked operation answers nothing where the exact value is outside
passes_is : (o : Option ℤ) (z : ℤ) → SomeIff o (SFits w16 z) z → (r : Bool) → r ≡ not (is_some o) → r ≡ outside z
passes_is (Some x) z h true e = grind arith
passes_is (Some x) z h false e = sym (fits_inside z h.0)
passes_is None z h true e = go (outside z) refl
  where
    go : (t : Bool) → outside z ≡ t → true ≡ outside z
    go true q = sym q
    go false q = absurd (h (inside_fits z q))
passes_is None z h false e = grind arith

pub op_passes : (op : ℤ → ℤ → ℤ) (a b : ℕ) (x y : ℤ) → a < 65536 → b < 65536 → x ≡ signed a → y ≡ signed b → (o : Option ℤ)
    → SomeIff o (SFits w16 (op (to_z w16 (of_z w16 x)) (to_z w16 (of_z w16 y)))) (op (to_z w16 (of_z w16 x)) (to_z w16 (of_z w16 y))) → (r : Bool) → r ≡ not (is_some o) → r ≡ outside (op (signed a) (signed b))
op_passes op a b x y h k p q o s r e = passes_is o (op (to_z w16 (of_z w16 x)) (to_z w16 (of_z w16 y))) s r e ∙ ap outside (ap₂ op (stored a x h p) (stored b y k q))
