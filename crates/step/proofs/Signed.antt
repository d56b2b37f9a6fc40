-- A 16-bit pattern and the signed number it stands for, as the library's casts turn one into the other. Assumes nothing.
use Rattle.std.proofs.Common.{◌≡◌, ℕ, ◌<◌, ℤ, pos, negsuc, ap, ◌∙◌, arith, to_z-of_z, w16, SFits, to_z, of_z}
use Rattle.std.proofs.lemmas.Int.{ints}
use Rattle.step.specs.Pattern.{wrap, signed}

-- a number to its pattern
pub cast_wrap : (x : ℤ) → SFits w16 x → of_z w16 x ≡ wrap x
unfolding wrap
cast_wrap (pos n) f = let h = f.sfits in omega arith
cast_wrap (negsuc n) f = let h = f.sfits in omega arith

-- and back
pub cast_signed : (p : ℕ) → p < 65536 → to_z w16 p ≡ signed p
unfolding signed
cast_signed p h = grind (arith, ints)

pub signed_fits : (p : ℕ) → p < 65536 → SFits w16 (signed p)
unfolding signed
signed_fits p h = grind (arith, ints)

-- as a value is stored, and as it is loaded
pub stored : (p : ℕ) (z : ℤ) → p < 65536 → z ≡ signed p → to_z w16 (of_z w16 z) ≡ signed p
stored p z h e = ap (λ (x : ℤ). to_z w16 (of_z w16 x)) e ∙ to_z-of_z (signed_fits p h)

pub loaded : (z : ℤ) → SFits w16 z → (r : ℕ) → r ≡ wrap (to_z w16 (of_z w16 z)) → r ≡ wrap z
loaded z f r e = e ∙ ap wrap (to_z-of_z f)
