-- The words of the formula grow with the bound, and so do its variables (`n_up`, clauses/proofs/Within): room for the full bound is room for every smaller one.
use Prim.Native.Nat.{ℕ, ◌+◌, ◌*◌, ◌≤◌}
use native.Mathlib.Omega.{arith}
use native.Mathlib.Nat.{le_refl, mul-le-mul}
use lib.ListN.{length}
use Rattle.design.specs.Tree.{Design}
use Rattle.design.specs.WellFormed.{WellFormed}
use Rattle.step.specs.Property.{Property, invariant, no_invalid_cell, constraint}
use Rattle.clauses.specs.Words.{words}
use Rattle.clauses.specs.Formula.{frames_taken, formula}
use Rattle.clauses.specs.Cost.{words_in, property_cost, step_word_count, word_count}
use Rattle.clauses.proofs.SizeNumbers.{formula_counts}

module _ (d : Design) (p : Property) {i k : ℕ} (h : i ≤ k) where
  frames_grow : (q : Property) → frames_taken q i ≤ frames_taken q k
  frames_grow (invariant e) = omega arith
  frames_grow no_invalid_cell = omega arith
  frames_grow (constraint e) = h

  count_grows : word_count d p i ≤ word_count d p k
  unfolding word_count
  count_grows =
      let x : (1 + i) * words_in (property_cost d p) ≤ (1 + k) * words_in (property_cost d p) = mul-le-mul (let q : 1 + i ≤ 1 + k = omega arith in q) (le_refl (words_in (property_cost d p))) in
      let y : i * step_word_count d p ≤ k * step_word_count d p = mul-le-mul h (le_refl (step_word_count d p)) in
      omega (arith, frames_grow p)

  pub words_grow : WellFormed d → length (words (formula d p i)) ≤ length (words (formula d p k))
  words_grow wf = omega (arith, (formula_counts d wf p i).words, (formula_counts d wf p k).words, count_grows)
