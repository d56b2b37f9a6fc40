-- How large the formula of an accepted design for any bound can get: its sizes fit their machine numbers, but n may exceed 2^31-1, which the calls test (19). And SIZE's
-- answer is the numbers that are computed from the tree.
use Rattle.std.proofs.Common.{◌≡◌, ℕ, zero, suc, ◌+◌, ◌-◌, ◌*◌, ◌^◌, ◌<◌, ◌≤◌, Bool, true, false, cond, ltb, leb, List, length, get_or, sym, refl, le_refl, suc-mul, mul-le-mul, mul-suc, arith}
use Rattle.design.specs.Tree.{Design}
use Rattle.design.specs.Check.{Checked, check}
use Rattle.design.specs.Limits.{max_movers, max_bits}
use Rattle.design.specs.WellFormed.{WellFormed}
use Rattle.design.proofs.WellFormed.{well_formed}
use Rattle.step.specs.Piece.{piece_right}
use Rattle.step.specs.Property.{Property, invariant, no_invalid_cell, constraint, property_of}
use Rattle.clauses.specs.Words.{words}
use Rattle.clauses.specs.Formula.{frames_taken, S, w, F, n, part, formula}
use Rattle.clauses.specs.Cost.{gates_in, clauses_in, words_in, pair_count, property_cost, step_cost, first_clauses, first_words, step_clause_count, step_word_count, clause_count, word_count, part_word_count}
use Rattle.clauses.specs.Size.{sizes_of}
use Rattle.step.specs.Limits.{max_bound}
use Rattle.clauses.specs.Limits.{frame_limit, most_variables}
use Rattle.clauses.proofs.Frames.{P-is, G-is}
use Rattle.clauses.proofs.SizeNumbers.{formula_counts, part_words_lem}
use Rattle.clauses.proofs.Bounds.{Bounded, bounded}

-- SIZE's answer, computed from the tree
pub sizes_computed : (d : Design) → WellFormed d → (p : Property) (k : ℕ) → sizes_of d p k ≡ record {
  state_bits = S d;
  property_gates = gates_in (property_cost d p);
  movers = w d;
  step_gates = gates_in (step_cost d p);
  variables = n d p k;
  clauses = clause_count d p k;
  words = word_count d p k;
}
unfolding sizes_of
sizes_computed d wf p k =
    let c = formula_counts d wf p k in
    rw (P-is d p, G-is d wf p, c.clauses, c.words)

-- the number of pairs, without recursion
square : (m : ℕ) → m * (m - 1) + m ≡ m * m
square zero = refl
square (suc m) = let q : suc m - 1 ≡ m = omega arith in rw q (sym (mul-suc (suc m) m))

pub pairs_twice : (m : ℕ) → 2 * pair_count m ≡ m * (m - 1)
pairs_twice zero = refl
pairs_twice (suc m) = let q : suc m - 1 ≡ m = omega arith in rw q (omega (arith, pairs_twice m, square m, suc-mul m m))

pair_bound : (m : ℕ) → m ≤ max_movers → pair_count m ≤ max_movers * m
pair_bound zero h = omega arith
pair_bound (suc m) h = let k = pair_bound m (omega arith) in omega arith

-- the last clause has at most a word for each frame
few_taken : (p : Property) (k : ℕ) → frames_taken p k ≤ suc k
few_taken (invariant e) k = omega arith
few_taken no_invalid_cell k = omega arith
few_taken (constraint e) k = omega arith

-- what is bounded: the variables, which may still be more than `last_variable`; the clauses and words of the formula; the words of a part
pub record Small (d : Design) (p : Property) (k : ℕ) : Type 0 where
  pub variables : n d p k ≤ most_variables
  pub formula_clauses : length (formula d p k) < 2 ^ 35
  pub formula_words_lem : length (words (formula d p k)) < 2 ^ 37
  pub part_words_lem : (i : ℕ) → length (words (part d p k i)) < 2 ^ 30

module _ (d : Design) (wf : WellFormed d) (p : Property) (b : Bounded d p) (k : ℕ) (few : k ≤ max_bound) where
  frame_bound : F d p ≤ frame_limit
  unfolding F
  frame_bound = omega (arith, P-is d p, G-is d wf p, b.gates, b.bits, b.movers)

  -- k frames, and the state and the property of one more
  n_bound : n d p k ≤ most_variables
  unfolding n
  n_bound = let f : k * F d p ≤ max_bound * frame_limit = mul-le-mul few frame_bound in omega (arith, P-is d p, b.gates, b.bits)

  ties_bound : w d * S d ≤ max_movers * max_bits
  ties_bound = mul-le-mul b.movers b.bits

  -- what a step has beside its gates: the clause of all flags, their pairs, the ties
  abbrev beside_words : ℕ
  beside_words = 1 + max_movers + 3 * (max_movers * max_movers) + 8 * (max_movers * max_bits)

  abbrev beside_clauses : ℕ
  beside_clauses = 1 + max_movers * max_movers + 2 * (max_movers * max_bits)

  step_words : step_word_count d p ≤ 16 * gates_in (step_cost d p) + beside_words
  unfolding step_word_count
  step_words = omega (arith, ties_bound, pair_bound (w d) b.movers, b.movers)

  step_clauses_lem : step_clause_count d p ≤ 4 * gates_in (step_cost d p) + beside_clauses
  unfolding step_clause_count
  step_clauses_lem = omega (arith, ties_bound, pair_bound (w d) b.movers, b.movers)

  words_bound : word_count d p k < 2 ^ 37
  unfolding word_count first_words
  words_bound =
      let x : (1 + k) * words_in (property_cost d p) ≤ (1 + max_bound) * words_in (property_cost d p) = mul-le-mul (let q : 1 + k ≤ 1 + max_bound = omega arith in q) (le_refl (words_in (property_cost d p))) in
      let y : k * step_word_count d p ≤ max_bound * (16 * gates_in (step_cost d p) + beside_words) = mul-le-mul few step_words in
      omega (arith, b.gates, b.bits, few_taken p k)

  clauses_bound : clause_count d p k < 2 ^ 35
  unfolding clause_count first_clauses
  clauses_bound =
      let x : (1 + k) * clauses_in (property_cost d p) ≤ (1 + max_bound) * clauses_in (property_cost d p) = mul-le-mul (let q : 1 + k ≤ 1 + max_bound = omega arith in q) (le_refl (clauses_in (property_cost d p))) in
      let y : k * step_clause_count d p ≤ max_bound * (4 * gates_in (step_cost d p) + beside_clauses) = mul-le-mul few step_clauses_lem in
      omega (arith, b.gates, b.bits)

  part_bound : (i : ℕ) → part_word_count d p k i < 2 ^ 30
  unfolding part_word_count first_words
  part_bound zero = omega (arith, b.bits)
  part_bound (suc j) = go (leb j k) (ltb j k)
    where
      go : (t u : Bool) → cond t (words_in (property_cost d p) + cond u (step_word_count d p) 0) (suc (frames_taken p k)) < 2 ^ 30
      go true true = omega (arith, b.gates, step_words)
      go true false = omega (arith, b.gates)
      go false u = omega (arith, few_taken p k)

  pub small : Small d p k
  small =
      let c = formula_counts d wf p k in
      record {
        variables = n_bound;
        formula_clauses = omega (arith, c.clauses, clauses_bound);
        formula_words_lem = omega (arith, c.words, words_bound);
        part_words_lem = λ i. omega (arith, part_words_lem d wf p k i, part_bound i);
      }

pub small_of_file : (file piece : List ℕ) → ((i : ℕ) → get_or file i 0 < 256) → (d : Design) → check file ≡ Checked.accepted d → (p : ℕ) → piece_right file piece p ≡ true → (k : ℕ) → k ≤ max_bound
    → Small d (property_of file piece d p) k
small_of_file file piece bytes d e p right k few = small d (well_formed file bytes d e) (property_of file piece d p) (bounded file piece bytes d e p right) k few
