-- Arithmetic on the sizes of a frame, and that it gives the formula's numbers.
use Rattle.std.proofs.Common.{◌≡◌, ℕ, zero, suc, ◌+◌, ◌-◌, ◌*◌, ◌/◌, ◌<◌, ◌≤◌, cond, ltb, leb, length, sym, refl, ap, ◌∙◌, ap₂, le_refl, mul-le-mul, arith, le-ltb, lt-ltb, le-leb}
use borrow.Author.Tests.{lt-leb}
use Rattle.design.specs.Tree.{Design}
use Rattle.design.specs.WellFormed.{WellFormed}
use Rattle.step.specs.Property.{Property, invariant, no_invalid_cell, constraint}
use Rattle.design.specs.Limits.{max_movers, max_bits}
use Rattle.clauses.specs.Words.{words}
use Rattle.step.specs.Limits.{max_bound}
use Rattle.clauses.specs.Limits.{last_variable, frame_limit, most_variables, count_limit, size_limit}
use Rattle.clauses.specs.Writing.{variable_limit}
use Rattle.clauses.specs.Formula.{S, w, F, n, part, frames_taken}
use Rattle.clauses.specs.Cost.{gates_in, clauses_in, words_in, pair_count, property_cost, first_words, step_word_count, part_word_count}
use Rattle.clauses.specs.FrameSizes.{cost_in, last_frames, frame_sizes, SmallFrame, frame_length, step_clauses_of, step_words_of, part_words_of, variables_of, formula_sizes}
use Rattle.clauses.specs.Ready.{SmallFormula}
use Rattle.clauses.specs.declared.frame.FrameSizes.{FrameSizes}
use Rattle.clauses.specs.declared.frame.FormulaSizes.{FormulaSizes}
use Rattle.clauses.proofs.Frames.{P-is, G-is}
use Rattle.clauses.proofs.Within.{n_up}
use Rattle.clauses.proofs.SizeNumbers as sizes
use Rattle.clauses.proofs.Limits.{pairs_twice}

pub product_small : (k x : ℕ) → k ≤ count_limit → x ≤ size_limit → k * x ≤ count_limit * size_limit
product_small k x p q = mul-le-mul p q

pub pairs_halved : (m t : ℕ) → m ≤ max_movers → t ≡ m * (m - 1) → (t / 2 ≡ pair_count m) × (t / 2 ≤ max_movers * max_movers)
pairs_halved m t l e =
    let q = pairs_twice m in
    let p : m * (m - 1) ≤ max_movers * max_movers = mul-le-mul l (let z : m - 1 ≤ max_movers = omega arith in z) in
    (omega arith, omega arith)

module _ (s : FrameSizes) (h : SmallFrame s) where
  pub ties_small : s.movers * s.bits ≤ max_movers * max_bits
  ties_small = mul-le-mul h.movers h.bits

  frames_small : (k : ℕ) → k ≤ max_bound → k * frame_length s ≤ max_bound * frame_limit
  frames_small k l =
      let p : frame_length s ≤ frame_limit = omega (arith, h.bits, h.movers, h.gates) in
      mul-le-mul l p

  pub variables_sum : (k f t : ℕ) → k ≤ max_bound → f ≡ frame_length s → t ≡ k * f
      → (1 + t + s.bits + gates_in (cost_in s.property) ≡ variables_of s k) × (1 + t + s.bits + gates_in (cost_in s.property) ≤ most_variables)
  variables_sum k f t l e q =
      let z : t ≡ k * frame_length s = q ∙ ap (λ (x : ℕ). k * x) e in
      (omega arith, omega (arith, frames_small k l, h.bits, h.gates))

-- where the frames of a formula that may be written start: none of its variables is past `last_variable`
pub start_low : {s : FrameSizes} {k : ℕ} → SmallFormula s k → (j stride v : ℕ) → j ≤ k → stride ≡ frame_length s → v ≡ 2 + j * stride → v ≤ variable_limit
start_low {s} {k} h j stride v l e q =
    let m : j * frame_length s ≤ k * frame_length s = mul-le-mul l (le_refl (frame_length s)) in
    omega (arith, h.numbers, ap (λ (i : ℕ). j * i) e)

-- the words of a part by its number
module _ (s : FrameSizes) (k : ℕ) where
  pub part_first : (i : ℕ) → i ≡ 0 → 2 + 2 * s.bits ≡ part_words_of s k i
  part_first zero e = refl
  part_first (suc j) e = absurd (omega arith)

  pub part_last : (i : ℕ) → k + 1 < i → k + s.last + 1 ≡ part_words_of s k i
  part_last zero l = absurd (omega arith)
  part_last (suc j) l = rw (lt-leb j k (let z : k < j = omega arith in z))

  pub part_end : (i n : ℕ) → k + 1 ≡ i → n ≡ words_in (cost_in s.property) → n ≡ part_words_of s k i
  part_end zero n e q = absurd (omega arith)
  part_end (suc j) n e q = rw (le-leb j k (let z : j ≤ k = omega arith in z), le-ltb j k (let z : k ≤ j = omega arith in z)) (omega arith)

  pub part_step : (i n : ℕ) → (i ≡ 0 → ⊥) → i ≤ k + 1 → (k + 1 ≡ i → ⊥) → n ≡ words_in (cost_in s.property) + step_words_of s → n ≡ part_words_of s k i
  part_step zero n z l e q = absurd (z refl)
  part_step (suc j) n z l e q = rw (le-leb j k (let y : j ≤ k = omega arith in y), lt-ltb j k (let y : j < k = omega arith in y)) q

pub formula_same : (s : FrameSizes) (k v c m : ℕ) → v ≡ (formula_sizes s k).variables → c ≡ (formula_sizes s k).clauses → m ≡ (formula_sizes s k).words
    → record {
      bits = s.bits;
      property = gates_in (cost_in s.property);
      movers = s.movers;
      step = gates_in (cost_in s.step);
      variables = v;
      clauses = c;
      words = m;
    } ≡ formula_sizes s k
formula_same s k v c m p q r =
    ap₂ (λ (x y : ℕ). with_three x y m) p q ∙ ap (with_three (formula_sizes s k).variables (formula_sizes s k).clauses) r
  where
    with_three : ℕ → ℕ → ℕ → FormulaSizes
    with_three x y z = record {
      bits = s.bits;
      property = gates_in (cost_in s.property);
      movers = s.movers;
      step = gates_in (cost_in s.step);
      variables = x;
      clauses = y;
      words = z;
    }

module _ (s : FrameSizes) (k t u x : ℕ) (q : u ≡ k * x) where
  pub clauses_sum : t ≡ (1 + k) * clauses_in (cost_in s.property) → x ≡ step_clauses_of s → 1 + s.bits + t + u + 1 ≡ (formula_sizes s k).clauses
  clauses_sum p r = ap₂ (λ (y z : ℕ). 1 + s.bits + y + z + 1) p (q ∙ ap (λ (y : ℕ). k * y) r)

  pub words_sum : t ≡ (1 + k) * words_in (cost_in s.property) → x ≡ step_words_of s → 2 + 2 * s.bits + t + u + (k + s.last + 1) ≡ (formula_sizes s k).words
  words_sum p r = ap₂ (λ (y z : ℕ). 2 + 2 * s.bits + y + z + (k + s.last + 1)) p (q ∙ ap (λ (y : ℕ). k * y) r)

-- the frames in which a property counts, and one more
pub frames_are : (k : ℕ) (p : Property) → k + last_frames p + 1 ≡ suc (frames_taken p k)
frames_are k (invariant e) = omega arith
frames_are k no_invalid_cell = omega arith
frames_are k (constraint e) = omega arith

-- the formula's numbers, from the sizes of a frame of its design
module _ (d : Design) (wf : WellFormed d) (p : Property) where
  pub length_is : frame_length (frame_sizes d p) ≡ F d p
  unfolding frame_sizes F
  length_is = ap₂ (λ (x y : ℕ). S d + x + w d + y) (sym (P-is d p)) (sym (G-is d wf p))

  pub variables_are : (k : ℕ) → variables_of (frame_sizes d p) k ≡ n d p k
  unfolding frame_sizes n F
  variables_are k = ap₂ (λ (x y : ℕ). 1 + k * (S d + x + w d + y) + S d + x) (sym (P-is d p)) (sym (G-is d wf p))

  -- of a formula that may be written, and of every bound below its own
  pub small_numbers : {s : FrameSizes} {k : ℕ} → SmallFormula s k → s ≡ frame_sizes d p → (j : ℕ) → j ≤ k → n d p j ≤ last_variable
  small_numbers {s} {k} h e j l = omega (arith, h.numbers, ap (λ (x : FrameSizes). variables_of x k) e, variables_are k, n_up d p j k l)

  pub part_is : (k i : ℕ) → part_words_of (frame_sizes d p) k i ≡ length (words (part d p k i))
  unfolding frame_sizes part_word_count first_words step_word_count
  part_is k i = go i ∙ sym (sizes.part_words_lem d wf p k i)
    where
      go : (i : ℕ) → part_words_of (frame_sizes d p) k i ≡ part_word_count d p k i
      go zero = refl
      go (suc j) = ap (cond (leb j k) (words_in (property_cost d p) + cond (ltb j k) (step_word_count d p) 0)) (frames_are k p)
