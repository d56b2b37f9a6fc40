-- The clauses and words of every part, and of the whole formula, are the numbers that are computed from the tree.
use Rattle.std.proofs.Common.{◌≡◌, ℕ, zero, suc, ◌+◌, ◌*◌, ◌/◌, Bool, true, false, cond, ltb, leb, List, [], ◌∷◌, ◌++◌, map, length, sym, refl, ap, ◌∙◌, ap₂, append_assoc, suc-mul, arith, length-append}
use Rattle.design.specs.Tree.{Design}
use Rattle.design.specs.State.{State, widths, start}
use Rattle.design.specs.WellFormed.{InRange, WellFormed}
use Rattle.step.specs.Property.{Property}
use Rattle.clauses.specs.Literal.{Literal, Clause}
use Rattle.clauses.specs.Words.{clause_words, words}
use Rattle.clauses.specs.Gate.{Gate, gates_clauses}
use Rattle.clauses.specs.Circuit.{Bits}
use Rattle.clauses.specs.Expression.{Slots}
use Rattle.clauses.specs.Formula.{total, flat, units_of, initial_units, against, pairs, ties, all_ties, frames_taken, S, w, state_at, property_at, flags_at, step_at, frame, first_part, property_clauses, step_property_in, step_clauses, frame_part, negated_from, last_clause, part, formula}
use Rattle.clauses.specs.Cost.{clauses_in, words_in, pair_count, property_cost, first_clauses, first_words, step_cost, step_clause_count, step_word_count, clause_count, word_count, part_word_count}
use Rattle.clauses.proofs.Actions.{AllFit}
use Rattle.clauses.proofs.Costs.{cost_of, clauses_counted, words_counted}
use Rattle.clauses.proofs.StateBits.{length_flat}
use Rattle.clauses.proofs.Frames.{frames_from, state_wide, property_costs_at, step_costs_at, step_property_costs_at, step_at_lem, frame_big, flags_wide}
use Rattle.clauses.proofs.Runs.{S-is}
use Rattle.clauses.proofs.Models.{formula_is}

-- words of clauses
abbrev words_length : List Clause → ℕ
words_length cs = length (words cs)

clause_words_lem : (c : Clause) → length (clause_words c) ≡ suc (length c)
clause_words_lem [] = refl
clause_words_lem (l ∷ ls) = ap suc (clause_words_lem ls)

words_cons : (c : Clause) (cs : List Clause) → words_length (c ∷ cs) ≡ suc (length c) + words_length cs
words_cons c cs = length-append (clause_words c) (words cs) ∙ ap (λ x. x + words_length cs) (clause_words_lem c)

pub words_join : (xs ys : List Clause) → words (xs ++ ys) ≡ words xs ++ words ys
words_join [] ys = refl
words_join (x ∷ xs) ys = ap (λ l. clause_words x ++ l) (words_join xs ys) ∙ sym (append_assoc (clause_words x) (words xs) (words ys))

pub words_append : (xs ys : List Clause) → words_length (xs ++ ys) ≡ words_length xs + words_length ys
words_append xs ys = ap length (words_join xs ys) ∙ length-append (words xs) (words ys)

-- clauses and words at once
pub record Counts (cs : List Clause) (c m : ℕ) : Type 0 where
  pub clauses : length cs ≡ c
  pub words : length (words cs) ≡ m

counts_append : {xs ys : List Clause} {c m c' m' : ℕ} → Counts xs c m → Counts ys c' m' → Counts (xs ++ ys) (c + c') (m + m')
counts_append {xs} {ys} p q = record {
  clauses = omega (arith, p.clauses, q.clauses, length-append xs ys);
  words = omega (arith, p.words, q.words, words_append xs ys);
}

counts_cons : (x : Clause) {xs : List Clause} {c m : ℕ} → Counts xs c m → Counts (x ∷ xs) (1 + c) (1 + length x + m)
counts_cons x {xs} p = record { clauses = omega (arith, p.clauses); words = omega (arith, p.words, words_cons x xs) }

counts_none : Counts [] 0 0
counts_none = record { clauses = refl; words = refl }

counts_same : {xs : List Clause} {c m c' m' : ℕ} → c ≡ c' → m ≡ m' → Counts xs c m → Counts xs c' m'
counts_same p q x = record { clauses = x.clauses ∙ p; words = x.words ∙ q }

gates_counts : (gs : List Gate) → Counts (gates_clauses gs) (clauses_in (cost_of gs)) (words_in (cost_of gs))
gates_counts gs = record { clauses = clauses_counted gs; words = words_counted gs }

units_counts : (xs : Bits) (v : ℕ) → Counts (units_of xs v) (length xs) (2 * length xs)
units_counts [] v = counts_none
units_counts (x ∷ xs) v = counts_same (omega arith) (omega arith) (counts_cons _ (units_counts xs (v / 2)))

initial_counts : (s : Slots) (ws : List ℕ) (vs : State) → map length s ≡ ws → InRange ws vs → Counts (initial_units s vs) (total ws) (2 * total ws)
initial_counts [] [] [] e h = counts_none
initial_counts [] [] (v ∷ vs) e h = absurd h
initial_counts [] (w ∷ ws) vs e h = absurd (omega (arith, ap length e))
initial_counts (g ∷ gs) [] vs e h = absurd (omega (arith, ap length e))
initial_counts (g ∷ gs) (w ∷ ws) [] e h = absurd h
initial_counts (g ∷ gs) (w ∷ ws) (v ∷ vs) e h =
    let lg : length g ≡ w = cc in
    let ls : map length gs ≡ ws = cc in
    counts_same (omega arith) (omega arith) (counts_append (units_counts g v) (initial_counts gs ws vs ls h.1))

against_counts : (f : Literal) (hs : Bits) → Counts (against f hs) (length hs) (3 * length hs)
against_counts f [] = counts_none
against_counts f (h ∷ hs) = counts_same (omega arith) (omega arith) (counts_cons _ (against_counts f hs))

pairs_counts : (fs : Bits) → Counts (pairs fs) (pair_count (length fs)) (3 * pair_count (length fs))
pairs_counts [] = counts_none
pairs_counts (f ∷ fs) = counts_same (omega arith) (omega arith) (counts_append (against_counts f fs) (pairs_counts fs))

ties_counts : (f : Literal) (m : ℕ) (rs bs : Bits) → length rs ≡ m → length bs ≡ m → Counts (ties f rs bs) (2 * m) (8 * m)
ties_counts f zero [] bs p q = counts_none
ties_counts f zero (r ∷ rs) bs p q = absurd (omega arith)
ties_counts f (suc m) [] bs p q = absurd (omega arith)
ties_counts f (suc m) (r ∷ rs) [] p q = absurd (omega arith)
ties_counts f (suc m) (r ∷ rs) (b ∷ bs) p q =
    counts_same (omega arith) (omega arith) (counts_cons _ (counts_cons _ (ties_counts f m rs bs (omega arith) (omega arith))))

all_ties_counts : (ws : List ℕ) (k : ℕ) (fs : Bits) (rs : List Slots) (bs : Bits) → length rs ≡ length fs → AllFit ws k rs → length bs ≡ total ws
    → Counts (all_ties fs rs bs) (2 * (length fs * total ws)) (8 * (length fs * total ws))
all_ties_counts ws k [] rs bs e f l = counts_same (omega arith) (omega arith) counts_none
all_ties_counts ws k (f ∷ fs) [] bs e h l = absurd (omega arith)
all_ties_counts ws k (f ∷ fs) (r ∷ rs) bs e h l =
    let q = suc-mul (length fs) (total ws) in
    counts_same (omega arith) (omega arith)
    (counts_append (ties_counts f (total ws) (flat r) bs (length_flat r ∙ ap total h.0.wide) l) (all_ties_counts ws k fs rs bs (omega arith) h.1 l))

-- "the negated property of frames": one word each, and the closing 0
negated_long : (d : Design) (p : Property) (m j : ℕ) → length (negated_from d p m j) ≡ m
unfolding negated_from
negated_long d p zero j = refl
negated_long d p (suc m) j = ap suc (negated_long d p m (suc j))

pub last_counts : (d : Design) (p : Property) (k : ℕ) → Counts (last_clause d p k ∷ []) 1 (suc (frames_taken p k))
unfolding last_clause
last_counts d p k = counts_same refl (omega (arith, negated_long d p (frames_taken p k) 0)) (counts_cons (negated_from d p (frames_taken p k) 0) counts_none)

pub property_counts : (d : Design) (p : Property) (j : ℕ) → Counts (property_clauses d p j) (clauses_in (property_cost d p)) (words_in (property_cost d p))
unfolding property_clauses
property_counts d p j =
    let c = property_costs_at d p (frame d p j) in
    counts_same (omega (arith, c.ands, c.wides)) (omega (arith, c.ands, c.wides)) (gates_counts (property_at d p (frame d p j)).gates)

module _ (d : Design) (wf : WellFormed d) (p : Property) where
  pub first_counts : Counts (first_part d p) (first_clauses d) (first_words d)
  unfolding first_part first_clauses first_words S
  first_counts = counts_same (omega arith) (omega arith) (counts_cons _ (initial_counts (state_at d (frame d p 0)) (widths d) (start d) (state_wide d (frame d p 0)) wf.start))

  ties_all : (j : ℕ) → Counts (all_ties (flags_at d p (frame d p j)) (step_at d p (frame d p j)).out (flat (state_at d (frame d p (suc j))))) (2 * (w d * S d)) (8 * (w d * S d))
  ties_all j =
      let v = frame d p j in
      let g = step_at_lem d wf p v (frame_big d p j) in
      rw (flags_wide d p v, S-is d) at
      (all_ties_counts (widths d) (step_at d p v).next (flags_at d p v) (step_at d p v).out (flat (state_at d (frame d p (suc j)))) (g.shape.1 ∙ sym (flags_wide d p v)) g.shape.0
      (length_flat (state_at d (frame d p (suc j))) ∙ ap total (state_wide d (frame d p (suc j)))))

  pub step_counts : (j : ℕ) → Counts (step_clauses d p j) (step_clause_count d p) (step_word_count d p)
  unfolding step_clauses step_property_in step_clause_count step_word_count step_cost
  step_counts j =
      let v = frame d p j in
      let c = step_costs_at d wf p v in
      let e = step_property_costs_at d p v (state_at d (frame d p (suc j))) in
      let l = flags_wide d p v in
      counts_same (omega (arith, c.ands, c.wides, e.ands, e.wides, ap pair_count l)) (omega (arith, c.ands, c.wides, e.ands, e.wides, l, ap pair_count l))
      (counts_append (counts_cons (flags_at d p v) (pairs_counts (flags_at d p v)))
      (counts_append (gates_counts (step_at d p v).gates) (counts_append (gates_counts (step_property_in d p j).gates) (ties_all j))))

  frames_counts : (m j : ℕ) → Counts (frames_from d p m j)
      ((1 + m) * clauses_in (property_cost d p) + m * step_clause_count d p) ((1 + m) * words_in (property_cost d p) + m * step_word_count d p)
  unfolding frames_from
  frames_counts zero j = counts_same (omega arith) (omega arith) (property_counts d p j)
  frames_counts (suc m) j =
      let a = suc-mul (1 + m) (clauses_in (property_cost d p)) in
      let b = suc-mul m (step_clause_count d p) in
      let a' = suc-mul (1 + m) (words_in (property_cost d p)) in
      let b' = suc-mul m (step_word_count d p) in
      counts_same (omega arith) (omega arith)
      (counts_append (counts_append (property_counts d p j) (step_counts j)) (frames_counts m (suc j)))

  pub formula_counts : (k : ℕ) → Counts (formula d p k) (clause_count d p k) (word_count d p k)
  unfolding clause_count word_count
  formula_counts k =
      rw (formula_is d p k)
      (counts_same (omega arith) (omega arith) (counts_append first_counts (counts_append (frames_counts k 0) (last_counts d p k))))

  -- the words of each part
  tail_words : (b : Bool) (j : ℕ) → length (words (cond b (step_clauses d p j) [])) ≡ cond b (step_word_count d p) 0
  tail_words true j = (step_counts j).words
  tail_words false j = refl

  pub part_words_lem : (k i : ℕ) → length (words (part d p k i)) ≡ part_word_count d p k i
  unfolding part frame_part part_word_count
  part_words_lem k zero = first_counts.words
  part_words_lem k (suc j) = go (leb j k)
    where
      go : (b : Bool) → length (words (cond b (property_clauses d p j ++ cond (ltb j k) (step_clauses d p j) []) (last_clause d p k ∷ [])))
          ≡ cond b (words_in (property_cost d p) + cond (ltb j k) (step_word_count d p) 0) (suc (frames_taken p k))
      go true = words_append (property_clauses d p j) (cond (ltb j k) (step_clauses d p j) []) ∙ ap₂ ◌+◌ (property_counts d p j).words (tail_words (ltb j k) j)
      go false = (last_counts d p k).words
