-- How many gates the circuits have, computed from the trees: ands (3 clauses, 10 words) apart from xors and muxes (4 clauses, 16 words).
-- SIZE is answered by these numbers, and a buffer is tested by them, before anything is written.
use Rattle.std.specs.Prelude.{ℕ, zero, suc, ◌+◌, ◌*◌, Bool, true, false, cond, List, [], ◌∷◌, nat_le, nat_lt}
use Rattle.design.specs.Tree.{IntExpr, BoolExpr, Stmt, Stmts, constant, variable, status, sum, difference, product, constant_b, variable_b, not_b, and_b, or_b, equal, less, assign, assign_b, if_else, done, then, InvalidCell, Design, Mover, cell, raise, movers}
use Rattle.step.specs.Property.{Property, invariant, no_invalid_cell, constraint}
use Rattle.clauses.specs.Formula.{S, w, frames_taken}

-- `wides` are xors and muxes
pub record Cost : Type 0 where
  pub ands : ℕ
  pub wides : ℕ

abbrev pub cost : ℕ → ℕ → Cost
cost a b = record { ands = a; wides = b }

abbrev pub add_costs : Cost → Cost → Cost
add_costs x y = cost (x.ands + y.ands) (x.wides + y.wides)

abbrev pub gates_in : Cost → ℕ
gates_in c = c.ands + c.wides

abbrev pub clauses_in : Cost → ℕ
clauses_in c = 3 * c.ands + 4 * c.wides

abbrev pub words_in : Cost → ℕ
words_in c = 10 * c.ands + 16 * c.wides

-- a sum, a difference or less of 16 bits: 80 gates; equal: 32
abbrev pub sum_cost : Cost
sum_cost = cost 48 32

-- "It costs 16 sums": 1,280 gates (document 02, R-2)
abbrev pub product_cost : Cost
product_cost = cost (16 * 48) (16 * 32)

abbrev pub equal_cost : Cost
equal_cost = cost 16 16

-- "Such a sum or difference adds, after its gates, an xor .., then an or": where an expression marks (document 02, R-5)
abbrev pub sum_mark_cost : Bool → Cost
sum_mark_cost false = cost 0 0
sum_mark_cost true = cost 1 1

-- "Such a product adds less .., less .., an or of the two and the or of the mark with that"
abbrev pub product_mark_cost : Bool → Cost
product_mark_cost false = cost 0 0
product_mark_cost true = cost (2 * 48 + 2) (2 * 32)

-- `marks` is as in the circuits
unfoldable pub int_cost : Bool → IntExpr → Cost
int_cost marks (constant c) = cost 0 0
int_cost marks (variable v) = cost 0 0
int_cost marks (status m) = cost 0 0
int_cost marks (sum a b) = add_costs (add_costs (int_cost marks a) (int_cost marks b)) (add_costs sum_cost (sum_mark_cost marks))
int_cost marks (difference a b) = add_costs (add_costs (int_cost marks a) (int_cost marks b)) (add_costs sum_cost (sum_mark_cost marks))
int_cost marks (product c a) = add_costs (int_cost marks a) (add_costs product_cost (product_mark_cost marks))

unfoldable pub bool_cost : Bool → BoolExpr → Cost
bool_cost marks (constant_b b) = cost 0 0
bool_cost marks (variable_b v) = cost 0 0
bool_cost marks (not_b a) = bool_cost marks a
bool_cost marks (and_b a b) = add_costs (add_costs (bool_cost marks a) (bool_cost marks b)) (cost 1 0)
bool_cost marks (or_b a b) = add_costs (add_costs (bool_cost marks a) (bool_cost marks b)) (cost 1 0)
bool_cost marks (equal a b) = add_costs (add_costs (int_cost marks a) (int_cost marks b)) equal_cost
bool_cost marks (less a b) = add_costs (add_costs (int_cost marks a) (int_cost marks b)) sum_cost

-- `bits` is S
unfoldable mutual
  pub statement_cost : Stmt → ℕ → Cost
  statement_cost (assign v e) bits = int_cost true e
  statement_cost (assign_b v e) bits = bool_cost true e
  statement_cost (if_else c a b) bits = add_costs (add_costs (add_costs (bool_cost true c) (statements_cost a bits)) (statements_cost b bits)) (cost 0 bits)

  pub statements_cost : Stmts → ℕ → Cost
  statements_cost done bits = cost 0 0
  statements_cost (then x xs) bits = add_costs (statement_cost x bits) (statements_cost xs bits)

-- and(equal(status, constant), event)
abbrev pub status_and_event_cost : BoolExpr → Cost
status_and_event_cost event = add_costs (add_costs equal_cost (bool_cost false event)) (cost 1 0)

unfoldable pub enable_cost : Mover → Cost
enable_cost (cell c) = add_costs (add_costs (status_and_event_cost c.event) (bool_cost false c.guard)) (cost 1 0)
enable_cost (raise v) = cost 0 0

unfoldable pub effect_cost : ℕ → Mover → Cost
effect_cost bits (cell c) = statements_cost c.action bits
effect_cost bits (raise v) = cost 0 0

unfoldable pub mover_cost : ℕ → Mover → Cost
mover_cost bits m = add_costs (add_costs (enable_cost m) (effect_cost bits m)) (cost 0 bits)

unfoldable pub movers_cost : ℕ → List Mover → Cost
movers_cost bits [] = cost 0 0
movers_cost bits (m ∷ ms) = add_costs (mover_cost bits m) (movers_cost bits ms)

unfoldable pub invalid_cost : List InvalidCell → Cost
invalid_cost [] = cost 0 0
invalid_cost (p ∷ ps) = add_costs (add_costs (status_and_event_cost p.event) (cost 1 0)) (invalid_cost ps)

-- so many flags have so many pairs
abbrev pub pair_count : ℕ → ℕ
pair_count zero = 0
pair_count (suc n) = n + pair_count n

-- property 2's gates and its and, which count in G
unfoldable pub step_property_cost : Property → Cost
step_property_cost (invariant e) = cost 0 0
step_property_cost no_invalid_cell = cost 0 0
step_property_cost (constraint e) = add_costs (bool_cost false e) (cost 1 0)

module _ (d : Design) where
  -- P gates, and G gates; a property ends in an and
  unfoldable pub property_cost : Property → Cost
  property_cost (invariant e) = add_costs (bool_cost false e) (cost 1 0)
  property_cost no_invalid_cell = add_costs (invalid_cost d.invalid) (cost 1 0)
  property_cost (constraint e) = cost 0 0

  -- the movers' gates, and behind them those of property 2
  unfoldable pub step_cost : Property → Cost
  step_cost p = add_costs (movers_cost (S d) (movers d)) (step_property_cost p)

  -- clauses and words of part 0
  unfoldable pub first_clauses : ℕ
  first_clauses = 1 + S d

  unfoldable pub first_words : ℕ
  first_words = 2 + 2 * S d

  -- of the step out of a frame: the clause of all flags, their pairs, the gates, the ties
  unfoldable pub step_clause_count : Property → ℕ
  step_clause_count p = 1 + pair_count (w d) + clauses_in (step_cost p) + 2 * (w d * S d)

  unfoldable pub step_word_count : Property → ℕ
  step_word_count p = 1 + w d + 3 * pair_count (w d) + words_in (step_cost p) + 8 * (w d * S d)

  -- of the whole formula
  unfoldable pub clause_count : Property → ℕ → ℕ
  clause_count p k = first_clauses + (1 + k) * clauses_in (property_cost p) + k * step_clause_count p + 1

  unfoldable pub word_count : Property → ℕ → ℕ
  word_count p k = first_words + (1 + k) * words_in (property_cost p) + k * step_word_count p + suc (frames_taken p k)

  -- of part i of the formula for bound k, for i up to k + 2
  unfoldable pub part_word_count : Property → ℕ → ℕ → ℕ
  part_word_count p k zero = first_words
  part_word_count p k (suc j) = cond (nat_le j k) (words_in (property_cost p) + cond (nat_lt j k) (step_word_count p) 0) (suc (frames_taken p k))
