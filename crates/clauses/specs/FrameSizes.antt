-- What the code that counts gates is given, and what it answers, of what the definitions say.
use Rattle.std.specs.Prelude.{◌≡◌, ℕ, zero, suc, ◌+◌, ◌*◌, ◌≤◌, Bool, true, false, cond, List, [], ◌∷◌, nat_le, nat_lt}
use Rattle.design.specs.Tree.{Stmt, Stmts, Design, cell}
use Rattle.design.specs.Reading.{Read, got, bad}
use Rattle.design.specs.DesignFile.{Entry, normal, invalid, c_matrix, c_event}
use Rattle.design.specs.Limits.{max_movers, max_bits}
use Rattle.design.specs.Check.{event_in}
use Rattle.design.specs.Sections.{Parts, Standing}
use Rattle.step.specs.Property.{Property, invariant, no_invalid_cell, constraint}
use Rattle.clauses.specs.Formula.{S, w}
use Rattle.clauses.specs.Cost.{Cost, cost, add_costs, gates_in, clauses_in, words_in, pair_count, statement_cost, statements_cost, status_and_event_cost, mover_cost, property_cost, step_cost}
use Rattle.clauses.specs.Limits.{most_gates}
use Rattle.clauses.specs.declared.cost.GatesAt.{GatesAt}
use Rattle.clauses.specs.declared.frame.Gates.{Gates}
use Rattle.clauses.specs.declared.frame.FrameSizes.{FrameSizes}
use Rattle.clauses.specs.declared.frame.FormulaSizes.{FormulaSizes}

-- no gates; and of what was read, its gates and the position past it
abbrev pub no_gates : ℕ → GatesAt
no_gates n = record { ands = 0; wides = 0; next = n }

abbrev pub gates_at : {A : Type 0} → (A → Cost) → Read A → GatesAt
gates_at f (got a n) = record { ands = (f a).ands; wides = (f a).wides; next = n }
gates_at f bad = no_gates 0

-- one after the other, and so many gates more
abbrev pub both : GatesAt → GatesAt → ℕ → ℕ → GatesAt
both a b x y = record { ands = a.ands + b.ands + x; wides = a.wides + b.wides + y; next = b.next }

-- so many gates more
abbrev pub more : GatesAt → ℕ → ℕ → GatesAt
more a x y = record { ands = a.ands + x; wides = a.wides + y; next = a.next }

-- the same two, by the cost of what is more
abbrev pub both_with : GatesAt → GatesAt → Cost → GatesAt
both_with a b c = both a b c.ands c.wides

abbrev pub more_with : GatesAt → Cost → GatesAt
more_with a c = more a c.ands c.wides

-- of a statement or a list, with S state bits
abbrev pub stmt_gates : ℕ → Read Stmt → GatesAt
stmt_gates bits x = gates_at (λ (s : Stmt). statement_cost s bits) x

abbrev pub list_gates : ℕ → Read Stmts → GatesAt
list_gates bits x = gates_at (λ (s : Stmts). statements_cost s bits) x

-- of the cells, the gates of the normal ones, or of the invalid ones
abbrev pub entry_cost : ℕ → Bool → Entry → Cost
entry_cost bits false (normal c) = mover_cost bits (cell c)
entry_cost bits true (normal c) = cost 0 0
entry_cost bits false (invalid p) = cost 0 0
entry_cost bits true (invalid p) = add_costs (status_and_event_cost p.event) (cost 1 0)

unfoldable pub entries_cost : ℕ → Bool → List Entry → Cost
entries_cost bits t [] = cost 0 0
entries_cost bits t (x ∷ xs) = add_costs (entry_cost bits t x) (entries_cost bits t xs)

pub record HasGates (r : GatesAt) (c : Cost) : Type 0 where
  pub ands : r.ands ≡ c.ands
  pub wides : r.wides ≡ c.wides

-- at most so many gates of each kind, so that a sum of several fits any machine number here
pub record FewGates (most : ℕ) (r : GatesAt) : Type 0 where
  pub ands : r.ands ≤ most
  pub wides : r.wides ≤ most

-- a cell that stands at p
pub record CellHere (file : List ℕ) (p : ℕ) : Type 0 where
  pub tree : Design
  pub parts : Parts file tree
  pub entry : Entry
  pub stands : Standing file (event_in parts.rows) p entry

-- the gates of status and event of the cell at p; and of that cell, where the normal cells count, or the invalid ones
abbrev pub PlaceCounted : List ℕ → ℕ → GatesAt → Type 0
PlaceCounted file p r =
    (d : Design) (parts : Parts file d) → HasGates r (status_and_event_cost (event_in parts.rows (c_matrix file p) (c_event file p)))

abbrev pub CellCounted : List ℕ → ℕ → Bool → ℕ → GatesAt → Type 0
CellCounted file bits t p r =
    (d : Design) (parts : Parts file d) (x : Entry) → Standing file (event_in parts.rows) p x → HasGates r (entry_cost bits t x)

-- What a frame holds, as the code has it.
abbrev pub gates_of : Cost → Gates
gates_of c = record { ands = c.ands; wides = c.wides }

abbrev pub cost_in : Gates → Cost
cost_in g = cost g.ands g.wides

-- 1 where the last clause takes the last frame too, else 0
abbrev pub last_frames : Property → ℕ
last_frames (invariant e) = 1
last_frames no_invalid_cell = 1
last_frames (constraint e) = 0

unfoldable pub frame_sizes : Design → Property → FrameSizes
frame_sizes d p = record { bits = S d; movers = w d; property = gates_of (property_cost d p); step = gates_of (step_cost d p); last = last_frames p }

-- small enough for the formula of any bound
pub record SmallFrame (s : FrameSizes) : Type 0 where
  pub bits : s.bits ≤ max_bits
  pub movers : s.movers ≤ max_movers
  pub gates : gates_in (cost_in s.property) + gates_in (cost_in s.step) ≤ most_gates
  pub last : s.last ≤ 1

-- The numbers of Cost.antt's last part, from the sizes of a frame.
module _ (s : FrameSizes) where
  abbrev pub frame_length : ℕ
  frame_length = s.bits + gates_in (cost_in s.property) + s.movers + gates_in (cost_in s.step)

  abbrev pub step_clauses_of : ℕ
  step_clauses_of = 1 + pair_count s.movers + clauses_in (cost_in s.step) + 2 * (s.movers * s.bits)

  abbrev pub step_words_of : ℕ
  step_words_of = 1 + s.movers + 3 * pair_count s.movers + words_in (cost_in s.step) + 8 * (s.movers * s.bits)

  abbrev pub part_words_of : ℕ → ℕ → ℕ
  part_words_of k zero = 2 + 2 * s.bits
  part_words_of k (suc j) = cond (nat_le j k) (words_in (cost_in s.property) + cond (nat_lt j k) step_words_of 0) (k + s.last + 1)

  -- n, and SIZE's answer
  abbrev pub variables_of : ℕ → ℕ
  variables_of k = 1 + k * frame_length + s.bits + gates_in (cost_in s.property)

  abbrev pub formula_sizes : ℕ → FormulaSizes
  formula_sizes k = record {
    bits = s.bits;
    property = gates_in (cost_in s.property);
    movers = s.movers;
    step = gates_in (cost_in s.step);
    variables = variables_of k;
    clauses = 1 + s.bits + (1 + k) * clauses_in (cost_in s.property) + k * step_clauses_of + 1;
    words = 2 + 2 * s.bits + (1 + k) * words_in (cost_in s.property) + k * step_words_of + (k + s.last + 1);
  }
