-- The kinds of cases that the table has (Table.antt), what each says, and the designs, pieces and calls that they are about.
use Rattle.std.specs.Prelude.{◌≡◌, Bool, true, false, List, [], ◌∷◌, ◌++◌, ℕ, zero, suc, ◌-◌, ℤ, pos, length, replicate}
use Rattle.std.proofs.Math.Option.{none, some}
use Rattle.design.specs.Tree.{IntExpr, constant, constant_b, variable_b, not_b, and_b, done, external, Cell, Design}
use Rattle.design.specs.Limits.{max_variables}
use Rattle.design.specs.Check.{accepted, check}
use Rattle.design.specs.State.{layout_in, start}
use Rattle.design.specs.DesignA.{bytes_a, piece_a, design_a}
use Rattle.design.specs.Constrained.{bytes_moved, design_moved, bytes_no_idle, design_no_idle, bytes_raised, design_raised}
use Rattle.design.specs.Multiplied.{bytes_multiplied, design_multiplied}
use Rattle.design.specs.Passing.{bytes_passing, design_passing}
use Rattle.step.specs.Piece.{no_piece}
use Rattle.step.specs.Property.{Property, property_of}
use Rattle.step.specs.Gate.{gate_refusal}
use Rattle.step.specs.Pattern.{plus, minus, times, signed, wrap}
use Rattle.step.specs.Evaluation.{passes_int}
use Rattle.step.specs.OneStep.{breaks_at, breaks}
use Rattle.step.specs.Breaking.{Breakable}
use Rattle.step.specs.Strict.{strict, idles_from, StrictBreaking, StrictBreakable}
use Rattle.step.specs.Interface.{first_wrong, entries_right}
use Rattle.step.specs.StatusEventGuard.{events_read, guards_read}
use Rattle.step.specs.Operations.{first_break}
use Rattle.clauses.specs.Expression.{least_operand, largest_operand}
use Rattle.clauses.specs.Formula.{S, P, w, G, F, n, last_clause, formula}
use Rattle.clauses.specs.Words.{words}
use Rattle.clauses.specs.Theorem.{Model, Exactly}
use Rattle.search.specs.Solve.{solve}
use Rattle.search.specs.declared.Answered.{Answered}
use Rattle.search.specs.Refutation.{refute}
use Rattle.search.specs.declared.refute.Judged.{Judged}
use Rattle.search.specs.declared.refute.Judged.TheVariants.{Accepted}
use Rattle.design.specs.Answer as call
use Rattle.verdict.specs.Owners.{Buffers, owners}
use Rattle.verdict.specs.Answers.{owners_exit}

-- what a case is about: a design, and a property of it
pub record Subject : Type 0 where
  pub design : Design
  pub property : Property

-- property 0 of Design A, property 2 of the designs with a constraint, and property 0 of the one with products
abbrev pub invariant_a : Subject
invariant_a = record { design = design_a; property = property_of bytes_a no_piece design_a 0 }

abbrev pub moved_below : Subject
moved_below = record { design = design_moved; property = property_of bytes_moved no_piece design_moved 2 }

abbrev pub no_idle_step : Subject
no_idle_step = record { design = design_no_idle; property = property_of bytes_no_idle no_piece design_no_idle 2 }

abbrev pub raised_next : Subject
raised_next = record { design = design_raised; property = property_of bytes_raised no_piece design_raised 2 }

abbrev pub tripled : Subject
tripled = record { design = design_multiplied; property = property_of bytes_multiplied no_piece design_multiplied 0 }

-- property 1 of the design with products, which has no invalid cell
abbrev pub tripled_cells : Subject
tripled_cells = record { design = design_multiplied; property = property_of bytes_multiplied no_piece design_multiplied 1 }

-- properties 0 and 2 of the design whose counter passes the end
abbrev pub passing : Subject
passing = record { design = design_passing; property = property_of bytes_passing no_piece design_passing 0 }

abbrev pub passing_next : Subject
passing_next = record { design = design_passing; property = property_of bytes_passing no_piece design_passing 2 }

-- property 0 of Design A with a piece, not (0 < c), and with the piece 10 01, true; properties 1 and 2 with a piece, which they do not read
abbrev pub lent_a : Subject
lent_a = record { design = design_a; property = property_of bytes_a piece_a design_a 0 }

abbrev pub lent_true : Subject
lent_true = record { design = design_a; property = property_of bytes_a (0x10 ∷ 0x01 ∷ []) design_a 0 }

abbrev pub unread_by1 : Subject
unread_by1 = record { design = design_a; property = property_of bytes_a piece_a design_a 1 }

abbrev pub unread_by2 : Subject
unread_by2 = record { design = design_moved; property = property_of bytes_moved piece_a design_moved 2 }

-- two externals, which are the movers, a matrix without cells, and the invariant that not both are raised
unfoldable pub two_externals : List ℕ
two_externals =
    0x02 ∷ 0x00 ∷ 0x00 ∷
    0x02 ∷ 0x00 ∷ 0x00 ∷
    0x01 ∷ 0x01 ∷
    0x02 ∷ 0x10 ∷ 0x01 ∷
    0x12 ∷ 0x13 ∷ 0x11 ∷ 0x00 ∷ 0x11 ∷ 0x01 ∷
    0x01 ∷ 0x00 ∷ 0x02 ∷ 0x00 ∷ 0x06 ∷ 0x00 ∷ 0x01 ∷ 0x00 ∷ 0x08 ∷ 0x00 ∷ 0x0b ∷ 0x00 ∷ 0x00 ∷ 0x00 ∷ 0x0b ∷ 0x00 ∷ []

-- its tree, and its property 0
unfoldable pub design_two : Design
design_two = record {
  variables = record { kind = external; initial = 0 } ∷ record { kind = external; initial = 0 } ∷ [];
  statuses = 1 ∷ [];
  cells = [];
  invalid = [];
  invariant = not_b (and_b (variable_b 0) (variable_b 1));
  constraint = constant_b true;
}

abbrev pub not_both : Subject
not_both = record { design = design_two; property = property_of two_externals no_piece design_two 0 }

-- a cell that is always enabled, leads to its own status and has no statement
abbrev pub loop : Cell
loop = record { matrix = 0; status = 0; event = constant_b true; target = 0; guard = constant_b true; action = done }

-- an external, mover 1, and that cell, mover 0; and that cell twice
unfoldable pub design_loop : Design
design_loop = record { variables = record { kind = external; initial = 0 } ∷ []; statuses = 1 ∷ []; cells = loop ∷ []; invalid = []; invariant = constant_b true; constraint = constant_b true }

unfoldable pub design_same : Design
design_same = record { variables = []; statuses = 1 ∷ []; cells = loop ∷ loop ∷ []; invalid = []; invariant = constant_b true; constraint = constant_b true }

-- pieces for the two externals: external 0 is not raised, external 1 is not raised, and half an expression
abbrev pub piece_first : List ℕ
piece_first = 0x12 ∷ 0x11 ∷ 0x00 ∷ []

abbrev pub piece_second : List ℕ
piece_second = 0x12 ∷ 0x11 ∷ 0x01 ∷ []

abbrev pub piece_half : List ℕ
piece_half = 0x12 ∷ 0x13 ∷ 0x11 ∷ 0x00 ∷ []

-- an and of two to the k leaves, each false
abbrev pub all_false : ℕ → List ℕ
all_false zero = 0x10 ∷ 0x00 ∷ []
all_false (suc k) = 0x13 ∷ (all_false k ++ all_false k)

-- a call of several owners on that file: how many clause words, and how many values and trail words are lent, the rest as the C entry has it
pub record OwnersCall : Type 0 where
  pub bound : ℕ
  pub count : ℕ
  pub pieces : List (List ℕ)
  pub budgets : List ℕ
  pub choices : List (List ℕ)
  pub words : ℕ
  pub variables : ℕ

-- Lent clause words, values and trail words are 7 each, of which so many are zero afterwards.
abbrev pub sevens : ℕ → ℕ → ℕ → ℕ → Buffers
sevens m zero_words v zero_values = record {
  clauses = replicate zero_words (pos 0) ++ replicate (m - zero_words) (pos 7);
  values = replicate zero_values 0 ++ replicate (v - zero_values) 7;
  trail = replicate zero_values 0 ++ replicate (v - zero_values) 7;
}

-- an owner's five words of answer: clean, violated, spent, refused, and as they were lent
abbrev pub clean : ℕ → List ℕ
clean tries = 0 ∷ 0 ∷ 0 ∷ 0 ∷ tries ∷ []

abbrev pub violated : ℕ → ℕ → List ℕ
violated i tries = 0 ∷ 0 ∷ 1 ∷ i ∷ tries ∷ []

abbrev pub spent : ℕ → ℕ → List ℕ
spent i tries = 0 ∷ 0 ∷ 2 ∷ i ∷ tries ∷ []

abbrev pub refused_by : ℕ → List ℕ
refused_by number = number ∷ 0 ∷ 0 ∷ 0 ∷ 0 ∷ []

abbrev pub kept : List ℕ
kept = replicate 5 7

pub data Case : Type 0 where
  -- the bytes of a file give its tree
  reads : List ℕ → Design → Case
  -- S, P, w, G and F
  frame : Subject → ℕ → ℕ → ℕ → ℕ → ℕ → Case
  -- of a bound: n, and the number of clauses
  bound : Subject → ℕ → ℕ → ℕ → Case
  -- the last clause of a bound's formula has so many literals
  last : Subject → ℕ → ℕ → Case
  -- these choices break at this step, and not before; these never
  broken : Subject → List ℕ → ℕ → Case
  never : Subject → List ℕ → Case
  -- these choices break at this step, whether or not they break before
  still_broken : Subject → List ℕ → ℕ → Case
  -- so many events and guards are read along these choices
  counts : Design → List ℕ → ℕ → ℕ → Case
  -- a bound has so many models
  models : Subject → ℕ → ℕ → Case
  -- these choices are a strict run, or not; some of them idles, or none
  strict_run : Design → List ℕ → Bool → Case
  idling : Design → List ℕ → Bool → Case
  -- of a bound k: so many strict runs of just k choices break
  strict_count : Subject → ℕ → ℕ → Case
  -- within this bound some run breaks; no strict run does, within any bound
  by_idling_alone : Subject → ℕ → Case
  -- of a file, a piece, a property and a bound: what is refused first, by its number; 0 where nothing is. The places are 0.
  gated : List ℕ → List ℕ → ℕ → ℕ → ℕ → Case
  -- two integers, and their sum, difference or product
  sum difference product : ℤ → ℤ → ℤ → Case
  -- two integers, and whether their sum, difference or product passes the end
  sum_passes difference_passes product_passes : ℤ → ℤ → Bool → Case
  -- a design's entries, of all values 0, statuses and a mark: the index of the first that is wrong, 41 where none is
  entries : Design → List ℕ → ℕ → ℕ → Case
  -- a constant, and the least and the largest operand whose product by it stays inside
  operands : ℤ → ℤ → ℤ → Case
  -- SOLVE: n, words, budget; answer, tries and the values left
  solves : ℕ → List ℤ → ℕ → Answered → ℕ → List ℕ → Case
  -- REFUTE: n, the list, the refutation; what is answered. One value more than n is lent, each is 7, and the last stays so.
  judges : ℕ → List ℤ → List ℤ → Judged → Case
  -- of as many values as the first number says: the refusal's number and place, and all values stay
  turns_back : ℕ → ℕ → List ℤ → List ℤ → ℕ → ℕ → Case
  -- of a design, a property and a bound: this refutation of the formula is accepted
  certified : Subject → ℕ → List ℤ → Case
  -- several owners of the file of two externals: each place's words of answer and choices, and how many clause words and how many values are zero
  owned : OwnersCall → List (List ℕ) → List (List ℕ) → ℕ → ℕ → Case
  -- a file and a count of owners for which the whole call is refused, by this number at place 0, and keeps all
  refused_whole : List ℕ → ℕ → ℕ → Case

abbrev pub Holds : Case → Type 0
Holds (reads file d) = check file ≡ accepted d
Holds (frame s bits gates movers step_gates size) =
    (S s.design ≡ bits) × (P s.design s.property ≡ gates) × (w s.design ≡ movers) × (G s.design s.property ≡ step_gates) × (F s.design s.property ≡ size)
Holds (bound s k variables clauses) = (n s.design s.property k ≡ variables) × (length (formula s.design s.property k) ≡ clauses)
Holds (last s k literals) = length (last_clause s.design s.property k) ≡ literals
Holds (broken s cs i) =
    (breaks_at s.design s.property cs i ≡ true) × (first_break s.design s.property none (start s.design) cs 0 ≡ some i)
Holds (never s cs) = breaks s.design s.property cs ≡ false
Holds (still_broken s cs i) = breaks_at s.design s.property cs i ≡ true
Holds (counts d cs events guards) = (events_read d (start d) cs ≡ events) × (guards_read d (start d) cs ≡ guards)
Holds (models s k count) = Exactly (Model s.design s.property k) count
Holds (strict_run d cs t) = strict d cs ≡ t
Holds (idling d cs t) = idles_from d (start d) cs ≡ t
Holds (strict_count s k count) = Exactly (StrictBreaking s.design s.property k) count
Holds (by_idling_alone s k) = Breakable s.design s.property k × ((j : ℕ) → StrictBreakable s.design s.property j → ⊥)
Holds (gated file piece p k number) = gate_refusal file piece p k ≡ record { number = number; place = 0 }
Holds (sum a b c) = signed (plus (wrap a) (wrap b)) ≡ c
Holds (difference a b c) = signed (minus (wrap a) (wrap b)) ≡ c
Holds (product a b c) = signed (times (wrap a) (wrap b)) ≡ c
Holds (sum_passes a b t) = passes_int (layout_in 0 0) [] (IntExpr.sum (constant (wrap a)) (constant (wrap b))) ≡ t
Holds (difference_passes a b t) = passes_int (layout_in 0 0) [] (IntExpr.difference (constant (wrap a)) (constant (wrap b))) ≡ t
Holds (product_passes a b t) = passes_int (layout_in 0 0) [] (IntExpr.product (wrap a) (constant (wrap b))) ≡ t
Holds (entries d statuses mark i) = first_wrong (entries_right d (replicate max_variables (pos 0)) statuses mark) ≡ i
Holds (operands c l h) = (least_operand (signed (wrap c)) ≡ l) × (largest_operand (signed (wrap c)) ≡ h)
Holds (solves variables words budget answer tries values) =
    solve variables words (replicate variables 7) (replicate variables 7) budget
    ≡ record { reply = call.answer (record { answer = answer; tries = tries }); values = values; trail = replicate variables 0 }
Holds (judges variables list refutation answer) =
    refute variables list refutation (replicate (suc variables) 7) ≡ record { reply = call.answer answer; values = replicate variables 0 ++ 7 ∷ [] }
Holds (turns_back values variables list refutation number place) =
    refute variables list refutation (replicate values 7) ≡ record { reply = call.refused number place; values = replicate values 7 }
Holds (certified s k refutation) =
    refute (n s.design s.property k) (words (formula s.design s.property k)) refutation (replicate (n s.design s.property k) 7)
    ≡ record { reply = call.answer Accepted; values = replicate (n s.design s.property k) 0 }
Holds (owned c answers choices zero_words zero_values) =
    owners_exit (owners two_externals c.bound (sevens c.words 0 c.variables 0) c.count c.pieces c.budgets c.choices) [] (replicate 4 kept)
    ≡ record { refusal = record { number = 0; place = 0 }; buffers = sevens c.words zero_words c.variables zero_values; choices = choices; pointers = []; answers = answers }
Holds (refused_whole file count number) =
    owners_exit (owners file 1 (sevens 1 0 1 0) count (replicate 4 []) (replicate 4 9) (replicate 4 (9 ∷ []))) [] (replicate 4 kept)
    ≡ record { refusal = record { number = number; place = 0 }; buffers = sevens 1 0 1 0; choices = replicate 4 (9 ∷ []); pointers = []; answers = replicate 4 kept }

abbrev pub AllHold : List Case → Type 0
AllHold [] = Unit {0}
AllHold (c ∷ cs) = Holds c × AllHold cs
