-- Document 01's cases with a *, as one table over the definitions (its section "Design A"), where a request of document 02 gives other numbers with those, and cases of the requests. That it holds is one theorem
-- (proofs/Table.antt).
use Rattle.std.specs.Prelude.{true, false, List, [], ◌∷◌, ◌++◌, ℤ, pos, neg_ℤ, replicate}
use Rattle.design.specs.DesignA.{bytes_a, piece_a, design_a}
use Rattle.design.specs.Constrained.{bytes_moved, design_moved, bytes_no_idle, design_no_idle, bytes_raised, design_raised}
use Rattle.design.specs.Multiplied.{bytes_multiplied, design_multiplied}
use Rattle.design.specs.Passing.{bytes_passing, design_passing}
use Rattle.step.specs.Piece.{no_piece}
use Rattle.search.specs.declared.Answered.TheVariants.{Sat, Unsat, Spent}
use Rattle.search.specs.declared.refute.Judged.TheVariants.{Accepted, Word, Ended}
use Rattle.verdict.specs.Cases.{invariant_a, moved_below, no_idle_step, raised_next, tripled, tripled_cells, passing, passing_next, lent_a, lent_true, unread_by1, unread_by2, two_externals, design_two, not_both, design_loop, design_same, piece_first, piece_second, piece_half, all_false, clean, violated, spent, refused_by, kept}
use Rattle.verdict.specs.Cases.{Case, reads, frame, bound, last, broken, never, still_broken, counts, models, strict_run, idling, strict_count, by_idling_alone, gated, sum, difference, product, sum_passes, difference_passes, product_passes, entries, operands, solves, judges, turns_back, certified, owned, refused_whole}

-- (1 2)(-1 2)(1 -2)(-1 -2)
abbrev four : List ℤ
four = pos 1 ∷ pos 2 ∷ pos 0 ∷ neg_ℤ (pos 1) ∷ pos 2 ∷ pos 0 ∷ pos 1 ∷ neg_ℤ (pos 2) ∷ pos 0 ∷ neg_ℤ (pos 1) ∷ neg_ℤ (pos 2) ∷ pos 0 ∷ []

-- the arithmetic and the search, without a design
abbrev pub bare_cases : List Case
bare_cases =
    -- "32767+1 is -32768"; "0-(-32768) is -32768."
    sum (pos 32767) (pos 1) (neg_ℤ (pos 32768))
    ∷ difference (pos 0) (neg_ℤ (pos 32768)) (neg_ℤ (pos 32768))
    -- "n=0, no words: SAT, 0." "n=1, word 0: UNSAT, 0." "n=1, no words: budget 1 SAT false, budget 0 SPENT."
    ∷ solves 0 [] 0 Sat 0 []
    ∷ solves 1 (pos 0 ∷ []) 0 Unsat 0 (0 ∷ [])
    ∷ solves 1 [] 1 Sat 1 (0 ∷ [])
    ∷ solves 1 [] 0 Spent 0 (0 ∷ [])
    -- "(1 2)(-1 2)(1 -2)(-1 -2): budget 2 UNSAT, 1 SPENT."
    ∷ solves 2 four 2 Unsat 2 (0 ∷ 0 ∷ [])
    ∷ solves 2 four 1 Spent 1 (0 ∷ 0 ∷ [])
    ∷ []

-- pieces
abbrev pub piece_cases : List Case
piece_cases =
    -- A piece (document 02, R-4) is judged in the invariant's place, and not beside it: the invariant breaks at 3. Its names are Design A's: c is its variable 1.
    frame lent_true 22 1 3 378 404
    ∷ bound lent_true 0 24 27
    ∷ bound lent_a 0 104 299
    ∷ broken lent_a (2 ∷ 0 ∷ 1 ∷ []) 2
    ∷ never lent_a (0 ∷ 1 ∷ 2 ∷ [])
    ∷ never lent_true (2 ∷ 0 ∷ 1 ∷ [])
    ∷ models lent_a 2 1
    -- "For other properties the piece is not read."
    ∷ never unread_by1 (2 ∷ 0 ∷ 1 ∷ [])
    ∷ broken unread_by2 (2 ∷ 0 ∷ 1 ∷ []) 3
    -- "from the piece if it has any bytes, else from the file"
    ∷ gated bytes_a piece_a 0 3 0
    ∷ gated bytes_a no_piece 0 3 0
    -- a product; 16 levels, and 17
    ∷ gated bytes_a (0x15 ∷ 0x08 ∷ 0x03 ∷ 0x00 ∷ 0x02 ∷ 0x01 ∷ 0x02 ∷ 0x01 ∷ []) 0 3 0
    ∷ gated bytes_a (replicate 15 0x12 ++ 0x10 ∷ 0x01 ∷ []) 0 3 0
    ∷ gated bytes_a (replicate 16 0x12 ++ 0x10 ∷ 0x01 ∷ []) 0 3 8
    -- not a whole expression; a byte more; an integer; an integer variable as a Boolean; variable 2, which is not there; the next state
    ∷ gated bytes_a (0x12 ∷ 0x16 ∷ 0x01 ∷ 0x00 ∷ 0x00 ∷ 0x02 ∷ []) 0 3 8
    ∷ gated bytes_a (0x10 ∷ 0x01 ∷ 0x00 ∷ []) 0 3 8
    ∷ gated bytes_a (0x02 ∷ 0x01 ∷ []) 0 3 8
    ∷ gated bytes_a (0x11 ∷ 0x01 ∷ []) 0 3 8
    ∷ gated bytes_a (0x11 ∷ 0x02 ∷ []) 0 3 8
    ∷ gated bytes_moved (0x17 ∷ 0x00 ∷ []) 0 3 8
    -- "after CHECK and before 14"; no other property refuses a piece
    ∷ gated [] (0x00 ∷ []) 0 101 1
    ∷ gated bytes_a (0x00 ∷ []) 0 101 8
    ∷ gated bytes_a piece_a 0 101 14
    ∷ gated bytes_a (0x00 ∷ []) 2 101 13
    ∷ gated bytes_a (0x00 ∷ []) 1 3 0
    ∷ gated bytes_moved (0x00 ∷ []) 2 3 0
    ∷ []

-- counters that pass the end
abbrev pub passing_cases : List Case
passing_cases =
    -- Document 02, R-5. The invariant and cell 0's event and guard have a sum that wraps: "Guards, events and properties go on wrapping." Cell 1 has one in a branch that is not taken.
    reads bytes_passing design_passing
    ∷ frame passing 22 161 4 1077 1264
    ∷ never passing (0 ∷ 1 ∷ 0 ∷ [])
    -- Cell 2 sets the mark though v is 32,767 again, and cell 3 by its condition alone, an or whose first side is true already: "conditions whole"
    ∷ broken passing (2 ∷ []) 1
    ∷ broken passing (1 ∷ 0 ∷ 3 ∷ []) 3
    -- "Once set it remains set"
    ∷ still_broken passing (2 ∷ 0 ∷ 1 ∷ []) 3
    ∷ models passing 1 2
    -- "for property 2 the later state decides": the constraint is true, and the first step breaks
    ∷ frame passing_next 22 0 4 1078 1104
    ∷ broken passing_next (2 ∷ []) 1
    ∷ never passing_next (0 ∷ 1 ∷ [])
    -- a product: 3 to the 10th is past the end; without invalid cells property 1 has the and alone
    ∷ frame tripled_cells 21 1 1 1497 1520
    ∷ broken tripled_cells (replicate 10 0) 10
    -- "any value other than 0 or 1 is refusal 11 at place 40", behind the values and the statuses
    ∷ entries design_a (replicate 8 0) 1 41
    ∷ entries design_a (replicate 8 0) 2 40
    ∷ entries design_a (2 ∷ replicate 7 0) 2 32
    -- "outside -32,768..32,767", at both ends
    ∷ sum_passes (pos 32767) (pos 1) true
    ∷ sum_passes (pos 32767) (pos 0) false
    ∷ sum_passes (neg_ℤ (pos 32768)) (neg_ℤ (pos 1)) true
    ∷ difference_passes (pos 0) (neg_ℤ (pos 32768)) true
    ∷ difference_passes (neg_ℤ (pos 1)) (pos 32767) false
    ∷ product_passes (neg_ℤ (pos 1)) (neg_ℤ (pos 32768)) true
    ∷ product_passes (pos 2) (pos 16384) true
    ∷ product_passes (pos 2) (neg_ℤ (pos 16384)) false
    -- "the least and largest operand whose exact product stays inside"
    ∷ operands (pos 0) (neg_ℤ (pos 32768)) (pos 32767)
    ∷ operands (pos 3) (neg_ℤ (pos 10922)) (pos 10922)
    ∷ operands (neg_ℤ (pos 1)) (neg_ℤ (pos 32767)) (pos 32767)
    ∷ operands (neg_ℤ (pos 32768)) (pos 0) (pos 1)
    ∷ []

-- refutations
abbrev pub refuted_cases : List Case
refuted_cases =
    -- Document 02, R-7. Of (1 2)(-1 2)(1 -2)(-1 -2), which has no unit: (2) follows, and the empty clause by it, which by itself does not
    judges 2 four (pos 2 ∷ pos 0 ∷ pos 0 ∷ []) Accepted
    ∷ judges 2 four (pos 0 ∷ []) (Word 0)
    -- "ended without an empty clause", though units alone reach a clause all false; and with no words at all
    ∷ judges 2 four (pos 2 ∷ pos 0 ∷ []) Ended
    ∷ judges 1 (pos 1 ∷ pos 0 ∷ neg_ℤ (pos 1) ∷ pos 0 ∷ []) [] Ended
    ∷ judges 0 [] [] Ended
    -- not from itself, and not from a later clause
    ∷ judges 1 [] (pos 1 ∷ pos 0 ∷ pos 0 ∷ []) (Word 0)
    ∷ judges 2 (pos 1 ∷ pos 2 ∷ pos 0 ∷ []) (pos 1 ∷ pos 0 ∷ neg_ℤ (pos 2) ∷ pos 0 ∷ []) (Word 0)
    ∷ judges 2 four (pos 0 ∷ pos 2 ∷ pos 0 ∷ pos 0 ∷ []) (Word 0)
    -- "the refutation's word where the first clause that does not follow begins"
    ∷ judges 3 (pos 1 ∷ pos 2 ∷ pos 0 ∷ neg_ℤ (pos 1) ∷ pos 2 ∷ pos 0 ∷ []) (pos 2 ∷ pos 0 ∷ pos 3 ∷ pos 0 ∷ pos 0 ∷ []) (Word 2)
    -- "a clause holding a literal and its negation also follows", and no more than that
    ∷ judges 2 [] (pos 2 ∷ pos 1 ∷ neg_ℤ (pos 2) ∷ pos 0 ∷ []) Ended
    ∷ judges 2 [] (pos 2 ∷ pos 1 ∷ neg_ℤ (pos 2) ∷ pos 0 ∷ pos 0 ∷ []) (Word 4)
    -- Positions count: (1 1) is no unit. As a clause that follows, (1) is.
    ∷ judges 2 (pos 1 ∷ pos 1 ∷ pos 0 ∷ neg_ℤ (pos 1) ∷ pos 2 ∷ pos 0 ∷ neg_ℤ (pos 1) ∷ neg_ℤ (pos 2) ∷ pos 0 ∷ []) (pos 0 ∷ []) (Word 0)
    ∷ judges 2 (pos 1 ∷ pos 1 ∷ pos 0 ∷ neg_ℤ (pos 1) ∷ pos 2 ∷ pos 0 ∷ neg_ℤ (pos 1) ∷ neg_ℤ (pos 2) ∷ pos 0 ∷ []) (pos 1 ∷ pos 1 ∷ pos 0 ∷ pos 1 ∷ pos 0 ∷ pos 0 ∷ []) Accepted
    ∷ judges 2 four (pos 2 ∷ pos 2 ∷ pos 0 ∷ pos 0 ∷ []) (Word 3)
    -- an empty clause of the list makes everything follow
    ∷ judges 1 (pos 0 ∷ []) (pos 1 ∷ pos 0 ∷ pos 0 ∷ []) Accepted
    ∷ judges 1 (pos 0 ∷ []) (pos 1 ∷ pos 0 ∷ []) Ended
    ∷ judges 0 (pos 0 ∷ []) (pos 0 ∷ []) Accepted
    -- "Reading ends at the first empty clause that follows": what comes after it is not read
    ∷ judges 3 four (pos 2 ∷ pos 0 ∷ pos 0 ∷ pos 3 ∷ pos 0 ∷ []) Accepted
    -- but 17 tests it, and what comes after a clause that does not follow; "17 tests the list, then the refutation (places counting on from the list's length), then 16"
    ∷ turns_back 2 2 four (pos 2 ∷ pos 0 ∷ pos 0 ∷ pos 3 ∷ pos 0 ∷ []) 17 15
    ∷ turns_back 2 2 four (pos 0 ∷ pos 3 ∷ pos 0 ∷ []) 17 13
    ∷ turns_back 1 2 four (pos 2 ∷ []) 17 13
    ∷ turns_back 0 2 (pos 1 ∷ pos 3 ∷ pos 0 ∷ []) (pos 3 ∷ []) 17 1
    ∷ turns_back 0 2 (pos 1 ∷ []) (pos 1 ∷ pos 3 ∷ []) 17 1
    ∷ turns_back 0 2147483648 (pos 0 ∷ []) (pos 1 ∷ []) 17 0
    ∷ turns_back 0 2147483647 [] [] 16 0
    ∷ turns_back 1 2 four (pos 2 ∷ pos 0 ∷ pos 0 ∷ []) 16 0
    -- No list of one choice raises both externals. Variable 11 is flag 0 of frame 0: units alone do not settle it, and each of its values leads to a clause all false.
    ∷ reads two_externals design_two
    ∷ certified not_both 1 (pos 11 ∷ pos 0 ∷ pos 0 ∷ [])
    ∷ []

-- several owners
abbrev pub owner_cases : List Case
owner_cases =
    -- Document 02, R-6. At bound 1 the longest formula has 401 words and 35 variables. Each owner has a budget of its own, exact for the first and the third and one less for the second; a damaged piece is its
    -- owner's own refusal.
    owned (record { bound = 1; count = 4; pieces = [] ∷ piece_first ∷ piece_second ∷ piece_half ∷ []; budgets = 2 ∷ 1 ∷ 1 ∷ 9 ∷ []; choices = (9 ∷ []) ∷ (8 ∷ []) ∷ (7 ∷ []) ∷ (6 ∷ []) ∷ []; words = 410; variables = 40 })
    (clean 2 ∷ spent 1 1 ∷ violated 1 1 ∷ refused_by 8 ∷ []) ((9 ∷ []) ∷ (8 ∷ []) ∷ (1 ∷ []) ∷ (6 ∷ []) ∷ []) 401 35
    -- values and trail are short for the first, which then uses nothing, and not for the second; the two places past the count are no owners
    ∷ owned (record { bound = 1; count = 2; pieces = [] ∷ piece_second ∷ piece_first ∷ [] ∷ []; budgets = 2 ∷ 1 ∷ 9 ∷ 9 ∷ []; choices = (9 ∷ []) ∷ (8 ∷ []) ∷ (7 ∷ []) ∷ (6 ∷ []) ∷ []; words = 410; variables = 34 })
    (refused_by 16 ∷ violated 1 1 ∷ kept ∷ kept ∷ []) ((9 ∷ []) ∷ (1 ∷ []) ∷ (7 ∷ []) ∷ (6 ∷ []) ∷ []) 381 33
    -- a shorter formula last clears no less; SPENT clears, too; choices that are short are their owner's own refusal
    ∷ owned (record { bound = 1; count = 4; pieces = piece_second ∷ [] ∷ piece_first ∷ [] ∷ []; budgets = 1 ∷ 0 ∷ 0 ∷ 9 ∷ []; choices = (9 ∷ []) ∷ (8 ∷ []) ∷ (7 ∷ 6 ∷ []) ∷ [] ∷ []; words = 410; variables = 40 })
    (violated 1 1 ∷ spent 1 0 ∷ spent 1 0 ∷ refused_by 16 ∷ []) ((1 ∷ []) ∷ (8 ∷ []) ∷ (7 ∷ 6 ∷ []) ∷ [] ∷ []) 401 35
    -- a piece that is false in the first state breaks at 0, where its formula has 28 words and 9 variables: no more is cleared, though there is room for bound 1
    ∷ owned (record { bound = 1; count = 1; pieces = all_false 0 ∷ [] ∷ [] ∷ [] ∷ []; budgets = 0 ∷ 9 ∷ 9 ∷ 9 ∷ []; choices = replicate 4 (9 ∷ []); words = 410; variables = 40 })
    (violated 0 0 ∷ kept ∷ kept ∷ kept ∷ []) (replicate 4 (9 ∷ [])) 28 9
    -- the first uses the more values, the second the more clause words
    ∷ owned (record { bound = 1; count = 2; pieces = all_false 5 ∷ piece_second ∷ [] ∷ [] ∷ []; budgets = 0 ∷ 1 ∷ 9 ∷ 9 ∷ []; choices = replicate 4 (9 ∷ []); words = 1010; variables = 100 })
    (violated 0 0 ∷ violated 1 1 ∷ kept ∷ kept ∷ []) ((9 ∷ []) ∷ (1 ∷ []) ∷ (9 ∷ []) ∷ (9 ∷ []) ∷ []) 381 40
    -- a bound over 100 is each owner's own refusal, behind 8
    ∷ owned (record { bound = 101; count = 2; pieces = [] ∷ piece_half ∷ [] ∷ [] ∷ []; budgets = replicate 4 9; choices = replicate 4 (9 ∷ []); words = 1; variables = 1 })
    (refused_by 14 ∷ refused_by 8 ∷ kept ∷ kept ∷ []) (replicate 4 (9 ∷ [])) 0 0
    -- "Errors: 20, straight after CHECK, when the owners number 0 or more than four."
    ∷ refused_whole two_externals 0 20
    ∷ refused_whole two_externals 5 20
    ∷ refused_whole [] 0 1
    ∷ []

-- both readings of an idle step (document 02, R-8): which runs are strict, and which idle
abbrev pub strict_run_cases : List Case
strict_run_cases =
    -- 2,0,1,0 never idles
    strict_run design_a (2 ∷ 0 ∷ 1 ∷ 0 ∷ []) true
    ∷ idling design_a (2 ∷ 0 ∷ 1 ∷ 0 ∷ []) false
    -- "idle only when no mover is enabled": then c is 3, so the guard of the one cell of status 1 is false, and the external is raised; every number idles
    ∷ strict_run design_a (2 ∷ 0 ∷ 1 ∷ 0 ∷ 1 ∷ 2 ∷ 0 ∷ []) true
    ∷ idling design_a (2 ∷ 0 ∷ 1 ∷ 0 ∷ 1 ∷ []) true
    -- first, 0 idles where 2 is enabled; in the middle, 2 idles where 0 is; last, after the break, 1 idles where 0 is
    ∷ strict_run design_a (0 ∷ 2 ∷ 0 ∷ 1 ∷ []) false
    ∷ idling design_a (0 ∷ 2 ∷ 0 ∷ 1 ∷ []) true
    ∷ strict_run design_a (2 ∷ 2 ∷ 0 ∷ 1 ∷ []) false
    ∷ idling design_a (2 ∷ 2 ∷ 0 ∷ 1 ∷ []) true
    ∷ strict_run design_a (2 ∷ 0 ∷ 1 ∷ 1 ∷ []) false
    ∷ idling design_a (2 ∷ 0 ∷ 1 ∷ 1 ∷ []) true
    -- a step that leads back to the state that it starts from is not idle: mover 0 here
    ∷ strict_run design_loop (0 ∷ 1 ∷ 0 ∷ 0 ∷ []) true
    ∷ idling design_loop (0 ∷ 1 ∷ 0 ∷ 0 ∷ []) false
    -- 1 idles where 0 is enabled
    ∷ strict_run design_loop (1 ∷ 1 ∷ []) false
    -- of two movers with the same effect both are strict
    ∷ strict_run design_same (0 ∷ []) true
    ∷ strict_run design_same (1 ∷ []) true
    -- externals alone: both are raised; 0 idles where 1 is enabled
    ∷ strict_run design_two (0 ∷ 1 ∷ 0 ∷ 1 ∷ []) true
    ∷ strict_run design_two (0 ∷ 0 ∷ 1 ∷ []) false
    ∷ []

-- how many of them break a property, and the property for which the readings differ
abbrev pub strict_count_cases : List Case
strict_count_cases =
    -- Of Design A's breaking runs, 1, 9 and 51 at bounds 3, 4 and 5, so many are strict; at 5 three numbers name the step where no mover is enabled.
    strict_count invariant_a 3 1
    ∷ strict_count invariant_a 4 1
    ∷ strict_count invariant_a 5 3
    -- with a piece
    ∷ strict_count lent_a 2 1
    ∷ strict_count lent_a 3 1
    -- 0,1 and 1,0; then two numbers name the step
    ∷ strict_count not_both 2 2
    ∷ strict_count not_both 3 4
    -- Property 2, which R-8 leaves out: the choice 1 idles and breaks at step 1, where the property can break first, and no strict run of any length breaks. With one mover every run is
    -- strict, so that no design with fewer movers shows it.
    ∷ reads bytes_raised design_raised
    ∷ broken raised_next (1 ∷ []) 1
    ∷ strict_run design_raised (1 ∷ []) false
    ∷ by_idling_alone raised_next 1
    ∷ []

abbrev pub table : List Case
table =
    reads bytes_a design_a
    -- document 02, R-5: "Design A now has S=22, P=81, G=378, F=484; bound 0 n=104 and 299 clauses, bound 3 n=1556 and 5522."
    ∷ frame invariant_a 22 81 3 378 484
    ∷ bound invariant_a 0 104 299
    ∷ bound invariant_a 3 1556 5522
    -- "Choices 2,0,1 break at 3"; "0,1,2 never."
    ∷ broken invariant_a (2 ∷ 0 ∷ 1 ∷ []) 3
    ∷ never invariant_a (0 ∷ 1 ∷ 2 ∷ [])
    -- "Bound 3 has 1 model; bound 4 has 9."
    ∷ models invariant_a 3 1
    ∷ models invariant_a 4 9
    -- Property 2 (document 02, R-1). The constraint has 146 gates and the and with the mark, which are added to Design A's 378 of the step, and "P is 0".
    ∷ reads bytes_moved design_moved
    ∷ frame moved_below 22 0 3 525 550
    ∷ bound moved_below 0 23 24
    ∷ bound moved_below 3 1673 5937
    -- "at bound 0 the last clause is empty"; "the last clause takes frames 0 to k-1", and with another property "frames 0..k"
    ∷ last moved_below 0 0
    ∷ last moved_below 3 3
    ∷ last invariant_a 3 4
    ∷ broken moved_below (2 ∷ 0 ∷ 1 ∷ []) 3
    ∷ never moved_below (0 ∷ 1 ∷ 2 ∷ [])
    ∷ models moved_below 3 1
    -- an idle step is judged too, and the first state is not
    ∷ reads bytes_no_idle design_no_idle
    ∷ broken no_idle_step (0 ∷ 1 ∷ []) 1
    ∷ never no_idle_step (1 ∷ 0 ∷ 0 ∷ [])
    ∷ never no_idle_step []
    ∷ models no_idle_step 2 3
    -- Products (document 02, R-2): v is tripled, and -20 < -3 * v breaks. The action and the invariant have "1,280 gates" each; beside them the step has
    -- 217 (34 of the cell's place, 162 that mark, 21 muxes) and the property 81 (less, and the and).
    ∷ reads bytes_multiplied design_multiplied
    ∷ frame tripled 21 1361 1 1497 2880
    ∷ bound tripled 0 1383 4650
    ∷ bound tripled 2 7143 24198
    ∷ broken tripled (0 ∷ 0 ∷ []) 2
    ∷ never tripled (0 ∷ [])
    ∷ models tripled 1 0
    ∷ models tripled 2 1
    -- "the product wrapped to 16 bits": 32,769; 90,000; -1 times the least integer; both signs
    ∷ product (pos 3) (pos 10923) (neg_ℤ (pos 32767))
    ∷ product (pos 300) (pos 300) (pos 24464)
    ∷ product (neg_ℤ (pos 1)) (neg_ℤ (pos 32768)) (neg_ℤ (pos 32768))
    ∷ product (neg_ℤ (pos 3)) (pos 7) (neg_ℤ (pos 21))
    ∷ product (neg_ℤ (pos 3)) (neg_ℤ (pos 7)) (pos 21)
    -- Events and guards read (document 02, R-3). An external is not counted; cell 0 has no guard, and counts where its event is true.
    ∷ counts design_a (2 ∷ 0 ∷ 1 ∷ []) 2 2
    -- the status stands and the event is false; then the status does not stand
    ∷ counts design_a (0 ∷ 1 ∷ 2 ∷ []) 1 0
    -- past the break at 3, and where the guard is false
    ∷ broken invariant_a (2 ∷ 0 ∷ 1 ∷ 0 ∷ 1 ∷ []) 3
    ∷ counts design_a (2 ∷ 0 ∷ 1 ∷ 0 ∷ 1 ∷ []) 4 4
    ∷ strict_run_cases ++ (strict_count_cases ++ (refuted_cases ++ (owner_cases ++ (passing_cases ++ (piece_cases ++ bare_cases)))))
