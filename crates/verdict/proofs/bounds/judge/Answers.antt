use mathlib.Core.Path.{sym, ap, ◌∙◌}
use lib.ListN.{length}
use native.Mathlib.Omega.{arith}
use lib.Seq.{length-take-le}
use Rattle.clauses.specs.Replies.{DecodeExit}
use Rattle.verdict.proofs.AtBound.{standing_start, bound_low, bound_numbers, bound_room, words_in_lem, values_in_lem, trail_in, search_may, tries_in, kept, standing_next, standing_sat, standing_spent, standing_clean}
use Rattle.verdict.proofs.bounds.judge.Goals as goal

pub loop-i-init : goal.loop-i-init
loop-i-init c = standing_start _ c.requires

pub write_formula-f-requires : goal.write_formula-f-requires
write_formula-f-requires c =
    record {
      design = c.loop-i.invariant.ready.design;
      accepted = c.loop-i.invariant.ready.accepted;
      property = c.loop-i.invariant.ready.property;
      right = c.loop-i.invariant.ready.right;
      bound = omega (arith, bound_low c.loop-i.invariant, c.loop-i.invariant.ready.bound);
      numbers = bound_numbers c.loop-i.invariant;
      room = bound_room c.loop-i.invariant;
    }

pub slice_bounds-search-end : goal.slice_bounds-search-end
slice_bounds-search-end c =
    words_in_lem c.loop-i.invariant (c.write_formula-f.ensures c.loop-i.invariant.ready.design c.loop-i.invariant.ready.accepted) c.write_formula-f.auto.clauses

pub slice_bounds-search-end-in-loop-i : goal.slice_bounds-search-end-in-loop-i
slice_bounds-search-end-in-loop-i c =
    sym (length-take-le _ _ (words_in_lem c.loop-i.invariant (c.write_formula-f.ensures c.loop-i.invariant.ready.design c.loop-i.invariant.ready.accepted) c.write_formula-f.auto.clauses))

pub slice_bounds-search-end-in-loop-i-2 : goal.slice_bounds-search-end-in-loop-i-2
slice_bounds-search-end-in-loop-i-2 c =
    values_in_lem c.loop-i.invariant (c.write_formula-f.ensures c.loop-i.invariant.ready.design c.loop-i.invariant.ready.accepted)

pub slice_bounds-search-end-in-loop-i-3 : goal.slice_bounds-search-end-in-loop-i-3
slice_bounds-search-end-in-loop-i-3 c =
    sym (length-take-le _ _ (values_in_lem c.loop-i.invariant (c.write_formula-f.ensures c.loop-i.invariant.ready.design
    c.loop-i.invariant.ready.accepted)))

pub slice_bounds-search-end-in-loop-i-4 : goal.slice_bounds-search-end-in-loop-i-4
slice_bounds-search-end-in-loop-i-4 c =
    trail_in c.loop-i.invariant (c.write_formula-f.ensures c.loop-i.invariant.ready.design c.loop-i.invariant.ready.accepted)

pub slice_bounds-search-end-in-loop-i-5 : goal.slice_bounds-search-end-in-loop-i-5
slice_bounds-search-end-in-loop-i-5 c =
    sym (length-take-le _ _ (trail_in c.loop-i.invariant (c.write_formula-f.ensures c.loop-i.invariant.ready.design
    c.loop-i.invariant.ready.accepted)))

pub overflow_sub-budget : goal.overflow_sub-budget
overflow_sub-budget c = c.loop-i.invariant.judging.paid

pub search-r-requires : goal.search-r-requires
search-r-requires c =
    search_may c.loop-i.invariant (c.write_formula-f.ensures c.loop-i.invariant.ready.design c.loop-i.invariant.ready.accepted)

pub overflow_add-tries : goal.overflow_add-tries
overflow_add-tries c =
    let f = tries_in c.loop-i.invariant (c.write_formula-f.ensures c.loop-i.invariant.ready.design c.loop-i.invariant.ready.accepted) c.search-r.ensures in let g = c.ranges.budget in omega (arith, f, g.fits)

pub shape_of-clauses-in-Sat : goal.shape_of-clauses-in-Sat
shape_of-clauses-in-Sat c =
    (kept c.loop-i.invariant (c.write_formula-f.ensures c.loop-i.invariant.ready.design c.loop-i.invariant.ready.accepted)
    c.search-r.ensures).0

pub shape_of-values-in-Sat : goal.shape_of-values-in-Sat
shape_of-values-in-Sat c =
    (kept c.loop-i.invariant (c.write_formula-f.ensures c.loop-i.invariant.ready.design c.loop-i.invariant.ready.accepted)
    c.search-r.ensures).1

pub shape_of-trail-in-Sat : goal.shape_of-trail-in-Sat
shape_of-trail-in-Sat c =
    (kept c.loop-i.invariant (c.write_formula-f.ensures c.loop-i.invariant.ready.design c.loop-i.invariant.ready.accepted)
    c.search-r.ensures).2

pub shape_of-choices-in-Sat : goal.shape_of-choices-in-Sat
shape_of-choices-in-Sat c =
    c.decode.auto.choices ∙ ap length c.loop-i.invariant.choices_kept

pub returns-in-Sat : goal.returns-in-Sat
returns-in-Sat c =
    standing_sat c.loop-i.invariant (c.write_formula-f.ensures c.loop-i.invariant.ready.design c.loop-i.invariant.ready.accepted)
    c.search-r.ensures c.in-Sat.is (ap (λ (x : DecodeExit). x.choices) c.decode.ensures)

pub shape_of-clauses-in-Spent : goal.shape_of-clauses-in-Spent
shape_of-clauses-in-Spent c =
    (kept c.loop-i.invariant (c.write_formula-f.ensures c.loop-i.invariant.ready.design c.loop-i.invariant.ready.accepted) c.search-r.ensures).0

pub shape_of-values-in-Spent : goal.shape_of-values-in-Spent
shape_of-values-in-Spent c =
    (kept c.loop-i.invariant (c.write_formula-f.ensures c.loop-i.invariant.ready.design c.loop-i.invariant.ready.accepted) c.search-r.ensures).1

pub shape_of-trail-in-Spent : goal.shape_of-trail-in-Spent
shape_of-trail-in-Spent c =
    (kept c.loop-i.invariant (c.write_formula-f.ensures c.loop-i.invariant.ready.design c.loop-i.invariant.ready.accepted) c.search-r.ensures).2

pub shape_of-choices-in-Spent : goal.shape_of-choices-in-Spent
shape_of-choices-in-Spent c =
    ap length c.loop-i.invariant.choices_kept

pub returns-in-Spent : goal.returns-in-Spent
returns-in-Spent c =
    standing_spent c.loop-i.invariant (c.write_formula-f.ensures c.loop-i.invariant.ready.design c.loop-i.invariant.ready.accepted) c.search-r.ensures c.in-Spent.is

pub shape_of-clauses-in-Unsat : goal.shape_of-clauses-in-Unsat
shape_of-clauses-in-Unsat c =
    (kept c.loop-i.invariant (c.write_formula-f.ensures c.loop-i.invariant.ready.design c.loop-i.invariant.ready.accepted)
    c.search-r.ensures).0

pub shape_of-values-in-Unsat : goal.shape_of-values-in-Unsat
shape_of-values-in-Unsat c =
    (kept c.loop-i.invariant (c.write_formula-f.ensures c.loop-i.invariant.ready.design c.loop-i.invariant.ready.accepted)
    c.search-r.ensures).1

pub shape_of-trail-in-Unsat : goal.shape_of-trail-in-Unsat
shape_of-trail-in-Unsat c =
    (kept c.loop-i.invariant (c.write_formula-f.ensures c.loop-i.invariant.ready.design c.loop-i.invariant.ready.accepted)
    c.search-r.ensures).2

pub shape_of-choices-in-Unsat : goal.shape_of-choices-in-Unsat
shape_of-choices-in-Unsat c =
    ap length c.loop-i.invariant.choices_kept

pub returns-in-Unsat : goal.returns-in-Unsat
returns-in-Unsat c =
    standing_clean c.loop-i.invariant (c.write_formula-f.ensures c.loop-i.invariant.ready.design c.loop-i.invariant.ready.accepted) c.search-r.ensures c.in-Unsat.is (omega arith)

pub loop-i-preserved : goal.loop-i-preserved
loop-i-preserved c =
    standing_next c.loop-i.invariant (c.write_formula-f.ensures c.loop-i.invariant.ready.design c.loop-i.invariant.ready.accepted) c.search-r.ensures c.in-Unsat.is (λ e. omega arith)
