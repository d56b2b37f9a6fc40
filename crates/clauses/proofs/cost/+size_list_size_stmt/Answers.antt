use Rattle.std.proofs.Common.{false, ap, inl, inr, arith}
use Rattle.design.specs.Limits.{max_depth}
use Rattle.clauses.specs.declared.cost.GatesAt.{GatesAt}
use Rattle.step.proofs.Runs.{stmt_unknown, list_live, stmt_live, seq_first, assign_live, if_test, if_deep}
use Rattle.clauses.proofs.TextGates.{bool_few, statement_few, list_few}
use Rattle.clauses.proofs.ActionCounts.{counting_start, counting_on, counting_few, counting_end, stated_assign, if_first, first_on, if_second, second_on, if_joined}
use Rattle.clauses.proofs.cost.+size_list_size_stmt.Goals as goal
use Rattle.clauses.proofs.cost.+size_list_size_stmt.Goals.{size_stmt-in_default-via-then-op-lt32, size_stmt-in_default-via-else-op-lt32+else-op-lt34}

pub size_list-bounds-file-at : goal.size_list-bounds-file-at
size_list-bounds-file-at t c = omega (arith, list_live _ _ _ _ _ c.requires.readable)

pub size_list-overflow_add-at : goal.size_list-overflow_add-at
size_list-overflow_add-at t c = omega (arith, list_live _ _ _ _ _ c.requires.readable)

pub size_list-loop-init : goal.size_list-loop-init
size_list-loop-init t c =
    counting_start _ _ _ _ _ _ _ _ (omega arith) c.requires.readable c.no_gates-sum.ensures

pub size_list-size_stmt-x-requires : goal.size_list-size_stmt-x-requires
size_list-size_stmt-x-requires t c = (
  omega (
    arith,
    list_live _ _ _ _ _ c.requires.readable,
    c.loop.invariant.on,
    stmt_live _ _ _ _ _
        (seq_first _ _ _ _ _ _ c.loop.invariant.live (omega arith)),
  ),
  (
    seq_first _ _ _ _ _ _ c.loop.invariant.live (omega arith),
    (omega arith, omega arith, omega arith, omega arith),
  ),
)

pub size_list-join-sum-requires : goal.size_list-join-sum-requires
size_list-join-sum-requires t c =
    let f = counting_few _ _ _ _ _ _ _ _ c.requires.in_bounds.1 c.requires.in_bounds.3 c.loop.invariant in let g = statement_few _ _ _
    c.requires.in_bounds.1 _ c.requires.in_bounds.3 _ _ _ c.size_stmt-x.ensures in (omega (arith, f.ands, g.ands), omega (arith, f.wides, g.wides))

pub size_list-loop-preserved : goal.size_list-loop-preserved
size_list-loop-preserved t c =
    counting_on _ _ _ _ _ _ _ _ _ _ (omega arith) c.loop.invariant c.size_stmt-x.ensures c.join-sum.ensures _ (omega arith)

pub size_list-returns : goal.size_list-returns
size_list-returns t c = counting_end _ _ _ _ _ _ _ _ (omega arith) c.loop.invariant

pub size_stmt-bounds-file-at : goal.size_stmt-bounds-file-at
size_stmt-bounds-file-at t c = omega (arith, stmt_live _ _ _ _ _ c.requires.readable)

pub size_stmt-size_assign-requires : goal.size_stmt-size_assign-requires
size_stmt-size_assign-requires t c =
    record {
      readable = assign_live _ _ _ _ _ c.requires.readable c.if-op-eq32.true;
      in_bounds = (omega arith, omega arith, omega arith);
    }

pub size_stmt-returns-then-op-eq32 : goal.size_stmt-returns-then-op-eq32
size_stmt-returns-then-op-eq32 t c =
    stated_assign _ _ _ _ _ c.requires.readable _ c.if-op-eq32.true _ (c.size_assign.ensures _)

pub size_stmt-size_bool-c-requires : goal.size_stmt-size_bool-c-requires
size_stmt-size_bool-c-requires t c =
    ((c.args.file.now, max_depth, false, if_test _ _ _ _ _ c.requires.readable c.if-op-eq32.false), omega arith, omega arith)

pub size_stmt-overflow_sub-nest : goal.size_stmt-overflow_sub-nest
size_stmt-overflow_sub-nest t c = omega (arith, if_deep _ _ _ _ _ c.requires.readable c.if-op-eq32.false)

pub size_stmt-size_list-a-requires : goal.size_stmt-size_list-a-requires
size_stmt-size_list-a-requires t c =
    let h = c.requires.readable in
    let ne = c.if-op-eq32.false in
    let test = c.size_bool-c.ensures c.args.file.now max_depth false (if_test _ _ _ _ _ h ne) in (
      omega (arith, first_on _ _ _ _ _ h ne _ test),
      (if_first _ _ _ _ _ h ne _ test, (omega arith, omega arith, omega arith, omega arith)),
    )

pub size_stmt-overflow_sub-nest-in-32-to-33 : goal.size_stmt-overflow_sub-nest-in-32-to-33
size_stmt-overflow_sub-nest-in-32-to-33 t c =
    omega (arith, if_deep _ _ _ _ _ c.requires.readable c.if-op-eq32.false)

pub size_stmt-size_list-b-requires : goal.size_stmt-size_list-b-requires
size_stmt-size_list-b-requires t c =
    let h = c.requires.readable in
    let ne = c.if-op-eq32.false in
    let test = c.size_bool-c.ensures c.args.file.now max_depth false (if_test _ _ _ _ _ h ne) in (
      omega (arith, second_on _ _ _ _ _ h ne _ test _ _ c.size_list-a.ensures),
      (if_second _ _ _ _ _ h ne _ test _ _ c.size_list-a.ensures, (omega arith, omega arith, omega arith, omega arith)),
    )

pub size_stmt-join-requires : goal.size_stmt-join-requires
size_stmt-join-requires t c =
    let h = c.requires.readable in
    let ne = c.if-op-eq32.false in
    let test = c.size_bool-c.ensures c.args.file.now max_depth false (if_test _ _ _ _ _ h ne) in
    let f = bool_few _ _ _ c.requires.in_bounds.1 _ _ _ _ test in
    let g = list_few _ _ _ c.requires.in_bounds.1 _ c.requires.in_bounds.3 _ _ _ c.size_list-a.ensures in
    (omega (arith, f.ands, g.ands), omega (arith, f.wides, g.wides))

pub size_stmt-join-requires-in-32-to-33 : goal.size_stmt-join-requires-in-32-to-33
size_stmt-join-requires-in-32-to-33 t c =
    let h = c.requires.readable in
    let ne = c.if-op-eq32.false in
    let test = c.size_bool-c.ensures c.args.file.now max_depth false (if_test _ _ _ _ _ h ne) in
    let f = bool_few _ _ _ c.requires.in_bounds.1 _ _ _ _ test in
    let g = list_few _ _ _ c.requires.in_bounds.1 _ c.requires.in_bounds.3 _ _ _ c.size_list-a.ensures in
    let k = list_few _ _ _ c.requires.in_bounds.1 _ c.requires.in_bounds.3 _ _ _ c.size_list-b.ensures in
    let e = c.join.ensures in (
      omega (arith, f.ands, g.ands, k.ands, ap (λ (z : GatesAt). z.ands) e),
      omega (arith, f.wides, g.wides, k.wides, c.requires.in_bounds.3, ap (λ (z : GatesAt). z.wides) e),
    )

pub size_stmt-returns-else-op-eq32 : goal.size_stmt-returns-else-op-eq32
size_stmt-returns-else-op-eq32 t c =
    let h = c.requires.readable in
    let ne = c.if-op-eq32.false in
    let test = c.size_bool-c.ensures c.args.file.now max_depth false (if_test _ _ _ _ _ h ne) in
    let first = c.size_list-a.ensures in
    let second = c.size_list-b.ensures in
    if_joined _ _ _ _ _ h ne _ test _ _ first _ _ _ second c.join.ensures c.join-in-32-to-33.ensures

pub size_stmt-returns-in_default : goal.size_stmt-returns-in_default
size_stmt-returns-in_default t c =
    absurd (elim c.in_default.branch [
      | size_stmt-in_default-via-then-op-lt32 w ↦ stmt_unknown _ _ _ _ _ c.requires.readable (inl (omega arith))
      | size_stmt-in_default-via-else-op-lt32+else-op-lt34 w ↦ stmt_unknown _ _ _ _ _ c.requires.readable (inr (omega arith))
    ])
