use Rattle.std.proofs.Common.{false, inl, inr, arith}
use Rattle.design.specs.Limits.{max_depth}
use Rattle.step.proofs.Values.{bool_forward}
use Rattle.step.proofs.Runs.{stmt_unknown, list_forward, list_live, seq_first, going_start, going_on, going_end, stmt_live, assign_live, assign_runs, if_deep, if_test, if_then, if_else_lem, runs_then, runs_else}
use Rattle.step.proofs.execute.+run_list_run_stmt.Goals as goal

pub run_list-bounds-source-at : goal.run_list-bounds-source-at
run_list-bounds-source-at t c =
    omega (arith, list_live _ _ _ _ _ c.requires.0)

pub run_list-overflow_add-p : goal.run_list-overflow_add-p
run_list-overflow_add-p t c = omega (arith, list_live _ _ _ _ _ c.requires.0)

pub run_list-loop-init : goal.run_list-loop-init
run_list-loop-init t c = going_start _ _ _ _ _ _ _ _ (omega arith) c.requires.0

pub run_list-run_stmt-p-requires : goal.run_list-run_stmt-p-requires
run_list-run_stmt-p-requires t c =
    let first = seq_first _ _ _ _ _ _ c.loop.invariant.live (omega arith) in (
      omega (arith, list_live _ _ _ _ _ c.requires.0, c.loop.invariant.on, stmt_live _ _ _ _ _ first),
      (first, omega (arith, c.loop.invariant.size)),
    )

pub run_list-loop-preserved : goal.run_list-loop-preserved
run_list-loop-preserved t c =
    going_on _ _ _ _ _ _ _ _ _ _ _ _ _ (omega arith) c.loop.invariant c.run_stmt-p.ensures

pub run_list-shape_of-slots : goal.run_list-shape_of-slots
run_list-shape_of-slots t c = c.loop.invariant.size

pub run_list-returns : goal.run_list-returns
run_list-returns t c = going_end _ _ _ _ _ _ _ _ _ _ (omega arith) c.loop.invariant

pub run_stmt-bounds-source-at : goal.run_stmt-bounds-source-at
run_stmt-bounds-source-at t c = omega (arith, stmt_live _ _ _ _ _ c.requires.0)

pub run_stmt-overflow_add-at : goal.run_stmt-overflow_add-at
run_stmt-overflow_add-at t c = omega (arith, stmt_live _ _ _ _ _ c.requires.0)

pub run_stmt-run_assign-requires : goal.run_stmt-run_assign-requires
run_stmt-run_assign-requires t c = (
  assign_live _ _ _ _ _ c.requires.0 c.if-op-eq32.true,
  omega arith,
)

pub run_stmt-shape_of-slots-then-op-eq32 : goal.run_stmt-shape_of-slots-then-op-eq32
run_stmt-shape_of-slots-then-op-eq32 t c = omega arith

pub run_stmt-returns-then-op-eq32 : goal.run_stmt-returns-then-op-eq32
run_stmt-returns-then-op-eq32 t c =
    assign_runs _ _ _ _ _ c.requires.0 c.if-op-eq32.true _ _ _ _ c.run_assign.ensures

pub run_stmt-overflow_add-at-in-32-to-33 : goal.run_stmt-overflow_add-at-in-32-to-33
run_stmt-overflow_add-at-in-32-to-33 t c = omega (arith, stmt_live _ _ _ _ _ c.requires.0)

pub run_stmt-eval_bool-c-requires : goal.run_stmt-eval_bool-c-requires
run_stmt-eval_bool-c-requires t c = (
  (
    c.args.source.now.file.now,
    max_depth,
    false,
    omega arith,
    if_test _ _ _ _ _ c.requires.0 c.if-op-eq32.false,
  ),
  omega arith,
)

pub run_stmt-overflow_sub-nest : goal.run_stmt-overflow_sub-nest
run_stmt-overflow_sub-nest t c =
    omega (arith, if_deep _ _ _ _ _ c.requires.0 c.if-op-eq32.false)

pub run_stmt-run_list-m-requires : goal.run_stmt-run_list-m-requires
run_stmt-run_list-m-requires t c =
    let test = if_test _ _ _ _ _ c.requires.0 c.if-op-eq32.false in
    let after = (c.eval_bool-c.ensures c.args.source.now.file.now max_depth false test).1 in
    let then = if_then _ _ _ _ _ c.requires.0 c.if-op-eq32.false _ after in (
      omega (arith, stmt_live _ _ _ _ _ c.requires.0, bool_forward _ _ _ max_depth _ _ test after, list_live _ _ _ _ _ then),
      (then, omega arith),
    )

pub run_stmt-overflow_sub-nest-then-c : goal.run_stmt-overflow_sub-nest-then-c
run_stmt-overflow_sub-nest-then-c t c =
    omega (arith, if_deep _ _ _ _ _ c.requires.0 c.if-op-eq32.false)

pub run_stmt-overflow_sub-nest-else-c : goal.run_stmt-overflow_sub-nest-else-c
run_stmt-overflow_sub-nest-else-c t c =
    omega (arith, if_deep _ _ _ _ _ c.requires.0 c.if-op-eq32.false)

pub run_stmt-overflow_sub-nest-else-c-2 : goal.run_stmt-overflow_sub-nest-else-c-2
run_stmt-overflow_sub-nest-else-c-2 t c =
    omega (arith, if_deep _ _ _ _ _ c.requires.0 c.if-op-eq32.false)

pub run_stmt-run_list-requires : goal.run_stmt-run_list-requires
run_stmt-run_list-requires t c =
    let test = if_test _ _ _ _ _ c.requires.0 c.if-op-eq32.false in
    let after = (c.eval_bool-c.ensures c.args.source.now.file.now max_depth false test).1 in
    let then = if_then _ _ _ _ _ c.requires.0 c.if-op-eq32.false _ after in
    let other = if_else_lem _ _ _ _ _ c.requires.0 c.if-op-eq32.false _ after _ c.skip_list-m.ensures in (
      omega (
        arith,
        stmt_live _ _ _ _ _ c.requires.0,
        bool_forward _ _ _ max_depth _ _ test after,
        list_forward _ _ _ _ _ _ then c.skip_list-m.ensures,
        list_live _ _ _ _ _ other,
      ),
      (other, omega arith),
    )

pub run_stmt-shape_of-slots-then-c : goal.run_stmt-shape_of-slots-then-c
run_stmt-shape_of-slots-then-c t c = omega arith

pub run_stmt-returns-then-c : goal.run_stmt-returns-then-c
run_stmt-returns-then-c t c =
    let test = c.eval_bool-c.ensures c.args.source.now.file.now max_depth false (if_test _ _ _ _ _ c.requires.0 c.if-op-eq32.false) in
    runs_then _ _ _ _ _ c.requires.0 c.if-op-eq32.false _ test.1 _ _ _ _ _ _ _ _ test.0 test.2 c.mark_if.ensures c.if-c.true c.run_list-m.ensures c.skip_list.ensures

pub run_stmt-shape_of-slots-else-c : goal.run_stmt-shape_of-slots-else-c
run_stmt-shape_of-slots-else-c t c = omega arith

pub run_stmt-returns-else-c : goal.run_stmt-returns-else-c
run_stmt-returns-else-c t c =
    let test = c.eval_bool-c.ensures c.args.source.now.file.now max_depth false (if_test _ _ _ _ _ c.requires.0 c.if-op-eq32.false) in
    runs_else _ _ _ _ _ c.requires.0 c.if-op-eq32.false _ test.1 _ _ _ _ _ _ _ _ test.0 test.2 c.mark_if.ensures c.if-c.false c.skip_list-m.ensures c.run_list.ensures

pub run_stmt-returns-in_default : goal.run_stmt-returns-in_default
run_stmt-returns-in_default t c = absurd (stmt_unknown _ _ _ _ _ c.requires.0 (inl c.in_default.if-op-lt32-own.true))

pub run_stmt-returns-in_default-2 : goal.run_stmt-returns-in_default-2
run_stmt-returns-in_default-2 t c = absurd (stmt_unknown _ _ _ _ _ c.requires.0 (inr c.in_default.if-op-lt34-own.false))
