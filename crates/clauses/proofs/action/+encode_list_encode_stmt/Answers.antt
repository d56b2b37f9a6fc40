use Rattle.std.proofs.Common.{◌-◌, false, get_or, set, sym, refl, arith, length-set}
use Rattle.clauses.proofs.EmitSlots.{bits_some, mark_read}
use Rattle.clauses.proofs.EmitStates.{slotted_again, mark_over}
use Rattle.clauses.proofs.EmitActions.{list_here, listing_start, listing_here, listing_next, listing_end, stmt_here, stmt_assign_here, stmt_assign_node, if_test_here, if_first_here, if_first_on, if_second_here, if_second_on, if_node}
use Rattle.clauses.proofs.action.+encode_list_encode_stmt.Goals as goal

pub encode_list-bounds-file-at : goal.encode_list-bounds-file-at
encode_list-bounds-file-at t c =
    omega (arith, list_here c.args.file.now c.args.shape c.requires.1)

pub encode_list-overflow_add-done : goal.encode_list-overflow_add-done
encode_list-overflow_add-done t c =
    omega (arith, list_here c.args.file.now c.args.shape c.requires.1)

pub encode_list-loop-init : goal.encode_list-loop-init
encode_list-loop-init t c =
    (listing_start c.args.file.now c.args.shape _ _ _ _ _ _ (omega arith) c.requires.1, refl, refl)

pub encode_list-encode_stmt-done-requires : goal.encode_list-encode_stmt-done-requires
encode_list-encode_stmt-done-requires t c = (
  omega (arith, c.requires.0, c.loop.invariant.0.ahead, list_here c.args.file.now c.args.shape c.requires.1),
  (
    slotted_again c.requires.0 (sym c.loop.invariant.1),
    listing_here c.args.file.now c.args.shape c.loop.invariant.0 (omega arith),
  ),
)

pub encode_list-loop-preserved : goal.encode_list-loop-preserved
encode_list-loop-preserved t c = (
  listing_next c.args.file.now c.args.shape c.loop.invariant.0 (omega arith) (omega arith) _ c.encode_stmt-done.ensures,
  omega arith,
  omega arith,
)

pub encode_list-returns : goal.encode_list-returns
encode_list-returns t c =
    listing_end c.args.file.now c.args.shape c.loop.invariant.0 (omega arith)

pub encode_stmt-bounds-file-at : goal.encode_stmt-bounds-file-at
encode_stmt-bounds-file-at t c =
    omega (arith, stmt_here c.args.file.now c.args.shape c.requires.1)

pub encode_stmt-encode_assign-requires : goal.encode_stmt-encode_assign-requires
encode_stmt-encode_assign-requires t c = (
  c.requires.0,
  stmt_assign_here c.args.file.now c.args.shape c.requires.1 c.if-op-eq32.true,
)

pub encode_stmt-returns-then-op-eq32 : goal.encode_stmt-returns-then-op-eq32
encode_stmt-returns-then-op-eq32 t c =
    stmt_assign_node c.args.file.now c.args.shape c.args.state.now _ c.if-op-eq32.true c.encode_assign.ensures

pub encode_stmt-overflow_sub-last : goal.encode_stmt-overflow_sub-last
encode_stmt-overflow_sub-last t c = omega (arith, bits_some c.requires.0)

pub encode_stmt-overflow_add-at-2 : goal.encode_stmt-overflow_add-at-2
encode_stmt-overflow_add-at-2 t c =
    omega (arith, stmt_here c.args.file.now c.args.shape c.requires.1)

pub encode_stmt-encode_bool-c-requires : goal.encode_stmt-encode_bool-c-requires
encode_stmt-encode_bool-c-requires t c =
    (false, c.requires.0, if_test_here c.args.file.now c.args.shape c.requires.1 c.if-op-eq32.false)

pub encode_stmt-encode_list-a-requires : goal.encode_stmt-encode_list-a-requires
encode_stmt-encode_list-a-requires t c =
    let file = c.args.file.now in
    let shape = c.args.shape in
    let state = c.args.state.now in
    let x = c.encode_bool-c in
    let size = length-set state (shape.bits - 1) x.result.pen.mark in (
      omega (arith, c.requires.0, stmt_here file shape c.requires.1, if_first_on file shape c.requires.1 c.if-op-eq32.false state (x.ensures false)),
      (slotted_again c.requires.0 (sym size), if_first_here file shape c.requires.1 c.if-op-eq32.false state (x.ensures false)),
    )

pub encode_stmt-encode_list-b-requires : goal.encode_stmt-encode_list-b-requires
encode_stmt-encode_list-b-requires t c =
    let file = c.args.file.now in
    let shape = c.args.shape in
    let state = c.args.state.now in
    let x = c.encode_bool-c in
    let size = length-set state (shape.bits - 1) x.result.pen.mark in
    let marked = set state (shape.bits - 1) x.result.pen.mark in (
      omega (arith, c.requires.0, stmt_here file shape c.requires.1, if_second_on file shape c.requires.1 c.if-op-eq32.false state (x.ensures false) marked c.encode_list-a.ensures),
      (slotted_again c.requires.0 (sym size), if_second_here file shape c.requires.1 c.if-op-eq32.false state (x.ensures false) marked c.encode_list-a.ensures),
    )

pub encode_stmt-muxes-m-requires : goal.encode_stmt-muxes-m-requires
encode_stmt-muxes-m-requires t c =
    c.requires.0.few

pub encode_stmt-returns : goal.encode_stmt-returns
encode_stmt-returns t c =
    let file = c.args.file.now in
    let shape = c.args.shape in
    let state = c.args.state.now in
    let x = c.encode_bool-c in
    let size = length-set state (shape.bits - 1) x.result.pen.mark in
    let marked = set state (shape.bits - 1) x.result.pen.mark in
    if_node file shape state marked _ _ _ x.result.value c.args.pen (get_or state (shape.bits - 1) 0) x.result.pen c.if-op-eq32.false (mark_read false c.requires.0 (omega arith) false refl).1
    (mark_over file shape c.requires.0 c.requires.0.bits x.result.pen.mark) (x.ensures false) c.encode_list-a.ensures c.encode_list-b.ensures
    (c.muxes-m.ensures file c.requires.0.sum)
