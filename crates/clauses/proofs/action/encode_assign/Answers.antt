use Rattle.std.proofs.Common.{◌≡◌, ℕ, ◌-◌, ◌*◌, false, length, get_or, refl, subst, arith, rules}
use Rattle.clauses.proofs.EmitSlots.{bits_some, mark_read}
use Rattle.clauses.proofs.EmitStates.{integer_marked, boolean_marked}
use Rattle.clauses.proofs.EmitActions.{assign_here, assign_int_here, assign_flag_here, assign_int_room, assign_flag_room, assign_int_node, assign_flag_node}
use Rattle.clauses.proofs.action.encode_assign.Goals as goal

pub bounds-file-at : goal.bounds-file-at
bounds-file-at c =
    omega (arith, assign_here c.args.file.now c.args.shape c.requires.1)

pub bounds-file-v : goal.bounds-file-v
bounds-file-v c =
    omega (arith, assign_here c.args.file.now c.args.shape c.requires.1, c.wide-v.ensures, c.requires.0.kinds)

pub offset-o-requires : goal.offset-o-requires
offset-o-requires c =
    omega (arith, assign_here c.args.file.now c.args.shape c.requires.1, c.wide-v.ensures, c.requires.0.kinds)

pub overflow_sub-last : goal.overflow_sub-last
overflow_sub-last c = omega (arith, bits_some c.requires.0)

pub overflow_add-at : goal.overflow_add-at
overflow_add-at c =
    omega (arith, assign_here c.args.file.now c.args.shape c.requires.1)

pub encode_int-x-requires : goal.encode_int-x-requires
encode_int-x-requires c =
    let file = c.args.file.now in
    (false, c.requires.0, assign_int_here file c.args.shape c.requires.1 (subst (λ (v : ℕ). get_or file (3 * v) 0 ≡ 1) c.wide-v.ensures.0 c.if-k.true))

pub store_word-requires : goal.store_word-requires
store_word-requires c =
    let pre = c.requires in (
      omega (arith, assign_int_room c.args.file.now c.args.shape pre.1 pre.0 _ _ c.wide-v.ensures.0 c.offset-o.ensures c.if-k.true),
      omega arith,
    )

pub overflow_add-at-else-k : goal.overflow_add-at-else-k
overflow_add-at-else-k c =
    omega (arith, assign_here c.args.file.now c.args.shape c.requires.1)

pub encode_bool-x-requires : goal.encode_bool-x-requires
encode_bool-x-requires c =
    let file = c.args.file.now in
    (false, c.requires.0, assign_flag_here file c.args.shape c.requires.1 (subst (λ (v : ℕ). get_or file (3 * v) 0 ≡ 1 → ⊥) c.wide-v.ensures.0 c.if-k.false))

pub offset_bounds-state-o : goal.offset_bounds-state-o
offset_bounds-state-o c =
    let pre = c.requires in
    omega (arith, assign_flag_room c.args.file.now c.args.shape pre.1 pre.0 _ _ c.wide-v.ensures.0 c.offset-o.ensures c.if-k.false)

pub bounds-state-o : goal.bounds-state-o
bounds-state-o c =
    let pre = c.requires in
    omega (arith, assign_flag_room c.args.file.now c.args.shape pre.1 pre.0 _ _ c.wide-v.ensures.0 c.offset-o.ensures c.if-k.false)

pub returns-then-k : goal.returns-then-k
returns-then-k c =
    let size : length c.encode_int-x.result.value ≡ 16 = search rules in
    let pre = c.requires in
    let file = c.args.file.now in
    let shape = c.args.shape in
    let state = c.args.state.now in
    let wide = c.wide-v in
    let x = c.encode_int-x in
    let kind = subst (λ (v : ℕ). get_or file (3 * v) 0 ≡ 1) wide.ensures.0 c.if-k.true in
    assign_int_node file shape state _ c.args.pen (get_or state (shape.bits - 1) 0) (mark_read false pre.0 (omega arith) false refl).1 x.result.pen x.result.value kind (x.ensures false)
    (integer_marked file shape (get_or file c.args.at 0) wide.result c.offset-o.result wide.ensures.0 (assign_here file shape pre.1).1 c.offset-o.ensures pre.0 x.result.pen.mark x.result.value _ kind
    size c.store_word.ensures)

pub returns-else-k : goal.returns-else-k
returns-else-k c =
    let pre = c.requires in
    let file = c.args.file.now in
    let shape = c.args.shape in
    let state = c.args.state.now in
    let wide = c.wide-v in
    let x = c.encode_bool-x in
    let kind = subst (λ (v : ℕ). get_or file (3 * v) 0 ≡ 1 → ⊥) wide.ensures.0 c.if-k.false in
    assign_flag_node file shape state _ c.args.pen (get_or state (shape.bits - 1) 0) (mark_read false pre.0 (omega arith) false refl).1 x.result.pen x.result.value kind (x.ensures false)
    (boolean_marked file shape (get_or file c.args.at 0) wide.result c.offset-o.result wide.ensures.0 (assign_here file shape pre.1).1 c.offset-o.ensures pre.0 x.result.pen.mark x.result.value _ kind refl)
