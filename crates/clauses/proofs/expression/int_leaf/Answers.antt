use Rattle.std.proofs.Common.{true, false, refl, arith}
use Rattle.clauses.proofs.EmitExpressions.{int_byte, constant_here, slot_here, status_is, variable_here, status_here, int_outs, constant_leaf, variable_leaf, status_leaf}
use Rattle.clauses.proofs.expression.int_leaf.Goals as goal

pub bounds-text-at : goal.bounds-text-at
bounds-text-at c =
    let text = c.args.text.now in
    let file = c.args.file.now in
    let shape = c.args.shape in
    let at = c.args.at in
    let (later, slots, here) = c.requires.0 in
    omega (arith, int_byte text file shape later at here)

pub overflow_add-at : goal.overflow_add-at
overflow_add-at c =
    let text = c.args.text.now in
    let file = c.args.file.now in
    let shape = c.args.shape in
    let at = c.args.at in
    let (later, slots, here) = c.requires.0 in
    omega (arith, constant_here text file shape later at here c.if-op-eq1.true)

pub word-requires : goal.word-requires
word-requires c =
    let text = c.args.text.now in
    let file = c.args.file.now in
    let shape = c.args.shape in
    let at = c.args.at in
    let (later, slots, here) = c.requires.0 in
    omega (arith, constant_here text file shape later at here c.if-op-eq1.true)

pub overflow_add-at-then-op-eq1 : goal.overflow_add-at-then-op-eq1
overflow_add-at-then-op-eq1 c =
    let text = c.args.text.now in
    let file = c.args.file.now in
    let shape = c.args.shape in
    let at = c.args.at in
    let (later, slots, here) = c.requires.0 in
    omega (arith, constant_here text file shape later at here c.if-op-eq1.true)

pub returns-then-op-eq1 : goal.returns-then-op-eq1
returns-then-op-eq1 c =
    let text = c.args.text.now in
    let file = c.args.file.now in
    let shape = c.args.shape in
    let at = c.args.at in
    λ later xs. int_outs _ c.int_out.ensures (constant_leaf text file shape later at c.args.bits.now c.if-op-eq1.true c.word.ensures.0 c.constant.ensures refl)

pub overflow_add-at-2 : goal.overflow_add-at-2
overflow_add-at-2 c =
    let text = c.args.text.now in
    let file = c.args.file.now in
    let shape = c.args.shape in
    let at = c.args.at in
    let (later, slots, here) = c.requires.0 in
    omega (arith, slot_here text file shape later at here c.requires.1 c.requires.2 c.if-op-eq1.false)

pub bounds-text-at-2 : goal.bounds-text-at-2
bounds-text-at-2 c =
    let text = c.args.text.now in
    let file = c.args.file.now in
    let shape = c.args.shape in
    let at = c.args.at in
    let (later, slots, here) = c.requires.0 in
    omega (arith, slot_here text file shape later at here c.requires.1 c.requires.2 c.if-op-eq1.false)

pub load_variable-requires : goal.load_variable-requires
load_variable-requires c =
    let text = c.args.text.now in
    let file = c.args.file.now in
    let shape = c.args.shape in
    let at = c.args.at in
    let (later, slots, here) = c.requires.0 in
    variable_here text file shape later at here false slots _ c.wide-i.ensures.0 c.in-2.is

pub overflow_add-at-in-2 : goal.overflow_add-at-in-2
overflow_add-at-in-2 c =
    let text = c.args.text.now in
    let file = c.args.file.now in
    let shape = c.args.shape in
    let at = c.args.at in
    let (later, slots, here) = c.requires.0 in
    omega (arith, slot_here text file shape later at here c.requires.1 c.requires.2 c.if-op-eq1.false)

pub load_status-requires : goal.load_status-requires
load_status-requires c =
    let text = c.args.text.now in
    let file = c.args.file.now in
    let shape = c.args.shape in
    let at = c.args.at in
    let (later, slots, here) = c.requires.0 in
    status_here text file shape later at here false slots _ c.wide-i.ensures.0 c.in-3.is

pub overflow_add-at-in-3 : goal.overflow_add-at-in-3
overflow_add-at-in-3 c =
    let text = c.args.text.now in
    let file = c.args.file.now in
    let shape = c.args.shape in
    let at = c.args.at in
    let (later, slots, here) = c.requires.0 in
    omega (arith, slot_here text file shape later at here c.requires.1 c.requires.2 c.if-op-eq1.false)

pub load_variable-requires-in-6 : goal.load_variable-requires-in-6
load_variable-requires-in-6 c =
    let text = c.args.text.now in
    let file = c.args.file.now in
    let shape = c.args.shape in
    let at = c.args.at in
    let (later, slots, here) = c.requires.0 in
    variable_here text file shape later at here true slots _ c.wide-i.ensures.0 c.in-6.is

pub overflow_add-at-in-6 : goal.overflow_add-at-in-6
overflow_add-at-in-6 c =
    let text = c.args.text.now in
    let file = c.args.file.now in
    let shape = c.args.shape in
    let at = c.args.at in
    let (later, slots, here) = c.requires.0 in
    omega (arith, slot_here text file shape later at here c.requires.1 c.requires.2 c.if-op-eq1.false)

pub load_status-requires-in_default : goal.load_status-requires-in_default
load_status-requires-in_default c =
    let text = c.args.text.now in
    let file = c.args.file.now in
    let shape = c.args.shape in
    let at = c.args.at in
    let (later, slots, here) = c.requires.0 in
    status_here text file shape later at here true slots _ c.wide-i.ensures.0
    (status_is text file shape later at here c.requires.1 c.requires.2 c.if-op-eq1.false c.in_default.in_default-own.rest.0.0.1
    c.in_default.in_default-own.rest.0.1 c.in_default.in_default-own.rest.1)

pub overflow_add-at-in_default : goal.overflow_add-at-in_default
overflow_add-at-in_default c =
    let text = c.args.text.now in
    let file = c.args.file.now in
    let shape = c.args.shape in
    let at = c.args.at in
    let (later, slots, here) = c.requires.0 in
    omega (arith, slot_here text file shape later at here c.requires.1 c.requires.2 c.if-op-eq1.false)

pub returns-in-2 : goal.returns-in-2
returns-in-2 c =
    let text = c.args.text.now in
    let file = c.args.file.now in
    let shape = c.args.shape in
    let at = c.args.at in
    λ later xs. int_outs _ c.int_out-in-2.ensures (variable_leaf text file shape later at c.args.bits.now false c.wide-i.ensures.0
    refl c.in-2.is (c.load_variable.ensures later))

pub returns-in-3 : goal.returns-in-3
returns-in-3 c =
    let text = c.args.text.now in
    let file = c.args.file.now in
    let shape = c.args.shape in
    let at = c.args.at in
    λ later xs. int_outs _ c.int_out-in-3.ensures (status_leaf text file shape later at c.args.bits.now false c.wide-i.ensures.0 refl
    c.in-3.is (c.load_status.ensures later))

pub returns-in-6 : goal.returns-in-6
returns-in-6 c =
    let text = c.args.text.now in
    let file = c.args.file.now in
    let shape = c.args.shape in
    let at = c.args.at in
    λ later xs. int_outs _ c.int_out-in-6.ensures (variable_leaf text file shape later at c.args.bits.now true c.wide-i.ensures.0 refl
    c.in-6.is (c.load_variable-in-6.ensures later))

pub returns-in_default : goal.returns-in_default
returns-in_default c =
    let text = c.args.text.now in
    let file = c.args.file.now in
    let shape = c.args.shape in
    let at = c.args.at in
    let h = c.requires.0 in
    λ later xs. int_outs _ c.int_out-in_default.ensures (status_leaf text file shape later at c.args.bits.now true c.wide-i.ensures.0 refl
    (status_is text file shape h.0 at h.2 c.requires.1 c.requires.2 c.if-op-eq1.false c.in_default.in_default-own.rest.0.0.1 c.in_default.in_default-own.rest.0.1 c.in_default.in_default-own.rest.1) (c.load_status-in_default.ensures later))
