use Rattle.std.proofs.Common.{◌+◌, get_or, inl, inr, arith}
use Rattle.design.specs.DesignFile.{at16}
use Rattle.design.specs.Tree.{product}
use Rattle.step.proofs.Values.{arithmetic_of}
use Rattle.clauses.specs.Builders.{arithmetic! }
use Rattle.clauses.specs.FlatState.{read_slots, layout_of}
use Rattle.clauses.specs.Encoders.{ints_at, int_gates}
use Rattle.clauses.proofs.EmitExpressions.{int_byte, ints_ahead, arithmetic_pair, product_one, product_here, product_node, only_here, first_here, second_here, second_on, pair_node, arithmetic_tree}
use Rattle.clauses.proofs.expression.+encode_int.Goals as goal

pub bounds-text-at : goal.bounds-text-at
bounds-text-at t c =
    let text = c.args.text.now in
    let file = c.args.file.now in
    let shape = c.args.shape in
    let at = c.args.at in
    let (later, slots, here) = c.requires in
    omega (arith, int_byte text file shape later at here)

pub int_leaf-requires : goal.int_leaf-requires
int_leaf-requires t c = (c.requires, inl c.if-op-lt4.true, λ e. omega (arith, c.if-op-lt4.true))

pub returns-then-op-lt4 : goal.returns-then-op-lt4
returns-then-op-lt4 t c = λ later. c.int_leaf.ensures later _

pub overflow_add-at : goal.overflow_add-at
overflow_add-at t c =
    let text = c.args.text.now in
    let file = c.args.file.now in
    let shape = c.args.shape in
    let at = c.args.at in
    let (later, slots, here) = c.requires in
    omega (arith, product_here text file shape later at here c.if-op-eq8.true)

pub encode_int-a-requires : goal.encode_int-a-requires
encode_int-a-requires t c =
    let text = c.args.text.now in
    let file = c.args.file.now in
    let shape = c.args.shape in
    let at = c.args.at in
    let (later, slots, here) = c.requires in (
      omega (arith, c.requires.0, product_here text file shape later at here c.if-op-eq8.true),
      (
        later,
        slots,
        only_here (ints_at text file shape later) (ints_at text file shape later) (product (at16 text (at + 1)))
            (product_one text file shape later at c.if-op-eq8.true) here,
      ),
    )

pub overflow_add-at-then-op-eq8 : goal.overflow_add-at-then-op-eq8
overflow_add-at-then-op-eq8 t c =
    let text = c.args.text.now in
    let file = c.args.file.now in
    let shape = c.args.shape in
    let at = c.args.at in
    let (later, slots, here) = c.requires in
    omega (arith, product_here text file shape later at here c.if-op-eq8.true)

pub word-requires : goal.word-requires
word-requires t c =
    let text = c.args.text.now in
    let file = c.args.file.now in
    let shape = c.args.shape in
    let at = c.args.at in
    let (later, slots, here) = c.requires in
    omega (arith, product_here text file shape later at here c.if-op-eq8.true)

pub returns-then-op-eq8 : goal.returns-then-op-eq8
returns-then-op-eq8 t c =
    let text = c.args.text.now in
    let file = c.args.file.now in
    let shape = c.args.shape in
    let at = c.args.at in
    λ later. product_node text file shape later at c.args.bits.now c.if-op-eq8.true _ c.word.ensures.0 c.args.pen _ _ _ (c.encode_int-a.ensures later)
    c.multiply.ensures

pub int_leaf-requires-then-op-gt5 : goal.int_leaf-requires-then-op-gt5
int_leaf-requires-then-op-gt5 t c = (c.requires, inr c.if-op-gt5.true, c.if-op-eq8.false)

pub returns-then-op-gt5 : goal.returns-then-op-gt5
returns-then-op-gt5 t c = λ later. c.int_leaf-then-op-gt5.ensures later _

pub overflow_add-at-2 : goal.overflow_add-at-2
overflow_add-at-2 t c =
    let text = c.args.text.now in
    let file = c.args.file.now in
    let shape = c.args.shape in
    let at = c.args.at in
    let (later, slots, here) = c.requires in
    omega (arith, int_byte text file shape later at here)

pub encode_int-a-requires-2 : goal.encode_int-a-requires-2
encode_int-a-requires-2 t c =
    let text = c.args.text.now in
    let file = c.args.file.now in
    let shape = c.args.shape in
    let at = c.args.at in
    let (later, slots, here) = c.requires in (
      omega (arith, c.requires.0, int_byte text file shape later at here),
      (
        later,
        slots,
        first_here (ints_at text file shape later) (ints_at text file shape later) (arithmetic_of (get_or text at 0))
            (arithmetic_pair text file shape later at c.if-op-lt4.false c.if-op-gt5.false) here,
      ),
    )

pub encode_int-b-requires : goal.encode_int-b-requires
encode_int-b-requires t c =
    let text = c.args.text.now in
    let file = c.args.file.now in
    let shape = c.args.shape in
    let at = c.args.at in
    let (later, slots, here) = c.requires in
    let first = c.encode_int-a-2.ensures later in (
      omega (
        arith,
        c.requires.0,
        int_byte text file shape later at here,
        second_on (ints_at text file shape later) (ints_at text file shape later) (arithmetic_of (get_or text at 0))
            (arithmetic_pair text file shape later at c.if-op-lt4.false c.if-op-gt5.false) first here (ints_ahead text file shape later at),
      ),
      (
        later,
        slots,
        second_here (ints_at text file shape later) (ints_at text file shape later) (arithmetic_of (get_or text at 0))
            (arithmetic_pair text file shape later at c.if-op-lt4.false c.if-op-gt5.false) first here,
      ),
    )

pub returns : goal.returns
returns t c =
    let bits = c.args.bits.now in
    let text = c.args.text.now in
    let file = c.args.file.now in
    let shape = c.args.shape in
    let at = c.args.at in
    λ later. pair_node (ints_at text file shape later) (ints_at text file shape later) (int_gates text file shape later bits) (int_gates text file shape later bits) (arithmetic_of (get_or text at 0))
    (arithmetic_pair text file shape later at c.if-op-lt4.false c.if-op-gt5.false) (arithmetic! (get_or text at 0)) (λ marks m. arithmetic_tree (layout_of shape) (read_slots later file shape bits) marks m (get_or text at 0))
    c.args.pen _ _ _ _ _ (c.encode_int-a-2.ensures later) (c.encode_int-b.ensures later) c.arithmetic.ensures
