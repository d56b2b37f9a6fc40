use Rattle.std.proofs.Common.{Bool, get_or, inl, inr, arith}
use Rattle.design.specs.Tree.{not_b}
use Rattle.step.proofs.Values.{logic_of}
use Rattle.clauses.specs.Literal.{Literal, negate}
use Rattle.clauses.specs.Circuit.{WithMark}
use Rattle.clauses.specs.Builders.{beside!, logic! }
use Rattle.clauses.specs.FlatState.{read_slots, layout_of}
use Rattle.clauses.specs.Encoders.{bools_at, bool_gates}
use Rattle.clauses.proofs.EmitExpressions.{bool_byte, bools_ahead, not_one, logic_pair, only_here, only_node, first_here, second_here, second_on, pair_node, not_tree, logic_tree}
use Rattle.clauses.proofs.expression.+encode_bool.Goals as goal

pub bounds-text-at : goal.bounds-text-at
bounds-text-at t c =
    let text = c.args.text.now in
    let file = c.args.file.now in
    let shape = c.args.shape in
    let at = c.args.at in
    let (later, slots, here) = c.requires in
    omega (arith, bool_byte text file shape later at here)

pub bool_leaf-requires : goal.bool_leaf-requires
bool_leaf-requires t c = (c.requires, inl c.if-op-lt18.true)

pub returns-then-op-lt18 : goal.returns-then-op-lt18
returns-then-op-lt18 t c = λ later. c.bool_leaf.ensures later _

pub bool_leaf-requires-then-op-gt22 : goal.bool_leaf-requires-then-op-gt22
bool_leaf-requires-then-op-gt22 t c = (c.requires, inr c.if-op-gt22.true)

pub returns-then-op-gt22 : goal.returns-then-op-gt22
returns-then-op-gt22 t c = λ later. c.bool_leaf-then-op-gt22.ensures later _

pub encode_bool-a-requires : goal.encode_bool-a-requires
encode_bool-a-requires t c =
    let text = c.args.text.now in
    let file = c.args.file.now in
    let shape = c.args.shape in
    let at = c.args.at in
    let (later, slots, here) = c.requires in (
      omega (arith, c.requires.0, bool_byte text file shape later at here),
      (
        later,
        slots,
        only_here (bools_at text file shape later) (bools_at text file shape later) not_b
            (not_one text file shape later at c.if-op-eq18.true) here,
      ),
    )

pub returns-then-op-eq18 : goal.returns-then-op-eq18
returns-then-op-eq18 t c =
    let bits = c.args.bits.now in
    let text = c.args.text.now in
    let file = c.args.file.now in
    let shape = c.args.shape in
    let at = c.args.at in
    λ later. only_node (bools_at text file shape later) (bools_at text file shape later) (bool_gates text file shape later bits) (bool_gates text file shape later bits) not_b
    (not_one text file shape later at c.if-op-eq18.true) negate (not_tree (layout_of shape) (read_slots later file shape bits)) c.args.pen _ _ _
    (c.encode_bool-a.ensures later) c.negate.ensures

pub encode_bool-a-requires-then-op-lt21 : goal.encode_bool-a-requires-then-op-lt21
encode_bool-a-requires-then-op-lt21 t c =
    let text = c.args.text.now in
    let file = c.args.file.now in
    let shape = c.args.shape in
    let at = c.args.at in
    let (later, slots, here) = c.requires in (
      omega (arith, c.requires.0, bool_byte text file shape later at here),
      (
        later,
        slots,
        first_here (bools_at text file shape later) (bools_at text file shape later)
            (logic_of (get_or text at 0)) (logic_pair text file shape later at c.if-op-lt18.false c.if-op-eq18.false c.if-op-lt21.true)
            here,
      ),
    )

pub encode_bool-b-requires : goal.encode_bool-b-requires
encode_bool-b-requires t c =
    let text = c.args.text.now in
    let file = c.args.file.now in
    let shape = c.args.shape in
    let at = c.args.at in
    let (later, slots, here) = c.requires in
    let first = c.encode_bool-a-then-op-lt21.ensures later in (
      omega (
        arith,
        c.requires.0,
        bool_byte text file shape later at here,
        second_on (bools_at text file shape later) (bools_at text file shape later) (logic_of (get_or text at 0)) (logic_pair text file shape later at c.if-op-lt18.false c.if-op-eq18.false
            c.if-op-lt21.true) first here (bools_ahead text file shape later at),
      ),
      (
        later,
        slots,
        second_here (bools_at text file shape later) (bools_at text file shape later)
            (logic_of (get_or text at 0)) (logic_pair text file shape later at c.if-op-lt18.false
            c.if-op-eq18.false c.if-op-lt21.true) first here,
      ),
    )

pub returns-then-op-lt21 : goal.returns-then-op-lt21
returns-then-op-lt21 t c =
    let bits = c.args.bits.now in
    let text = c.args.text.now in
    let file = c.args.file.now in
    let shape = c.args.shape in
    let at = c.args.at in
    λ later. pair_node (bools_at text file shape later) (bools_at text file shape later) (bool_gates text file shape later bits) (bool_gates text file shape later bits) (logic_of (get_or text at 0))
    (logic_pair text file shape later at c.if-op-lt18.false c.if-op-eq18.false c.if-op-lt21.true) (λ (marks : Bool) (x : Literal) (y : WithMark Literal). beside! y.mark (logic! (get_or text at 0) x y.result))
    (λ marks m. logic_tree (layout_of shape) (read_slots later file shape bits) marks m (get_or text at 0)) c.args.pen _ _ _ _ _ (c.encode_bool-a-then-op-lt21.ensures later)
    (c.encode_bool-b.ensures later) c.logic.ensures

pub encode_compare-requires : goal.encode_compare-requires
encode_compare-requires t c =
    (c.requires, c.if-op-lt21.false, c.if-op-gt22.false)

pub returns : goal.returns
returns t c = c.encode_compare.ensures
