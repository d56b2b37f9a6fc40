use Rattle.std.proofs.Common.{Bool, get_or, arith}
use Rattle.step.proofs.Values.{compare_of}
use Rattle.clauses.specs.Circuit.{Bits, WithMark}
use Rattle.clauses.specs.Builders.{beside!, compare! }
use Rattle.clauses.specs.FlatState.{read_slots, layout_of}
use Rattle.clauses.specs.Encoders.{ints_at, bools_at, int_gates, bool_gates}
use Rattle.clauses.proofs.EmitExpressions.{bool_byte, compare_pair, first_here, second_here, pair_node, compare_tree}
use Rattle.clauses.proofs.expression.encode_compare.Goals as goal

pub overflow_add-at : goal.overflow_add-at
overflow_add-at c =
    let (later, slots, here) = c.requires.0 in
    omega (arith, bool_byte c.args.text.now c.args.file.now c.args.shape later c.args.at here)

pub encode_int-a-requires : goal.encode_int-a-requires
encode_int-a-requires c =
    let text = c.args.text.now in
    let file = c.args.file.now in
    let shape = c.args.shape in
    let at = c.args.at in
    let (later, slots, here) = c.requires.0 in
    (later, slots, first_here (ints_at text file shape later) (bools_at text file shape later) (compare_of (get_or text at 0)) (compare_pair text file shape later at c.requires.1 c.requires.2) here)

pub encode_int-b-requires : goal.encode_int-b-requires
encode_int-b-requires c =
    let text = c.args.text.now in
    let file = c.args.file.now in
    let shape = c.args.shape in
    let at = c.args.at in
    let (later, slots, here) = c.requires.0 in (
      later,
      slots,
      second_here (ints_at text file shape later) (bools_at text file shape later) (compare_of (get_or text at 0))
          (compare_pair text file shape later at c.requires.1 c.requires.2) (c.encode_int-a.ensures later) here,
    )

pub bounds-text-at : goal.bounds-text-at
bounds-text-at c =
    let (later, slots, here) = c.requires.0 in
    omega (arith, bool_byte c.args.text.now c.args.file.now c.args.shape later c.args.at here)

pub returns : goal.returns
returns c =
    let text = c.args.text.now in
    let file = c.args.file.now in
    let shape = c.args.shape in
    let at = c.args.at in
    let bits = c.args.bits.now in
    λ later. pair_node (ints_at text file shape later) (bools_at text file shape later) (int_gates text file shape later bits) (bool_gates text file shape later bits) (compare_of (get_or text at 0))
    (compare_pair text file shape later at c.requires.1 c.requires.2) (λ (marks : Bool) (x : Bits) (y : WithMark Bits). beside! y.mark (compare! (get_or text at 0) x y.result))
    (λ marks m. compare_tree (layout_of shape) (read_slots later file shape bits) marks m (get_or text at 0)) c.args.pen _ _ _ _ _ (c.encode_int-a.ensures later)
    (c.encode_int-b.ensures later) c.compare.ensures
