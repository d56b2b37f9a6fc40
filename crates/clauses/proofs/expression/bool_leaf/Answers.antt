use Rattle.std.proofs.Common.{ltb, get_or, refl, arith}
use Rattle.clauses.proofs.EmitExpressions.{bool_byte, truth_here, flag_is, flag_inside, flag_here, truth_leaf, flag_leaf}
use Rattle.clauses.proofs.expression.bool_leaf.Goals as goal

pub bounds-text-at : goal.bounds-text-at
bounds-text-at c =
    let text = c.args.text.now in
    let file = c.args.file.now in
    let shape = c.args.shape in
    let at = c.args.at in
    let (later, slots, here) = c.requires.0 in
    omega (arith, bool_byte text file shape later at here)

pub bounds-text-at-then-op-eq16 : goal.bounds-text-at-then-op-eq16
bounds-text-at-then-op-eq16 c =
    let text = c.args.text.now in
    let file = c.args.file.now in
    let shape = c.args.shape in
    let at = c.args.at in
    let (later, slots, here) = c.requires.0 in
    omega (arith, truth_here text file shape later at here c.if-op-eq16.true)

pub returns-then-op-eq16 : goal.returns-then-op-eq16
returns-then-op-eq16 c =
    let text = c.args.text.now in
    let file = c.args.file.now in
    let shape = c.args.shape in
    let at = c.args.at in
    λ later xs. truth_leaf text file shape later at c.args.bits.now c.if-op-eq16.true c.truth_code.ensures refl

pub overflow_add-at-2 : goal.overflow_add-at-2
overflow_add-at-2 c =
    let text = c.args.text.now in
    let file = c.args.file.now in
    let shape = c.args.shape in
    let at = c.args.at in
    let (later, slots, here) = c.requires.0 in
    omega (arith, flag_inside text file shape later at here c.requires.1 c.if-op-eq16.false)

pub bounds-text-at-2 : goal.bounds-text-at-2
bounds-text-at-2 c =
    let text = c.args.text.now in
    let file = c.args.file.now in
    let shape = c.args.shape in
    let at = c.args.at in
    let (later, slots, here) = c.requires.0 in
    omega (arith, flag_inside text file shape later at here c.requires.1 c.if-op-eq16.false)

pub load_flag-requires : goal.load_flag-requires
load_flag-requires c =
    let text = c.args.text.now in
    let file = c.args.file.now in
    let shape = c.args.shape in
    let at = c.args.at in
    let (later, slots, here) = c.requires.0 in
    flag_here text file shape later at here c.requires.1 c.if-op-eq16.false slots _ c.wide.ensures.0

pub overflow_add-result-2 : goal.overflow_add-result-2
overflow_add-result-2 c =
    let text = c.args.text.now in
    let file = c.args.file.now in
    let shape = c.args.shape in
    let at = c.args.at in
    let (later, slots, here) = c.requires.0 in
    omega (arith, flag_inside text file shape later at here c.requires.1 c.if-op-eq16.false)

pub returns : goal.returns
returns c =
    let text = c.args.text.now in
    let file = c.args.file.now in
    let shape = c.args.shape in
    let at = c.args.at in
    let h = c.requires.0 in
    λ later xs. flag_leaf text file shape later at c.args.bits.now (ltb 0x16 (get_or text at 0)) c.wide.ensures.0 refl (flag_is text file shape h.0
    at h.2 c.requires.1 c.if-op-eq16.false) (c.load_flag.ensures later)
