use Rattle.std.proofs.Common.{ℕ, ◌+◌, refl, ap₂, ◌∙◌, arith}
use Rattle.clauses.proofs.EmitWords.{code_yes}
use Rattle.clauses.proofs.CellCounts.{sizes}
use Rattle.clauses.proofs.EmitSteps.{scanning_start, scanning_on, scanning_end, cell_in}
use Rattle.clauses.proofs.tables.Tables.encode_invalid.Goals as goal

pub trailer_word-p-requires : goal.trailer_word-p-requires
trailer_word-p-requires c = omega (arith, sizes c.args.self.ready.shaped)

pub trailer_word-end-requires : goal.trailer_word-end-requires
trailer_word-end-requires c = omega (arith, sizes c.args.self.ready.shaped)

pub loop-init : goal.loop-init
loop-init c =
    (scanning_start c.args.self.file.now c.args.self.shape c.args.bits.now _ _ _ _ _ c.trailer_word-p.ensures.0 code_yes, refl)

pub encode_link-chain-requires : goal.encode_link-chain-requires
encode_link-chain-requires c =
    cell_in c.args.self.ready.shaped _ _ (omega (arith, c.loop-test.true, c.trailer_word-end.ensures)) c.loop.invariant.0.place

pub bounds-self-p : goal.bounds-self-p
bounds-self-p c =
    let x = cell_in c.args.self.ready.shaped _ _ (omega (arith, c.loop-test.true, c.trailer_word-end.ensures)) c.loop.invariant.0.place in
    omega (arith, x.header, x.past, sizes c.args.self.ready.shaped)

pub word-requires : goal.word-requires
word-requires c =
    let x = cell_in c.args.self.ready.shaped _ _ (omega (arith, c.loop-test.true, c.trailer_word-end.ensures)) c.loop.invariant.0.place in
    omega (arith, x.header, x.past, sizes c.args.self.ready.shaped)

pub overflow_add-p : goal.overflow_add-p
overflow_add-p c =
    let x = cell_in c.args.self.ready.shaped _ _ (omega (arith, c.loop-test.true, c.trailer_word-end.ensures)) c.loop.invariant.0.place in
    omega (arith, x.header, x.past, sizes c.args.self.ready.shaped)

pub overflow_add-p-in-loop-2 : goal.overflow_add-p-in-loop-2
overflow_add-p-in-loop-2 c =
    let x = cell_in c.args.self.ready.shaped _ _ (omega (arith, c.loop-test.true, c.trailer_word-end.ensures)) c.loop.invariant.0.place in
    omega (arith, x.header, x.past, sizes c.args.self.ready.shaped)

pub overflow_add-p-in-loop-4 : goal.overflow_add-p-in-loop-4
overflow_add-p-in-loop-4 c =
    let x = cell_in c.args.self.ready.shaped _ _ (omega (arith, c.loop-test.true, c.trailer_word-end.ensures)) c.loop.invariant.0.place in
    omega (arith, x.past, sizes c.args.self.ready.shaped, c.wide.ensures, c.word.ensures)

pub loop-preserved : goal.loop-preserved
loop-preserved c = (
  scanning_on c.args.self.file.now c.args.self.shape c.args.bits.now _ (omega (arith, c.loop-test.true, c.trailer_word-end.ensures)) c.loop.invariant.0 _ (ap₂ (λ (a b : ℕ). c.loop.p + (8 + a + b)) c.wide.ensures.0 c.word.ensures.0 ∙ omega arith) _ c.encode_link-chain.ensures,
  omega arith,
)

pub returns : goal.returns
returns c =
    scanning_end c.args.self.file.now c.args.self.shape c.args.bits.now _ (omega (arith, c.loop-test.false, c.trailer_word-end.ensures)) c.loop.invariant.0
