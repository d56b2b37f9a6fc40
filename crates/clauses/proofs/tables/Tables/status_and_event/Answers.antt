use Rattle.std.proofs.Common.{ℕ, ◌+◌, false, refl, ap, ◌∙◌, arith, rules}
use Rattle.design.specs.DesignFile.{c_matrix, c_status, c_event}
use Rattle.design.specs.Check.{event_in}
use Rattle.clauses.specs.Expression.{constant_bits, integer_at}
use Rattle.clauses.specs.FlatState.{slots_of, layout_of}
use Rattle.clauses.proofs.CellCounts.{sizes}
use Rattle.clauses.proofs.EmitCells.{slotted, event_slot, event_inside, event_here, event_writes, event_emits}
use Rattle.clauses.proofs.tables.Tables.status_and_event.Goals as goal

pub bounds-self-p : goal.bounds-self-p
bounds-self-p c = omega (arith, c.requires.header, sizes c.args.self.ready.shaped)

pub load_status-x-requires : goal.load_status-x-requires
load_status-x-requires c = (
  slotted c.args.self.ready.shaped _ (search rules),
  (omega (
    arith,
    c.wide-m.ensures.0,
    c.requires.matrix,
    c.args.self.ready.shaped.counts.matrices,
  )),
)

pub overflow_add-p : goal.overflow_add-p
overflow_add-p c =
    omega (arith, c.requires.header, sizes c.args.self.ready.shaped)

pub bounds-self-p-2 : goal.bounds-self-p-2
bounds-self-p-2 c =
    omega (arith, c.requires.header, sizes c.args.self.ready.shaped)

pub overflow_add-p-2 : goal.overflow_add-p-2
overflow_add-p-2 c =
    omega (arith, c.requires.header, sizes c.args.self.ready.shaped)

pub bounds-self-p-3 : goal.bounds-self-p-3
bounds-self-p-3 c =
    omega (arith, c.requires.header, sizes c.args.self.ready.shaped)

pub overflow_mul-at : goal.overflow_mul-at
overflow_mul-at c =
    omega (arith, event_slot c.args.self.ready c.requires c.wide-m.ensures.0 c.wide-e.ensures.0, sizes c.args.self.ready.shaped)

pub overflow_add-at : goal.overflow_add-at
overflow_add-at c =
    omega (arith, event_slot c.args.self.ready c.requires c.wide-m.ensures.0 c.wide-e.ensures.0, sizes c.args.self.ready.shaped)

pub offset_bounds-self-m : goal.offset_bounds-self-m
offset_bounds-self-m c =
    omega (arith, event_slot c.args.self.ready c.requires c.wide-m.ensures.0 c.wide-e.ensures.0, sizes c.args.self.ready.shaped)

pub bounds-self-m : goal.bounds-self-m
bounds-self-m c =
    omega (arith, event_slot c.args.self.ready c.requires c.wide-m.ensures.0 c.wide-e.ensures.0, sizes c.args.self.ready.shaped)

pub overflow_cast-at : goal.overflow_cast-at
overflow_cast-at c =
    omega (arith, event_inside c.args.self.ready c.requires c.wide-m.ensures.0 c.wide-e.ensures.0, sizes c.args.self.ready.shaped)

pub overflow_add-at-2 : goal.overflow_add-at-2
overflow_add-at-2 c =
    omega (arith, event_inside c.args.self.ready c.requires c.wide-m.ensures.0 c.wide-e.ensures.0, sizes c.args.self.ready.shaped)

pub encode_test-v-requires : goal.encode_test-v-requires
encode_test-v-requires c = (
  false,
  slotted c.args.self.ready.shaped _ (search rules),
  event_here c.args.self.ready c.requires c.wide-m.ensures.0 c.wide-e.ensures.0 _ refl,
)

pub returns : goal.returns
returns c =
    let bits = c.args.bits.now in
    let file = c.args.self.file.now in
    let p = c.args.p in
    let shape = c.args.self.shape in
    λ d w. event_emits (layout_of shape) (slots_of file shape bits) (c_matrix file p) (c_status file p) (event_in w.rows (c_matrix file p) (c_event file
    p)) _ _ _ _ _ (c.load_status-x.ensures false refl ∙ ap (λ (m : ℕ). integer_at (slots_of file shape bits) (shape.variables + m)) c.wide-m.ensures.0) (c.constant-k.ensures ∙ ap (constant_bits 16) c.wide.ensures.0) c.equal-q.ensures
    (event_writes c.args.self.ready c.requires c.wide-m.ensures.0 c.wide-e.ensures.0 _ refl bits c.encode_test-v.result
    (c.encode_test-v.ensures false) d w) c.emit_and.ensures
