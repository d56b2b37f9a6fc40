use Rattle.std.proofs.Common.{◌≡◌, ℕ, ◌+◌, ◌*◌, length, sym, ap, ◌∙◌, arith, rules}
use Rattle.clauses.specs.FlatState.{slots_of, layout_of}
use Rattle.clauses.proofs.EmitSlots.{status_room}
use Rattle.clauses.proofs.CellCounts.{sizes, kinds}
use Rattle.clauses.proofs.EmitCells.{few_bits, slotted, normal_fields, is, action_here, action_writes, target_set, muxes_first, cell_emits}
use Rattle.clauses.proofs.tables.Tables.encode_cell.Goals as goal

pub overflow_add-at : goal.overflow_add-at
overflow_add-at c =
    omega (
      arith,
      (normal_fields c.args.self.ready c.args.p c.requires).header,
      (normal_fields c.args.self.ready c.args.p c.requires).past,
      sizes c.args.self.ready.shaped,
    )

pub overflow_add-p : goal.overflow_add-p
overflow_add-p c =
    omega (
      arith,
      (normal_fields c.args.self.ready c.args.p c.requires).header,
      (normal_fields c.args.self.ready c.args.p c.requires).past,
      sizes c.args.self.ready.shaped,
    )

pub bounds-self-p : goal.bounds-self-p
bounds-self-p c =
    omega (
      arith,
      (normal_fields c.args.self.ready c.args.p c.requires).header,
      (normal_fields c.args.self.ready c.args.p c.requires).past,
      sizes c.args.self.ready.shaped,
    )

pub overflow_add-at-2 : goal.overflow_add-at-2
overflow_add-at-2 c =
    omega (arith, (normal_fields c.args.self.ready c.args.p c.requires).past, sizes c.args.self.ready.shaped, c.wide.ensures.0)

pub encode_list-a-requires : goal.encode_list-a-requires
encode_list-a-requires c = (
  slotted c.args.self.ready.shaped _ (search rules),
  action_here c.args.self.ready c.args.p c.requires _ (ap (λ (k :
      ℕ). c.args.p + 8 + k) c.wide.ensures.0),
)

pub offset-requires : goal.offset-requires
offset-requires c =
    omega (arith, kinds c.args.self.ready.shaped, sizes c.args.self.ready.shaped)

pub bounds-self-p-2 : goal.bounds-self-p-2
bounds-self-p-2 c =
    omega (
      arith,
      (normal_fields c.args.self.ready c.args.p c.requires).header,
      (normal_fields c.args.self.ready c.args.p c.requires).past,
      sizes c.args.self.ready.shaped,
    )

pub overflow_add-o : goal.overflow_add-o
overflow_add-o c =
    omega (
      arith,
      status_room c.args.self.file.now c.args.self.shape.variables c.args.self.shape.matrices c.wide-2.result _ (omega (
        arith,
        c.wide-2.ensures.0,
        (normal_fields c.args.self.ready c.args.p c.requires).matrix,
        c.args.self.ready.shaped.counts.matrices,
      )) (ap (λ (k : ℕ). k + 4 * c.wide-2.result) c.offset.ensures),
      few_bits c.args.self.ready.shaped,
    )

pub overflow_add-p-2 : goal.overflow_add-p-2
overflow_add-p-2 c =
    omega (
      arith,
      (normal_fields c.args.self.ready c.args.p c.requires).header,
      (normal_fields c.args.self.ready c.args.p c.requires).past,
      sizes c.args.self.ready.shaped,
    )

pub bounds-self-p-3 : goal.bounds-self-p-3
bounds-self-p-3 c =
    omega (
      arith,
      (normal_fields c.args.self.ready c.args.p c.requires).header,
      (normal_fields c.args.self.ready c.args.p c.requires).past,
      sizes c.args.self.ready.shaped,
    )

pub store_word-requires : goal.store_word-requires
store_word-requires c = (
  omega (
    arith,
    status_room c.args.self.file.now c.args.self.shape.variables c.args.self.shape.matrices c.wide-2.result _ (omega (
      arith,
      c.wide-2.ensures.0,
      (normal_fields c.args.self.ready c.args.p c.requires).matrix,
      c.args.self.ready.shaped.counts.matrices,
    )) (ap (λ (k : ℕ). k + 4 * c.wide-2.result) c.offset.ensures),
    few_bits c.args.self.ready.shaped,
  ),
  omega arith,
)

pub returns : goal.returns
returns c =
    λ x. let i = is c.args.self.ready c.args.p x in
    cell_emits (layout_of c.args.self.shape) (slots_of c.args.self.file.now c.args.self.shape c.args.bits.now) x.cell (c.encode_enable-e.ensures x)
    (action_writes c.args.self.ready c.args.p x _ (ap (λ (k : ℕ). c.args.p + 8 + k) c.wide.ensures.0) c.args.bits.now _ c.encode_list-a.result
    c.encode_list-a.ensures) (target_set c.args.self.file.now c.args.self.shape _ (few_bits c.args.self.ready.shaped) (search rules)
    x.cell.matrix c.wide-2.result _ x.cell.target c.wide-3.result c.constant.result _ (c.wide-2.ensures.0 ∙ sym i.matrix) (c.wide-3.ensures.0 ∙ sym i.target) (omega (
      arith,
      i.matrix,
      (normal_fields c.args.self.ready c.args.p c.requires).matrix,
      c.args.self.ready.shaped.counts.matrices,
    )) (ap (λ (k : ℕ). k + 4 * c.wide-2.result) c.offset.ensures) c.constant.ensures (let h : length c.constant.result ≡ 16 = search rules in h)
    c.store_word.ensures) (muxes_first c.args.self.file.now c.args.self.shape _ _ c.args.bits.now (few_bits c.args.self.ready.shaped) (search rules)
    (search rules) (c.muxes-x.ensures c.args.self.file.now c.args.self.ready.shaped.bits.total))
