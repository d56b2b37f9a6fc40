use Rattle.std.proofs.Common.{false, arith}
use Rattle.design.specs.Limits.{max_depth}
use Rattle.clauses.proofs.CellCounts.{sizes, event_slot, event_inside, event_reads, event_gates}
use Rattle.clauses.proofs.tables.Tables.size_event.Goals as goal

pub overflow_mul-at : goal.overflow_mul-at
overflow_mul-at c = omega (arith, event_slot _ _ _ c.args.self.ready _ _ c.requires.0 c.requires.1)

pub overflow_add-at : goal.overflow_add-at
overflow_add-at c = omega (arith, event_slot _ _ _ c.args.self.ready _ _ c.requires.0 c.requires.1)

pub offset_bounds-self-m : goal.offset_bounds-self-m
offset_bounds-self-m c = omega (arith, event_slot _ _ _ c.args.self.ready _ _ c.requires.0 c.requires.1)

pub bounds-self-m : goal.bounds-self-m
bounds-self-m c = omega (arith, event_slot _ _ _ c.args.self.ready _ _ c.requires.0 c.requires.1)

pub overflow_cast-at : goal.overflow_cast-at
overflow_cast-at c =
    omega (
      arith,
      event_inside _ _ _ c.args.self.ready _ _ c.requires.0 c.requires.1,
      sizes c.args.self.ready.shaped,
    )

pub overflow_add-past : goal.overflow_add-past
overflow_add-past c =
    omega (
      arith,
      event_inside _ _ _ c.args.self.ready _ _ c.requires.0 c.requires.1,
      sizes c.args.self.ready.shaped,
    )

pub bounds-self-at : goal.bounds-self-at
bounds-self-at c =
    omega (arith, event_inside _ _ _ c.args.self.ready _ _ c.requires.0 c.requires.1, sizes c.args.self.ready.shaped)

pub overflow_add-past-2 : goal.overflow_add-past-2
overflow_add-past-2 c =
    omega (arith, c.wide.ensures.0, event_inside _ _ _ c.args.self.ready _ _ c.requires.0 c.requires.1, sizes c.args.self.ready.shaped)

pub overflow_add-at-2 : goal.overflow_add-at-2
overflow_add-at-2 c =
    omega (arith, event_inside _ _ _ c.args.self.ready _ _ c.requires.0 c.requires.1, sizes c.args.self.ready.shaped)

pub size_bool-requires : goal.size_bool-requires
size_bool-requires c = (
  (c.args.self.file.now, max_depth, false, event_reads _ _ _ c.args.self.ready _ _ c.requires.0 c.requires.1 _ c.wide.ensures.0),
  omega (
    arith,
    c.wide.ensures.0,
    event_inside _ _ _
        c.args.self.ready _ _ c.requires.0 c.requires.1,
    sizes c.args.self.ready.shaped,
  ),
  omega (
    arith,
    c.wide.ensures.0,
    event_inside _ _ _
        c.args.self.ready _ _ c.requires.0 c.requires.1,
    sizes c.args.self.ready.shaped,
  ),
)

pub returns : goal.returns
returns c =
    let length = c.wide.ensures.0 in
    let reads = event_reads _ _ _ c.args.self.ready _ _ c.requires.0 c.requires.1 _ length in
    event_gates _ _ _ c.args.self.ready _ _ c.requires.0 c.requires.1 _ length _ (c.size_bool.ensures c.args.self.file.now max_depth false reads)
