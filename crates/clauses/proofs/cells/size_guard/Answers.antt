use Rattle.std.proofs.Common.{false, arith}
use Rattle.design.specs.Limits.{max_depth}
use Rattle.clauses.proofs.TextGates.{bool_few}
use Rattle.clauses.proofs.CellCounts.{sizes, few_gates, none_gates, guard_none, guard_inside, guard_reads, guard_gates}
use Rattle.clauses.proofs.cells.size_guard.Goals as goal

pub returns-then-n-eq0 : goal.returns-then-n-eq0
returns-then-n-eq0 c =
    let z = none_gates _ _ c.no_gates.ensures in (
      record { ands = omega (arith, z.0); wides = omega (arith, z.1) },
      λ x. guard_none _ _ _ c.requires.0.1 _ x _ c.wide-n.ensures.0 c.if-n-eq0.true _ z.0 z.1,
    )

pub size_bool-requires : goal.size_bool-requires
size_bool-requires c =
    let (table, ready) = c.requires.0 in
    let length = c.wide-n.ensures.0 in
    let inside = guard_inside _ _ _ ready _ c.requires.1 _ length in (
      (c.args.file.now, max_depth, false, guard_reads _ _ _ ready _ c.requires.1 _ length c.if-n-eq0.false),
      omega (arith, inside, sizes ready.shaped),
      omega (arith, inside, sizes ready.shaped),
    )

pub returns : goal.returns
returns c =
    let (table, ready) = c.requires.0 in
    let length = c.wide-n.ensures.0 in
    let inside = guard_inside _ _ _ ready _ c.requires.1 _ length in
    let reads = guard_reads _ _ _ ready _ c.requires.1 _ length c.if-n-eq0.false in
    let counted = c.size_bool.ensures c.args.file.now max_depth false reads in (
      few_gates _ (bool_few _ _ _ (omega (arith, inside, sizes ready.shaped)) _ _ _ _ counted),
      λ x. guard_gates _ _ _ ready _ x _ length c.if-n-eq0.false _ counted,
    )
