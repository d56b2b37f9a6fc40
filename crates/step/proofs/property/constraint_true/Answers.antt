use Rattle.std.proofs.Common.{true, sym, arith}
use Rattle.design.specs.Limits.{max_depth}
use Rattle.design.proofs.Indexed.{tail_inside, sizes}
use Rattle.step.proofs.Pairs.{no_constraint, constraint_reads, constraint_value}
use Rattle.step.proofs.property.constraint_true.Goals as goal

pub has_constraint-requires : goal.has_constraint-requires
has_constraint-requires c = let (table, ready) = c.requires in (sizes _ ready.indexed.accepted _ ready.indexed.shaped).0

pub returns-then-not-has_constraint : goal.returns-then-not-has_constraint
returns-then-not-has_constraint c =
    let (table, ready) = c.requires in no_constraint _ _ _ ready.indexed (sym c.if-not-has_constraint.ensures) _

pub constraint-stands-requires : goal.constraint-stands-requires
constraint-stands-requires c = let (table, ready) = c.requires in tail_inside _ ready.indexed.accepted

pub eval_bool-x-requires : goal.eval_bool-x-requires
eval_bool-x-requires c =
    let (table, ready) = c.requires in
    let stands = c.constraint-stands.ensures in
    let has = sym c.if-not-has_constraint.ensures in (
      (c.args.file.now, max_depth, true, omega (arith, ready.size), constraint_reads _ _ _ ready.indexed has _ _ stands.0 stands.1),
      omega (arith, stands.1),
    )

pub returns : goal.returns
returns c =
    let (table, ready) = c.requires in
    let stands = c.constraint-stands.ensures in
    let has = sym c.if-not-has_constraint.ensures in
    let reads = constraint_reads _ _ _ ready.indexed has _ _ stands.0 stands.1 in
    constraint_value _ _ _ ready.indexed has _ _ stands.0 stands.1 _ _ (c.eval_bool-x.ensures c.args.file.now max_depth true reads).0
