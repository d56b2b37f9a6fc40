use Rattle.std.proofs.Common.{false, sym, ◌∙◌, arith, eq-eqb}
use Rattle.design.proofs.Indexed.{normal_fields}
use Rattle.design.specs.Limits.{max_depth}
use Rattle.step.proofs.Cells.{sizes, guard_empty, guard_reads, guard_value}
use Rattle.step.proofs.mover.guard_true.Goals as goal

pub eval_bool-requires : goal.eval_bool-requires
eval_bool-requires c =
    let (table, ready) = c.requires.0 in (
      (c.args.file.now, max_depth, false, omega (arith, ready.size), guard_reads _ _ _ ready.indexed _ c.requires.1 _ c.wide-n.ensures.0 c.if-n-eq0.false),
      omega (arith, c.wide-n.ensures.0, (normal_fields _ _ _ ready.indexed _ c.requires.1).past, sizes _ _ _ ready.indexed),
    )

pub returns-then-n-eq0 : goal.returns-then-n-eq0
returns-then-n-eq0 c = λ x. eq-eqb _ _ c.if-n-eq0.true ∙ guard_empty _ _ _ c.requires.0.1.indexed _ _ x (sym c.wide-n.ensures.0 ∙ c.if-n-eq0.true)

pub returns-else-n-eq0 : goal.returns-else-n-eq0
returns-else-n-eq0 c =
    λ x.
    let (table, ready) = c.requires.0 in
    let length = c.wide-n.ensures.0 in
    let reads = guard_reads _ _ _ ready.indexed _ x _ length c.if-n-eq0.false in
    guard_value _ _ _ ready.indexed _ _ x _ length c.if-n-eq0.false _ (c.eval_bool.ensures c.args.file.now max_depth false reads).0
