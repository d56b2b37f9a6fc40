use Rattle.std.proofs.Common.{false, arith}
use Rattle.design.specs.Limits.{max_depth}
use Rattle.step.proofs.Pieces.{expression_reads, expression_value}
use Rattle.step.proofs.property.expression_true.Goals as goal

pub eval_bool-x-requires : goal.eval_bool-x-requires
eval_bool-x-requires c =
    let (table, ready) = c.requires.0 in (
      (
        c.args.file.now,
        max_depth,
        false,
        omega (
          arith,
          ready.size,
        ),
        expression_reads _ _ ready.indexed.accepted c.requires.1 _ ready.indexed.shaped _ c.expression-text.ensures,
      ),
      omega arith,
    )

pub returns : goal.returns
returns c =
    let (table, ready) = c.requires.0 in let reads = expression_reads _ _ ready.indexed.accepted c.requires.1 _ ready.indexed.shaped _
    c.expression-text.ensures in expression_value _ _ ready.indexed.accepted c.requires.1 _ ready.indexed.shaped _ c.expression-text.ensures _ _ _
    (c.eval_bool-x.ensures c.args.file.now max_depth false reads).0
