use Rattle.std.proofs.Common.{sym, refl}
use Rattle.clauses.proofs.EmitBuilds.{emits_same}
use Rattle.clauses.proofs.EmitMarks.{beside_emits}
use Rattle.clauses.proofs.EmitExpressions.{compare_equal, compare_less}
use Rattle.clauses.proofs.expression.compare.Goals as goal
use Rattle.clauses.proofs.expression.compare.Goals.{then-op-eq21, else-op-eq21}

pub returns : goal.returns
returns c = (
  elim c.if-op-eq21.branch [
    | then-op-eq21 w ↦ beside_emits _ c.args.b.pen c.moved.ensures (emits_same _ _ (sym (compare_equal _ _ _ _ w.if-op-eq21.true)) (rw (← w.w-is, ← w.buf-is) at w.equal-w.ensures))
    | else-op-eq21 w ↦ beside_emits _ c.args.b.pen c.moved.ensures (emits_same _ _ (sym (compare_less _ _ _ _ w.if-op-eq21.false)) (rw (← w.w-is, ← w.buf-is) at w.less-w.ensures))
  ],
  refl,
)
