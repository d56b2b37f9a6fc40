use Rattle.std.proofs.Common.{sym, refl}
use Rattle.clauses.proofs.EmitBuilds.{emits_same}
use Rattle.clauses.proofs.EmitMarks.{beside_emits}
use Rattle.clauses.proofs.EmitExpressions.{logic_and, logic_or}
use Rattle.clauses.proofs.expression.logic.Goals as goal
use Rattle.clauses.proofs.expression.logic.Goals.{then-op-eq19, else-op-eq19}

pub returns : goal.returns
returns c = (
  elim c.if-op-eq19.branch [
    | then-op-eq19 w ↦ beside_emits _ c.args.b.pen c.moved.ensures (emits_same _ _ (sym (logic_and _ _ _ _ w.if-op-eq19.true)) (rw (← w.w-is, ← w.buf-is) at w.emit_and-w.ensures))
    | else-op-eq19 w ↦ beside_emits _ c.args.b.pen c.moved.ensures (emits_same _ _ (sym (logic_or _ _ _ _ w.if-op-eq19.false)) (rw (← w.w-is, ← w.buf-is) at w.emit_or-w.ensures))
  ],
  refl,
)
