use Rattle.std.proofs.Common.{refl}
use Rattle.clauses.specs.Encoders.{summed}
use Rattle.clauses.proofs.EmitWords.{code_no}
use Rattle.clauses.proofs.EmitExpressions.{sum_emits, minus_emits}
use Rattle.clauses.proofs.expression.arithmetic.Goals as goal
use Rattle.clauses.proofs.expression.arithmetic.Goals.{then-op-eq4, else-op-eq4}

pub returns : goal.returns
returns c = (
  elim c.if-op-eq4.branch [
    | then-op-eq4 w ↦ sum_emits _ _ _ c.args.b.pen _ (summed c.if-op-eq4.w.value) _ w.if-op-eq4.true code_no (rw (← w.w-is, ← w.buf-is) at w.sum-w.ensures) c.mark_sum.ensures
    | else-op-eq4 w ↦ minus_emits _ _ _ c.args.b.pen _ (summed c.if-op-eq4.w.value) w.if-op-eq4.false (rw (← w.w-is, ← w.buf-is) at w.difference-w.ensures) c.mark_sum.ensures
  ],
  refl,
)
