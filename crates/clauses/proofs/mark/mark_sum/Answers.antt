use Rattle.clauses.proofs.EmitMarks.{mark_none, mark_some, sum_passes_lem}
use Rattle.clauses.specs.Expression.{sum_passes! }
use Rattle.clauses.specs.Encoders.{summed}
use Rattle.clauses.proofs.mark.mark_sum.Goals as goal

pub returns-then-not-pen : goal.returns-then-not-pen
returns-then-not-pen c = mark_none (sum_passes! (summed c.args.w.value)) c.args.pen c.if-not-pen.true c.moved.ensures

pub returns : goal.returns
returns c =
    mark_some (sum_passes! (summed c.args.w.value)) c.args.pen _ c.if-not-pen.false (sum_passes_lem (summed c.args.w.value) c.emit_xor-x.ensures) c.or_mark.ensures
