use Rattle.std.proofs.Common.{refl}
use Rattle.clauses.proofs.EmitMarks.{mark_none, mark_some, product_passes_lem}
use Rattle.clauses.specs.Writing.{from_codes}
use Rattle.clauses.specs.Expression.{product_passes! }
use Rattle.clauses.proofs.mark.mark_product.Goals as goal

pub returns-then-not-pen : goal.returns-then-not-pen
returns-then-not-pen c =
    mark_none (product_passes! c.args.c (from_codes c.args.x)) c.args.pen c.if-not-pen.true (refl, refl, refl)

pub returns : goal.returns
returns c =
    mark_some (product_passes! c.args.c (from_codes c.args.x)) c.args.pen _ c.if-not-pen.false
    (product_passes_lem c.args.c (from_codes c.args.x) _ _ _ _ c.least_operand.ensures c.largest_operand.ensures c.constant-l.ensures c.constant-h.ensures
    c.less-a.ensures c.less-b.ensures c.emit_or-o.ensures) c.or_mark.ensures
