use Rattle.std.proofs.Common.{refl}
use Rattle.clauses.proofs.EmitExpressions.{product_emits}
use Rattle.clauses.proofs.expression.multiply.Goals as goal

pub returns : goal.returns
returns c =
    (product_emits _ _ _ c.args.a.pen _ _ _ c.constant-value.ensures c.product-w.ensures c.moved.ensures c.mark_product.ensures, refl)
