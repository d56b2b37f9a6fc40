use Rattle.std.proofs.Common.{arith}
use Rattle.clauses.proofs.EmitWords.{code_no}
use Rattle.clauses.proofs.EmitCircuits.{product_done, product_on}
use Rattle.clauses.proofs.circuit.+product.Goals as goal

pub returns-then-left-eq0 : goal.returns-then-left-eq0
returns-then-left-eq0 t c = product_done _ _ _ _ _ c.if-left-eq0.true

pub product-requires : goal.product-requires
product-requires t c = (omega arith, tt)

pub returns : goal.returns
returns t c =
    product_on _ _ _ _ _ _ _ _ _ c.if-left-eq0.false c.addend.ensures code_no c.shift.ensures c.sum-w.ensures c.product.ensures
