use Rattle.std.proofs.Common.{arith}
use Rattle.clauses.proofs.EmitFormula.{parts_start, parts_on, parts_end}
use Rattle.clauses.proofs.tables.Tables.put_parts.Goals as goal

pub loop-i-init : goal.loop-i-init
loop-i-init c = parts_start _ _ _ _ _ _

pub loop-i-preserved : goal.loop-i-preserved
loop-i-preserved c =
    parts_on _ _ _ _ _ _ c.loop-i-test.true c.loop-i.invariant (omega arith) c.put_part-at.ensures

pub returns : goal.returns
returns c = parts_end _ _ _ _ _ _ c.loop-i-test.false c.loop-i.invariant
