use Rattle.std.proofs.Common.{refl}
use Rattle.clauses.proofs.EmitSlots.{counting_start, counting_on, counting_end}
use Rattle.clauses.proofs.circuit.constant.Goals as goal

pub loop-lit-init : goal.loop-lit-init
loop-lit-init c = counting_start _ _ refl

pub loop-lit-preserved : goal.loop-lit-preserved
loop-lit-preserved c = counting_on _ _ _ _ _ c.loop-lit-test.true c.truth_code.ensures c.loop-lit.invariant

pub returns : goal.returns
returns c = counting_end _ _ _ _ c.loop-lit-test.false c.loop-lit.invariant
