use Rattle.clauses.proofs.EmitSlots.{truth_no, truth_yes}
use Rattle.clauses.proofs.circuit.truth_code.Goals as goal

pub returns-then-b-eq0 : goal.returns-then-b-eq0
returns-then-b-eq0 c = truth_no _ c.if-b-eq0.true

pub returns-else-b-eq0 : goal.returns-else-b-eq0
returns-else-b-eq0 c = truth_yes _ c.if-b-eq0.false
