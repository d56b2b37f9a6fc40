use Rattle.entries.specs.Code.{code}
use Rattle.entries.proofs.code.code_alone.Goals as goal

pub returns-in-Ok : goal.returns-in-Ok
unfolding code
returns-in-Ok c = rw c.in-Ok.is
