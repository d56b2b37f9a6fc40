use mathlib.Core.Path.{ap}
use Rattle.entries.specs.Verdict.{verdict_return, verdict_entry}
use Rattle.entries.proofs.judge.stm_verdict.Goals as goal

pub returns-in-Err : goal.returns-in-Err
unfolding verdict_entry
returns-in-Err c = rw c.code_of.ensures (ap (verdict_return _) c.in-Err.ensures)

pub returns-in-Ok : goal.returns-in-Ok
unfolding verdict_entry
returns-in-Ok c = rw (c.verdict_number-told.ensures, c.verdict_step-at.ensures) (ap (verdict_return _) c.in-Ok.ensures)
