use mathlib.Core.Path.{ap}
use Rattle.entries.specs.Refute.{refute_return, refute_entry}
use Rattle.entries.proofs.refute.stm_refute.Goals as goal

pub returns-in-Err : goal.returns-in-Err
unfolding refute_entry
returns-in-Err c = rw c.code_of.ensures (ap (refute_return _) c.in-Err.ensures)

pub returns-in-Accepted : goal.returns-in-Accepted
unfolding refute_entry
returns-in-Accepted c = ap (refute_return _) (rw c.in-Accepted.is at c.in-Ok.ensures)

pub returns-in-Word : goal.returns-in-Word
unfolding refute_entry
returns-in-Word c = ap (refute_return _) (rw c.in-Word.is at c.in-Ok.ensures)

pub returns-in-Ended : goal.returns-in-Ended
unfolding refute_entry
returns-in-Ended c = ap (refute_return _) (rw c.in-Ended.is at c.in-Ok.ensures)
