use mathlib.Core.Path.{ap}
use Rattle.entries.specs.Step.{replay_return, replay_entry}
use Rattle.entries.proofs.step_rule.stm_replay.Goals as goal

pub returns-in-Err : goal.returns-in-Err
unfolding replay_entry
returns-in-Err c = rw c.code_of.ensures (ap (replay_return _) c.in-Err.ensures)

pub returns-in-Some : goal.returns-in-Some
unfolding replay_entry
returns-in-Some c = ap (replay_return _) (rw c.in-Some.is at c.in-Ok.ensures)

pub returns-in-None : goal.returns-in-None
unfolding replay_entry
returns-in-None c = ap (replay_return _) (rw c.in-None.is at c.in-Ok.ensures)
