use Rattle.design.specs.State.{slot_count}
use Rattle.step.proofs.Replays.{Replaying}
use Rattle.step.proofs.machine.Movers.replay_choices.Given as goal

abbrev pub invariant-loop-i : goal.invariant-loop-i
invariant-loop-i l = Replaying l.self.machine.file.now l.piece l.property (slot_count l.self.machine.shape) l.choices l.initial.pair l.i l.pair l.broken l.read l.guards
