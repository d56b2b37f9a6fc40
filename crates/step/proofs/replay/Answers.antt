use Rattle.std.proofs.Common.{refl}
use Rattle.design.proofs.Told.{handed_on}
use Rattle.step.proofs.Gates.{gate_passed}
use Rattle.step.proofs.Answering.{replay_refused}
use Rattle.step.proofs.replay.Goals as goal

pub returns-in_err-gate : goal.returns-in_err-gate
returns-in_err-gate c = handed_on _ _ c.from_residual.ensures.1 _ (replay_refused _ _ _ _ _ c.in_err-gate.ensures)

pub replay_accepted-requires : goal.replay_accepted-requires
replay_accepted-requires c = let g = gate_passed _ _ _ _ _ c.in_ok-gate.ensures refl in (g.accepted, g.property, g.right, g.bound)
