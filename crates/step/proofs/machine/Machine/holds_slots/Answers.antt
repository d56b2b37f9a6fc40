use Rattle.std.proofs.Common.{arith}
use Rattle.step.proofs.Cells.{sizes}
use Rattle.step.proofs.Pieces.{no_piece_right}
use Rattle.step.proofs.machine.Machine.holds_slots.Goals as goal

pub load_entries-requires : goal.load_entries-requires
load_entries-requires c =
    ((sizes _ _ _ c.args.self.indexed).3, (sizes _ _ _ c.args.self.indexed).2, c.requires.0)

pub property_true-requires : goal.property_true-requires
property_true-requires c =
    (omega (arith, c.requires.0), no_piece_right _ _, c.requires.1)
