use Rattle.std.proofs.Common.{arith}
use Rattle.step.proofs.States.{entries_loaded}
use Rattle.step.proofs.calls.load_entries.Goals as goal

pub returns : goal.returns
returns c =
    entries_loaded c.args.shape c.args.entries _ _ _ c.requires.2 (omega arith) (omega arith) c.copy_slots.ensures c.copy_slots-2.ensures
