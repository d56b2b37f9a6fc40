use Rattle.design.proofs.Indexed.{sized}
use Rattle.step.proofs.calls.holds_right.Goals as goal

pub slot_count-n-requires : goal.slot_count-n-requires
slot_count-n-requires c =
    let s = sized _ c.requires.0 _ c.requires.1 in (s.0, s.1)
