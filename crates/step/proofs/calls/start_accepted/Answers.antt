use Rattle.std.proofs.Common.{ℕ, replicate, ap, ◌∙◌}
use Rattle.design.specs.Limits.{max_slots}
use Rattle.design.proofs.Indexed.{sized}
use Rattle.step.proofs.Replays.{take_replicate}
use Rattle.step.proofs.calls.start_accepted.Goals as goal

pub slot_count-n-requires : goal.slot_count-n-requires
slot_count-n-requires c = (
  (sized c.args.file.now c.requires c.shape-shape.result c.shape-shape.ensures.shaped).0,
  (sized c.args.file.now c.requires c.shape-shape.result c.shape-shape.ensures.shaped).1,
)

pub start_slots-requires : goal.start_slots-requires
start_slots-requires c = (
  c.requires,
  c.shape-shape.ensures.shaped,
  take_replicate _ max_slots 0 c.slot_count-n.ensures.1 ∙ ap (λ
      (n : ℕ). replicate n 0) c.slot_count-n.ensures.0,
)
