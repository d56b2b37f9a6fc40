use native.Mathlib.Omega.{arith}
use mathlib.Core.Path.{sym, ap, ap₂, ◌∙◌}
use Prim.Native.Nat.{ℕ, ◌+◌}
use lib.ListN.{replicate}
use lib.Seq.{length-take-le}
use Rattle.design.specs.Limits.{pair_slots}
use Rattle.design.proofs.Indexed.{sized}
use Rattle.step.proofs.Choices.{movers_here}
use Rattle.step.proofs.Replays.{take_replicate}
use Rattle.text.proofs.Tracing.{choices_below}
use Rattle.text.proofs.writer.Writer.run.Goals as goal

pub slot_count-n-requires : goal.slot_count-n-requires
slot_count-n-requires c =
    (let s = sized _ c.requires.0.design _ c.shape-shape.ensures.shaped in (s.0, s.1))

pub slice_bounds-states-end : goal.slice_bounds-states-end
slice_bounds-states-end c = sym (length-take-le _ _ (omega (arith, c.slot_count-n.ensures.1)))

pub states-requires : goal.states-requires
states-requires c =
    let few = c.slot_count-n.ensures.1 in
    let twice = ap₂ (λ (x y : ℕ). x + y) c.slot_count-n.ensures.0 c.slot_count-n.ensures.0 in
    let movers = movers_here _ _ _ _ c.shape-shape.ensures c.index_cells-normals.ensures in (
      length-take-le _ _ (omega arith) ∙ twice,
      c.requires.1,
      choices_below _ _ c.requires.0 _ _ c.shape-shape.ensures.shaped movers,
      take_replicate (c.slot_count-n.result + c.slot_count-n.result) pair_slots 0 (omega arith) ∙ ap (λ (n : ℕ). replicate n 0) twice,
    )
