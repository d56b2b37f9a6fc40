use native.Mathlib.Omega.{arith}
use mathlib.Core.Path.{ap, ◌∙◌}
use lib.ListN.{drop}
use Rattle.design.specs.State.{slot_count}
use Rattle.design.proofs.Indexed.{sized}
use Rattle.design.proofs.Sections.{whole}
use Rattle.step.proofs.Pairs.{part_is, put_second}
use Rattle.step.proofs.Replays.{drop_replicate}
use Rattle.text.proofs.Tracing.{states_written}
use Rattle.text.proofs.writer.Writer.states.Goals as goal

pub slot_count-n-requires : goal.slot_count-n-requires
slot_count-n-requires c =
    (let s = sized _ c.args.movers.machine.indexed.accepted _ c.args.movers.machine.indexed.shaped in (s.0, s.1))

pub load_start-requires : goal.load_start-requires
load_start-requires c =
    let n = slot_count c.args.movers.machine.shape in (
      c.args.movers.machine.indexed.accepted,
      c.args.movers.machine.indexed.shaped,
      part_is _ c.args.pair.now c.requires.0 _ c.slot_count-n.ensures.0 ∙ ap (drop n) c.requires.3 ∙ drop_replicate n n 0,
    )

pub state-requires : goal.state-requires
state-requires c =
    (omega (arith, c.pair-1.given, c.requires.0), omega (arith, c.requires.1))

pub next-requires : goal.next-requires
next-requires c = (
  omega (arith, c.pair-1.given, c.requires.0),
  omega (arith, c.requires.1, c.state.ensures.near, c.state.ensures.size),
  c.requires.2,
)

pub returns-clause-text : goal.returns-clause-text
returns-clause-text c =
    λ d e. states_written d _ _ _
    (put_second _ c.args.pair.now c.requires.0 _ c.slot_count-n.ensures.0 _ ∙ c.load_start.ensures d e)
    (c.state.ensures.text d (whole _ d e).parts) (c.next.ensures.text d e)
