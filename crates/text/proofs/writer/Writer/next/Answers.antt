use mathlib.Core.Path.{refl, ◌∙◌}
use native.Mathlib.Omega.{arith}
use Rattle.text.proofs.Tracing.{printing_start, printing_on, printing_end}
use Rattle.text.proofs.writer.Writer.next.Goals as goal

pub loop-i-init : goal.loop-i-init
loop-i-init c =
    (printing_start _ _ _ _ _ _ _, refl)

pub step_pair-tested-requires : goal.step_pair-tested-requires
step_pair-tested-requires c =
    (c.loop-i.invariant.0.state ∙ c.requires.0, omega (arith, c.wide-c.ensures.0, c.requires.2 c.loop-i.i c.loop-i-test.true))

pub state-requires : goal.state-requires
state-requires c = (
  omega (arith, c.pair-1.given, c.loop-i.invariant.0.state, c.requires.0),
  omega (arith, c.loop-i.invariant.0.near, c.loop-i.invariant.0.size, c.requires.1, c.loop-i-test.true),
)

pub loop-i-preserved : goal.loop-i-preserved
loop-i-preserved c = (
  printing_on _ _ _ _ _ _ _ _ _ _ _ c.loop-i.invariant.0 c.requires.0 c.loop-i-test.true _ c.wide-c.ensures.0
      _ c.judges_steps.ensures _ _ (omega (arith, c.pair-1.given)) c.step_pair-tested.ensures _ _
      c.state.ensures.text c.state.ensures.near c.state.ensures.size,
  c.state.ensures.same ∙ c.loop-i.invariant.1,
)

pub shape_of-pair : goal.shape_of-pair
shape_of-pair c =
    c.loop-i.invariant.0.state

pub returns : goal.returns
returns c =
    record {
      same = c.loop-i.invariant.1;
      text = λ d e. printing_end _ _ _ _ _ _ _ _ _ _ _ c.loop-i.invariant.0 (omega arith) d e;
      near = omega (arith, c.loop-i.invariant.0.near, c.loop-i.invariant.0.inside);
      size = c.loop-i.invariant.0.size;
    }
