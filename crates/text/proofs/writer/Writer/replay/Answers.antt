use native.Mathlib.Omega.{arith}
use Prim.Native.Nat.{◌+◌}
use Rattle.text.proofs.Tracing.{text_short, text_whole}
use Rattle.text.proofs.writer.Writer.replay.Goals as goal

pub returns-then-input-lt2-clause-text : goal.returns-then-input-lt2-clause-text
returns-then-input-lt2-clause-text c =
    text_short _ (omega arith) c.refused.ensures.text

pub returns-then-input-start-clause-text : goal.returns-then-input-start-clause-text
returns-then-input-start-clause-text c =
    text_short _ (omega (arith, c.if-input-start.true, c.wide-start.ensures.0)) c.refused-then-input-start.ensures.text

pub returns-clause-text : goal.returns-clause-text
returns-clause-text c =
    text_whole c.args.input.now (2 + c.wide-start.result) c.design_end-end.result (omega (arith, c.wide-start.ensures.0))
    (omega (arith, c.if-input-start.false)) c.design_end-end.ensures.2 c.trace.ensures.text
