use native.Mathlib.Omega.{arith}
use Rattle.text.proofs.Tracing.{replayable, trace_refused, trace_done}
use Rattle.text.proofs.writer.Writer.trace.Goals as goal

pub returns-in-Err-clause-text : goal.returns-in-Err-clause-text
returns-in-Err-clause-text c =
    trace_refused _ _ _ _ _ c.in-Err.ensures c.refused.ensures.text

pub run-requires : goal.run-requires
run-requires c =
    let z = replayable _ _ _ _ c.in-Ok.ensures in (z, omega (arith, z.few))

pub result-requires : goal.result-requires
result-requires c =
    omega (arith, c.run.ensures.near, c.run.ensures.size, (replayable _ _ _ _ c.in-Ok.ensures).few)

pub returns-in-Ok-clause-text : goal.returns-in-Ok-clause-text
returns-in-Ok-clause-text c =
    trace_done _ _ _ _ c.in-Ok.ensures c.run.ensures.text c.result.ensures.text

pub returns-in-Ok-clause-near : goal.returns-in-Ok-clause-near
returns-in-Ok-clause-near c =
    omega (arith, c.run.ensures.near, c.result.ensures.near, (replayable _ _ _ _ c.in-Ok.ensures).few)
