use Rattle.std.proofs.Common.{ℕ, ◌+◌, ap, ◌∙◌, arith}
use Rattle.step.proofs.Counts.{bit_most, bit_from}
use Rattle.step.proofs.Replays.{replaying_few, replaying_last, replaying_on, replaying_end}
use Rattle.step.proofs.machine.Movers.replay_choices.Goals as goal

pub overflow_add-read : goal.overflow_add-read
overflow_add-read c =
    let few = replaying_few _ _ _ _ _ _ _ _ _ _ _ c.loop-i.invariant c.args.self.machine.indexed.accepted in
    omega (arith, few.0, c.requires.few, c.from-read.ensures ∙ bit_from _, bit_most c.step_pair-tested.result.event)

pub overflow_add-guards : goal.overflow_add-guards
overflow_add-guards c =
    let few = replaying_few _ _ _ _ _ _ _ _ _ _ _ c.loop-i.invariant c.args.self.machine.indexed.accepted in
    omega (arith, few.1, c.requires.few, c.from-guards.ensures ∙ bit_from _, bit_most c.step_pair-tested.result.guard)

pub loop-i-preserved : goal.loop-i-preserved
loop-i-preserved c =
    replaying_on _ _ _ _ _ _ _ _ _ _ _ c.loop-i.invariant _ c.broken_by-broken.ensures c.loop-i-test.true
    c.requires.size _ c.wide.ensures.0 _ c.judges_steps.ensures _ _ (omega arith) c.step_pair-tested.ensures _ _
    (ap (λ (k : ℕ). c.loop-i.read + k) (c.from-read.ensures ∙ bit_from _)) (ap (λ (k : ℕ). c.loop-i.guards + k) (c.from-guards.ensures ∙ bit_from _))

pub returns : goal.returns
returns c =
    replaying_end _ _ _ _ _ _ _ _ _ _ _ (replaying_last _ _ _ _ _ _ _ _ _ _ _ c.loop-i.invariant c.loop-i-test.false) _ c.broken_by-broken-2.ensures (omega arith)
