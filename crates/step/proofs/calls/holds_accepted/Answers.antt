use Rattle.std.proofs.Common.{sym, ltb-true, ltb-false}
use Rattle.step.proofs.States.{holds_11, holds_13, holds_done}
use Rattle.step.proofs.calls.holds_accepted.Goals as goal

pub returns-in-Some : goal.returns-in-Some
returns-in-Some c =
    holds_11 c.args.file.now c.args.values c.args.statuses c.args.mark c.args.property c.requires _ c.patterns.ensures _ c.in-Some.ensures

pub returns-then-judges_steps : goal.returns-then-judges_steps
returns-then-judges_steps c =
    holds_13 c.args.file.now c.args.values c.args.statuses c.args.mark c.args.property c.requires _ c.patterns.ensures c.in_default.ensures (ltb-true _ _ (sym c.if-judges_steps.ensures))

pub returns : goal.returns
returns c =
    holds_done c.args.file.now c.args.values c.args.statuses c.args.mark c.args.property c.requires _ c.patterns.ensures c.in_default.ensures
    (ltb-false _ _ (sym c.if-judges_steps.ensures)) _ c.shape-shape.ensures.shaped _ c.holds_right.ensures
