use Rattle.std.proofs.Common.{arith}
use Rattle.design.proofs.Places.{read}
use Rattle.step.proofs.Entries.{statuses_wrong, statuses_right_lem, statuses_end, matrices_inside}
use Rattle.step.proofs.interface.wrong_status.Goals as goal

pub trailer_word-mats-requires : goal.trailer_word-mats-requires
trailer_word-mats-requires c = omega (arith, (read _ c.requires.0).all.long)

pub status_right-requires : goal.status_right-requires
status_right-requires c = (
  omega (arith, matrices_inside _ c.requires.0, c.loop-m.invariant.0, c.requires.1, (read _ c.requires.0).all.long),
  omega (
    arith,
    c.requires.1,
    (read _ c.requires.0).all.matrices,
  ),
)

pub returns-then-not-status_right : goal.returns-then-not-status_right
returns-then-not-status_right c =
    statuses_wrong _ _ _ c.loop-m.invariant.0 c.requires.1 c.args.ss (omega arith) _ c.loop-m.invariant.1 c.loop-m-test.true _ c.status_right.ensures c.if-not-status_right.true

pub loop-m-preserved : goal.loop-m-preserved
loop-m-preserved c = (
  c.loop-m.invariant.0,
  statuses_right_lem _ _ _ c.loop-m.invariant.0 c.requires.1 c.args.ss (omega arith) _ c.loop-m.invariant.1 c.loop-m-test.true _ c.status_right.ensures c.if-not-status_right.false,
)

pub returns : goal.returns
returns c =
    statuses_end _ _ _ c.loop-m.invariant.0 c.requires.1 c.args.ss (omega arith) _ c.loop-m-test.false c.loop-m.invariant.1
