use native.Mathlib.Omega.{arith}
use Rattle.search.proofs.Rounds.{starts_first, settling_start, settling_quiet, settling_conflict, unit_low, unit_high, settling_less, settling_next}
use Rattle.search.proofs.refute.reaches.Goals as goal

pub loop-var-init : goal.loop-var-init
loop-var-init c = (settling_start, starts_first c.requires)

pub returns-in-Nothing : goal.returns-in-Nothing
returns-in-Nothing c =
    settling_quiet c.requires c.loop-var.invariant.0 c.scan_round.result c.scan_round.ensures c.in-Nothing.is

pub returns-in-Conflict : goal.returns-in-Conflict
returns-in-Conflict c =
    settling_conflict c.requires c.loop-var.invariant.0 c.scan_round.result c.scan_round.ensures c.in-Conflict.is

pub overflow_sub-values : goal.overflow_sub-values
overflow_sub-values c =
    omega (
      arith,
      unit_low c.requires c.loop-var.invariant.0
          c.scan_round.result c.scan_round.ensures c.in-Unit.is,
    )

pub bounds-values-var : goal.bounds-values-var
bounds-values-var c =
    omega (
      arith,
      unit_low c.requires c.loop-var.invariant.0 c.scan_round.result c.scan_round.ensures c.in-Unit.is,
      unit_high c.requires c.loop-var.invariant.0 c.scan_round.result c.scan_round.ensures c.in-Unit.is,
    )

pub loop-var-smaller : goal.loop-var-smaller
loop-var-smaller c =
    settling_less c.requires c.loop-var.invariant.0
    c.scan_round.result c.scan_round.ensures c.in-Unit.is

pub loop-var-preserved : goal.loop-var-preserved
loop-var-preserved c =
    settling_next c.requires c.loop-var.invariant.0
    c.scan_round.result c.scan_round.ensures c.in-Unit.is
