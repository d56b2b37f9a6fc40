use Rattle.search.proofs.Running.{searching_start, again_goes, latest_try, again_tries, ends_spent, ends_sat, ends_unsat}
use Rattle.search.proofs.run.run.Goals as goal

pub loop-set-init : goal.loop-set-init
loop-set-init c =
    searching_start _ _ _ _ c.requires.0 c.requires.1

pub loop-set-smaller-in-Goes : goal.loop-set-smaller-in-Goes
loop-set-smaller-in-Goes c =
    (again_goes c.loop-set.invariant c.turn.result c.turn.new.values c.turn.new.trail c.turn.ensures c.in-Goes.is).less

pub loop-set-preserved-in-Goes : goal.loop-set-preserved-in-Goes
loop-set-preserved-in-Goes c =
    (again_goes c.loop-set.invariant c.turn.result c.turn.new.values c.turn.new.trail c.turn.ensures c.in-Goes.is).searching

pub returns-then-tries-budget : goal.returns-then-tries-budget
returns-then-tries-budget c =
    ends_spent c.loop-set.invariant c.turn.result c.turn.new.values c.turn.new.trail c.turn.ensures c.in-Tries.is c.if-tries-budget.true

pub latest-low-requires : goal.latest-low-requires
latest-low-requires c =
    let l = latest_try c.loop-set.invariant c.turn.result c.turn.new.values c.turn.new.trail c.turn.ensures c.in-Tries.is in
    (l.some, l.room)

pub loop-set-smaller : goal.loop-set-smaller
loop-set-smaller c =
    (again_tries c.loop-set.invariant c.turn.result c.turn.new.values c.turn.new.trail c.turn.ensures c.in-Tries.is c.latest-low.ensures c.if-tries-budget.false).less

pub loop-set-preserved : goal.loop-set-preserved
loop-set-preserved c =
    (again_tries c.loop-set.invariant c.turn.result c.turn.new.values c.turn.new.trail c.turn.ensures c.in-Tries.is c.latest-low.ensures c.if-tries-budget.false).searching

pub returns-in-Sat : goal.returns-in-Sat
returns-in-Sat c =
    ends_sat c.loop-set.invariant c.turn.result c.turn.new.values c.turn.new.trail c.turn.ensures c.in-Sat.is

pub returns-in-Unsat : goal.returns-in-Unsat
returns-in-Unsat c =
    ends_unsat c.loop-set.invariant c.turn.result c.turn.new.values c.turn.new.trail c.turn.ensures c.in-Unsat.is
