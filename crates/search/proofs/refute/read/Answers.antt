use mathlib.Core.Path.{◌∙◌}
use Rattle.search.proofs.Prefixes.{clause_at}
use Rattle.search.proofs.Refuting.{judging_stops, judging_next}
use Rattle.search.proofs.refute.read.Goals as goal

pub returns-then-not-follows : goal.returns-then-not-follows
returns-then-not-follows c =
    judging_stops c.loop-at.invariant.1 c.loop-at-test.true c.loop-at.invariant.0 c.follows.ensures c.if-not-follows.true

pub after_clause-at-requires : goal.after_clause-at-requires
after_clause-at-requires c =
    (clause_at c.args.refutation.now c.loop-at.at c.loop-at.invariant.1.read c.loop-at-test.true).ends

pub loop-at-preserved : goal.loop-at-preserved
loop-at-preserved c = (
  c.follows.auto.values ∙ c.loop-at.invariant.0,
  judging_next c.loop-at.invariant.1 c.loop-at-test.true c.loop-at.invariant.0 c.follows.ensures c.if-not-follows.false c.ends.ensures c.if-ends.false c.after_clause-at.result c.after_clause-at.ensures,
)
