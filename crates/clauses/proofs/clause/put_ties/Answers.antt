use Rattle.std.proofs.Common.{refl, ap, ◌∙◌, arith}
use Rattle.clauses.specs.Literal.{negate}
use Rattle.clauses.proofs.EmitClauses.{tying_start, tying_on, tying_end}
use Rattle.clauses.proofs.clause.put_ties.Goals as goal

pub loop-init : goal.loop-init
loop-init c = ((λ g. tying_start _ _ _ _ _ _), refl)

pub loop-preserved : goal.loop-preserved
loop-preserved c = (
  (λ g. tying_on _ _ _ _ _ _ c.loop-test.true (c.loop.invariant.0 g) _ _ _ _ _ _ _ (c.negate-nf.ensures ∙ ap negate
      (c.positive.ensures
      (omega arith))) c.positive-p.ensures c.negate.ensures c.positive-q.ensures c.negate-in-loop.ensures c.next-x.ensures c.next-y.ensures c.clause3-s.ensures c.clause3-at.ensures),
  omega arith,
)

pub returns : goal.returns
returns c = λ g h k. tying_end _ _ _ _ _ _ c.loop-test.false (c.loop.invariant.0 g) h k
