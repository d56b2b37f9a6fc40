use Rattle.std.proofs.Common.{[], ◌∷◌, refl, arith}
use Rattle.clauses.specs.Literal.{positive}
use Rattle.clauses.specs.Words.{word_of, clause_words}
use Rattle.clauses.proofs.EmitClauses.{putting_start, putting_on, any_end, literal_puts}
use Rattle.clauses.proofs.clause.put_any.Goals as goal

pub loop-init : goal.loop-init
loop-init c = (putting_start clause_words _ _ _ _, refl)

pub loop-preserved : goal.loop-preserved
loop-preserved c = (
  putting_on clause_words _ _ _ _ c.loop-test.true c.loop.invariant.0 _ c.next-x.ensures (word_of (positive c.loop.x) ∷ []) refl (λ b h. literal_puts
      _ c.positive.ensures b c.put_literal-at.ensures),
  omega arith,
)

pub returns : goal.returns
returns c = any_end c.loop-test.false c.loop.invariant.0 c.put_end.ensures
