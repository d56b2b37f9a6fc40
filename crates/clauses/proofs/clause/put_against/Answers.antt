use Rattle.std.proofs.Common.{[], ◌∷◌, refl, ap, ◌∙◌, ap₂, arith}
use Rattle.clauses.specs.Literal.{Literal, positive, negate}
use Rattle.clauses.specs.Words.{clause_words, words}
use Rattle.clauses.specs.Circuit.{Bits}
use Rattle.clauses.specs.Formula.{against}
use Rattle.clauses.proofs.EmitClauses.{putting_start, putting_on, putting_end, clause_puts}
use Rattle.clauses.proofs.clause.put_against.Goals as goal

pub loop-init : goal.loop-init
loop-init c = ((λ g. putting_start (λ (bs : Bits). words (against (positive c.args.f) bs)) _ _ _ _), refl)

pub loop-preserved : goal.loop-preserved
loop-preserved c = (
  (λ g. putting_on (λ (bs : Bits). words (against (positive c.args.f) bs)) _ _ _ _ c.loop-test.true (c.loop.invariant.0 g) _ c.next-x.ensures (clause_words (negate (positive c.args.f) ∷ negate (positive c.loop.x) ∷ [])) refl (λ b
      h. clause_puts _ _ (ap₂ (λ (p q : Literal). p ∷ q ∷ []) (c.negate-nf.ensures ∙
      ap negate (c.positive.ensures (omega arith))) (c.negate.ensures ∙ ap negate (c.positive-in-loop.ensures b))) c.clause2-at.ensures)),
  omega arith,
)

pub returns : goal.returns
returns c =
    λ g h. putting_end (λ (bs : Bits). words (against (positive c.args.f) bs)) _ _ _ _ refl c.loop-test.false (c.loop.invariant.0 g) h
