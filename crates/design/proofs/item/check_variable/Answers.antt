use borrow.Author.Tests.{le-leb, lt-leb, eq-eqb, ne_eqb}
use Rattle.design.specs.DesignFile.{variable_at}
use Rattle.design.proofs.Items.{lt_leb_of, le_leb_of}
use Rattle.design.proofs.item.check_variable.Goals as goal

pub returns-then-end-at : goal.returns-then-end-at
unfolding variable_at
returns-then-end-at c = simp (lt-leb _ _ c.if-end-at.true)

pub returns-then-k : goal.returns-then-k
unfolding variable_at
returns-then-k c = simp (le-leb _ _ c.if-end-at.false, lt-leb _ _ c.if-k.true)

pub returns-then-k-2 : goal.returns-then-k-2
unfolding variable_at
returns-then-k-2 c = simp (le-leb _ _ c.if-end-at.false, le-leb _ _ c.if-k.false, eq-eqb _ _ c.if-k-2.true)

pub returns-then-v-gt1 : goal.returns-then-v-gt1
unfolding variable_at
returns-then-v-gt1 c =
    simp (
      le-leb _ _ c.if-end-at.false,
      le-leb _ _ c.if-k.false,
      ne_eqb _ _ c.if-k-2.false,
      lt_leb_of _ _ _ c.word-v.ensures.0 c.if-v-gt1.true,
    )

pub returns-else-v-gt1 : goal.returns-else-v-gt1
unfolding variable_at
returns-else-v-gt1 c =
    simp (
      le-leb _ _ c.if-end-at.false,
      le-leb _ _ c.if-k.false,
      ne_eqb _ _ c.if-k-2.false,
      le_leb_of _ _ _ c.word-v.ensures.0 c.if-v-gt1.false,
    )
