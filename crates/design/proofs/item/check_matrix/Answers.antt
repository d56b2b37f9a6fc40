use borrow.Author.Tests.{le-leb, lt-leb}
use Rattle.design.specs.DesignFile.{matrix_at}
use Rattle.design.proofs.item.check_matrix.Goals as goal

pub returns-then-end-at : goal.returns-then-end-at
unfolding matrix_at
returns-then-end-at c = simp (lt-leb _ _ c.if-end-at.true)

pub returns-then-s-lt1 : goal.returns-then-s-lt1
unfolding matrix_at
returns-then-s-lt1 c = simp (le-leb _ _ c.if-end-at.false, lt-leb _ _ c.if-s-lt1.true)

pub returns-then-s-gt-MAX_STATUSES : goal.returns-then-s-gt-MAX_STATUSES
unfolding matrix_at
returns-then-s-gt-MAX_STATUSES c = simp (le-leb _ _ c.if-end-at.false, le-leb _ _ c.if-s-lt1.false, lt-leb _ _ c.if-s-gt-MAX_STATUSES.true)

pub returns-then-e-lt1 : goal.returns-then-e-lt1
unfolding matrix_at
returns-then-e-lt1 c =
    simp (
      le-leb _ _ c.if-end-at.false,
      le-leb _ _ c.if-s-lt1.false,
      le-leb _ _ c.if-s-gt-MAX_STATUSES.false,
      lt-leb _ _ c.if-e-lt1.true,
    )

pub returns-then-e-gt-MAX_EVENTS : goal.returns-then-e-gt-MAX_EVENTS
unfolding matrix_at
returns-then-e-gt-MAX_EVENTS c =
    simp (
      le-leb _ _ c.if-end-at.false,
      le-leb _ _ c.if-s-lt1.false,
      le-leb _ _ c.if-s-gt-MAX_STATUSES.false,
      le-leb _ _ c.if-e-lt1.false,
      lt-leb _ _ c.if-e-gt-MAX_EVENTS.true,
    )

pub returns : goal.returns
unfolding matrix_at
returns c =
    simp (
      le-leb _ _ c.if-end-at.false,
      le-leb _ _ c.if-s-lt1.false,
      le-leb _ _ c.if-s-gt-MAX_STATUSES.false,
      le-leb _ _ c.if-e-lt1.false,
      le-leb _ _ c.if-e-gt-MAX_EVENTS.false,
    )
