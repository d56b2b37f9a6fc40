use Rattle.std.proofs.Common.{refl, arith}
use Rattle.clauses.proofs.FrameNumbers.{start_low}
use Rattle.clauses.proofs.EmitParts.{closing_start, closing_on, closing_end}
use Rattle.clauses.proofs.tables.Tables.put_last.Goals as goal

pub loop-init : goal.loop-init
loop-init c = (closing_start _ _ _ _ _ _ _, refl)

pub property_literal-l-requires : goal.property_literal-l-requires
property_literal-l-requires c =
    let small = c.requires.1 in (
      c.requires.0,
      start_low small _ _ _ (omega (arith, small.sizes.last, c.loop-test.true)) c.frame_length-stride.ensures.0 c.loop.invariant.0.start,
      omega (arith, c.frame_length-stride.ensures.1),
    )

pub loop-preserved : goal.loop-preserved
loop-preserved c = (
  closing_on c.args.self.file.now _ _ _ _ _ _
      c.loop-test.true c.loop.invariant.0 _ _ _ refl c.property_literal-l.ensures c.negate.ensures c.put_literal-at.ensures,
  omega
      arith,
)

pub returns : goal.returns
returns c =
    closing_end _ _ _ _ _ _ _ c.loop-test.false c.loop.invariant.0 c.put_end.ensures
    c.args.self.bytes c.requires.1 c.frame_length-stride.ensures.0 refl
