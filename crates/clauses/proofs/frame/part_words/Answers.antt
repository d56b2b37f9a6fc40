use Rattle.std.proofs.Common.{refl, arith}
use Rattle.clauses.proofs.FrameNumbers.{part_first, part_last, part_end, part_step}
use Rattle.clauses.proofs.frame.part_words.Goals as goal

pub returns-then-i-eq0 : goal.returns-then-i-eq0
returns-then-i-eq0 c = part_first _ _ _ c.if-i-eq0.true

pub returns-then-k-i : goal.returns-then-k-i
returns-then-k-i c = part_last _ _ _ c.if-k-i.true

pub returns-then-k-i-2 : goal.returns-then-k-i-2
returns-then-k-i-2 c = part_end _ _ _ _ c.if-k-i-2.true refl

pub returns : goal.returns
returns c =
    part_step _ _ _ _ c.if-i-eq0.false c.if-k-i.false c.if-k-i-2.false (omega (
      arith,
      c.step_words.ensures.0,
    ))
