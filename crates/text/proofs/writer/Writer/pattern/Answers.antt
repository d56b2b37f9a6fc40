use native.Mathlib.Omega.{arith}
use Rattle.text.proofs.Putting.{written_length, pattern_plain, pattern_minus}
use Rattle.text.proofs.writer.Writer.pattern.Goals as goal

pub returns-then-p-lt32768-clause-text : goal.returns-then-p-lt32768-clause-text
returns-then-p-lt32768-clause-text c =
    pattern_plain _ c.if-p-lt32768.true c.decimal.ensures.text

pub decimal-requires-2 : goal.decimal-requires-2
decimal-requires-2 c =
    omega (arith, c.byte.ensures.text.cursor, written_length c.byte.ensures.text)

pub returns-clause-text : goal.returns-clause-text
returns-clause-text c =
    pattern_minus _ c.if-p-lt32768.false (omega arith) c.byte.ensures.text c.decimal-2.ensures.text

pub returns-clause-near : goal.returns-clause-near
returns-clause-near c =
    omega (arith, c.byte.ensures.text.cursor, c.decimal-2.ensures.near)
