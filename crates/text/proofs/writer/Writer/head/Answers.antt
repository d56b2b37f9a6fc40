use native.Mathlib.Omega.{arith}
use Rattle.text.specs.Line.{head}
use Rattle.text.proofs.Putting.{written_length, written_then}
use Rattle.text.proofs.writer.Writer.head.Goals as goal

pub byte-requires : goal.byte-requires
byte-requires c =
    omega (arith, c.decimal.ensures.near, written_length c.decimal.ensures.text)

pub mover-requires : goal.mover-requires
mover-requires c =
    omega (arith, c.decimal.ensures.near, written_length c.decimal.ensures.text, c.byte.ensures.text.cursor, written_length c.byte.ensures.text)

pub flag-requires : goal.flag-requires
flag-requires c =
    omega (arith, c.decimal.ensures.near, written_length c.decimal.ensures.text, c.byte.ensures.text.cursor, written_length c.byte.ensures.text, c.mover.ensures.near, written_length c.mover.ensures.text)

pub flag-requires-2 : goal.flag-requires-2
flag-requires-2 c =
    omega (arith, c.decimal.ensures.near, written_length c.decimal.ensures.text, c.byte.ensures.text.cursor, written_length c.byte.ensures.text, c.mover.ensures.near, written_length c.mover.ensures.text, c.flag.ensures.near, written_length c.flag.ensures.text)

pub returns-clause-text : goal.returns-clause-text
unfolding head
returns-clause-text c =
    written_then c.decimal.ensures.text (written_then c.byte.ensures.text (written_then c.mover.ensures.text (written_then c.flag.ensures.text c.flag-2.ensures.text)))

pub returns-clause-near : goal.returns-clause-near
returns-clause-near c =
    omega (arith, c.decimal.ensures.near, c.byte.ensures.text.cursor, c.mover.ensures.near, c.flag.ensures.near, c.flag-2.ensures.near)
