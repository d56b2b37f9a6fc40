use native.Mathlib.Omega.{arith}
use Rattle.text.specs.Line.{tail}
use Rattle.text.proofs.Putting.{written_length, written_then}
use Rattle.text.proofs.writer.Writer.tail.Goals as goal

pub byte-requires : goal.byte-requires
byte-requires c =
    omega (arith, c.values.ensures.near, written_length c.values.ensures.text)

pub byte-requires-2 : goal.byte-requires-2
byte-requires-2 c =
    omega (arith, c.values.ensures.near, written_length c.values.ensures.text, c.byte.ensures.text.cursor, written_length c.byte.ensures.text)

pub statuses-requires : goal.statuses-requires
statuses-requires c =
    (c.requires.1, omega (arith, c.values.ensures.near, written_length c.values.ensures.text, c.byte.ensures.text.cursor, written_length c.byte.ensures.text, c.byte-2.ensures.text.cursor, written_length c.byte-2.ensures.text))

pub byte-requires-3 : goal.byte-requires-3
byte-requires-3 c =
    omega (arith, c.values.ensures.near, written_length c.values.ensures.text, c.byte.ensures.text.cursor, written_length c.byte.ensures.text, c.byte-2.ensures.text.cursor, written_length c.byte-2.ensures.text, c.statuses.ensures.near, written_length c.statuses.ensures.text)

pub returns-clause-text : goal.returns-clause-text
unfolding tail
returns-clause-text c =
    written_then c.values.ensures.text (written_then c.byte.ensures.text (written_then c.byte-2.ensures.text (written_then c.statuses.ensures.text c.byte-3.ensures.text)))

pub returns-clause-near : goal.returns-clause-near
returns-clause-near c =
    omega (arith, c.values.ensures.near, c.byte.ensures.text.cursor, c.byte-2.ensures.text.cursor, c.statuses.ensures.near, c.byte-3.ensures.text.cursor)
