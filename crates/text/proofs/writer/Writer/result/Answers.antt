use native.Mathlib.Omega.{arith}
use Rattle.text.specs.Trace.{result_text}
use Rattle.text.proofs.Putting.{written_length, written_then}
use Rattle.text.proofs.writer.Writer.result.Goals as goal

pub decimal-requires : goal.decimal-requires
decimal-requires c =
    omega (arith, c.bytes.ensures.text.cursor, written_length c.bytes.ensures.text)

pub byte-requires : goal.byte-requires
byte-requires c =
    omega (arith, c.bytes.ensures.text.cursor, written_length c.bytes.ensures.text, c.decimal.ensures.near, written_length c.decimal.ensures.text)

pub returns-in-Some-clause-text : goal.returns-in-Some-clause-text
unfolding result_text
returns-in-Some-clause-text c =
    rw c.in-Some.is (written_then c.bytes.ensures.text (written_then c.decimal.ensures.text c.byte.ensures.text))

pub returns-in-Some-clause-near : goal.returns-in-Some-clause-near
returns-in-Some-clause-near c =
    omega (arith, c.bytes.ensures.text.cursor, c.decimal.ensures.near, c.byte.ensures.text.cursor)

pub returns-clause-text : goal.returns-clause-text
unfolding result_text
returns-clause-text c =
    rw c.in_default.is c.bytes-2.ensures.text

pub returns-clause-near : goal.returns-clause-near
returns-clause-near c =
    omega (arith, c.bytes-2.ensures.text.cursor)
