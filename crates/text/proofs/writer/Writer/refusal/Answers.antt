use native.Mathlib.Omega.{arith}
use mathlib.Core.Path.{refl}
use Rattle.text.specs.Trace.{refusal_text}
use Rattle.text.proofs.Putting.{written_length, written_then}
use Rattle.text.proofs.Tracing.{refusal_as}
use Rattle.text.proofs.writer.Writer.refusal.Goals as goal

pub decimal-requires : goal.decimal-requires
decimal-requires c =
    omega (arith, c.bytes.ensures.text.cursor, written_length c.bytes.ensures.text)

pub bytes-requires-2 : goal.bytes-requires-2
bytes-requires-2 c =
    omega (arith, c.bytes.ensures.text.cursor, written_length c.bytes.ensures.text, c.decimal.ensures.near, written_length c.decimal.ensures.text)

pub decimal-requires-2 : goal.decimal-requires-2
decimal-requires-2 c =
    omega (arith, c.bytes.ensures.text.cursor, written_length c.bytes.ensures.text, c.decimal.ensures.near, written_length c.decimal.ensures.text, c.bytes-2.ensures.text.cursor, written_length c.bytes-2.ensures.text)

pub byte-requires : goal.byte-requires
byte-requires c =
    omega (arith, c.bytes.ensures.text.cursor, written_length c.bytes.ensures.text, c.decimal.ensures.near, written_length c.decimal.ensures.text, c.bytes-2.ensures.text.cursor, written_length c.bytes-2.ensures.text, c.decimal-2.ensures.near, written_length c.decimal-2.ensures.text)

pub returns-clause-text : goal.returns-clause-text
unfolding refusal_text
returns-clause-text c =
    refusal_as _ _ _ _ c.wide.ensures.0 refl (written_then c.bytes.ensures.text (written_then c.decimal.ensures.text
    (written_then c.bytes-2.ensures.text (written_then c.decimal-2.ensures.text c.byte.ensures.text))))

pub returns-clause-near : goal.returns-clause-near
returns-clause-near c =
    omega (arith, c.bytes.ensures.text.cursor, c.decimal.ensures.near, c.bytes-2.ensures.text.cursor, c.decimal-2.ensures.near, c.byte.ensures.text.cursor)
