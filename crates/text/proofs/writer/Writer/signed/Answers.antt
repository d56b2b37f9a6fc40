use mathlib.Core.Path.{sym, ◌∙◌}
use native.Mathlib.Omega.{arith}
use lib.IntN.{pos}
use lib.ListN.{get_or}
use Rattle.text.proofs.Putting.{written_length, signed_plain, signed_minus}
use Rattle.text.proofs.writer.Writer.signed.Goals as goal

pub returns-then-sign-eq1-clause-text : goal.returns-then-sign-eq1-clause-text
returns-then-sign-eq1-clause-text c =
    signed_plain (get_or c.args.words.now c.args.i (pos 0)) c.variable-n.result c.variable-n.ensures (sym c.sign.ensures ∙ c.if-sign-eq1.true) c.decimal.ensures.text

pub decimal-requires-2 : goal.decimal-requires-2
decimal-requires-2 c =
    omega (arith, c.byte.ensures.text.cursor, written_length c.byte.ensures.text)

pub returns-clause-text : goal.returns-clause-text
returns-clause-text c =
    signed_minus (get_or c.args.words.now c.args.i (pos 0)) c.variable-n.result c.variable-n.ensures (λ e. c.if-sign-eq1.false (c.sign.ensures ∙ e)) c.byte.ensures.text c.decimal-2.ensures.text

pub returns-clause-near : goal.returns-clause-near
returns-clause-near c =
    omega (arith, c.byte.ensures.text.cursor, c.decimal-2.ensures.near)
