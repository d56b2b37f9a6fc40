use native.Mathlib.Omega.{arith}
use mathlib.Core.Path.{sym, ◌∙◌}
use lib.IntN.{pos}
use lib.ListN.{get_or}
use Rattle.text.proofs.Putting.{written_length}
use Rattle.text.proofs.Parts.{word_ends, word_goes}
use Rattle.text.proofs.writer.Writer.word.Goals as goal

pub byte-requires : goal.byte-requires
byte-requires c =
    omega (arith, c.signed.ensures.near, written_length c.signed.ensures.text)

pub returns-then-ends-clause-text : goal.returns-then-ends-clause-text
returns-then-ends-clause-text c =
    word_ends (get_or c.args.words.now c.args.i (pos 0)) (sym c.ends.ensures ∙ c.if-ends.true) c.signed.ensures.text c.byte.ensures.text

pub returns-then-ends-clause-near : goal.returns-then-ends-clause-near
returns-then-ends-clause-near c =
    omega (arith, c.signed.ensures.near, c.byte.ensures.text.cursor)

pub byte-requires-2 : goal.byte-requires-2
byte-requires-2 c =
    omega (arith, c.signed.ensures.near, written_length c.signed.ensures.text)

pub returns-clause-text : goal.returns-clause-text
returns-clause-text c =
    word_goes (get_or c.args.words.now c.args.i (pos 0)) (sym c.ends.ensures ∙ c.if-ends.false) c.signed.ensures.text c.byte-2.ensures.text

pub returns-clause-near : goal.returns-clause-near
returns-clause-near c =
    omega (arith, c.signed.ensures.near, c.byte-2.ensures.text.cursor)
